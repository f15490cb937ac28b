-- Moves: the three bytes that stand for one, and its text.
use Rattle.std.specs.Prelude.{◌≡◌, ℕ, cond, List, [], ◌∷◌, length, Some, None, codes, decimal, Option, ◌==◌, slice_index}
use Rattle.model.specs.Text.{text}
use Rattle.formats.specs.declared.moves.Move.{Move}
use Rattle.formats.specs.declared.moves.Move.TheVariants.{Step, OldLoad, Landing}

-- how a move is written: its number, a processor, and a serial or an address
abbrev pub move_layout : Move → List ℕ
move_layout (Step p) = 0 ∷ p ∷ 0 ∷ []
move_layout (OldLoad p serial) = 1 ∷ p ∷ serial ∷ []
move_layout (Landing p address) = 2 ∷ p ∷ address ∷ []

-- an answer that is a move exactly where the bytes are its own
abbrev pub DecodesMove : List ℕ → Option Move → Type 0
DecodesMove bs r = (m : Move) → (r ≡ Some m → bs ≡ move_layout m) × (bs ≡ move_layout m → r ≡ Some m)

abbrev pub move_of : ℕ → ℕ → ℕ → Option Move
move_of number p operand =
    cond (number == 0) (cond (operand == 0) (Some (Step p)) None)
    (cond (number == 1) (Some (OldLoad p operand))
    (cond (number == 2) (Some (Landing p operand))
    None))

-- the move that bytes stand for, if they stand for one
abbrev pub move_decoded : List ℕ → Option Move
move_decoded bs = cond (length bs == 3) (move_of (slice_index bs 0) (slice_index bs 1) (slice_index bs 2)) None

abbrev pub move_text : Move → List ℕ
move_text (Step p) = text (codes "step " ∷ decimal p ∷ [])
move_text (OldLoad p serial) = text (codes "old load " ∷ decimal p ∷ codes " serial " ∷ decimal serial ∷ [])
move_text (Landing p address) = text (codes "landing " ∷ decimal p ∷ codes " address " ∷ decimal address ∷ [])
