-- What makes bytes a sheet, rule by rule, whatever the order in which the rules are checked.
use Rattle.std.specs.Prelude.{◌≡◌, ℕ, ◌+◌, ◌*◌, ◌<◌, ◌≤◌, List, length}
use Rattle.model.specs.Kinds.{kind_number}
use Rattle.model.specs.declared.kind.Kind.{Kind}
use Rattle.formats.specs.Moves.{move_layout}
use Rattle.formats.specs.Sheets.{kind_in, moves_in, move_bytes}
use Rattle.formats.specs.declared.moves.Move.{Move}

abbrev pub NamesKind : List ℕ → Type 0
NamesKind bs = (kind : Kind) × (kind_in bs ≡ kind_number kind)

abbrev pub MovesAreWhole : List ℕ → Type 0
MovesAreWhole bs = (2 ≤ length bs) × (2 + 3 * moves_in bs ≤ length bs)

abbrev pub IsMove : List ℕ → ℕ → Type 0
IsMove bs i = (m : Move) × (move_bytes bs i ≡ move_layout m)

pub record SheetRules (bs : List ℕ) : Type 0 where
  pub kind : NamesKind bs
  pub whole : MovesAreWhole bs
  pub moves : (i : ℕ) → i < moves_in bs → IsMove bs i
