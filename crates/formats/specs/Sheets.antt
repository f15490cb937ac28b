-- Sheets: where the parts of one lie, and the first rule that bytes break.
use Rattle.std.specs.Prelude.{ℕ, ◌+◌, ◌*◌, List, length, is_some, None, Option, nat_le, slice_index}
use Rattle.std.specs.List.{between}
use Rattle.model.specs.Kinds.{kind_numbered}
use Rattle.model.specs.Faults.{refused}
use Rattle.model.specs.declared.fault.Fault.{Fault}
use Rattle.model.specs.declared.fault.Layer.TheVariants.{Sheet}
use Rattle.model.specs.declared.fault.Refusal.{Refusal}
use Rattle.model.specs.declared.fault.Refusal.TheVariants.{Cut, Count, Malformed}
use Rattle.formats.specs.Checks.{check, first, first_of}
use Rattle.formats.specs.Moves.{move_decoded}

-- the number of the kind of machine
abbrev pub kind_in : List ℕ → ℕ
kind_in bs = slice_index bs 0

-- how many moves there are
abbrev pub moves_in : List ℕ → ℕ
moves_in bs = slice_index bs 1

-- the first byte of move i
abbrev pub move_byte : ℕ → ℕ
move_byte i = 2 + 3 * i

abbrev pub move_bytes : List ℕ → ℕ → List ℕ
move_bytes bs i = between (move_byte i) (move_byte i + 3) bs

abbrev pub sheet_refusal : Refusal → ℕ → Fault
sheet_refusal = refused Sheet

-- the kind, and room for the moves
abbrev pub start_fault : List ℕ → Option Fault
start_fault bs =
    check (nat_le 2 (length bs)) (sheet_refusal Cut (length bs))
    (check (is_some (kind_numbered (kind_in bs))) (sheet_refusal Count 0)
    (check (nat_le (2 + 3 * moves_in bs) (length bs)) (sheet_refusal Cut (length bs))
    None))

abbrev pub move_fault : List ℕ → ℕ → Option Fault
move_fault bs i = check (is_some (move_decoded (move_bytes bs i))) (sheet_refusal Malformed (move_byte i)) None

-- the first rule that bytes break: the kind and the count, then each move
abbrev pub sheet_fault : List ℕ → Option Fault
sheet_fault bs = first (start_fault bs) (first_of (move_fault bs) 0 (moves_in bs))
