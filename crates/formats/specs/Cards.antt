-- Cards: where the parts of one lie, and the first rule that bytes break.
use Rattle.std.specs.Prelude.{ℕ, ◌+◌, ◌*◌, Bool, false, ◌&&◌, List, length, Some, None, Option, nat_le, slice_index}
use Rattle.std.specs.List.{between}
use Rattle.model.specs.Faults.{refused}
use Rattle.model.specs.declared.fault.Fault.{Fault}
use Rattle.model.specs.declared.fault.Layer.TheVariants.{Card}
use Rattle.model.specs.declared.fault.Refusal.{Refusal}
use Rattle.model.specs.declared.fault.Refusal.TheVariants.{Cut, Count, Malformed}
use Rattle.formats.specs.Checks.{check, first, first_of}
use Rattle.isa.specs.Instrs.{decoded}
use Rattle.isa.specs.declared.instr.Instr.{Instr}
use Rattle.isa.specs.declared.instr.Instr.TheVariants.{Set, Add, Sub, Branch, Load, Store, Commit, Reconcile}

abbrev pub processors_in : List ℕ → ℕ
processors_in bs = slice_index bs 0

abbrev pub addresses_in : List ℕ → ℕ
addresses_in bs = slice_index bs 1

abbrev pub header_length : List ℕ → ℕ
header_length bs = 2 + 2 * processors_in bs

-- how many instructions the thread of processor p has
abbrev pub count_at : List ℕ → ℕ → ℕ
count_at bs p = slice_index bs (2 + 2 * p)

-- the byte at which that thread begins
abbrev pub offset_at : List ℕ → ℕ → ℕ
offset_at bs p = slice_index bs (3 + 2 * p)

-- the first byte of its instruction i
abbrev pub instr_byte : List ℕ → ℕ → ℕ → ℕ
instr_byte bs p i = offset_at bs p + 4 * i

abbrev pub instr_bytes : List ℕ → ℕ → ℕ → List ℕ
instr_bytes bs p i = between (instr_byte bs p i) (instr_byte bs p i + 4) bs

-- the furthest place in its thread that control goes to from an instruction at index i
abbrev pub furthest : ℕ → Instr → ℕ
furthest i (Branch register skip) = i + 1 + skip
furthest i (Set target value) = i + 1
furthest i (Add target left right) = i + 1
furthest i (Sub target left right) = i + 1
furthest i (Load target base displacement) = i + 1
furthest i (Store source base displacement) = i + 1
furthest i Commit = i + 1
furthest i Reconcile = i + 1

-- an instruction, from which control goes at most to the end of its thread of n
abbrev pub fits_thread : ℕ → ℕ → Option Instr → Bool
fits_thread n i None = false
fits_thread n i (Some instr) = nat_le (furthest i instr) n

abbrev pub card_refusal : Refusal → ℕ → Fault
card_refusal = refused Card

abbrev within : ℕ → ℕ → ℕ → Bool
within low high n = nat_le low n && nat_le n high

-- the counts of processors and addresses, and room for the header
abbrev pub header_fault : List ℕ → Option Fault
header_fault bs =
    check (nat_le 2 (length bs)) (card_refusal Cut (length bs))
    (check (within 1 4 (processors_in bs)) (card_refusal Count 0)
    (check (within 1 8 (addresses_in bs)) (card_refusal Count 1)
    (check (nat_le (header_length bs) (length bs)) (card_refusal Cut (length bs))
    None)))

-- the count of instructions of a thread, and room for it behind the header
abbrev pub thread_fault : List ℕ → ℕ → Option Fault
thread_fault bs p =
    check (nat_le (count_at bs p) 16) (card_refusal Count (2 + 2 * p))
    (check (nat_le (header_length bs) (offset_at bs p)) (card_refusal Cut (length bs))
    (check (nat_le (offset_at bs p + 4 * count_at bs p) (length bs)) (card_refusal Cut (length bs))
    None))

abbrev pub instr_fault : List ℕ → ℕ → ℕ → Option Fault
instr_fault bs p i =
    check (fits_thread (count_at bs p) i (decoded (instr_bytes bs p i))) (card_refusal Malformed (instr_byte bs p i)) None

abbrev pub instrs_fault : List ℕ → ℕ → Option Fault
instrs_fault bs p = first_of (instr_fault bs p) 0 (count_at bs p)

-- the first rule that bytes break: the header, then each thread's count and offset, then each instruction
abbrev pub card_fault : List ℕ → Option Fault
card_fault bs =
    first (header_fault bs)
    (first (first_of (thread_fault bs) 0 (processors_in bs))
    (first_of (instrs_fault bs) 0 (processors_in bs)))
