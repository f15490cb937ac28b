-- Instructions: the four bytes that stand for one, and its text.
use Rattle.std.specs.Prelude.{◌≡◌, ℕ, ◌<◌, Bool, cond, ◌&&◌, List, [], ◌∷◌, length, Some, None, codes, decimal, Option, ◌==◌, nat_lt, slice_index}
use Rattle.model.specs.Text.{text}
use Rattle.isa.specs.Fields.{unused_clear}
use Rattle.isa.specs.declared.instr.Instr.{Instr}
use Rattle.isa.specs.declared.instr.Instr.TheVariants.{Set, Add, Sub, Branch, Load, Store, Commit, Reconcile}

-- how an instruction is written: its kind, and then d, s and c
abbrev pub layout : Instr → List ℕ
layout (Set d c) = 0 ∷ d ∷ 0 ∷ c ∷ []
layout (Add d s c) = 1 ∷ d ∷ s ∷ c ∷ []
layout (Sub d s c) = 2 ∷ d ∷ s ∷ c ∷ []
layout (Branch d c) = 3 ∷ d ∷ 0 ∷ c ∷ []
layout (Load d s c) = 4 ∷ d ∷ s ∷ c ∷ []
layout (Store d s c) = 5 ∷ d ∷ s ∷ c ∷ []
layout Commit = 6 ∷ 0 ∷ 0 ∷ 0 ∷ []
layout Reconcile = 7 ∷ 0 ∷ 0 ∷ 0 ∷ []

-- the registers that it names exist
abbrev pub RegistersExist : Instr → Type 0
RegistersExist (Set d c) = d < 8
RegistersExist (Add d s c) = (d < 8) × (s < 8) × (c < 8)
RegistersExist (Sub d s c) = (d < 8) × (s < 8) × (c < 8)
RegistersExist (Branch d c) = d < 8
RegistersExist (Load d s c) = (d < 8) × (s < 8)
RegistersExist (Store d s c) = (d < 8) × (s < 8)
RegistersExist Commit = Unit {0}
RegistersExist Reconcile = Unit {0}

-- the bytes stand for the instruction
pub record StandsFor (bs : List ℕ) (instr : Instr) : Type 0 where
  pub written : bs ≡ layout instr
  pub registers : RegistersExist instr

-- an answer that is an instruction exactly where the bytes stand for it
abbrev pub Decodes : List ℕ → Option Instr → Type 0
Decodes bs r = (instr : Instr) → (r ≡ Some instr → StandsFor bs instr) × (StandsFor bs instr → r ≡ Some instr)

abbrev pub is_register : ℕ → Bool
is_register n = nat_lt n 8

abbrev when : Bool → Instr → Option Instr
when b instr = cond b (Some instr) None

-- the instruction of a kind with three fields
abbrev pub of_kind : ℕ → ℕ → ℕ → ℕ → Option Instr
of_kind kind d s c =
    cond (kind == 0) (when (is_register d) (Set d c))
    (cond (kind == 1) (when (is_register d && (is_register s && is_register c)) (Add d s c))
    (cond (kind == 2) (when (is_register d && (is_register s && is_register c)) (Sub d s c))
    (cond (kind == 3) (when (is_register d) (Branch d c))
    (cond (kind == 4) (when (is_register d && is_register s) (Load d s c))
    (cond (kind == 5) (when (is_register d && is_register s) (Store d s c))
    (cond (kind == 6) (Some Commit)
    (cond (kind == 7) (Some Reconcile)
    None)))))))

abbrev pub of_fields : ℕ → ℕ → ℕ → ℕ → Option Instr
of_fields kind d s c = cond (unused_clear kind d s c) (of_kind kind d s c) None

-- the instruction that bytes stand for, if they stand for one
abbrev pub decoded : List ℕ → Option Instr
decoded bs = cond (length bs == 4) (of_fields (slice_index bs 0) (slice_index bs 1) (slice_index bs 2) (slice_index bs 3)) None

-- a name and three registers
abbrev pub sum_text : List ℕ → ℕ → ℕ → ℕ → List ℕ
sum_text name d s c = text (name ∷ codes " r" ∷ decimal d ∷ codes " r" ∷ decimal s ∷ codes " r" ∷ decimal c ∷ [])

-- a name, a register, and an address as a register plus a number
abbrev pub access_text : List ℕ → ℕ → ℕ → ℕ → List ℕ
access_text name d s c = text (name ∷ codes " r" ∷ decimal d ∷ codes " [r" ∷ decimal s ∷ codes "+" ∷ decimal c ∷ codes "]" ∷ [])

abbrev pub instr_text : Instr → List ℕ
instr_text (Set d c) = text (codes "set r" ∷ decimal d ∷ codes " " ∷ decimal c ∷ [])
instr_text (Add d s c) = sum_text (codes "add") d s c
instr_text (Sub d s c) = sum_text (codes "sub") d s c
instr_text (Branch d c) = text (codes "branch r" ∷ decimal d ∷ codes " skip " ∷ decimal c ∷ [])
instr_text (Load d s c) = access_text (codes "load") d s c
instr_text (Store d s c) = access_text (codes "store") d s c
instr_text Commit = codes "commit"
instr_text Reconcile = codes "reconcile"
