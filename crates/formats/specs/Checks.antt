-- Checks in a fixed order: the first rule that is broken decides.
use Rattle.std.specs.Prelude.{◌≡◌, ℕ, zero, suc, ◌+◌, Bool, cond, List, IfOk, IsOk, Some, None, Option, Result}
use Rattle.std.specs.Result.{result_err}
use Rattle.model.specs.declared.fault.Fault.{Fault}

-- a rule that is broken refuses with the fault; else the later checks decide
abbrev pub check : Bool → Fault → Option Fault → Option Fault
check rule fault later = cond rule later (Some fault)

-- the earlier fault, or else the later
abbrev pub first : Option Fault → Option Fault → Option Fault
first None later = later
first (Some fault) later = Some fault

-- the first fault of f i, f (i + 1) and so on, n of them
abbrev pub first_of : (ℕ → Option Fault) → ℕ → ℕ → Option Fault
first_of f i zero = None
first_of f i (suc n) = first (f i) (first_of f (i + 1) n)

-- an answer that accepts exactly what keeps the rules
pub record AcceptsExactly {T : Type 0} (Rules : Type 0) (r : Result T Fault) : Type 0 where
  pub sound : IsOk r → Rules
  pub complete : Rules → IsOk r

-- what a check of bytes answers: a view over those same bytes exactly where they keep the rules, or else the first fault
pub record IsCheckedView {View : Type 0} (over : View → List ℕ) (fault_in : List ℕ → Option Fault) (Rules : List ℕ → Type 0) (bs : List ℕ) (r : Result View Fault) : Type 0 where
  pub fault : result_err r ≡ fault_in bs
  pub same : IfOk r (λ view. over view ≡ bs)
  pub exact : AcceptsExactly (Rules bs) r
