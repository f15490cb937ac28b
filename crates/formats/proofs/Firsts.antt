-- Checks in a row: what a loop over them keeps, and when none of them refuses.
use Rattle.std.proofs.Common.{◌≡◌, ℕ, zero, suc, ◌+◌, ◌-◌, ◌<◌, ◌≤◌, Bool, true, false, List, is_some, IsErrAnd, IsOk, Some, None, Ok, Err, Option, Result, sym, refl, ap, ◌∙◌, arith}
use Rattle.std.specs.Result.{is_err, result_err}
use Rattle.std.proofs.lemmas.Result.{IfOk-from_err, err_from_is_err_and}
use Rattle.std.proofs.lemmas.Bool.{false≢true, true≢false}
use Rattle.model.specs.declared.fault.Fault.{Fault}
use Rattle.std.proofs.lemmas.Option.{none-some}
use Rattle.formats.specs.Checks.{AcceptsExactly, IsCheckedView, check, first, first_of}

pub check_parts : (rule : Bool) (fault : Fault) (later : Option Fault) → check rule fault later ≡ None → (rule ≡ true) × (later ≡ None)
check_parts true fault later e = (refl, e)
check_parts false fault later e = absurd (none-some fault (sym e))

pub check_from : (rule : Bool) (fault : Fault) (later : Option Fault) → rule ≡ true → later ≡ None → check rule fault later ≡ None
check_from rule fault later r l = ap (λ b. check b fault later) r ∙ l

pub first_parts : (a b : Option Fault) → first a b ≡ None → (a ≡ None) × (b ≡ None)
first_parts None b e = (refl, e)
first_parts (Some fault) b e = absurd (none-some fault (sym e))

pub first_from : (a b : Option Fault) → a ≡ None → b ≡ None → first a b ≡ None
first_from a b p q = ap (λ o. first o b) p ∙ q

module _ (f : ℕ → Option Fault) where
  -- a loop that stands at i of n has met no fault
  abbrev pub Pending : ℕ → ℕ → Type 0
  Pending i n = first_of f i (n - i) ≡ first_of f 0 n

  one_more : (i n : ℕ) → i < n → first_of f i (n - i) ≡ first (f i) (first_of f (i + 1) (n - (i + 1)))
  one_more i n h = let z : n - i ≡ suc (n - (i + 1)) = omega arith in ap (first_of f i) z

  pub found : (i n : ℕ) (fault : Fault) → i < n → Some fault ≡ f i → Pending i n → Some fault ≡ first_of f 0 n
  found i n fault h e inv = sym (one_more i n h ∙ ap (λ o. first o (first_of f (i + 1) (n - (i + 1)))) (sym e)) ∙ inv

  pub passed : (i n : ℕ) → i < n → None ≡ f i → Pending i n → Pending (i + 1) n
  passed i n h e inv = sym (one_more i n h ∙ ap (λ o. first o (first_of f (i + 1) (n - (i + 1)))) (sym e)) ∙ inv

  pub finished : (i n : ℕ) → n ≤ i → Pending i n → None ≡ first_of f 0 n
  finished i n h inv = let z : 0 ≡ n - i = omega arith in ap (first_of f i) z ∙ inv

  each_from : (i n : ℕ) → first_of f i n ≡ None → (k : ℕ) → k < n → f (i + k) ≡ None
  each_from i zero e k h = absurd (omega arith)
  each_from i (suc n) e zero h =
      let z : i + 0 ≡ i = omega arith in ap f z ∙ (first_parts (f i) (first_of f (i + 1) n) e).0
  each_from i (suc n) e (suc k) h =
      let z : i + suc k ≡ (i + 1) + k = omega arith in
      ap f z ∙ each_from (i + 1) n (first_parts (f i) (first_of f (i + 1) n) e).1 k (omega arith)

  pub each_none : (n : ℕ) → first_of f 0 n ≡ None → (k : ℕ) → k < n → f k ≡ None
  each_none n e k h = let z : k ≡ 0 + k = omega arith in ap f z ∙ each_from 0 n e k h

  none_from : (i n : ℕ) → ((k : ℕ) → k < n → f (i + k) ≡ None) → first_of f i n ≡ None
  none_from i zero h = refl
  none_from i (suc n) h =
      let z : i + 0 ≡ i = omega arith in
      first_from (f i) (first_of f (i + 1) n) (sym (ap f z) ∙ h 0 (omega arith))
      (none_from (i + 1) n (λ k l. let y : (i + 1) + k ≡ i + suc k = omega arith in ap f y ∙ h (suc k) (omega arith)))

  pub all_none : (n : ℕ) → ((k : ℕ) → k < n → f k ≡ None) → first_of f 0 n ≡ None
  all_none n h = none_from 0 n (λ k l. let z : 0 + k ≡ k = omega arith in ap f z ∙ h k l)

-- core proves this too, but a crate that uses std cannot name core's lemmas
pub no_fault : {T : Type 0} (o : Option T) → is_some o ≡ false → o ≡ None
no_fault None e = refl
no_fault (Some x) e = absurd (true≢false e)

module _ {T : Type 0} where
  fine : (r : Result T Fault) → IsOk r → result_err r ≡ None
  fine (Ok x) e = refl
  fine (Err fault) e = absurd (false≢true e)

  no_error : (r : Result T Fault) → result_err r ≡ None → IsOk r
  no_error (Ok x) e = refl
  no_error (Err fault) e = absurd (none-some fault (sym e))

  accepts : {Rules : Type 0} (o : Option Fault) (r : Result T Fault) → result_err r ≡ o → (o ≡ None → Rules) → (Rules → o ≡ None) → AcceptsExactly Rules r
  accepts o r e to from = record { sound = λ h. to (sym e ∙ fine r h); complete = λ h. no_error r (e ∙ from h) }

  module _ (over : T → List ℕ) (fault_in : List ℕ → Option Fault) {Rules : List ℕ → Type 0} (keeps : (bs : List ℕ) → fault_in bs ≡ None → Rules bs) (kept : (bs : List ℕ) → Rules bs → fault_in bs ≡ None) (bs : List ℕ) where
    -- a check that found no fault
    pub viewed : (view : T) → None ≡ fault_in bs → over view ≡ bs → IsCheckedView over fault_in Rules bs (Ok view)
    viewed view e same = record { fault = e; same = same; exact = accepts (fault_in bs) (Ok view) e (keeps bs) (kept bs) }

    -- a check whose fault `?` passes on
    pub refused : (r : Result T Fault) (fault : Fault) → Some fault ≡ fault_in bs → IsErrAnd r (λ e. e ≡ fault) → IsCheckedView over fault_in Rules bs r
    refused r fault e back =
        let is = err_from_is_err_and r back in
        let v = ap result_err is.1 ∙ (ap Some is.2 ∙ e) in
        record { fault = v; same = IfOk-from_err r (λ view. over view ≡ bs) (ap is_err is.1); exact = accepts (fault_in bs) r v (keeps bs) (kept bs) }
