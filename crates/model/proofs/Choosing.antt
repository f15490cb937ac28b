-- Answers that are chosen by a test, or by a number.
use Rattle.std.proofs.Common.{◌≡◌, ok_or, ℕ, cond, eqb, ◌⊎◌, Some, None, Option, Result, sym, refl, ap, subst, ◌∙◌, inl, inr, ⊎_elim}
use Rattle.std.specs.Result.{result_ok}
use Rattle.model.specs.Decoding.{IsDecoded}
use Rattle.model.specs.declared.fault.Refusal.{Refusal}
use Rattle.std.proofs.lemmas.Bool.{cases_Bool, cond-false, cond-true, eqb-true}

module _ {T : Type 0} where
  -- one number of a chain of numbers
  pub some_cond : (k n : ℕ) (here rest : Option T) (y : T) → cond (eqb k n) here rest ≡ Some y → ((k ≡ n) × (here ≡ Some y)) ⊎ (rest ≡ Some y)
  some_cond k n here rest y e =
      ⊎_elim
      (λ t. inl (eqb-true k n t, sym (cond-true (eqb k n) here rest t) ∙ e))
      (λ f. inr (sym (cond-false (eqb k n) here rest f) ∙ e))
      (cases_Bool (eqb k n))

-- an option that is made a result is still there
pub result_ok-ok_or : {T E : Type 0} (o : Option T) (e : E) → result_ok (ok_or o e) ≡ o
result_ok-ok_or None e = refl
result_ok-ok_or (Some x) e = refl

pub is_decoded : {X T : Type 0} (decoded : X → Option T) (Decodes : X → Option T → Type 0) (refusal : Refusal) (x : X) (r : Result T Refusal) → r ≡ ok_or (decoded x) refusal → Decodes x (decoded x) → IsDecoded decoded Decodes refusal x r
is_decoded decoded Decodes refusal x r e exact =
    record { value = e; exact = subst (Decodes x) (sym (ap result_ok e ∙ result_ok-ok_or (decoded x) refusal)) exact }
