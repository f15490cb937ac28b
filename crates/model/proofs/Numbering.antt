-- The kind of a number is the one that has that number.
use Rattle.std.proofs.Common.{◌≡◌, ℕ, Some, refl, ap, ◌∙◌, ⊎_elim}
use Rattle.model.specs.Kinds.{DecodesKind, kind_number, kind_numbered}
use Rattle.model.specs.declared.kind.Kind.{Kind}
use Rattle.model.specs.declared.kind.Kind.TheVariants.{Sc, Tso, Pso, Wmm}
use Rattle.std.proofs.lemmas.Option.{none-some}
use Rattle.model.proofs.Choosing.{some_cond}

named : (n : ℕ) (k : Kind) → kind_numbered n ≡ Some k → n ≡ kind_number k
named n k e =
    ⊎_elim (λ h. h.0 ∙ ap kind_number (same Sc h.1)) (λ e.
    ⊎_elim (λ h. h.0 ∙ ap kind_number (same Tso h.1)) (λ e.
    ⊎_elim (λ h. h.0 ∙ ap kind_number (same Pso h.1)) (λ e.
    ⊎_elim (λ h. h.0 ∙ ap kind_number (same Wmm h.1)) (λ e. absurd (none-some k e))
    (some_cond n 3 _ _ k e)) (some_cond n 2 _ _ k e)) (some_cond n 1 _ _ k e)) (some_cond n 0 _ _ k e)
  where
    same : (j : Kind) → Some j ≡ Some k → j ≡ k
    same j e = cc

numbered : (k : Kind) → kind_numbered (kind_number k) ≡ Some k
numbered Sc = refl
numbered Tso = refl
numbered Pso = refl
numbered Wmm = refl

pub decodes_kind : (n : ℕ) → DecodesKind n (kind_numbered n)
decodes_kind n k = (named n k, λ h. ap kind_numbered h ∙ numbered k)
