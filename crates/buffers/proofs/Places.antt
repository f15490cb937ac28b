-- The buffers of an array, as a function from processors.
use Rattle.std.proofs.Common.{◌≡◌, ℕ, zero, suc, ◌<◌, ◌≤◌, List, [], ◌∷◌, length, All, get_or, set, map, vec_items, refl, subst, sym, ap, ◌∙◌}
use mathlib.Core.Path.{fun_ext}
use Rattle.std.proofs.lemmas.List.{get_or-map, get_or_past, map-set, length-map}
use Rattle.std.proofs.lemmas.List.Elements.{All-head, All-tail}
use Rattle.buffers.specs.View.{buffer_of}
use Rattle.buffers.specs.declared.buffers.Buffers.{Buffers}
use Rattle.model.specs.Lists.{upd}
use Rattle.model.proofs.Lists.{set_is_upd}

module _ {X T : Type 0} (items : X → List T) where
  abbrev at : List X → ℕ → List T
  at xs p = get_or (map items xs) p []

  -- a write of x over d, where h says what becomes of the items
  pub write : (xs : List X) (h : List T → List T) (p : ℕ) (x d : X) → p < length xs → get_or xs p d ≡ d → items x ≡ h (items d) → at (set xs p x) ≡ upd (at xs) p (h (at xs p))
  write xs h p x d lt was now =
      ap (λ l q. get_or l q []) (map-set items xs p x)
      ∙ set_is_upd (map items xs) p (items x) [] (subst (λ n. p < n) (sym (length-map xs items)) lt)
      ∙ ap (λ zs. upd (at xs) p zs) (now ∙ ap h (sym (get_or-map items xs p d [] lt ∙ ap items was)))

  pub empty : (xs : List X) → All (λ x. items x ≡ []) xs → at xs ≡ (λ p. [])
  empty xs h = fun_ext (each xs h)
    where
      each : (ys : List X) → All (λ x. items x ≡ []) ys → (p : ℕ) → at ys p ≡ []
      each [] e p = refl
      each (y ∷ ys) e zero = All-head (λ x. items x ≡ []) y ys e
      each (y ∷ ys) e (suc p) = each ys (All-tail (λ x. items x ≡ []) y ys e) p

-- nothing past the fourth
pub past : {T : Type 0} (b : Buffers T) (p : ℕ) → 4 ≤ p → buffer_of b p ≡ []
past b p h = get_or_past (map vec_items b.buffers) p [] (subst (λ n. n ≤ p) (sym (length-map b.buffers vec_items ∙ b.whole)) h)
