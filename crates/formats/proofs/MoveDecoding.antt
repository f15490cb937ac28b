-- Bytes are decoded as a move exactly where they are its own.
use Rattle.std.proofs.Common.{◌≡◌, ℕ, suc, false, eqb, List, [], ◌∷◌, length, Some, None, sym, refl, ap, ◌∙◌, ⊎_elim, arith}
use Rattle.std.proofs.lemmas.Bool.{cond-false, eqb-true, ne_eqb}
use Rattle.formats.specs.Moves.{DecodesMove, move_decoded, move_layout, move_of}
use Rattle.formats.specs.declared.moves.Move.{Move}
use Rattle.formats.specs.declared.moves.Move.TheVariants.{Step, OldLoad, Landing}
use Rattle.std.proofs.lemmas.Option.{cond_some, none-some}
use Rattle.model.proofs.Choosing.{some_cond}

of_move : (k p x : ℕ) (m : Move) → move_of k p x ≡ Some m → k ∷ p ∷ x ∷ [] ≡ move_layout m
of_move k p x m e =
    ⊎_elim
    (λ h.
    let s = cond_some (eqb x 0) (Step p) m h.1 in
    ap (λ j. j ∷ p ∷ x ∷ []) h.0 ∙ (ap (λ y. 0 ∷ p ∷ y ∷ []) (eqb-true x 0 s.0) ∙ ap move_layout s.1))
    (λ e.
    ⊎_elim
    (λ h. let same : OldLoad p x ≡ m = cc in ap (λ j. j ∷ p ∷ x ∷ []) h.0 ∙ ap move_layout same)
    (λ e.
    ⊎_elim
    (λ h. let same : Landing p x ≡ m = cc in ap (λ j. j ∷ p ∷ x ∷ []) h.0 ∙ ap move_layout same)
    (λ e. absurd (none-some m e))
    (some_cond k 2 _ _ m e))
    (some_cond k 1 _ _ m e))
    (some_cond k 0 _ _ m e)

decoded_layout : (bs : List ℕ) (m : Move) → move_decoded bs ≡ Some m → bs ≡ move_layout m
decoded_layout [] m e = absurd (none-some m e)
decoded_layout (k ∷ []) m e = absurd (none-some m e)
decoded_layout (k ∷ (p ∷ [])) m e = absurd (none-some m e)
decoded_layout (k ∷ (p ∷ (x ∷ []))) m e = of_move k p x m e
decoded_layout (k ∷ (p ∷ (x ∷ (b ∷ bs)))) m e =
    let long : eqb (suc (suc (suc (suc (length bs))))) 3 ≡ false = ne_eqb (suc (suc (suc (suc (length bs))))) 3 (λ h. omega arith) in
    absurd (none-some m (sym (cond-false (eqb (suc (suc (suc (suc (length bs))))) 3) (move_of k p x) None long) ∙ e))

layout_decoded : (m : Move) → move_decoded (move_layout m) ≡ Some m
layout_decoded (Step p) = refl
layout_decoded (OldLoad p serial) = refl
layout_decoded (Landing p address) = refl

pub decodes_move : (bs : List ℕ) → DecodesMove bs (move_decoded bs)
decodes_move bs m = (decoded_layout bs m, λ h. ap move_decoded h ∙ layout_decoded m)
