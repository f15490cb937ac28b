-- Bytes are decoded as an instruction exactly where they stand for it.
use Rattle.std.proofs.Common.{◌≡◌, ℕ, suc, ◌<◌, Bool, true, false, cond, ◌&&◌, eqb, List, [], ◌∷◌, length, Some, None, sym, refl, ap, ◌∙◌, subst, ⊎_elim, arith}
use Rattle.std.proofs.lemmas.Bool.{and_from, and_parts, cases_Bool, cond-true, cond-false, eqb-true, lt-ltb, ltb-true, ne_eqb}
use Rattle.isa.specs.Fields.{unused_clear}
use Rattle.isa.specs.Instrs.{StandsFor, RegistersExist, Decodes, decoded, layout, of_fields, of_kind, is_register}
use Rattle.isa.specs.declared.instr.Instr.{Instr}
use Rattle.isa.specs.declared.instr.Instr.TheVariants.{Set, Add, Sub, Branch, Load, Store, Commit, Reconcile}
use Rattle.model.proofs.Choosing.{some_cond}
use Rattle.std.proofs.lemmas.Option.{cond_some, none-some}

abbrev four : ℕ → ℕ → ℕ → ℕ → List ℕ
four k d s c = k ∷ d ∷ s ∷ c ∷ []

fits : (n : ℕ) → is_register n ≡ true → n < 8
fits n = ltb-true n 8

module _ (d s c : ℕ) (i : Instr) where
  -- what the fields of a kind stand for, if those that it does not use are 0
  abbrev Stands : ℕ → Type 0
  Stands k = unused_clear k d s c ≡ true → StandsFor (four k d s c) i

  -- a kind whose field s is 0
  two_fields : (k : ℕ) (x : Instr) → layout x ≡ four k d 0 c → (d < 8 → RegistersExist x) → (unused_clear k d s c ≡ true → s ≡ 0) → cond (is_register d) (Some x) None ≡ Some i → Stands k
  two_fields k x l r clear e u =
      let w = cond_some (is_register d) x i e in
      subst (StandsFor (four k d s c)) w.1 (record { written = ap (λ y. four k d y c) (clear u) ∙ sym l; registers = r (fits d w.0) })

  -- a kind that uses every field, and of which a test says that its registers exist
  all_fields : (k : ℕ) (x : Instr) (test : Bool) → layout x ≡ four k d s c → (test ≡ true → RegistersExist x) → cond test (Some x) None ≡ Some i → Stands k
  all_fields k x test l r e u =
      let w = cond_some test x i e in
      subst (StandsFor (four k d s c)) w.1 (record { written = sym l; registers = r w.0 })

  -- a fence
  no_fields : (k : ℕ) (x : Instr) → layout x ≡ four k 0 0 0 → RegistersExist x → (unused_clear k d s c ≡ true → (d ≡ 0) × (s ≡ 0) × (c ≡ 0)) → Some x ≡ Some i → Stands k
  no_fields k x l r clear e u =
      let z = clear u in
      let same : x ≡ i = cc in
      subst (StandsFor (four k d s c)) same
      (record { written = ap (λ y. four k y s c) z.0 ∙ (ap (λ y. four k 0 y c) z.1 ∙ (ap (λ y. four k 0 0 y) z.2 ∙ sym l)); registers = r })

  three : is_register d && (is_register s && is_register c) ≡ true → (d < 8) × (s < 8) × (c < 8)
  three t =
      let p = and_parts (is_register d) (is_register s && is_register c) t in
      let q = and_parts (is_register s) (is_register c) p.1 in
      (fits d p.0, fits s q.0, fits c q.1)

  both : is_register d && is_register s ≡ true → (d < 8) × (s < 8)
  both t = let p = and_parts (is_register d) (is_register s) t in (fits d p.0, fits s p.1)

  s_clear : eqb s 0 && true ≡ true → s ≡ 0
  s_clear u = eqb-true s 0 (and_parts (eqb s 0) true u).0

  clear_all : (eqb d 0 && eqb s 0) && eqb c 0 ≡ true → (d ≡ 0) × (s ≡ 0) × (c ≡ 0)
  clear_all u =
      let p = and_parts (eqb d 0 && eqb s 0) (eqb c 0) u in
      let q = and_parts (eqb d 0) (eqb s 0) p.0 in
      (eqb-true d 0 q.0, eqb-true s 0 q.1, eqb-true c 0 p.1)

  at : (k n : ℕ) → Stands n → k ≡ n → Stands k
  at k n h e = subst Stands (sym e) h

  of_kind_stands : (k : ℕ) → of_kind k d s c ≡ Some i → Stands k
  of_kind_stands k e =
      ⊎_elim (λ h. at k 0 (two_fields 0 (Set d c) refl (λ r. r) s_clear h.1) h.0) (λ e.
      ⊎_elim (λ h. at k 1 (all_fields 1 (Add d s c) (is_register d && (is_register s && is_register c)) refl three h.1) h.0) (λ e.
      ⊎_elim (λ h. at k 2 (all_fields 2 (Sub d s c) (is_register d && (is_register s && is_register c)) refl three h.1) h.0) (λ e.
      ⊎_elim (λ h. at k 3 (two_fields 3 (Branch d c) refl (λ r. r) s_clear h.1) h.0) (λ e.
      ⊎_elim (λ h. at k 4 (all_fields 4 (Load d s c) (is_register d && is_register s) refl both h.1) h.0) (λ e.
      ⊎_elim (λ h. at k 5 (all_fields 5 (Store d s c) (is_register d && is_register s) refl both h.1) h.0) (λ e.
      ⊎_elim (λ h. at k 6 (no_fields 6 Commit refl tt clear_all h.1) h.0) (λ e.
      ⊎_elim (λ h. at k 7 (no_fields 7 Reconcile refl tt clear_all h.1) h.0) (λ e. absurd (none-some i e))
      (some_cond k 7 _ _ i e)) (some_cond k 6 _ _ i e)) (some_cond k 5 _ _ i e)) (some_cond k 4 _ _ i e))
      (some_cond k 3 _ _ i e)) (some_cond k 2 _ _ i e)) (some_cond k 1 _ _ i e)) (some_cond k 0 _ _ i e)

  of_fields_stands : (k : ℕ) → of_fields k d s c ≡ Some i → StandsFor (four k d s c) i
  of_fields_stands k e =
      ⊎_elim (λ t. of_kind_stands k (sym (cond-true (unused_clear k d s c) (of_kind k d s c) None t) ∙ e) t)
      (λ f. absurd (none-some i (sym (cond-false (unused_clear k d s c) (of_kind k d s c) None f) ∙ e)))
      (cases_Bool (unused_clear k d s c))

pub decoded_stands : (bs : List ℕ) (i : Instr) → decoded bs ≡ Some i → StandsFor bs i
decoded_stands [] i e = absurd (none-some i e)
decoded_stands (k ∷ []) i e = absurd (none-some i e)
decoded_stands (k ∷ (d ∷ [])) i e = absurd (none-some i e)
decoded_stands (k ∷ (d ∷ (s ∷ []))) i e = absurd (none-some i e)
decoded_stands (k ∷ (d ∷ (s ∷ (c ∷ [])))) i e = of_fields_stands d s c i k e
decoded_stands (k ∷ (d ∷ (s ∷ (c ∷ (b ∷ bs))))) i e =
    let n : eqb (suc (suc (suc (suc (suc (length bs)))))) 4 ≡ false = ne_eqb (suc (suc (suc (suc (suc (length bs)))))) 4 (λ h. omega arith) in
    absurd (none-some i (sym (cond-false (eqb (suc (suc (suc (suc (suc (length bs)))))) 4) (of_fields k d s c) None n) ∙ e))

layout_decoded : (i : Instr) → RegistersExist i → decoded (layout i) ≡ Some i
layout_decoded (Set d c) r = cond-true (is_register d) (Some (Set d c)) None (lt-ltb d 8 r)
layout_decoded (Add d s c) r =
    cond-true (is_register d && (is_register s && is_register c)) (Some (Add d s c)) None
    (and_from (is_register d) (is_register s && is_register c) (lt-ltb d 8 r.0) (and_from (is_register s) (is_register c) (lt-ltb s 8 r.1) (lt-ltb c 8 r.2)))
layout_decoded (Sub d s c) r =
    cond-true (is_register d && (is_register s && is_register c)) (Some (Sub d s c)) None
    (and_from (is_register d) (is_register s && is_register c) (lt-ltb d 8 r.0) (and_from (is_register s) (is_register c) (lt-ltb s 8 r.1) (lt-ltb c 8 r.2)))
layout_decoded (Branch d c) r = cond-true (is_register d) (Some (Branch d c)) None (lt-ltb d 8 r)
layout_decoded (Load d s c) r =
    cond-true (is_register d && is_register s) (Some (Load d s c)) None (and_from (is_register d) (is_register s) (lt-ltb d 8 r.0) (lt-ltb s 8 r.1))
layout_decoded (Store d s c) r =
    cond-true (is_register d && is_register s) (Some (Store d s c)) None (and_from (is_register d) (is_register s) (lt-ltb d 8 r.0) (lt-ltb s 8 r.1))
layout_decoded Commit r = refl
layout_decoded Reconcile r = refl

pub decodes : (bs : List ℕ) → Decodes bs (decoded bs)
decodes bs i = (
  decoded_stands bs i,
  λ h. ap decoded h.written ∙ layout_decoded i h.registers,
)
