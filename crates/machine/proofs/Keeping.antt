-- Who keeps a copy, processor by processor.
use Rattle.std.proofs.Common.{◌≡◌, ℕ, ◌+◌, ◌≤◌, Bool, true, false, cond, not, ◌&&◌, eqb, ltb, List, [], ◌∷◌, ◌++◌, sym, refl, ap, ◌∙◌, arith}
use mathlib.Core.Path.{fun_ext}
use Rattle.std.proofs.lemmas.Bool.{lt-ltb, le-ltb, ltb-true, ltb-false}
use Rattle.model.specs.Lists.{upd, none_of}
use Rattle.model.specs.declared.memory.StaleCopy.{StaleCopy}
use Rattle.model.specs.declared.memory.WaitingStore.{WaitingStore}
use Rattle.model.proofs.Lists.{upd_all}
use Rattle.port.specs.Holdings.{keeping, may_keep_in, store_at}

-- those below n have kept it
abbrev pub up_to : ℕ → (ℕ → Bool) → StaleCopy → (ℕ → List StaleCopy) → ℕ → List StaleCopy
up_to n keep c copies q = cond (ltb q n) (keeping keep c copies q) (copies q)

module _ (keep : ℕ → Bool) (c : StaleCopy) (copies : ℕ → List StaleCopy) where
  -- the one at n has not yet
  pub upto_same : (n : ℕ) → up_to n keep c copies n ≡ copies n
  upto_same n = ap (λ b. cond b (keeping keep c copies n) (copies n)) (le-ltb n n (omega arith))

  pub upto_more : (n : ℕ) (before after : ℕ → List StaleCopy) → before ≡ up_to n keep c copies → after ≡ upd before n (keeping keep c before n) → after ≡ up_to (n + 1) keep c copies
  upto_more n before after e d =
      d ∙ ap (λ u. upd u n (keeping keep c u n)) e
      ∙ fun_ext (upd_all (λ j y. y ≡ up_to (n + 1) keep c copies j) (up_to n keep c copies) n (keeping keep c (up_to n keep c copies) n)
      (ap (λ y. cond (keep n) (y ++ c ∷ []) y) (upto_same n) ∙ sym (ap (λ b. cond b (keeping keep c copies n) (copies n)) (lt-ltb n (n + 1) (omega arith))))
      (λ j ne. go j ne (ltb j n) refl))
    where
      past : (j : ℕ) → (j ≡ n → ⊥) → n ≤ j → n + 1 ≤ j
      past j ne h = omega arith

      go : (j : ℕ) → (j ≡ n → ⊥) → (b : Bool) → ltb j n ≡ b → up_to n keep c copies j ≡ up_to (n + 1) keep c copies j
      go j ne true q = ap (λ b. cond b (keeping keep c copies j) (copies j)) (q ∙ sym (lt-ltb j (n + 1) (omega (arith, ltb-true j n q))))
      go j ne false q = ap (λ b. cond b (keeping keep c copies j) (copies j)) (q ∙ sym (le-ltb j (n + 1) (past j ne (ltb-false j n q))))

  pub upto_all : ((q : ℕ) → 4 ≤ q → keep q ≡ false) → up_to 4 keep c copies ≡ keeping keep c copies
  upto_all h = fun_ext (λ q. go q (ltb q 4) refl)
    where
      go : (q : ℕ) (b : Bool) → ltb q 4 ≡ b → up_to 4 keep c copies q ≡ keeping keep c copies q
      go q true e = ap (λ b. cond b (keeping keep c copies q) (copies q)) e
      go q false e =
          ap (λ b. cond b (keeping keep c copies q) (copies q)) e
          ∙ ap (λ b. cond b (copies q ++ c ∷ []) (copies q)) (sym (h q (ltb-false q 4 e)))

-- nobody past the fourth may
pub may_not : (waits : ℕ → List WaitingStore) (p a q : ℕ) → 4 ≤ q → may_keep_in waits p a q ≡ false
may_not waits p a q l = ap (λ b. b && (not (eqb q p) && none_of (store_at a) (waits q))) (le-ltb q 4 l)
