-- The rules of each kind as equations: what an action answers, and the state that it gives.
use Rattle.std.proofs.Common.{◌≡◌, ℕ, zero, suc, Bool, true, false, cond, not, ◌&&◌, eqb, ltb, leb, [], ◌∷◌, ◌++◌, Some, None, sym, refl, ap, ◌∙◌, subst, ap₂, ⊎_elim, arith}
use mathlib.Core.Path.{fun_ext}
use Rattle.std.proofs.lemmas.Bool.{cases_Bool, cond-true, cond-false, eqb-true, eqb-false, eq-eqb, ne_eqb, ltb-true, ltb-false, le-ltb, lt-ltb, le-leb, and_from, and_left, and_right, not-false, not_from_true, not_from_false, false≢true}
use Rattle.model.specs.Lists.{upd, none_of, oldest, without_oldest, youngest, without}
use Rattle.model.proofs.Lists.{upd_self}
use Rattle.kinds.specs.Kinds.{lands_directly, lands_in_order, keeps_copies, behind}
use Rattle.kinds.specs.Published.{Buffer, GetRandom, RmOldest, oldest_here, State, Action, load, load_stale, store, commit, reconcile, dequeue, wrote, Sc, sc-Ld, sc-St, sc-Com, sc-Rec, enqueued, dequeued, Buffering, buffer-LdSb, buffer-LdMem, buffer-St, buffer-Com, buffer-Rec, Tso, tso, tso-DeqSb, Pso, pso, pso-DeqSb, invalidated, Inserts, inserts, inserts_not_self, inserts_not_there, inserts_nobody, Wmm, wmm-LdSb, wmm-LdMem, wmm-LdIb, wmm-St, wmm-Com, wmm-Rec, wmm-DeqSb, Rule}
use Rattle.kinds.proofs.Buffers.{rest_none, youngest_none, entry_at, word_else, absent_from, absent_is, present_from, present_is, youngest_from, youngest_is, youngest_there, oldest_from_is, oldest_is, removed_from, removed_is}

-- ## What fires

-- the youngest word that waits, else memory's
abbrev pub newest_word : State → ℕ → ℕ → ℕ
newest_word s i a = word_else (youngest (entry_at a) (s.sb i)) (s.memory a)

-- i's invalidation buffer has nothing of a any more
abbrev pub dropped : State → ℕ → ℕ → State
dropped s i a = invalidated s i (without (entry_at a) (s.ib i))

-- another processor without a store to a
abbrev pub gets_old : State → ℕ → ℕ → ℕ → Bool
gets_old s i a j = ltb j 4 && (not (eqb j i) && none_of (entry_at a) (s.sb j))

-- i's oldest store to a is in memory; if copies are kept, others get the old value
abbrev pub reached : Bool → State → ℕ → ℕ → ℕ → State
reached keeps s i a v =
    record {
      memory = upd s.memory a v;
      sb = upd s.sb i (without_oldest (entry_at a) (s.sb i));
      ib = λ j. cond (keeps && gets_old s i a j) (s.ib j ++ (a, s.memory a) ∷ []) (s.ib j);
    }

-- for a kind by its three traits
abbrev pub Fires : Bool → Bool → Bool → Action → State → State → Type 0
Fires direct order keeps (load i a v) s t = (v ≡ newest_word s i a) × (t ≡ dropped s i a)
Fires direct order keeps (load_stale i a v) s t = (keeps ≡ true) × (none_of (entry_at a) (s.sb i) ≡ true) × (left : Buffer) × GetRandom a (s.ib i) v left × (t ≡ invalidated s i left)
Fires direct order keeps (store i a v) s t = t ≡ cond direct (wrote s a v) (dropped (enqueued s i a v) i a)
Fires direct order keeps (commit i) s t = (s.sb i ≡ []) × (t ≡ s)
Fires direct order keeps (reconcile i) s t = t ≡ invalidated s i []
Fires direct order keeps (dequeue i a v) s t =
    (oldest (entry_at a) (s.sb i) ≡ Some (a, v)) × ((order && behind (entry_at a) (s.sb i)) ≡ false) × (t ≡ reached keeps s i a v)

-- what a state of such a kind is
pub record Fit (direct keeps : Bool) (s : State) : Type 0 where
  pub bufferless : direct ≡ true → (i : ℕ) → s.sb i ≡ []
  pub copyless : keeps ≡ false → (i : ℕ) → s.ib i ≡ []
  pub apart : (i a : ℕ) → none_of (entry_at a) (s.sb i) ≡ false → none_of (entry_at a) (s.ib i) ≡ true

-- ## States

module _ (s : State) (i : ℕ) where
  same : (b : Buffer) → s.ib i ≡ b → invalidated s i b ≡ s
  same b e = ap (λ f. record { memory = s.memory; sb = s.sb; ib = f }) (ap (upd s.ib i) (sym e) ∙ upd_self s.ib i)

  dropped_none : (a : ℕ) → none_of (entry_at a) (s.ib i) ≡ true → dropped s i a ≡ s
  dropped_none a n = same (without (entry_at a) (s.ib i)) (sym (rest_none (entry_at a) (s.ib i) n))

  dropped_nil : (a : ℕ) → s.ib i ≡ [] → dropped s i a ≡ s
  dropped_nil a e = dropped_none a (ap (none_of (entry_at a)) e)

  newest_none : (a : ℕ) → none_of (entry_at a) (s.sb i) ≡ true → newest_word s i a ≡ s.memory a
  newest_none a n = ap (λ o. word_else o (s.memory a)) (youngest_none (entry_at a) None (s.sb i) n)

  left_reached : (a v : ℕ) (left : Buffer) → left ≡ without_oldest (entry_at a) (s.sb i) → dequeued s i a v left ≡ reached false s i a v
  left_reached a v left e = ap (λ l. dequeued s i a v l) e

-- a rule's value and state, written in another way
moved : (R : Action → State → State → Type 0) (x : ℕ → Action) (s : State) (v w : ℕ) (t u : State) → w ≡ v → u ≡ t → R (x v) s t → R (x w) s u
moved R x s v w t u p q r = subst (λ y. R (x y) s u) (sym p) (subst (R (x v) s) (sym q) r)

-- ## SC

sc_fires : {x : Action} {s t : State} → Sc x s t → Fit true false s → Fires true false false x s t
sc_fires (sc-Ld i a s) fit = (sym (newest_none s i a (ap (none_of (entry_at a)) (fit.bufferless refl i))), sym (dropped_nil s i a (fit.copyless refl i)))
sc_fires (sc-St i a v s) fit = refl
sc_fires (sc-Com i s) fit = (fit.bufferless refl i, refl)
sc_fires (sc-Rec i s) fit = sym (same s i [] (fit.copyless refl i))

fires_sc : (x : Action) (s t : State) → Fit true false s → Fires true false false x s t → Sc x s t
fires_sc (load i a v) s t fit f =
    moved Sc (load i a) s (s.memory a) v s t (f.0 ∙ newest_none s i a (ap (none_of (entry_at a)) (fit.bufferless refl i))) (f.1 ∙ dropped_nil s i a (fit.copyless refl i)) (sc-Ld i a s)
fires_sc (load_stale i a v) s t fit f = absurd (false≢true f.0)
fires_sc (store i a v) s t fit f = subst (Sc (store i a v) s) (sym f) (sc-St i a v s)
fires_sc (commit i) s t fit f = subst (Sc (commit i) s) (sym f.1) (sc-Com i s)
fires_sc (reconcile i) s t fit f = subst (Sc (reconcile i) s) (sym (f ∙ same s i [] (fit.copyless refl i))) (sc-Rec i s)
fires_sc (dequeue i a v) s t fit f =
    let n = ap (oldest (entry_at a)) (sym (fit.bufferless refl i)) ∙ f.0 in
    absurd cc

-- ## TSO and PSO

module _ (order : Bool) where
  buffering_fires : {x : Action} {s t : State} → Buffering x s t → Fit false false s → Fires false order false x s t
  buffering_fires (buffer-LdSb i a v s y) fit = (sym (youngest_is a y None (s.memory a)), sym (dropped_nil s i a (fit.copyless refl i)))
  buffering_fires (buffer-LdMem i a s n) fit = (sym (newest_none s i a (absent_is a n)), sym (dropped_nil s i a (fit.copyless refl i)))
  buffering_fires (buffer-St i a v s) fit = sym (dropped_nil (enqueued s i a v) i a (fit.copyless refl i))
  buffering_fires (buffer-Com i s e) fit = (e, refl)
  buffering_fires (buffer-Rec i s) fit = sym (same s i [] (fit.copyless refl i))

  fires_buffering : (R : Action → State → State → Type 0) → ((x : Action) (s t : State) → Buffering x s t → R x s t)
      → ((i a v : ℕ) (s : State) → oldest (entry_at a) (s.sb i) ≡ Some (a, v) → (order && behind (entry_at a) (s.sb i)) ≡ false → R (dequeue i a v) s (reached false s i a v))
      → (x : Action) (s t : State) → Fit false false s → Fires false order false x s t → R x s t
  fires_buffering R wrap deq (load i a v) s t fit f =
      wrap (load i a v) s t
      (⊎_elim
      (λ n. moved Buffering (load i a) s (s.memory a) v s t (f.0 ∙ newest_none s i a n) u (buffer-LdMem i a s (absent_from a (s.sb i) n)))
      (λ n. moved Buffering (load i a) s (newest_word s i a) v s t f.0 u (buffer-LdSb i a (newest_word s i a) s (youngest_from a (s.sb i) None (s.memory a) n)))
      (cases_Bool (none_of (entry_at a) (s.sb i))))
    where
      u : t ≡ s
      u = f.1 ∙ dropped_nil s i a (fit.copyless refl i)
  fires_buffering R wrap deq (load_stale i a v) s t fit f = absurd (false≢true f.0)
  fires_buffering R wrap deq (store i a v) s t fit f =
      subst (R (store i a v) s) (sym (f ∙ dropped_nil (enqueued s i a v) i a (fit.copyless refl i))) (wrap (store i a v) s (enqueued s i a v) (buffer-St i a v s))
  fires_buffering R wrap deq (commit i) s t fit f = subst (R (commit i) s) (sym f.1) (wrap (commit i) s s (buffer-Com i s f.0))
  fires_buffering R wrap deq (reconcile i) s t fit f = subst (R (reconcile i) s) (sym (f ∙ same s i [] (fit.copyless refl i))) (wrap (reconcile i) s s (buffer-Rec i s))
  fires_buffering R wrap deq (dequeue i a v) s t fit f = subst (R (dequeue i a v) s) (sym f.2) (deq i a v s f.0 f.1)

tso_fires : {x : Action} {s t : State} → Tso x s t → Fit false false s → Fires false true false x s t
tso_fires (tso x s t r) fit = buffering_fires true r fit
tso_fires (tso-DeqSb i a v s left e) fit =
    let o = oldest_is a (subst (λ b. RmOldest a b v left) (sym e) (oldest_here v left)) in
    (o.0, ap (behind (entry_at a)) e ∙ not_from_true (eqb a a) (eq-eqb a a refl), left_reached s i a v left o.1)

fires_tso : (x : Action) (s t : State) → Fit false false s → Fires false true false x s t → Tso x s t
fires_tso = fires_buffering true Tso tso (λ i a v s e n. tso-DeqSb i a v s (without_oldest (entry_at a) (s.sb i)) (first a v (s.sb i) e n))
  where
    first : (a v : ℕ) (b : Buffer) → oldest (entry_at a) b ≡ Some (a, v) → behind (entry_at a) b ≡ false → b ≡ (a, v) ∷ without_oldest (entry_at a) b
    first a v [] e n = absurd cc
    first a v (x ∷ b) e n =
        let t = not-false (eqb x.0 a) n in
        let s : Some x ≡ Some (a, v) = sym (cond-true (eqb x.0 a) (Some x) (oldest (entry_at a) b) t) ∙ e in
        let i : x ≡ (a, v) = cc in
        ap₂ (λ y l. y ∷ l) i (sym (cond-true (eqb x.0 a) b (x ∷ without_oldest (entry_at a) b) t))

pso_fires : {x : Action} {s t : State} → Pso x s t → Fit false false s → Fires false false false x s t
pso_fires (pso x s t r) fit = buffering_fires false r fit
pso_fires (pso-DeqSb i a v s left r) fit = let o = oldest_is a r in (o.0, refl, left_reached s i a v left o.1)

fires_pso : (x : Action) (s t : State) → Fit false false s → Fires false false false x s t → Pso x s t
fires_pso = fires_buffering false Pso pso (λ i a v s e n. pso-DeqSb i a v s (without_oldest (entry_at a) (s.sb i)) (oldest_from_is a (s.sb i) (a, v) e))

-- ## WMM

module _ (i a : ℕ) (s : State) (j : ℕ) where
  abbrev old : Buffer
  old = s.ib j ++ (a, s.memory a) ∷ []

  insert_is : {b : Buffer} → Inserts i a s j b → b ≡ cond (gets_old s i a j) old (s.ib j)
  insert_is (inserts l ne n) =
      sym (cond-true (gets_old s i a j) old (s.ib j)
      (and_from (ltb j 4) _ (lt-ltb j 4 l) (and_from (not (eqb j i)) _ (not_from_false (eqb j i) (ne_eqb j i ne)) (absent_is a n))))
  insert_is (inserts_not_self e) =
      sym (cond-false (gets_old s i a j) old (s.ib j) (and_right (ltb j 4) _ (and_left (not (eqb j i)) _ (not_from_true (eqb j i) (eq-eqb j i e)))))
  insert_is (inserts_not_there p) =
      sym (cond-false (gets_old s i a j) old (s.ib j) (and_right (ltb j 4) _ (and_right (not (eqb j i)) _ (present_is a p))))
  insert_is (inserts_nobody l) = sym (cond-false (gets_old s i a j) old (s.ib j) (and_left (ltb j 4) _ (le-ltb j 4 l)))

  is_insert : Inserts i a s j (cond (gets_old s i a j) old (s.ib j))
  is_insert = go (ltb j 4) refl (eqb j i) refl (none_of (entry_at a) (s.sb j)) refl
    where
      go : (x : Bool) → ltb j 4 ≡ x → (y : Bool) → eqb j i ≡ y → (z : Bool) → none_of (entry_at a) (s.sb j) ≡ z → Inserts i a s j (cond (x && (not y && z)) old (s.ib j))
      go false l y e z n = inserts_nobody (ltb-false j 4 l)
      go true l true e z n = inserts_not_self (eqb-true j i e)
      go true l false e false n = inserts_not_there (present_from a (s.sb j) n)
      go true l false e true n = inserts (ltb-true j 4 l) (eqb-false j i e) (absent_from a (s.sb j) n)

wmm_fires : {x : Action} {s t : State} → Wmm x s t → Fit false true s → Fires false false true x s t
wmm_fires (wmm-LdSb i a v s y) fit = (sym (youngest_is a y None (s.memory a)), sym (dropped_none s i a (fit.apart i a (youngest_there a y))))
wmm_fires (wmm-LdMem i a s left n r) fit = (sym (newest_none s i a (absent_is a n)), ap (invalidated s i) (removed_is a r))
wmm_fires (wmm-LdIb i a v s left n r) fit = (refl, absent_is a n, left, r, refl)
wmm_fires (wmm-St i a v s left r) fit = ap (invalidated (enqueued s i a v) i) (removed_is a r)
wmm_fires (wmm-Com i s e) fit = (e, refl)
wmm_fires (wmm-Rec i s) fit = refl
wmm_fires (wmm-DeqSb i a v s left ib r ins) fit =
    let o = oldest_is a r in
    (o.0, refl, ap₂ (λ l f. record { memory = upd s.memory a v; sb = upd s.sb i l; ib = f }) o.1 (fun_ext (λ j. insert_is i a s j (ins j))))

fires_wmm : (x : Action) (s t : State) → Fit false true s → Fires false false true x s t → Wmm x s t
fires_wmm (load i a v) s t fit f =
    ⊎_elim
    (λ n. moved Wmm (load i a) s (s.memory a) v (dropped s i a) t (f.0 ∙ newest_none s i a n) f.1 (wmm-LdMem i a s (without (entry_at a) (s.ib i)) (absent_from a (s.sb i) n) (removed_from a (s.ib i))))
    (λ n. moved Wmm (load i a) s (newest_word s i a) v s t f.0 (f.1 ∙ dropped_none s i a (fit.apart i a n)) (wmm-LdSb i a (newest_word s i a) s (youngest_from a (s.sb i) None (s.memory a) n)))
    (cases_Bool (none_of (entry_at a) (s.sb i)))
fires_wmm (load_stale i a v) s t fit f = subst (Wmm (load_stale i a v) s) (sym f.4) (wmm-LdIb i a v s f.2 (absent_from a (s.sb i) f.1) f.3)
fires_wmm (store i a v) s t fit f = subst (Wmm (store i a v) s) (sym f) (wmm-St i a v s (without (entry_at a) (s.ib i)) (removed_from a (s.ib i)))
fires_wmm (commit i) s t fit f = subst (Wmm (commit i) s) (sym f.1) (wmm-Com i s f.0)
fires_wmm (reconcile i) s t fit f = subst (Wmm (reconcile i) s) (sym f) (wmm-Rec i s)
fires_wmm (dequeue i a v) s t fit f =
    subst (Wmm (dequeue i a v) s) (sym f.2)
    (wmm-DeqSb i a v s (without_oldest (entry_at a) (s.sb i)) (reached true s i a v).ib (oldest_from_is a (s.sb i) (a, v) f.0) (λ j. is_insert i a s j))

-- ## Any kind

wmm_traits : (k : ℕ) (P : Bool → Bool → Bool → Type 0) → P false false true → P (lands_directly (suc (suc (suc k)))) (lands_in_order (suc (suc (suc k)))) (keeps_copies (suc (suc (suc k))))
wmm_traits k P h =
    let n = suc (suc (suc k)) in
    subst (λ d. P d (eqb n 1) (leb 3 n)) (sym (ne_eqb n 0 (λ e. omega arith)))
    (subst (λ o. P false o (leb 3 n)) (sym (ne_eqb n 1 (λ e. omega arith))) (subst (P false false) (sym (le-leb 3 n (omega arith))) h))

pub rule_fires : (k : ℕ) (x : Action) (s t : State) → Fit (lands_directly k) (keeps_copies k) s → Rule k x s t → Fires (lands_directly k) (lands_in_order k) (keeps_copies k) x s t
rule_fires zero x s t = λ fit r. sc_fires r fit
rule_fires (suc zero) x s t = λ fit r. tso_fires r fit
rule_fires (suc (suc zero)) x s t = λ fit r. pso_fires r fit
rule_fires (suc (suc (suc k))) x s t = wmm_traits k (λ d o c. Fit d c s → Wmm x s t → Fires d o c x s t) (λ fit r. wmm_fires r fit)

pub fires_rule : (k : ℕ) (x : Action) (s t : State) → Fit (lands_directly k) (keeps_copies k) s → Fires (lands_directly k) (lands_in_order k) (keeps_copies k) x s t → Rule k x s t
fires_rule zero x s t = fires_sc x s t
fires_rule (suc zero) x s t = fires_tso x s t
fires_rule (suc (suc zero)) x s t = fires_pso x s t
fires_rule (suc (suc (suc k))) x s t = wmm_traits k (λ d o c. Fit d c s → Fires d o c x s t → Wmm x s t) (fires_wmm x s t)
