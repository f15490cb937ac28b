-- The outcomes of the calls of the four kinds, case by case.
use Rattle.std.proofs.Common.{◌≡◌, ℕ, ◌<◌, true, false, cond, ◌&&◌, Some, None, ap, ◌∙◌}
use Rattle.std.proofs.lemmas.Bool.{lt-ltb, ne_eqb}
use Rattle.model.specs.Lists.{oldest}
use Rattle.model.specs.declared.fault.Refusal.TheVariants.{Held as HeldBack, NoCore, Spent}
use Rattle.model.specs.declared.memory.StaleCopy.{StaleCopy}
use Rattle.model.specs.declared.memory.WaitingStore.{WaitingStore}
use Rattle.port.specs.Calls.{gives, unless, old_found, old_outcome, put_taken, put_outcome, landing_found, landing_outcome, reconcile_outcome, spent_refusal}
use Rattle.port.specs.Holdings.{Held, total, store_at, exact_copy, cell_value, store_of, landed, shown, after_old, after_reconcile, after_put, after_direct, after_landing}
use Rattle.port.specs.declared.stored.Stored.TheVariants.{Waiting, Landed}
use Rattle.port.proofs.Holdings.{on_map}
use Rattle.kinds.specs.Kinds.{lands_directly, lands_in_order, behind, choice_of}

pub reconcile_outcome_is : (h : Held) (p : ℕ) → p < 4 → reconcile_outcome h p ≡ gives tt (after_reconcile h p)
reconcile_outcome_is h p l = ap (λ b. unless (cond b None (Some NoCore)) p (gives tt (after_reconcile h p))) (lt-ltb p 4 l)

module _ (k : ℕ) (h : Held) (p a : ℕ) (lp : p < 4) (la : a < 8) where
  pub old_some : (s : ℕ) (c : StaleCopy) → oldest (exact_copy a s) (h.copies p) ≡ Some c → old_outcome (choice_of k h) h p a s ≡ gives (cell_value c.cell) (after_old h p a s)
  old_some s c e = on_map p a (old_found (choice_of k h) h p a s (oldest (exact_copy a s) (h.copies p))) lp la ∙ ap (old_found (choice_of k h) h p a s) e

  put_room : (word place : ℕ) → (total h ≡ 64 → ⊥) → put_outcome (choice_of k h) h p a word place ≡ put_taken (choice_of k h) h p (store_of p a word place) (lands_directly k)
  put_room word place ne =
      on_map p a (unless (spent_refusal h) p (put_taken (choice_of k h) h p (store_of p a word place) (lands_directly k))) lp la
      ∙ ap (λ b. unless (cond b (Some Spent) None) p (put_taken (choice_of k h) h p (store_of p a word place) (lands_directly k))) (ne_eqb (total h) 64 ne)

  pub put_lands : (word place : ℕ) → (total h ≡ 64 → ⊥) → lands_directly k ≡ true → put_outcome (choice_of k h) h p a word place ≡ gives (Landed (shown (landed (h.cell a) (store_of p a word place)))) (after_direct h p (store_of p a word place) ((choice_of k h).keeps p a))
  put_lands word place ne e = put_room word place ne ∙ ap (put_taken (choice_of k h) h p (store_of p a word place)) e

  pub put_waits : (word place : ℕ) → (total h ≡ 64 → ⊥) → lands_directly k ≡ false → put_outcome (choice_of k h) h p a word place ≡ gives Waiting (after_put h p (store_of p a word place))
  put_waits word place ne e = put_room word place ne ∙ ap (put_taken (choice_of k h) h p (store_of p a word place)) e

  landing_on : landing_outcome (choice_of k h) h p a ≡ landing_found (choice_of k h) h p a (oldest (store_at a) (h.waits p))
  landing_on = on_map p a (landing_found (choice_of k h) h p a (oldest (store_at a) (h.waits p))) lp la

  pub landing_free : (w : WaitingStore) → oldest (store_at a) (h.waits p) ≡ Some w → (lands_in_order k && behind (store_at a) (h.waits p)) ≡ false → landing_outcome (choice_of k h) h p a ≡ gives (shown (landed (h.cell a) w)) (after_landing h p a w ((choice_of k h).keeps p a))
  landing_free w e b =
      landing_on ∙ ap (landing_found (choice_of k h) h p a) e
      ∙ ap (λ t. unless (cond t (Some HeldBack) None) p (gives (shown (landed (h.cell a) w)) (after_landing h p a w ((choice_of k h).keeps p a)))) b
