-- What each call makes of what is held is what its published rule makes of the state, serials and origins forgotten.
use Rattle.std.proofs.Common.{◌≡◌, ℕ, ◌<◌, Bool, true, false, cond, not, ◌&&◌, eqb, ltb, List, [], ◌∷◌, ◌++◌, map, length, Some, None, Ok, Option, sym, refl, ap, ◌∙◌, subst, ap₂, arith}
use mathlib.Core.Path.{fun_ext}
use Rattle.std.proofs.ByRecursion.{All-weaker}
use Rattle.std.proofs.lemmas.List.{nil_from_length, map_push, length-map}
use Rattle.std.proofs.lemmas.Bool.{cond-true, cond-false, eqb-true, ne_eqb, lt-leb, and_parts, both_ways}
use Rattle.model.specs.Lists.{upd, none_of, oldest, without_oldest, youngest, without}
use Rattle.model.proofs.Lists.{upd_self, oldest_passes}
use Rattle.model.specs.declared.memory.Cell.{Cell}
use Rattle.model.specs.declared.memory.Origin.{Origin}
use Rattle.model.specs.declared.memory.StaleCopy.{StaleCopy}
use Rattle.model.specs.declared.memory.WaitingStore.{WaitingStore}
use Rattle.port.specs.Calls.{gives, old_found}
use Rattle.port.specs.Holdings.{Held, Value, store_at, copy_at, exact_copy, older_copy, store_else, newest, with_copies, after_newest, after_old, after_reconcile, store_of, landed, shown, may_keep, overwritten, keeping, after_put, after_direct, after_landing}
use Rattle.port.specs.Laws.{Sound, NoneAt}
use Rattle.port.specs.declared.stored.Stored.{Stored}
use Rattle.port.specs.declared.stored.Stored.TheVariants.{Waiting, Landed}
use Rattle.port.proofs.Holdings.{on_map}
use Rattle.kinds.specs.Kinds.{lands_directly, lands_in_order, keeps_copies, behind, choice_of, Plain}
use Rattle.kinds.specs.Agreement.{Agrees, EachStale}
use Rattle.kinds.specs.Published.{Buffer, State, forget, load, load_stale, store, commit, reconcile, dequeue, wrote, enqueued, invalidated, Rule}
use Rattle.kinds.proofs.Buffers.{mapped, through, upd_through, none_map, oldest_map, left_map, rest_map, youngest_map, none_from_all, all_oldest, entry_at, word_else, copy_entry, random_is, random_from}
use Rattle.kinds.proofs.Rules.{newest_word, dropped, reached, Fit, rule_fires, fires_rule}

abbrev store_entry : WaitingStore → ℕ × ℕ
store_entry w = (w.address, w.word)

-- ## What is forgotten

behind_map : (a : ℕ) (ws : List WaitingStore) → behind (store_at a) ws ≡ behind (entry_at a) (map store_entry ws)
behind_map a [] = refl
behind_map a (w ∷ ws) = refl

module _ (h : Held) (p : ℕ) where
  forget_copies : (cs : List StaleCopy) → forget (with_copies h p cs) ≡ invalidated (forget h) p (map copy_entry cs)
  forget_copies cs = ap (λ f. record { memory = (forget h).memory; sb = (forget h).sb; ib = f }) (upd_through (map copy_entry) h.copies p cs)

  forget_newest : (a : ℕ) → forget (after_newest h p a) ≡ dropped (forget h) p a
  forget_newest a = forget_copies (without (copy_at a) (h.copies p)) ∙ ap (invalidated (forget h) p) (sym (rest_map copy_entry (entry_at a) (h.copies p)))

  forget_put : (w : WaitingStore) → forget (after_put h p w) ≡ dropped (enqueued (forget h) p w.address w.word) p w.address
  forget_put w =
      ap₂ (λ f g. record { memory = (forget h).memory; sb = f; ib = g })
      (upd_through (map store_entry) h.waits p (h.waits p ++ w ∷ []) ∙ ap (upd (forget h).sb p) (map_push store_entry (h.waits p) w))
      (upd_through (map copy_entry) h.copies p (without (copy_at w.address) (h.copies p)) ∙ ap (upd (forget h).ib p) (sym (rest_map copy_entry (entry_at w.address) (h.copies p))))

  newest_word_is : (a : ℕ) → (newest h p a).0 ≡ newest_word (forget h) p a
  newest_word_is a = go (youngest (store_at a) (h.waits p)) ∙ ap (λ o. word_else o (h.cell a).word) (sym (youngest_map store_entry (entry_at a) None (h.waits p)))
    where
      go : (o : Option WaitingStore) → (store_else o (h.cell a)).0 ≡ word_else (mapped store_entry o) (h.cell a).word
      go None = refl
      go (Some w) = refl

  waiting_nil : length (h.waits p) ≡ 0 → (forget h).sb p ≡ []
  waiting_nil e = ap (map store_entry) (nil_from_length (h.waits p) e)

  forget_landing : (keeps : Bool) (a : ℕ) (w : WaitingStore) → forget (after_landing h p a w (λ q. keeps && may_keep h p a q)) ≡ reached keeps (forget h) p a w.word
  forget_landing keeps a w =
      ap₂ (λ (m : ℕ → ℕ) (fg : (ℕ → Buffer) × (ℕ → Buffer)). record { memory = m; sb = fg.0; ib = fg.1 })
      (upd_through (λ (c : Cell). c.word) h.cell a (landed (h.cell a) w))
      (ap₂ (λ f g. (f, g))
      (upd_through (map store_entry) h.waits p (without_oldest (store_at a) (h.waits p)) ∙ ap (upd (forget h).sb p) (sym (left_map store_entry (entry_at a) (h.waits p))))
      (fun_ext (λ q.
      through (map copy_entry) (keeps && may_keep h p a q) (h.copies q ++ overwritten h a ∷ []) (h.copies q)
      ∙ ap₂ (λ b l. cond (keeps && (ltb q 4 && (not (eqb q p) && b))) l (map copy_entry (h.copies q))) (sym (none_map store_entry (entry_at a) (h.waits q))) (map_push copy_entry (h.copies q) (overwritten h a)))))

-- ## The calls

module _ (k : ℕ) (h : Held) (sound : Sound h) (plain : Plain k h) where
  fit : Fit (lands_directly k) (keeps_copies k) (forget h)
  fit =
      record {
        bufferless = λ e i. waiting_nil h i (plain.0 i e);
        copyless = λ e i. ap (map copy_entry) (nil_from_length (h.copies i) (plain.1 i e));
        apart = λ i a n.
            none_map copy_entry (entry_at a) (h.copies i)
            ∙ none_from_all (copy_at a) (h.copies i)
            (All-weaker (λ c. NoneAt c.address (h.waits i)) (λ c. copy_at a c ≡ false)
            (λ c o. ne_eqb c.address a (λ e. both_ways (none_of (store_at a) (h.waits i)) (sym (none_map store_entry (entry_at a) (h.waits i)) ∙ n) (subst (λ b. NoneAt b (h.waits i)) e o)))
            (h.copies i) (sound.apart i));
      }

  pub newest_agrees : (p a : ℕ) → p < 4 → a < 8 → Agrees (λ v t. Rule k (load p a v) (forget h) t) (λ (x : Value). x.0) (forget (after_newest h p a)) (Ok (newest h p a))
  newest_agrees p a lp la = (
    fires_rule k (load p a (newest h p a).0) (forget h) (forget (after_newest h p a)) fit (newest_word_is h p a, forget_newest h p a),
    λ v t r. let f = rule_fires k (load p a v) (forget h) t fit r in (f.0 ∙ sym (newest_word_is h p a), f.1 ∙ sym (forget_newest h p a)),
  )

  pub put_agrees : (p a word place : ℕ) → p < 4 → a < 8 → lands_directly k ≡ false
      → Agrees (λ (u : Unit {0}) t. Rule k (store p a word) (forget h) t) (λ (x : Stored). tt) (forget (after_put h p (store_of p a word place))) (Ok Waiting)
  put_agrees p a word place lp la n =
      (fires_rule k (store p a word) (forget h) _ fit e, λ u t r. (refl, rule_fires k (store p a word) (forget h) t fit r ∙ sym e))
    where
      e : forget (after_put h p (store_of p a word place)) ≡ cond (lands_directly k) (wrote (forget h) a word) (dropped (enqueued (forget h) p a word) p a)
      e = forget_put h p (store_of p a word place) ∙ sym (cond-false (lands_directly k) (wrote (forget h) a word) (dropped (enqueued (forget h) p a word) p a) n)

  pub direct_agrees : (p a word place : ℕ) (x : ℕ × ℕ × Origin) → p < 4 → a < 8 → lands_directly k ≡ true
      → Agrees (λ (u : Unit {0}) t. Rule k (store p a word) (forget h) t) (λ (x : Stored). tt) (forget (after_direct h p (store_of p a word place) ((choice_of k h).keeps p a))) (Ok (Landed x))
  direct_agrees p a word place x lp la d =
      (fires_rule k (store p a word) (forget h) _ fit e, λ u t r. (refl, rule_fires k (store p a word) (forget h) t fit r ∙ sym e))
    where
      none : keeps_copies k ≡ false
      none = let z = eqb-true k 0 d in lt-leb 3 k (omega arith)

      still : upd h.copies p (without (copy_at a) (h.copies p)) ≡ h.copies
      still =
          let n = nil_from_length (h.copies p) (plain.1 p none) in
          ap (upd h.copies p) (ap (without (copy_at a)) n ∙ sym n) ∙ upd_self h.copies p

      e : forget (after_direct h p (store_of p a word place) ((choice_of k h).keeps p a)) ≡ cond (lands_directly k) (wrote (forget h) a word) (dropped (enqueued (forget h) p a word) p a)
      e =
          ap₂ (λ m g. record { memory = m; sb = (forget h).sb; ib = g })
          (upd_through (λ (c : Cell). c.word) h.cell a (landed (h.cell a) (store_of p a word place)))
          (fun_ext (λ q.
          ap (λ (f : ℕ → List StaleCopy). map copy_entry (keeping ((choice_of k h).keeps p a) (overwritten h a) f q)) still
          ∙ ap (λ b. map copy_entry (cond (b && may_keep h p a q) (h.copies q ++ overwritten h a ∷ []) (h.copies q))) none))
          ∙ sym (cond-true (lands_directly k) (wrote (forget h) a word) (dropped (enqueued (forget h) p a word) p a) d)

  -- a landing that is accepted
  pub landing_agrees : (p a : ℕ) (w : WaitingStore) → p < 4 → a < 8 → oldest (store_at a) (h.waits p) ≡ Some w → (lands_in_order k && behind (store_at a) (h.waits p)) ≡ false
      → Agrees (λ v t. Rule k (dequeue p a v) (forget h) t) (λ (x : ℕ × ℕ × Origin). x.0) (forget (after_landing h p a w ((choice_of k h).keeps p a))) (Ok (shown (landed (h.cell a) w)))
  landing_agrees p a w lp la e n = (
    fires_rule k (dequeue p a w.word) (forget h) (forget (after_landing h p a w ((choice_of k h).keeps p a))) fit (found, ap (λ b. lands_in_order k && b) (sym (behind_map a (h.waits p))) ∙ n, forget_landing h p (keeps_copies k) a w),
    λ v t r.
        let f = rule_fires k (dequeue p a v) (forget h) t fit r in
        let i : v ≡ w.word = ap (λ o. word_else o 0) (sym f.0 ∙ found) in
        (i, f.2 ∙ ap (reached (keeps_copies k) (forget h) p a) i ∙ sym (forget_landing h p (keeps_copies k) a w)),
  )
    where
      found : oldest (entry_at a) ((forget h).sb p) ≡ Some (a, w.word)
      found =
          oldest_map store_entry (entry_at a) (h.waits p) ∙ ap (mapped store_entry) e
          ∙ ap (λ b. Some (b, w.word)) (eqb-true w.address a (oldest_passes (store_at a) (h.waits p) w e))

  -- and one that is not
  pub no_landing : (p a : ℕ) → p < 4 → a < 8 → oldest (store_at a) (h.waits p) ≡ None → (v : ℕ) (t : State) → Rule k (dequeue p a v) (forget h) t → ⊥
  no_landing p a lp la e v t r =
      let f = rule_fires k (dequeue p a v) (forget h) t fit r in
      let o : ◌≡◌ {A = Option (ℕ × ℕ)} None (Some (a, v)) = sym (oldest_map store_entry (entry_at a) (h.waits p) ∙ ap (mapped store_entry) e) ∙ f.0 in
      cc

  pub no_landing_behind : (p a : ℕ) (w : WaitingStore) → p < 4 → a < 8 → oldest (store_at a) (h.waits p) ≡ Some w → (lands_in_order k && behind (store_at a) (h.waits p)) ≡ true → (v : ℕ) (t : State) → Rule k (dequeue p a v) (forget h) t → ⊥
  no_landing_behind p a w lp la e n v t r =
      both_ways (lands_in_order k && behind (store_at a) (h.waits p))
      (ap (λ b. lands_in_order k && b) (behind_map a (h.waits p)) ∙ (rule_fires k (dequeue p a v) (forget h) t fit r).1) n

  pub commit_agrees : (p : ℕ) → p < 4 → length (h.waits p) ≡ 0 → Agrees (λ (u : Unit {0}) t. Rule k (commit p) (forget h) t) (λ (x : Unit {0}). tt) (forget h) (Ok tt)
  commit_agrees p lp e =
      (fires_rule k (commit p) (forget h) (forget h) fit (waiting_nil h p e, refl), λ u t r. (refl, (rule_fires k (commit p) (forget h) t fit r).1))

  pub no_commit : (p : ℕ) → p < 4 → (length (h.waits p) ≡ 0 → ⊥) → (u : Unit {0}) (t : State) → Rule k (commit p) (forget h) t → ⊥
  no_commit p lp ne u t r = ne (sym (length-map (h.waits p) store_entry) ∙ ap length (rule_fires k (commit p) (forget h) t fit r).0)

  pub reconcile_agrees : (p : ℕ) → p < 4 → Agrees (λ (u : Unit {0}) t. Rule k (reconcile p) (forget h) t) (λ (x : Unit {0}). tt) (forget (after_reconcile h p)) (Ok tt)
  reconcile_agrees p lp = (
    fires_rule k (reconcile p) (forget h) (forget (after_reconcile h p)) fit (forget_copies h p []),
    λ u t r. (refl, rule_fires k (reconcile p) (forget h) t fit r ∙ sym (forget_copies h p [])),
  )

  pub old_agrees : (p a s : ℕ) (c : StaleCopy) → p < 4 → a < 8 → oldest (exact_copy a s) (h.copies p) ≡ Some c → Rule k (load_stale p a c.cell.word) (forget h) (forget (after_old h p a s))
  old_agrees p a s c lp la e =
      fires_rule k (load_stale p a c.cell.word) (forget h) (forget (after_old h p a s)) fit (
        go (keeps_copies k) refl,
        none_map store_entry (entry_at a) (h.waits p) ∙ subst (λ b. NoneAt b (h.waits p)) at (all_oldest (exact_copy a s) (λ c. NoneAt c.address (h.waits p)) (h.copies p) c (sound.apart p) e),
        map copy_entry (without (older_copy a s) (h.copies p)),
        random_from a s (h.copies p) (sound.rising p) c e,
        forget_copies h p (without (older_copy a s) (h.copies p)),
      )
    where
      at : c.address ≡ a
      at = eqb-true c.address a (and_parts (eqb c.address a) (eqb c.cell.serial s) (oldest_passes (exact_copy a s) (h.copies p) c e)).0

      go : (b : Bool) → keeps_copies k ≡ b → b ≡ true
      go true q = refl
      go false q =
          let n = ap (oldest (exact_copy a s)) (nil_from_length (h.copies p) (plain.1 p q)) in
          absurd cc

  pub each_stale : (p a : ℕ) → p < 4 → a < 8 → EachStale k p a h
  each_stale p a lp la v t r =
      let f = rule_fires k (load_stale p a v) (forget h) t fit r in
      let o = random_is a (h.copies p) (sound.rising p) v f.2 f.3 in
      let c = o.0 in
      let s = c.cell.serial in (
        s,
        c.cell.origin,
        after_old h p a s,
        on_map p a _ lp la ∙ ap (old_found (choice_of k h) h p a s) o.1 ∙ ap (λ x. gives (x, c.cell.origin) (after_old h p a s)) o.2,
        forget_copies h p (without (older_copy a s) (h.copies p)) ∙ ap (invalidated (forget h) p) o.3 ∙ sym f.4,
      )
