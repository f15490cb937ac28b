-- The four kinds keep the laws, once for all of them.
use Rattle.std.proofs.Common.{◌≡◌, ℕ, zero, suc, Bool, true, false, cond, not, ◌&&◌, eqb, leb, List, [], ◌∷◌, Some, None, sym, refl, ap, ◌∙◌, arith}
use Rattle.std.proofs.lemmas.List.{nil_from_length}
use Rattle.std.proofs.lemmas.Bool.{true≢false, false≢true, and_parts, not-true, eqb-true, eq-eqb, le-leb, leb-true}
use Rattle.model.specs.Lists.{none_of}
use Rattle.model.specs.Orders.{entry}
use Rattle.model.specs.Tables.{AtLeast, strength, sc_table, tso_table, pso_table, wmm_table}
use Rattle.model.specs.declared.fault.Refusal.TheVariants.{Held as HeldBack}
use Rattle.model.specs.declared.line.LineKind.{LineKind}
use Rattle.model.specs.declared.line.LineKind.TheVariants.{Load, Store, Reconcile, Commit}
use Rattle.model.specs.declared.memory.WaitingStore.{WaitingStore}
use Rattle.model.specs.Orders.{Table}
use Rattle.port.specs.Holdings.{Held, store_at, may_keep}
use Rattle.port.specs.Laws.{Own, Bounds, Progress, copyless, NoCopies, in_order, InOrder, bufferless, Direct}
use Rattle.kinds.specs.Kinds.{table_of, lands_directly, lands_in_order, keeps_copies, behind, choice_of, Plain}

-- ## The tables and the traits

-- a table leaves room for copies exactly where they are kept
copyless_is : (k : ℕ) → copyless (table_of k) ≡ not (keeps_copies k)
copyless_is zero = refl
copyless_is (suc zero) = refl
copyless_is (suc (suc zero)) = refl
copyless_is (suc (suc (suc k))) = sym (ap not (le-leb 3 (suc (suc (suc k))) (omega arith)))

direct_is : (k : ℕ) → bufferless (table_of k) ≡ true → lands_directly k ≡ true
direct_is zero e = refl
direct_is (suc zero) e = absurd (false≢true e)
direct_is (suc (suc zero)) e = absurd (false≢true e)
direct_is (suc (suc (suc k))) e = absurd (false≢true e)

-- whose stores land in order: nothing waits, or only the oldest lands
order_is : (k : ℕ) → in_order (table_of k) ≡ true → lands_directly k ≡ false → lands_in_order k ≡ true
order_is zero e d = absurd (true≢false d)
order_is (suc zero) e d = refl
order_is (suc (suc zero)) e d = absurd (false≢true e)
order_is (suc (suc (suc k))) e d = absurd (false≢true e)

-- what holds of all four, by one computed test
every : (LineKind → Bool) → Bool
every f = f Load && (f Store && (f Reconcile && f Commit))

every_at : (f : LineKind → Bool) → every f ≡ true → (kind : LineKind) → f kind ≡ true
unfolding every
every_at f e Load = (and_parts (f Load) _ e).0
every_at f e Store = (and_parts (f Store) _ (and_parts (f Load) _ e).1).0
every_at f e Reconcile = (and_parts (f Reconcile) _ (and_parts (f Store) _ (and_parts (f Load) _ e).1).1).0
every_at f e Commit = (and_parts (f Reconcile) _ (and_parts (f Store) _ (and_parts (f Load) _ e).1).1).1

floor_by : (low high : Table) → every (λ earlier. every (λ later. leb (strength (entry low earlier later)) (strength (entry high earlier later)))) ≡ true → AtLeast low high
floor_by low high e earlier later =
    leb-true (strength (entry low earlier later)) (strength (entry high earlier later))
    (every_at (λ later. leb (strength (entry low earlier later)) (strength (entry high earlier later)))
    (every_at (λ earlier. every (λ later. leb (strength (entry low earlier later)) (strength (entry high earlier later)))) e earlier) later)

pub floor_of : (k : ℕ) → AtLeast wmm_table (table_of k)
unfolding every
floor_of zero = floor_by wmm_table sc_table refl
floor_of (suc zero) = floor_by wmm_table tso_table refl
floor_of (suc (suc zero)) = floor_by wmm_table pso_table refl
floor_of (suc (suc (suc k))) = floor_by wmm_table wmm_table refl

-- ## The laws

-- where a kind refuses, it is with the number of its own
pub own : (b : Bool) → Own (cond b (Some HeldBack) None)
own true = refl
own false = tt

module _ (k : ℕ) (h : Held) (plain : Plain k h) where
  empty : (p : ℕ) → lands_directly k ≡ true → h.waits p ≡ []
  empty p e = nil_from_length (h.waits p) (plain.0 p e)

  pub bounds_of : Bounds h (choice_of k h)
  bounds_of =
      record {
        lands = λ p a u l. ap (none_of (store_at a)) (empty p l);
        keeps = λ p a q e. (and_parts (keeps_copies k) (may_keep h p a q) e).1;
        old = λ p a s. tt;
        put = λ p a. tt;
        landing = λ p a. own (lands_in_order k && behind (store_at a) (h.waits p));
      }

  pub progress_of : Progress h (choice_of k h)
  progress_of =
      record {
        put = λ p a e. refl;
        landing =
            λ p w ws e.
            ap (λ l. cond (lands_in_order k && behind (store_at w.address) l) (Some HeldBack) None) e
            ∙ ap (λ b. cond (lands_in_order k && not b) (Some HeldBack) None) (eq-eqb w.address w.address refl)
            ∙ never (lands_in_order k);
      }
    where
      never : (b : Bool) → cond (b && false) (Some HeldBack) None ≡ None
      never true = refl
      never false = refl

  pub copyless_of : NoCopies (table_of k) h (choice_of k h)
  copyless_of =
      record {
        holds = λ e p. nil_from_length (h.copies p) (plain.1 p (kept e));
        keeps = λ e p a q. ap (λ b. b && may_keep h p a q) (kept e);
      }
    where
      kept : copyless (table_of k) ≡ true → keeps_copies k ≡ false
      kept e = not-true (keeps_copies k) (sym (copyless_is k) ∙ e)

  pub ordered_of : InOrder (table_of k) h (choice_of k h)
  ordered_of =
      record {
        put = λ e p a u l. empty p l;
        landing = λ e p a w ws q n free. go e p a w ws q n free (lands_directly k) refl;
      }
    where
      first : (b : Bool) (a : ℕ) (w : WaitingStore) → b ≡ true → cond (b && not (eqb w.address a)) (Some HeldBack) None ≡ None → w.address ≡ a
      first b a w t free = go (eqb w.address a) refl (sym (ap (λ x. cond (x && not (eqb w.address a)) (Some HeldBack) None) t) ∙ free)
        where
          go : (c : Bool) → eqb w.address a ≡ c → cond (not c) (Some HeldBack) None ≡ None → w.address ≡ a
          go true q r = eqb-true w.address a q
          go false q r = absurd cc

      go : in_order (table_of k) ≡ true → (p a : ℕ) (w : WaitingStore) (ws : List WaitingStore) → h.waits p ≡ w ∷ ws → none_of (store_at a) (w ∷ ws) ≡ false → (choice_of k h).refuses_landing p a ≡ None → (d : Bool) → lands_directly k ≡ d → w.address ≡ a
      go e p a w ws q n free true d = let z : w ∷ ws ≡ [] = sym q ∙ empty p d in absurd cc
      go e p a w ws q n free false d =
          first (lands_in_order k) a w (order_is k e d)
          (sym (ap (λ l. cond (lands_in_order k && behind (store_at a) l) (Some HeldBack) None) q) ∙ free)

  pub direct_of : Direct (table_of k) (choice_of k h)
  direct_of e p a u = direct_is k e
