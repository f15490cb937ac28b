-- What each call answers, from what its moves leave held: the port's outcome, and the published rule.
use Rattle.std.proofs.Common.{◌≡◌, ℕ, ◌<◌, true, false, ◌&&◌, eqb, List, [], Some, Ok, refl, ap}
use Rattle.std.proofs.lemmas.Bool.{eqb-false}
use Rattle.kinds.specs.Agreement.{LandingAgrees, LoadAgrees, ReconcileAgrees, StaleLoadAgrees, StoreAgrees}
use Rattle.kinds.specs.Kinds.{behind, choice_of, lands_directly, lands_in_order}
use Rattle.kinds.proofs.Agreement.{direct_agrees, each_stale, landing_agrees, newest_agrees, old_agrees, put_agrees, reconcile_agrees}
use Rattle.kinds.proofs.Outcomes.{landing_free, old_some, put_lands, put_waits, reconcile_outcome_is}
use Rattle.model.specs.Lists.{oldest}
use Rattle.model.specs.declared.memory.Origin.{Origin}
use Rattle.model.specs.declared.memory.StaleCopy.{StaleCopy}
use Rattle.model.specs.declared.memory.WaitingStore.{WaitingStore}
use Rattle.port.specs.Calls.{Outcome, gives, landing_outcome, newest_outcome, old_outcome, put_outcome, reconcile_outcome}
use Rattle.port.specs.Holdings.{Held, Value, after_direct, after_landing, after_newest, after_old, after_put, after_reconcile, cell_value, exact_copy, landed, newest, shown, store_at, store_of, total}
use Rattle.port.specs.declared.stored.Stored.{Stored}
use Rattle.port.specs.declared.stored.Stored.TheVariants.{Waiting, Landed}
use Rattle.port.proofs.Holdings.{on_map}
use Rattle.machine.specs.View.{held_of}
use Rattle.machine.specs.declared.access.Access.{Access}
use Rattle.machine.specs.declared.buffered.Buffered.{Buffered}
use Rattle.machine.proofs.Values.{carried}
use Rattle.machine.specs.Soundness.{sound_value}

-- an accepted call, as the port has it
abbrev Accepted : {X : Type 0} → Outcome X → X → Held → Type 0
Accepted outcome x t = (outcome ≡ gives x t) × (◌≡◌ {A = List ℕ} [] [])

module _ (k : ℕ) (m : Buffered k) (p : ℕ) where
  pub reconciled : (t : Held) → t ≡ after_reconcile (held_of m) p → p < 4 → Accepted (reconcile_outcome (held_of m) p) tt t × ReconcileAgrees k p (held_of m) t (Ok tt)
  reconciled t e lp =
      carried (λ (x : Unit {0}) u. Accepted (reconcile_outcome (held_of m) p) x u × ReconcileAgrees k p (held_of m) u (Ok x)) tt tt t (after_reconcile (held_of m) p) refl e
      ((reconcile_outcome_is (held_of m) p lp, refl), reconcile_agrees k (held_of m) (sound_value k m) m.plain p)

module _ (k : ℕ) (m : Buffered k) (i : Access) where
  pub newest_read : (x : Value) (t : Held) → x ≡ newest (held_of m) i.processor i.address → t ≡ after_newest (held_of m) i.processor i.address → Accepted (newest_outcome (held_of m) i.processor i.address) x t × LoadAgrees k i.processor i.address (held_of m) t (Ok x)
  newest_read x t e f =
      carried (λ (y : Value) u. Accepted (newest_outcome (held_of m) i.processor i.address) y u × LoadAgrees k i.processor i.address (held_of m) u (Ok y)) x (newest (held_of m) i.processor i.address) t (after_newest (held_of m) i.processor i.address) e f
      ((on_map i.processor i.address (gives (newest (held_of m) i.processor i.address) (after_newest (held_of m) i.processor i.address)) i.on_core i.on_map, refl), newest_agrees k (held_of m) (sound_value k m) m.plain i.processor i.address)

  pub old_read : (s : ℕ) (c : StaleCopy) (t : Held) → oldest (exact_copy i.address s) ((held_of m).copies i.processor) ≡ Some c → t ≡ after_old (held_of m) i.processor i.address s → Accepted (old_outcome (choice_of k (held_of m)) (held_of m) i.processor i.address s) (cell_value c.cell) t × StaleLoadAgrees k i.processor i.address (held_of m) t (Ok (cell_value c.cell))
  old_read s c t found e =
      carried (λ (y : Value) u. Accepted (old_outcome (choice_of k (held_of m)) (held_of m) i.processor i.address s) y u × StaleLoadAgrees k i.processor i.address (held_of m) u (Ok y)) (cell_value c.cell) (cell_value c.cell) t (after_old (held_of m) i.processor i.address s) refl e (
        (old_some k (held_of m) i.processor i.address i.on_core i.on_map s c found, refl),
        λ l n. (old_agrees k (held_of m) (sound_value k m) m.plain i.processor i.address s c l n found, each_stale k (held_of m) (sound_value k m) m.plain i.processor i.address l n),
      )

  module _ (word place : ℕ) (room : eqb (total (held_of m)) 64 ≡ false) where
    pub put_landed : (x : ℕ × ℕ × Origin) (t : Held) → lands_directly k ≡ true → x ≡ shown (landed ((held_of m).cell i.address) (store_of i.processor i.address word place)) → t ≡ after_direct (held_of m) i.processor (store_of i.processor i.address word place) ((choice_of k (held_of m)).keeps i.processor i.address)
        → Accepted (put_outcome (choice_of k (held_of m)) (held_of m) i.processor i.address word place) (Landed x) t × StoreAgrees k i.processor i.address word (held_of m) t (Ok (Landed x))
    put_landed x t lands e f =
        carried (λ (y : Stored) u. Accepted (put_outcome (choice_of k (held_of m)) (held_of m) i.processor i.address word place) y u × StoreAgrees k i.processor i.address word (held_of m) u (Ok y)) (Landed x) (Landed (shown (landed ((held_of m).cell i.address) (store_of i.processor i.address word place)))) t (after_direct (held_of m) i.processor (store_of i.processor i.address word place) ((choice_of k (held_of m)).keeps i.processor i.address)) (ap Landed e) f (
          (put_lands k (held_of m) i.processor i.address i.on_core i.on_map word place (eqb-false (total (held_of m)) 64 room) lands, refl),
          λ l n r. direct_agrees k (held_of m) (sound_value k m) m.plain i.processor i.address word place (shown (landed ((held_of m).cell i.address) (store_of i.processor i.address word place))) l n lands,
        )

    pub put_waiting : (t : Held) → lands_directly k ≡ false → t ≡ after_put (held_of m) i.processor (store_of i.processor i.address word place) → Accepted (put_outcome (choice_of k (held_of m)) (held_of m) i.processor i.address word place) Waiting t × StoreAgrees k i.processor i.address word (held_of m) t (Ok Waiting)
    put_waiting t waits f =
        carried (λ (y : Stored) u. Accepted (put_outcome (choice_of k (held_of m)) (held_of m) i.processor i.address word place) y u × StoreAgrees k i.processor i.address word (held_of m) u (Ok y)) Waiting Waiting t (after_put (held_of m) i.processor (store_of i.processor i.address word place)) refl f
        ((put_waits k (held_of m) i.processor i.address i.on_core i.on_map word place (eqb-false (total (held_of m)) 64 room) waits, refl), λ l n r. put_agrees k (held_of m) (sound_value k m) m.plain i.processor i.address word place l n waits)

  module _ (w : WaitingStore) (found : oldest (store_at i.address) ((held_of m).waits i.processor) ≡ Some w) where
    pub landing_done : (x : ℕ × ℕ × Origin) (t : Held) → (lands_in_order k && behind (store_at i.address) ((held_of m).waits i.processor)) ≡ false → x ≡ shown (landed ((held_of m).cell i.address) w) → t ≡ after_landing (held_of m) i.processor i.address w ((choice_of k (held_of m)).keeps i.processor i.address)
        → Accepted (landing_outcome (choice_of k (held_of m)) (held_of m) i.processor i.address) x t × LandingAgrees k i.processor i.address (held_of m) t (Ok x)
    landing_done x t free e f =
        carried (λ (y : ℕ × ℕ × Origin) u. Accepted (landing_outcome (choice_of k (held_of m)) (held_of m) i.processor i.address) y u × LandingAgrees k i.processor i.address (held_of m) u (Ok y)) x (shown (landed ((held_of m).cell i.address) w)) t (after_landing (held_of m) i.processor i.address w ((choice_of k (held_of m)).keeps i.processor i.address)) e f
        ((landing_free k (held_of m) i.processor i.address i.on_core i.on_map w found free, refl), λ l n. landing_agrees k (held_of m) (sound_value k m) m.plain i.processor i.address w l n found free)
