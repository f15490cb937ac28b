-- What it means that a machine's calls are the published rules of its kind.
use Rattle.std.specs.Prelude.{◌≡◌, ℕ, ◌<◌, Ok, Err, Result}
use Rattle.model.specs.declared.fault.Fault.{Fault}
use Rattle.model.specs.declared.memory.Origin.{Origin}
use Rattle.port.specs.Calls.{gives, old_outcome}
use Rattle.port.specs.Holdings.{Held, Value, total}
use Rattle.port.specs.declared.stored.Stored.{Stored}
use Rattle.kinds.specs.Kinds.{choice_of}
use Rattle.kinds.specs.Published.{State, forget, load, load_stale, store, commit, reconcile, dequeue, Rule}

-- fires v t: the call's rule can fire with v, and gives t. An accepted call is such a firing, and there is no other; where a call is refused there is none
abbrev pub Agrees : {X V : Type 0} → (V → State → Type 0) → (X → V) → State → Result X Fault → Type 0
Agrees {X} {V} fires value s (Ok x) = fires (value x) s × ((v : V) (t : State) → fires v t → (v ≡ value x) × (t ≡ s))
Agrees {X} {V} fires value s (Err f) = (v : V) (t : State) → fires v t → ⊥

-- the same of loads of stale copies: an accepted one is a firing, and every firing is the load of the copy with some serial
abbrev pub AgreesStale : ℕ → ℕ → ℕ → Held → Held → Result Value Fault → Type 0
AgreesStale k p a h h' (Ok x) = Rule k (load_stale p a x.0) (forget h) (forget h')
AgreesStale k p a h h' (Err f) = Unit {0}

abbrev pub EachStale : ℕ → ℕ → ℕ → Held → Type 0
EachStale k p a h =
    (v : ℕ) (t : State) → Rule k (load_stale p a v) (forget h) t
    → (s : ℕ) × (origin : Origin) × (g : Held) × (old_outcome (choice_of k h) h p a s ≡ gives (v, origin) g) × (forget g ≡ t)

-- ## The calls

abbrev pub LoadAgrees : ℕ → ℕ → ℕ → Held → Held → Result Value Fault → Type 0
LoadAgrees k p a h h' r =
    p < 4 → a < 8 → Agrees (λ v t. Rule k (load p a v) (forget h) t) (λ (x : Value). x.0) (forget h') r

abbrev pub StaleLoadAgrees : ℕ → ℕ → ℕ → Held → Held → Result Value Fault → Type 0
StaleLoadAgrees k p a h h' r = p < 4 → a < 8 → AgreesStale k p a h h' r × EachStale k p a h

-- the published store buffers have no bound; here a put is refused once 64 stores are taken
abbrev pub StoreAgrees : ℕ → ℕ → ℕ → ℕ → Held → Held → Result Stored Fault → Type 0
StoreAgrees k p a word h h' r =
    p < 4 → a < 8 → total h < 64
    → Agrees (λ (u : Unit {0}) t. Rule k (store p a word) (forget h) t) (λ (x : Stored). tt) (forget h') r

abbrev pub LandingAgrees : ℕ → ℕ → ℕ → Held → Held → Result (ℕ × ℕ × Origin) Fault → Type 0
LandingAgrees k p a h h' r =
    p < 4 → a < 8
    → Agrees (λ v t. Rule k (dequeue p a v) (forget h) t) (λ (x : ℕ × ℕ × Origin). x.0) (forget h') r

abbrev pub CommitAgrees : ℕ → ℕ → Held → Result Unit Fault → Type 0
CommitAgrees k p h r = p < 4 → Agrees (λ (u : Unit {0}) t. Rule k (commit p) (forget h) t) (λ (x : Unit {0}). tt) (forget h) r

abbrev pub ReconcileAgrees : ℕ → ℕ → Held → Held → Result Unit Fault → Type 0
ReconcileAgrees k p h h' r =
    p < 4 → Agrees (λ (u : Unit {0}) t. Rule k (reconcile p) (forget h) t) (λ (x : Unit {0}). tt) (forget h') r
