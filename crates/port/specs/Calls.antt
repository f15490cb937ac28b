-- What each call of the port answers and leaves held: one value, by what is held and what the kind chooses.
use Rattle.std.specs.Prelude.{◌≡◌, ℕ, Bool, true, false, cond, List, length, Some, None, Ok, Err, Option, Result, ◌==◌, nat_lt}
use Rattle.std.specs.List.{slice_get}
use Rattle.model.specs.Faults.{refused}
use Rattle.model.specs.Lists.{oldest}
use Rattle.model.specs.declared.fault.Fault.{Fault}
use Rattle.model.specs.declared.fault.Layer.TheVariants.{Machine}
use Rattle.model.specs.declared.fault.Refusal.{Refusal}
use Rattle.model.specs.declared.fault.Refusal.TheVariants.{NoCore, OffMap, NothingWaits, Waits, NoCopy, Spent}
use Rattle.model.specs.declared.memory.Cell.{Cell}
use Rattle.model.specs.declared.memory.Origin.{Origin}
use Rattle.model.specs.declared.memory.StaleCopy.{StaleCopy}
use Rattle.model.specs.declared.memory.WaitingStore.{WaitingStore}
use Rattle.port.specs.Holdings.{Held, Value, total, store_at, exact_copy, cell_value, newest, after_newest, after_old, after_reconcile, store_of, landed, shown, after_put, after_direct, after_landing}
use Rattle.port.specs.declared.stored.Stored.{Stored}
use Rattle.port.specs.declared.stored.Stored.TheVariants.{Waiting, Landed}

-- what a kind is free to choose, at the moment
pub record Choice : Type 0 where
  pub lands : ℕ → ℕ → Bool  -- p, a: a put lands directly
  pub keeps : ℕ → ℕ → ℕ → Bool  -- p, a, q: as p's store lands at a, q keeps a copy of the overwritten cell
  pub refuses_old : ℕ → ℕ → ℕ → Option Refusal  -- p, a, serial: what the kind itself refuses with, if it does
  pub refuses_put : ℕ → ℕ → Option Refusal  -- p, a
  pub refuses_landing : ℕ → ℕ → Option Refusal  -- p, a

-- a refusal, or an answer with what is held then
pub data Outcome (X : Type 0) : Type 0 where
  refuses : Fault → Outcome X
  gives : X → Held → Outcome X

-- a call that answered r and took a machine from s to s' has this outcome: an accepted one leaves the settings, a refused one the whole value
abbrev pub Meets : {S X : Type 0} → (S → Held) → (S → List ℕ) → Outcome X → S → S → Result X Fault → Type 0
Meets held settings outcome s s' (Ok x) = (outcome ≡ gives x (held s')) × (settings s' ≡ settings s)
Meets held settings outcome s s' (Err f) = (outcome ≡ refuses f) × (s' ≡ s)

-- ## The order of refusals

-- a refusal that names processor p
abbrev pub fault : Refusal → ℕ → Fault
fault refusal p = refused Machine refusal p

-- a processor above 3 comes first
abbrev pub core_refusal : ℕ → Option Refusal
core_refusal p = cond (nat_lt p 4) None (Some NoCore)

-- then an address above 7
abbrev pub map_refusal : ℕ → ℕ → Option Refusal
map_refusal p a = cond (nat_lt p 4) (cond (nat_lt a 8) None (Some OffMap)) (Some NoCore)

-- a put finds the machine spent exactly when all serials and waiting stores add up to 64
abbrev pub spent_refusal : Held → Option Refusal
spent_refusal h = cond (total h == 64) (Some Spent) None

-- refused, or else the rest
abbrev pub unless : {X : Type 0} → Option Refusal → ℕ → Outcome X → Outcome X
unless None p rest = rest
unless (Some refusal) p rest = refuses (fault refusal p)

-- the same of a call that changes nothing
abbrev pub answered : {X : Type 0} → Option Refusal → ℕ → X → Result X Fault
answered None p x = Ok x
answered (Some refusal) p x = Err (fault refusal p)

-- ## The calls

abbrev pub newest_outcome : Held → ℕ → ℕ → Outcome Value
newest_outcome h p a = unless (map_refusal p a) p (gives (newest h p a) (after_newest h p a))

abbrev pub old_found : Choice → Held → ℕ → ℕ → ℕ → Option StaleCopy → Outcome Value
old_found choice h p a s None = refuses (fault NoCopy p)
old_found choice h p a s (Some c) = unless (choice.refuses_old p a s) p (gives (cell_value c.cell) (after_old h p a s))

abbrev pub old_outcome : Choice → Held → ℕ → ℕ → ℕ → Outcome Value
old_outcome choice h p a s = unless (map_refusal p a) p (old_found choice h p a s (oldest (exact_copy a s) (h.copies p)))

abbrev pub put_taken : Choice → Held → ℕ → WaitingStore → Bool → Outcome Stored
put_taken choice h p w true =
    gives (Landed (shown (landed (h.cell w.address) w))) (after_direct h p w (choice.keeps p w.address))
put_taken choice h p w false = gives Waiting (after_put h p w)

abbrev pub put_outcome : Choice → Held → ℕ → ℕ → ℕ → ℕ → Outcome Stored
put_outcome choice h p a word place =
    unless (map_refusal p a) p
    (unless (spent_refusal h) p
    (unless (choice.refuses_put p a) p (put_taken choice h p (store_of p a word place) (choice.lands p a))))

abbrev pub landing_found : Choice → Held → ℕ → ℕ → Option WaitingStore → Outcome (ℕ × ℕ × Origin)
landing_found choice h p a None = refuses (fault NothingWaits p)
landing_found choice h p a (Some w) =
    unless (choice.refuses_landing p a) p
    (gives (shown (landed (h.cell a) w)) (after_landing h p a w (choice.keeps p a)))

abbrev pub landing_outcome : Choice → Held → ℕ → ℕ → Outcome (ℕ × ℕ × Origin)
landing_outcome choice h p a = unless (map_refusal p a) p (landing_found choice h p a (oldest (store_at a) (h.waits p)))

abbrev pub reconcile_outcome : Held → ℕ → Outcome Unit
reconcile_outcome h p = unless (core_refusal p) p (gives tt (after_reconcile h p))

-- ## The calls that change nothing

-- refused exactly if a store of p waits
abbrev pub commit_refusal : Held → ℕ → Option Refusal
commit_refusal h p = cond (nat_lt p 4) (cond (length (h.waits p) == 0) None (Some Waits)) (Some NoCore)

abbrev pub commit_answer : Held → ℕ → Result Unit Fault
commit_answer h p = answered (commit_refusal h p) p tt

-- no processor is named
abbrev pub cell_answer : Held → ℕ → Result Cell Fault
cell_answer h a = answered (cond (nat_lt a 8) None (Some OffMap)) 0 (h.cell a)

abbrev pub waiting_answer : Held → ℕ → ℕ → Result (Option WaitingStore) Fault
waiting_answer h p i = answered (core_refusal p) p (slice_get (h.waits p) i)

abbrev pub copy_answer : Held → ℕ → ℕ → Result (Option StaleCopy) Fault
copy_answer h p i = answered (core_refusal p) p (slice_get (h.copies p) i)

-- how many stores of p wait, and how many copies it holds
abbrev pub counts_answer : Held → ℕ → Result (ℕ × ℕ) Fault
counts_answer h p = answered (core_refusal p) p (length (h.waits p), length (h.copies p))
