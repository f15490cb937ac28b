-- What is known of every kind of machine: the meaning of the port, the bounds of what it may choose, and the laws that tie its ordering table to what it does.
use Rattle.std.specs.Prelude.{◌≡◌, ℕ, ◌<◌, ◌≤◌, Bool, true, false, not, ◌||◌, List, [], ◌∷◌, Some, None, Option}
use Rattle.std.specs.List.{AllByRecursion}
use Rattle.model.specs.Lists.{none_of, Pairs}
use Rattle.model.specs.Memory.{initial_cell}
use Rattle.model.specs.declared.fault.Refusal.{Refusal}
use Rattle.model.specs.declared.fault.Refusal.TheVariants.{Held as HeldBack}
use Rattle.model.specs.declared.memory.WaitingStore.{WaitingStore}
use Rattle.model.specs.declared.order.Order.{Order}
use Rattle.model.specs.declared.order.Order.TheVariants.{Never, SameAddress, Always}
use Rattle.model.specs.Orders.{Table}
use Rattle.port.specs.Calls.{Choice}
use Rattle.port.specs.Holdings.{Held, total, store_at, may_keep}

-- no store waits at the address
abbrev pub NoneAt : ℕ → List WaitingStore → Type 0
NoneAt a ws = none_of (store_at a) ws ≡ true

-- what every machine holds, at every moment
pub record Sound (h : Held) : Type 0 where
  -- a copy is of an overwritten cell
  pub overwrites : (p : ℕ) → AllByRecursion (λ c. c.cell.serial < (h.cell c.address).serial) (h.copies p)
  -- no copy stands where its holder's own store waits
  pub apart : (p : ℕ) → AllByRecursion (λ c. NoneAt c.address (h.waits p)) (h.copies p)
  -- the serials of one holder and address rise
  pub rising : (p : ℕ) → Pairs (λ c d. c.address ≡ d.address → c.cell.serial < d.cell.serial) (h.copies p)
  -- all serials and waiting stores add up to at most 64
  pub bounded : total h ≤ 64
  -- there are four processors and eight addresses
  pub processors : (p : ℕ) → 4 ≤ p → (h.waits p ≡ []) × (h.copies p ≡ [])
  pub addresses : (a : ℕ) → 8 ≤ a → h.cell a ≡ initial_cell

-- the number that a kind itself may refuse with
abbrev pub Own : Option Refusal → Type 0
Own None = Unit {0}
Own (Some refusal) = refusal ≡ HeldBack

-- what a kind may choose, whatever its table
pub record Bounds (h : Held) (choice : Choice) : Type 0 where
  -- a put lands directly only where no store of the processor waits at the address
  pub lands : (p a : ℕ) → choice.refuses_put p a ≡ None → choice.lands p a ≡ true → NoneAt a (h.waits p)
  -- a copy goes to another processor that has no store waiting at the address
  pub keeps : (p a q : ℕ) → choice.keeps p a q ≡ true → may_keep h p a q ≡ true
  -- a refusal of the kind's own has its own number
  pub old : (p a s : ℕ) → Own (choice.refuses_old p a s)
  pub put : (p a : ℕ) → Own (choice.refuses_put p a)
  pub landing : (p a : ℕ) → Own (choice.refuses_landing p a)

-- a run can always go on: the kind itself refuses neither a put by a processor that has nothing waiting, nor the landing of a processor's oldest store
pub record Progress (h : Held) (choice : Choice) : Type 0 where
  pub put : (p a : ℕ) → h.waits p ≡ [] → choice.refuses_put p a ≡ None
  pub landing : (p : ℕ) (w : WaitingStore) (ws : List WaitingStore) → h.waits p ≡ w ∷ ws → choice.refuses_landing p w.address ≡ None

abbrev pub is_never : Order → Bool
is_never Never = true
is_never SameAddress = false
is_never Always = false

abbrev pub is_always : Order → Bool
is_always Never = false
is_always SameAddress = false
is_always Always = true

-- a table that leaves no room for a stale copy: load-load or store-load is 'always', or Commit-load is not 'never'
abbrev pub copyless : Table → Bool
copyless t = is_always t.load.load || (is_always t.store.load || not (is_never t.commit.load))

pub record NoCopies (t : Table) (h : Held) (choice : Choice) : Type 0 where
  pub holds : copyless t ≡ true → (p : ℕ) → h.copies p ≡ []
  pub keeps : copyless t ≡ true → (p a q : ℕ) → choice.keeps p a q ≡ false

-- a table that keeps the order of stores: store-store is 'always'
abbrev pub in_order : Table → Bool
in_order t = is_always t.store.store

-- then only a processor's oldest store lands
pub record InOrder (t : Table) (h : Held) (choice : Choice) : Type 0 where
  pub put : in_order t ≡ true → (p a : ℕ) → choice.refuses_put p a ≡ None → choice.lands p a ≡ true → h.waits p ≡ []
  pub landing : in_order t ≡ true → (p a : ℕ) (w : WaitingStore) (ws : List WaitingStore) → h.waits p ≡ w ∷ ws → none_of (store_at a) (w ∷ ws) ≡ false → choice.refuses_landing p a ≡ None → w.address ≡ a

-- a table that leaves no room for a waiting store: store-load or store-Reconcile is not 'never'
abbrev pub bufferless : Table → Bool
bufferless t = not (is_never t.store.load) || not (is_never t.store.reconcile)

-- then every put lands directly
abbrev pub Direct : Table → Choice → Type 0
Direct t choice = bufferless t ≡ true → (p a : ℕ) → choice.refuses_put p a ≡ None → choice.lands p a ≡ true
