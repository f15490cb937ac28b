-- What a machine holds, and what each call of the port makes of it.
use Rattle.std.specs.Prelude.{ℕ, ◌+◌, Bool, cond, not, ◌&&◌, List, [], ◌∷◌, ◌++◌, length, Some, None, Option, ◌==◌, nat_lt}
use Rattle.model.specs.Lists.{upd, sum_to, none_of, without_oldest, youngest, without}
use Rattle.model.specs.Memory.{initial_cell}
use Rattle.model.specs.declared.memory.Cell.{Cell}
use Rattle.model.specs.declared.memory.Origin.{Origin}
use Rattle.model.specs.declared.memory.Origin.TheVariants.{Store}
use Rattle.model.specs.declared.memory.StaleCopy.{StaleCopy}
use Rattle.model.specs.declared.memory.WaitingStore.{WaitingStore}

-- cells by address; waiting stores and stale copies by processor, oldest first
pub record Held : Type 0 where
  pub cell : ℕ → Cell
  pub waits : ℕ → List WaitingStore
  pub copies : ℕ → List StaleCopy

-- what a new machine holds
abbrev pub nothing_yet : Held
nothing_yet = record { cell = λ a. initial_cell; waits = λ p. []; copies = λ p. [] }

-- all serials, and all waiting stores: every store that the machine has taken since it was new
abbrev pub serials : (ℕ → Cell) → ℕ
serials cell = sum_to (λ a. (cell a).serial) 8

abbrev pub pending : (ℕ → List WaitingStore) → ℕ
pending waits = sum_to (λ p. length (waits p)) 4

abbrev pub total : Held → ℕ
total h = serials h.cell + pending h.waits

-- ## Which stores and copies a call speaks of

abbrev pub store_at : ℕ → WaitingStore → Bool
store_at a w = w.address == a

abbrev pub copy_at : ℕ → StaleCopy → Bool
copy_at a c = c.address == a

abbrev pub older_copy : ℕ → ℕ → StaleCopy → Bool
older_copy a s c = c.address == a && nat_lt c.cell.serial s

abbrev pub exact_copy : ℕ → ℕ → StaleCopy → Bool
exact_copy a s c = c.address == a && c.cell.serial == s

-- ## Loads

-- a word, with the store that brought it
abbrev pub Value : Type 0
Value = ℕ × Origin

abbrev pub cell_value : Cell → Value
cell_value c = (c.word, c.origin)

abbrev pub store_else : Option WaitingStore → Cell → Value
store_else None c = cell_value c
store_else (Some w) c = (w.word, w.origin)

-- the youngest store of p that waits at a, else the cell
abbrev pub newest : Held → ℕ → ℕ → Value
newest h p a = store_else (youngest (store_at a) (h.waits p)) (h.cell a)

-- p's copies are now those
abbrev pub with_copies : Held → ℕ → List StaleCopy → Held
with_copies h p cs = record { cell = h.cell; waits = h.waits; copies = upd h.copies p cs }

abbrev pub after_newest : Held → ℕ → ℕ → Held
after_newest h p a = with_copies h p (without (copy_at a) (h.copies p))

abbrev pub after_old : Held → ℕ → ℕ → ℕ → Held
after_old h p a s = with_copies h p (without (older_copy a s) (h.copies p))

abbrev pub after_reconcile : Held → ℕ → Held
after_reconcile h p = with_copies h p []

-- ## Stores

-- the store of the instruction at a place of p's thread
abbrev pub store_of : ℕ → ℕ → ℕ → ℕ → WaitingStore
store_of p a word place = record { address = a; word = word; origin = Store p place }

-- what a store makes of the cell that it lands in
abbrev pub landed : Cell → WaitingStore → Cell
landed c w = record { word = w.word; serial = c.serial + 1; origin = w.origin }

-- word, serial and origin, as a landing answers them
abbrev pub shown : Cell → ℕ × ℕ × Origin
shown c = (c.word, c.serial, c.origin)

-- the copy that a landing at a leaves
abbrev pub overwritten : Held → ℕ → StaleCopy
overwritten h a = record { address = a; cell = h.cell a }

-- who may hold it as p's store lands: another processor with no store waiting there
abbrev pub may_keep_in : (ℕ → List WaitingStore) → ℕ → ℕ → ℕ → Bool
may_keep_in waits p a q = nat_lt q 4 && (not (q == p) && none_of (store_at a) (waits q))

abbrev pub may_keep : Held → ℕ → ℕ → ℕ → Bool
may_keep h p a q = may_keep_in h.waits p a q

-- each processor that keeps the copy has one more
abbrev pub keeping : (ℕ → Bool) → StaleCopy → (ℕ → List StaleCopy) → ℕ → List StaleCopy
keeping keep c copies q = cond (keep q) (copies q ++ c ∷ []) (copies q)

abbrev pub after_put : Held → ℕ → WaitingStore → Held
after_put h p w =
    record {
      cell = h.cell;
      waits = upd h.waits p (h.waits p ++ w ∷ []);
      copies = upd h.copies p (without (copy_at w.address) (h.copies p));
    }

abbrev pub after_direct : Held → ℕ → WaitingStore → (ℕ → Bool) → Held
after_direct h p w keep =
    record {
      cell = upd h.cell w.address (landed (h.cell w.address) w);
      waits = h.waits;
      copies =
          keeping keep (overwritten h w.address) (upd h.copies p (without (copy_at w.address) (h.copies p)));
    }

-- w is p's oldest waiting store at a
abbrev pub after_landing : Held → ℕ → ℕ → WaitingStore → (ℕ → Bool) → Held
after_landing h p a w keep =
    record {
      cell = upd h.cell a (landed (h.cell a) w);
      waits = upd h.waits p (without_oldest (store_at a) (h.waits p));
      copies = keeping keep (overwritten h a) h.copies;
    }
