-- What the four machines keep true of all that they hold, as facts with one proof, so that they can stand in a type.
use Rattle.std.specs.Prelude.{◌≡◌, ℕ, ◌≤◌, Bool, true, not, ◌&&◌, ◌||◌, List, [], ◌∷◌, length, ◌==◌, nat_lt}
use Rattle.std.specs.List.{list_all}
use Rattle.model.specs.Lists.{none_of}
use Rattle.model.specs.declared.memory.Cell.{Cell}
use Rattle.model.specs.declared.memory.StaleCopy.{StaleCopy}
use Rattle.model.specs.declared.memory.WaitingStore.{WaitingStore}
use Rattle.port.specs.Holdings.{Held, serials, store_at}

-- a copy of an overwritten cell, at an address where no store of its holder waits
abbrev pub stale_copy : (ℕ → Cell) → List WaitingStore → StaleCopy → Bool
stale_copy cell ws c = nat_lt c.cell.serial (cell c.address).serial && none_of (store_at c.address) ws

-- d, which came later, is of another address or has a higher serial
abbrev pub fresher : StaleCopy → StaleCopy → Bool
fresher c d = not (c.address == d.address) || nat_lt c.cell.serial d.cell.serial

abbrev pub stale_copies : (ℕ → Cell) → List WaitingStore → List StaleCopy → Bool
stale_copies cell ws [] = true
stale_copies cell ws (c ∷ cs) = stale_copy cell ws c && (list_all (fresher c) cs && stale_copies cell ws cs)

-- each copy is stale, and each processor's serials rise at each address
abbrev pub Stale : Held → Type 0
Stale h = (p : ℕ) → stale_copies h.cell (h.waits p) (h.copies p) ≡ true

-- a landing leaves each processor at most one copy more
abbrev pub Few : Held → Type 0
Few h = (p : ℕ) → length (h.copies p) ≤ serials h.cell
