-- The ordering tables of the four published memory models.
use Rattle.std.specs.Prelude.{ℕ, ◌≤◌}
use Rattle.model.specs.Orders.{Row, Table, entry}
use Rattle.model.specs.declared.line.LineKind.{LineKind}
use Rattle.model.specs.declared.order.Order.{Order}
use Rattle.model.specs.declared.order.Order.TheVariants.{Never, SameAddress, Always}

abbrev pub always_row : Row
always_row = record { load = Always; store = Always; reconcile = Always; commit = Always }

abbrev pub sc_table : Table
sc_table = record { load = always_row; store = always_row; reconcile = always_row; commit = always_row }

-- a load may overtake an earlier store
abbrev pub tso_table : Table
tso_table =
    record {
      load = always_row;
      store = record { load = Never; store = Always; reconcile = Never; commit = Always };
      reconcile = always_row;
      commit = always_row;
    }

-- and so may a store, at another address
abbrev pub pso_table : Table
pso_table =
    record {
      load = always_row;
      store = record { load = Never; store = SameAddress; reconcile = Never; commit = Always };
      reconcile = always_row;
      commit = always_row;
    }

-- and a load an earlier load at another address, or a Commit
abbrev pub wmm_table : Table
wmm_table =
    record {
      load = record { load = SameAddress; store = Always; reconcile = Always; commit = Always };
      store = record { load = Never; store = SameAddress; reconcile = Never; commit = Always };
      reconcile = always_row;
      commit = record { load = Never; store = Always; reconcile = Always; commit = Always };
    }

-- how much an entry demands
abbrev pub strength : Order → ℕ
strength Never = 0
strength SameAddress = 1
strength Always = 2

-- every entry of the second table demands at least what the first one's does
abbrev pub AtLeast : Table → Table → Type 0
AtLeast low high = (earlier later : LineKind) → strength (entry low earlier later) ≤ strength (entry high earlier later)
