-- What an ordering table says of an earlier and a later instruction of one processor.
use Rattle.std.specs.Prelude.{Bool, true, false}
use Rattle.model.specs.declared.line.LineKind.{LineKind}
use Rattle.model.specs.declared.line.LineKind.TheVariants.{Load, Store, Reconcile, Commit}
use Rattle.model.specs.declared.order.Order.{Order}
use Rattle.model.specs.declared.order.Order.TheVariants.{Never, SameAddress, Always}
use Rattle.model.specs.declared.order.PerLineKind.{PerLineKind}

-- the entries of one earlier instruction, by the kind of the later one
abbrev pub Row : Type 0
Row = PerLineKind Order

-- a row for each kind of the earlier instruction
abbrev pub Table : Type 0
Table = PerLineKind Row

abbrev pub at_line_kind : {T : Type 0} → PerLineKind T → LineKind → T
at_line_kind values Load = values.load
at_line_kind values Store = values.store
at_line_kind values Reconcile = values.reconcile
at_line_kind values Commit = values.commit

abbrev pub entry : Table → LineKind → LineKind → Order
entry table earlier later = at_line_kind (at_line_kind table earlier) later

-- whether the earlier must stand above the later, given whether their addresses are equal
abbrev pub demanded : Order → Bool → Bool
demanded Never same = false
demanded SameAddress same = same
demanded Always same = true
