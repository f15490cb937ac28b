use Rattle.std.proofs.Common.{length, ap}
use Rattle.kinds.proofs.Invariants.{good_new}
use Rattle.port.specs.Holdings.{nothing_yet}
use Rattle.machine.proofs.Values.{facts, held_new}
use Rattle.machine.proofs.buffered.Buffered.new.Goals as goal

pub invariant_of-result : goal.invariant_of-result
invariant_of-result g c =
    facts g.row.KIND c.initial_cells-cells.result c.in_ok-processors.processors nothing_yet (ap length c.initial_cells-cells.ensures)
    (held_new c.initial_cells-cells.result c.in_ok-processors.processors c.initial_cells-cells.ensures c.in_ok-processors.ensures.waiting c.in_ok-processors.ensures.copies)
    (good_new g.row.KIND)
