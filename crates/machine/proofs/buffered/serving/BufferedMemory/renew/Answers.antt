use Rattle.std.proofs.Common.{length, ap}
use Rattle.kinds.proofs.Invariants.{good_new}
use Rattle.port.specs.Holdings.{nothing_yet}
use Rattle.machine.proofs.Values.{facts, held_new}
use Rattle.machine.proofs.buffered.serving.BufferedMemory.renew.Goals as goal

pub invariant_of-self : goal.invariant_of-self
invariant_of-self g c =
    facts g.row.KIND c.initial_cells-self.result c.clear.new.self nothing_yet (ap length c.initial_cells-self.ensures)
    (held_new c.initial_cells-self.result c.clear.new.self c.initial_cells-self.ensures c.clear.ensures.waiting c.clear.ensures.copies)
    (good_new g.row.KIND)

pub returns-clause-held : goal.returns-clause-held
returns-clause-held g c = held_new c.initial_cells-self.result c.clear.new.self c.initial_cells-self.ensures c.clear.ensures.waiting c.clear.ensures.copies
