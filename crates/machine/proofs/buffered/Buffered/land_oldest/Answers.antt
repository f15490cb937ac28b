use Rattle.machine.proofs.Moves.{landing_facts, landing_held}
use Rattle.machine.proofs.Values.{copy_room}
use Rattle.machine.proofs.buffered.Buffered.land_oldest.Goals as goal

pub keep-requires : goal.keep-requires
keep-requires g c = copy_room g.row.KIND c.args.self.now c.args.access.processor c.args.access.address c.args.store c.args.access.on_core c.requires

pub invariant_of-self : goal.invariant_of-self
invariant_of-self g c = landing_facts g.row.KIND c.args.self.now c.args.access c.args.store c.overwrite.new.cells c.keep.new.self c.remove_oldest.new.self c.overwrite.ensures.cells c.keep.ensures.waiting c.keep.ensures.copies c.remove_oldest.ensures.after c.requires

pub returns-clause-held : goal.returns-clause-held
returns-clause-held g c = landing_held g.row.KIND c.args.self.now c.args.access c.args.store c.overwrite.new.cells c.keep.new.self c.remove_oldest.new.self c.overwrite.ensures.cells c.keep.ensures.waiting c.keep.ensures.copies c.remove_oldest.ensures.after
