use Rattle.machine.proofs.Moves.{dropped_facts}
use Rattle.port.specs.Holdings.{copy_at}
use Rattle.machine.proofs.buffered.Buffered.load_newest.Goals as goal

pub invariant_of-self : goal.invariant_of-self
invariant_of-self g c = dropped_facts _ c.args.self.now c.args.access.processor c.forget_at.new.self c.forget_at.ensures.waiting (copy_at c.args.access.address) c.forget_at.ensures.copies
