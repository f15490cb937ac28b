use Rattle.machine.proofs.Moves.{cleared_facts}
use Rattle.machine.proofs.buffered.Buffered.let_all_go.Goals as goal

pub invariant_of-self : goal.invariant_of-self
invariant_of-self g c = cleared_facts _ c.args.self.now c.args.processor c.forget_all.new.self c.forget_all.ensures.waiting c.forget_all.ensures.copies
