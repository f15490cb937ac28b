use Rattle.machine.proofs.Moves.{dropped_facts}
use Rattle.port.specs.Holdings.{older_copy}
use Rattle.machine.proofs.buffered.Buffered.let_older_go.Goals as goal

pub invariant_of-self : goal.invariant_of-self
invariant_of-self g c = dropped_facts _ c.args.self.now c.args.access.processor c.forget_older.new.self c.forget_older.ensures.waiting (older_copy c.args.access.address c.args.serial) c.forget_older.ensures.copies
