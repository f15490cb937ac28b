use Rattle.port.specs.Calls.{old_outcome}
use Rattle.machine.specs.View.{held_of}
use Rattle.foreign.specs.Eager.{eager_choice}
use Rattle.foreign.proofs.Evenness.{even_old, still}
use Rattle.foreign.proofs.eager.serving.EagerMemory.old.Goals as goal

pub invariant_of-self : goal.invariant_of-self
invariant_of-self c =
    let s = c.args.self.now.below in
    let none = c.args.self.now.odd in
    record { odd = still (old_outcome (eager_choice (held_of s)) (held_of s) c.args.processor c.args.address c.args.serial) (even_old (held_of s) none c.args.processor c.args.address c.args.serial) s c.old.new.self c.old.result none c.old.ensures.meets }
