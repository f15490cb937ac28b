use Rattle.machine.specs.View.{held_of}
use Rattle.foreign.proofs.Evenness.{even_newest, still}
use Rattle.foreign.proofs.eager.serving.EagerMemory.newest.Goals as goal

pub invariant_of-self : goal.invariant_of-self
invariant_of-self c =
    let s = c.args.self.now.below in
    let none = c.args.self.now.odd in
    record { odd = still _ (even_newest (held_of s) none c.args.processor c.args.address) s c.newest.new.self c.newest.result none c.newest.ensures.meets }
