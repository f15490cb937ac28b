use Rattle.machine.specs.View.{held_of}
use Rattle.foreign.proofs.Evenness.{even_reconcile, still}
use Rattle.foreign.proofs.eager.serving.EagerMemory.reconcile.Goals as goal

pub invariant_of-self : goal.invariant_of-self
invariant_of-self c =
    let s = c.args.self.now.below in
    let none = c.args.self.now.odd in
    record { odd = still _ (even_reconcile (held_of s) none c.args.processor) s c.reconcile.new.self c.reconcile.result none c.reconcile.ensures.meets }
