use Rattle.std.proofs.Common.{◌≤◌, sym, subst, lit≤}
use Rattle.foreign.specs.Eager.{evens}
use Rattle.foreign.proofs.eager.serving.EagerMemory.renew.Goals as goal

pub invariant_of-self : goal.invariant_of-self
invariant_of-self c = record { odd = subst (λ h. evens h ≤ 0) (sym c.renew.ensures.held) (lit≤ tt) }
