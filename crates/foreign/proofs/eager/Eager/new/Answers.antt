use Rattle.std.proofs.Common.{◌≤◌, sym, subst, lit≤}
use Rattle.foreign.specs.Eager.{evens}
use Rattle.foreign.proofs.eager.Eager.new.Goals as goal

pub invariant_of-result : goal.invariant_of-result
invariant_of-result c = record { odd = subst (λ h. evens h ≤ 0) (sym c.in_ok-below.ensures) (lit≤ tt) }
