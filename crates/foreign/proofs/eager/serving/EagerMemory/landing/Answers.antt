use Rattle.std.proofs.Common.{refl, subst}
use Rattle.machine.specs.View.{held_of}
use Rattle.foreign.proofs.Eagerness.{landed_eagerly}
use Rattle.foreign.proofs.Evenness.{Even, even_landing}
use Rattle.foreign.proofs.eager.serving.EagerMemory.landing.Goals as goal

pub invariant_of-self-2 : goal.invariant_of-self-2
invariant_of-self-2 c =
    let h = held_of c.args.self.now.below in
    let none = c.args.self.now.odd in
    let landed = landed_eagerly h none c.args.processor c.args.address c.in_ok-landed.landed (held_of c.landing.new.self) (held_of c.forget_even.new.below) c.in_ok-landed.ensures.meets.0 c.forget_even.ensures in
    record { odd = subst Even landed (even_landing h none c.args.processor c.args.address) }

pub returns : goal.returns
returns c =
    (landed_eagerly (held_of c.args.self.now.below) c.args.self.now.odd c.args.processor c.args.address c.in_ok-landed.landed (held_of c.landing.new.self) (held_of c.forget_even.new.below) c.in_ok-landed.ensures.meets.0 c.forget_even.ensures, refl)
