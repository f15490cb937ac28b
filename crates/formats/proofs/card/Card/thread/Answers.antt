use Rattle.std.proofs.Common.{◌<◌, arith}
use Rattle.formats.specs.Cards.{processors_in}
use Rattle.formats.proofs.Threads.{rules}
use Rattle.formats.proofs.card.Card.thread.Goals as goal

pub invariant_of-result : goal.invariant_of-result
invariant_of-result c =
    let card = c.args.self.now in
    let bs = card.bytes.now in
    let there : c.args.processor < processors_in bs = omega (arith, c.processors.ensures.value) in
    let kept = rules bs card.ok in
    record { named = there; fits = record { header = kept.header.1; count = kept.counts c.args.processor there; inside = kept.offsets c.args.processor there } }
