use Rattle.std.proofs.Common.{arith}
use Rattle.formats.specs.Cards.{processors_in, thread_fault}
use Rattle.formats.proofs.Firsts.{passed}
use Rattle.formats.proofs.card.header.Header.check_threads.Goals as goal

pub loop-processor-preserved : goal.loop-processor-preserved
loop-processor-preserved c =
    let bs = c.args.self.now.bytes.now in
    passed (thread_fault bs) c.loop-processor.processor (processors_in bs) (omega (arith, c.processors-processor-end.ensures)) c.in_ok-check_thread.ensures c.loop-processor.invariant
