use Rattle.formats.specs.Cards.{processors_in, thread_fault}
use Rattle.formats.proofs.Firsts.{Pending}
use Rattle.formats.proofs.card.header.Header.check_threads.Given as goal

abbrev pub invariant-loop-processor : goal.invariant-loop-processor
invariant-loop-processor l = Pending (thread_fault l.self.bytes.now) l.processor (processors_in l.self.bytes.now)
