use Rattle.formats.specs.Cards.{processors_in, instrs_fault}
use Rattle.formats.proofs.Firsts.{Pending}
use Rattle.formats.proofs.card.check.CardTryFromRefSliceU8.try_from.Given as goal

abbrev pub invariant-loop-processor : goal.invariant-loop-processor
invariant-loop-processor l = Pending (instrs_fault l.header.bytes.now) l.processor (processors_in l.header.bytes.now)
