use Rattle.formats.specs.Cards.{count_at, instr_fault}
use Rattle.formats.proofs.Firsts.{Pending}
use Rattle.formats.proofs.card.thread.Thread.check_instrs.Given as goal

abbrev pub invariant-loop-index : goal.invariant-loop-index
invariant-loop-index l =
    Pending (instr_fault l.self.header.bytes.now l.self.processor) l.index (count_at l.self.header.bytes.now l.self.processor)
