use Rattle.std.proofs.Common.{ap, ◌∙◌, arith}
use Rattle.std.specs.Result.{result_ok}
use Rattle.model.proofs.Choosing.{result_ok-ok_or}
use Rattle.formats.proofs.Threads.{read_nth, read_past, read_runs}
use Rattle.formats.proofs.card.Card.instr.Goals as goal

pub returns-then-place-len-clause-value : goal.returns-then-place-len-clause-value
returns-then-place-len-clause-value c =
    read_past c.args.self.now c.in_ok-thread.thread c.in_ok-thread.ensures.some c.len.ensures c.args.place (omega arith)

pub returns-clause-value : goal.returns-clause-value
returns-clause-value c =
    c.ok.ensures.value
    ∙ (ap result_ok c.instr.ensures
    ∙ (result_ok-ok_or _ _
    ∙ read_nth c.args.self.now c.in_ok-thread.thread c.in_ok-thread.ensures.some c.len.ensures c.args.place (omega arith)))

pub returns-clause-runs : goal.returns-clause-runs
returns-clause-runs c =
    read_runs c.args.self.now c.in_ok-thread.thread c.in_ok-thread.ensures.some c.len.ensures c.args.place (omega arith) c.ok.result (returns-clause-value c)
