use Rattle.std.proofs.Common.{Some, ap, ◌∙◌, arith}
use Rattle.std.specs.Result.{result_err}
use Rattle.std.proofs.lemmas.Result.{err_from_is_err_and}
use Rattle.formats.specs.Cards.{count_at, instr_fault}
use Rattle.formats.proofs.Firsts.{found, passed}
use Rattle.formats.proofs.card.thread.Thread.check_instrs.Goals as goal

pub returns-in_err-check_instr : goal.returns-in_err-check_instr
returns-in_err-check_instr c =
    let thread = c.args.self.now in
    let bs = thread.header.bytes.now in
    let fault = c.in_err-check_instr.field-0.0 in
    let is = err_from_is_err_and c.from_residual.result c.from_residual.ensures.1 in
    ap result_err is.1
    ∙ (ap Some is.2
    ∙ found (instr_fault bs thread.processor) c.loop-index.index (count_at bs thread.processor) fault (omega (arith, c.len-index-end.ensures)) c.in_err-check_instr.ensures
    c.loop-index.invariant)

pub loop-index-preserved : goal.loop-index-preserved
loop-index-preserved c =
    let thread = c.args.self.now in
    let bs = thread.header.bytes.now in
    passed (instr_fault bs thread.processor) c.loop-index.index (count_at bs thread.processor) (omega (arith, c.len-index-end.ensures)) c.in_ok-check_instr.ensures
    c.loop-index.invariant
