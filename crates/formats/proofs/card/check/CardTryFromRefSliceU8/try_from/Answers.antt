use Rattle.std.proofs.Common.{◌<◌, None, Some, sym, arith, rules}
use Rattle.formats.specs.Cards.{instrs_fault, processors_in}
use Rattle.formats.proofs.CardAcceptance.{card_refused, card_viewed, of_instr, of_thread, threads_keep}
use Rattle.formats.proofs.Firsts.{finished, found, passed}
use Rattle.formats.proofs.card.check.CardTryFromRefSliceU8.try_from.Goals as goal

pub returns-in_err-check_threads : goal.returns-in_err-check_threads
returns-in_err-check_threads c =
    let bs = c.args.bytes.now in
    let header = c.in_ok-header in
    let fault = c.in_err-check_threads.field-0.0 in
    card_refused _ bs c.from_residual-in_err-check_threads.result fault
    (of_thread bs header.header.bytes.now header.ensures.same header.ensures.fault fault c.in_err-check_threads.ensures) c.from_residual-in_err-check_threads.ensures.1

pub invariant_of-check_instrs : goal.invariant_of-check_instrs
invariant_of-check_instrs c =
    let header = c.in_ok-header.header in
    let p = c.loop-processor.processor in
    let there : p < processors_in header.bytes.now = omega (arith, c.processors-processor-end.ensures) in
    record { named = there; fits = threads_keep header.bytes.now header.whole (sym c.in_ok-check_threads.ensures) p there }

pub returns-in_err-check_instrs : goal.returns-in_err-check_instrs
returns-in_err-check_instrs c =
    let bs = c.args.bytes.now in
    let header = c.in_ok-header in
    let read = header.header.bytes.now in
    let fault = c.in_err-check_instrs.field-0.0 in
    card_refused _ bs c.from_residual-in_err-check_instrs.result fault
    (of_instr bs read header.ensures.same header.ensures.fault c.in_ok-check_threads.ensures (Some fault)
    (found (instrs_fault read) c.loop-processor.processor (processors_in read) fault (omega (arith, c.processors-processor-end.ensures)) c.in_err-check_instrs.ensures
    c.loop-processor.invariant)) c.from_residual-in_err-check_instrs.ensures.1

pub loop-processor-preserved : goal.loop-processor-preserved
loop-processor-preserved c =
    let read = c.in_ok-header.header.bytes.now in
    passed (instrs_fault read) c.loop-processor.processor (processors_in read) (omega (arith, c.processors-processor-end.ensures)) c.in_ok-check_instrs.ensures
    c.loop-processor.invariant

pub returns : goal.returns
returns c =
    let bs = c.args.bytes.now in
    let header = c.in_ok-header in
    let read = header.header.bytes.now in
    card_viewed _ bs _
    (of_instr bs read header.ensures.same header.ensures.fault c.in_ok-check_threads.ensures None
    (finished (instrs_fault read) c.loop-processor.processor (processors_in read) (omega (arith, c.processors-processor-end.ensures)) c.loop-processor.invariant)) (search rules)
