use Rattle.std.proofs.Common.{None, Some, ap, ◌∙◌, rules}
use Rattle.formats.specs.Checks.{first_of}
use Rattle.formats.specs.Sheets.{move_fault, moves_in}
use Rattle.formats.proofs.SheetAcceptance.{past_start, sheet_refused, sheet_viewed}
use Rattle.formats.proofs.sheet.check.SheetTryFromRefSliceU8.try_from.Goals as goal

pub returns-in_err-check : goal.returns-in_err-check
returns-in_err-check c =
    let bs = c.args.bytes.now in
    let same = ap (λ b. first_of (move_fault b) 0 (moves_in b)) c.in_ok-new.ensures.same in
    let fault = c.in_err-check.field-0.0 in
    sheet_refused _ bs c.from_residual-in_err-check.result fault
    (past_start bs c.in_ok-new.ensures.fault (Some fault) (c.in_err-check.ensures ∙ same)) c.from_residual-in_err-check.ensures.1

pub returns : goal.returns
returns c =
    let bs = c.args.bytes.now in
    let same = ap (λ b. first_of (move_fault b) 0 (moves_in b)) c.in_ok-new.ensures.same in
    sheet_viewed _ bs _ (past_start bs c.in_ok-new.ensures.fault None (c.in_ok-check.ensures ∙ same)) (search rules)
