use Rattle.std.proofs.Common.{ap, ◌∙◌, arith}
use Rattle.std.specs.Result.{result_ok}
use Rattle.model.proofs.Choosing.{result_ok-ok_or}
use Rattle.formats.specs.Moves.{move_decoded}
use Rattle.formats.specs.Sheets.{move_bytes, moves_in}
use Rattle.formats.proofs.Schedules.{moves_length, moves_nth}
use Rattle.formats.proofs.sheet.Sheet.get.Goals as goal

pub get-requires : goal.get-requires
get-requires c =
    let sheet = c.args.self.now in
    let long = moves_length sheet.bytes.now sheet.ok in
    let same = ap moves_in c.moves.ensures in
    omega (arith, c.len.ensures)

pub returns : goal.returns
returns c =
    let sheet = c.args.self.now in
    let bs = sheet.bytes.now in
    let long = moves_length bs sheet.ok in
    c.ok.ensures.value
    ∙ (ap result_ok c.get.ensures
    ∙ (result_ok-ok_or _ _
    ∙ (ap (λ bs. move_decoded (move_bytes bs c.args.index)) c.moves.ensures
    ∙ moves_nth bs sheet.ok c.args.index (omega (arith, c.len.ensures)))))
