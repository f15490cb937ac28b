use Rattle.std.proofs.Common.{ap, ◌∙◌}
use Rattle.formats.specs.Sheets.{moves_in}
use Rattle.formats.proofs.Schedules.{moves_length}
use Rattle.formats.proofs.sheet.Sheet.len.Goals as goal

pub returns : goal.returns
returns c =
    let sheet = c.args.self.now in
    c.len.ensures ∙ (ap moves_in c.moves.ensures ∙ moves_length sheet.bytes.now sheet.ok)
