use Rattle.std.proofs.Common.{arith}
use Rattle.formats.specs.Sheets.{move_fault, moves_in}
use Rattle.formats.proofs.Firsts.{passed}
use Rattle.formats.proofs.sheet.moves.Moves.check.Goals as goal

pub loop-index-preserved : goal.loop-index-preserved
loop-index-preserved c =
    let bs = c.args.self.now.bytes.now in
    passed (move_fault bs) c.loop-index.index (moves_in bs) (omega (arith, c.len-index-end.ensures)) c.in_ok-check_move.ensures c.loop-index.invariant
