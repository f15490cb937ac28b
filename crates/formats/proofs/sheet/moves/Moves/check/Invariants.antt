use Rattle.formats.specs.Sheets.{move_fault, moves_in}
use Rattle.formats.proofs.Firsts.{Pending}
use Rattle.formats.proofs.sheet.moves.Moves.check.Given as goal

abbrev pub invariant-loop-index : goal.invariant-loop-index
invariant-loop-index l = Pending (move_fault l.self.bytes.now) l.index (moves_in l.self.bytes.now)
