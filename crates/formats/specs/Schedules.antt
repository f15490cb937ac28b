-- What the bytes of a sheet stand for: a kind of machine, and moves to make on it.
use Rattle.std.specs.Prelude.{ℕ, List}
use Rattle.std.specs.Option.{unwrap_or}
use Rattle.model.specs.Kinds.{kind_numbered}
use Rattle.model.specs.declared.kind.Kind.{Kind}
use Rattle.model.specs.declared.kind.Kind.TheVariants.{Sc}
use Rattle.formats.specs.Moves.{move_decoded}
use Rattle.formats.specs.Records.{records_from}
use Rattle.formats.specs.Sheets.{kind_in, moves_in}
use Rattle.formats.specs.declared.moves.Move.{Move}
use Rattle.formats.specs.declared.sheet.Sheet.{Sheet}

pub record Schedule : Type 0 where
  pub kind : Kind
  pub moves : List Move

-- SC stands for a number that names no kind, which no checked sheet has
abbrev pub schedule : List ℕ → Schedule
schedule bs = record { kind = unwrap_or (kind_numbered (kind_in bs)) Sc; moves = records_from move_decoded 3 bs 2 (moves_in bs) }

-- the schedule of a checked sheet
abbrev pub schedule_of : Sheet → Schedule
schedule_of sheet = schedule sheet.bytes.now
