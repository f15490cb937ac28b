use Rattle.std.proofs.Common.{ℕ, List, take}
use Rattle.std.specs.Fmt.{IsPlainFormatter, HasWritten}
use Rattle.formats.specs.Listings.{AnswersItems, ShowsEach, numbered}
use Rattle.formats.proofs.numbered.write_numbered.Given as goal

abbrev pub invariant-loop-index : goal.invariant-loop-index
invariant-loop-index g l =
    (show : g.row.T.Denot → List ℕ) (items : List g.row.T.Denot)
    → ShowsEach g.T.Display.output show
    → AnswersItems (goal.G-post g l.get) l.len items
    → IsPlainFormatter l.initial.f
    → HasWritten g.W.Write.write_str_gives l.initial.f (numbered show 0 (take l.index-counter items)) l.f
