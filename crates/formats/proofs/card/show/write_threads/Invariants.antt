use Rattle.std.specs.Fmt.{IsPlainFormatter, HasWritten}
use Rattle.formats.specs.Listings.{threads_text}
use Rattle.formats.specs.Programs.{program_of}
use Rattle.formats.proofs.card.show.write_threads.Given as goal

abbrev pub invariant-loop-processor : goal.invariant-loop-processor
invariant-loop-processor g l =
    IsPlainFormatter l.initial.f → HasWritten g.W.Write.write_str_gives l.initial.f (threads_text (program_of l.card) l.processor) l.f
