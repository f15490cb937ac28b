use Rattle.std.proofs.Common.{true, refl, ap, ◌∙◌}
use Rattle.std.proofs.Output.{has_written_of_eq, has_written_append}
use Rattle.formats.specs.Listings.{program_title, threads_text}
use Rattle.formats.specs.Programs.{program_of}
use Rattle.formats.proofs.card.show.CardDisplay.fmt.Goals as goal

pub returns-clause-writes : goal.returns-clause-writes
returns-clause-writes g c plain ok =
    let prog = program_of c.args.self.now in
    let took = g.W.Write.write_str_gives in
    let f = c.args.f.now in
    let same = ap (λ p. program_title p c.addresses.result) c.processors.ensures.value ∙ ap (program_title prog.processors) c.addresses.ensures.value in
    let title =
    has_written_of_eq took f (program_title c.processors.result c.addresses.result) (program_title prog.processors prog.addresses) c.write_title.new.f same
    (c.in_ok-write_title.ensures plain (refl {a = true})) in
    has_written_append took f (program_title prog.processors prog.addresses) c.write_title.new.f (threads_text prog prog.processors) c.write_threads.new.f
    title (c.write_threads.ensures title.plain ok)
