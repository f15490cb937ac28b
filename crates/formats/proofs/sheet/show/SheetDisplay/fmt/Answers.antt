use Rattle.std.proofs.Common.{true, length, sym, refl, ap, ◌∙◌, rules}
use Rattle.std.proofs.Output.{has_written_of_eq, has_written_append}
use Rattle.formats.specs.Listings.{numbered, schedule_title}
use Rattle.formats.specs.Moves.{move_text}
use Rattle.formats.specs.Schedules.{schedule_of}
use Rattle.formats.proofs.sheet.show.SheetDisplay.fmt.Goals as goal

pub returns-clause-writes : goal.returns-clause-writes
returns-clause-writes g c plain ok =
    let plan = schedule_of c.args.self.now in
    let took = g.W.Write.write_str_gives in
    let f = c.args.f.now in
    let same = ap (λ k. schedule_title k c.len.result) c.kind.ensures ∙ ap (schedule_title plan.kind) c.len.ensures in
    let title =
    has_written_of_eq took f (schedule_title c.kind.result c.len.result) (schedule_title plan.kind (length plan.moves)) c.write_title.new.f same
    (c.in_ok-write_title.ensures plain (refl {a = true})) in
    has_written_append took f (schedule_title plan.kind (length plan.moves)) c.write_title.new.f (numbered move_text 0 plan.moves) c.write_numbered.new.f
    title (c.write_numbered.ensures move_text plan.moves (λ x. refl) (record { len = sym c.len-2.ensures; each = λ i item h post. search rules }) title.plain ok)
