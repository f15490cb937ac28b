use Rattle.std.proofs.Common.{is_ok, sym, refl, ap, rules}
use Rattle.std.proofs.Output.{has_written_append}
use Rattle.isa.specs.Instrs.{instr_text}
use Rattle.formats.specs.Listings.{numbered, thread_title}
use Rattle.formats.specs.Programs.{program_of}
use Rattle.formats.proofs.card.show.write_thread.Goals as goal

pub returns : goal.returns
returns g c plain ok =
    let thread = (program_of c.args.card.now).thread c.args.processor in
    let title = c.writeln.ensures.writes plain (ap is_ok c.in_ok-writeln.was) in
    has_written_append g.W.Write.write_str_gives c.args.f.now (thread_title c.args.processor) c.writeln.new.self (numbered instr_text 0 thread) c.write_numbered.new.f
    title (c.write_numbered.ensures instr_text thread (λ x. refl) (record { len = sym c.thread_len.ensures.value; each = λ i item h post. search rules }) title.plain ok)
