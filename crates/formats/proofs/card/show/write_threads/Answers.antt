use Rattle.std.proofs.Common.{◌+◌, true, ◌++◌, refl}
use Rattle.std.proofs.Output.{has_written_of_eq, has_written_append}
use Rattle.formats.specs.Listings.{thread_text, threads_text}
use Rattle.formats.specs.Programs.{program_of}
use Rattle.formats.proofs.Listings.{threads_more}
use Rattle.formats.proofs.card.show.write_threads.Goals as goal

pub loop-processor-preserved : goal.loop-processor-preserved
loop-processor-preserved g c plain =
    let prog = program_of c.args.card.now in
    let p = c.loop-processor.processor in
    let took = g.W.Write.write_str_gives in
    let f = c.args.f.now in
    let so_far = c.loop-processor.invariant plain in
    has_written_of_eq took f (threads_text prog p ++ thread_text prog p) (threads_text prog (p + 1)) c.write_thread.new.f (threads_more prog p)
    (has_written_append took f (threads_text prog p) c.loop-processor.f (thread_text prog p) c.write_thread.new.f so_far
    (c.in_ok-write_thread.ensures so_far.plain (refl {a = true})))
