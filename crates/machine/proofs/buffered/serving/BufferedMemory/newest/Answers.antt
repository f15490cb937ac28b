use Rattle.machine.specs.View.{held_of}
use Rattle.machine.proofs.Serving.{newest_read}
use Rattle.machine.proofs.buffered.serving.BufferedMemory.newest.Goals as goal

pub returns : goal.returns
returns g c =
    let r = newest_read g.row.KIND c.args.self.now c.in_ok-access.access c.load_newest.result (held_of c.load_newest.new.self) c.load_newest.ensures.value c.load_newest.ensures.held in
    let s = rw (c.in_ok-access.ensures.processor, c.in_ok-access.ensures.address) at r in
    record { meets = s.0; published = s.1 }
