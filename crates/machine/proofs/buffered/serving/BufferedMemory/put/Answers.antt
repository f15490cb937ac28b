use Rattle.std.proofs.Common.{sym, ◌∙◌}
use Rattle.machine.specs.View.{held_of}
use Rattle.machine.proofs.Serving.{put_landed, put_waiting}
use Rattle.machine.proofs.buffered.serving.BufferedMemory.put.Goals as goal

pub returns-then-lands_directly : goal.returns-then-lands_directly
returns-then-lands_directly g c =
    let r = put_landed g.row.KIND c.args.self.now c.in_ok-access.access c.args.word c.args.place (sym c.spent.ensures ∙ c.if-spent.false) c.put_through.result (held_of c.put_through.new.self) (sym c.lands_directly.ensures ∙ c.if-lands_directly.true) c.put_through.ensures.value c.put_through.ensures.held in
    let s = rw (c.in_ok-access.ensures.processor, c.in_ok-access.ensures.address) at r in
    record { meets = s.0; published = s.1 }

pub returns : goal.returns
returns g c =
    let r = put_waiting g.row.KIND c.args.self.now c.in_ok-access.access c.args.word c.args.place (sym c.spent.ensures ∙ c.if-spent.false) (held_of c.put_behind.new.self) (sym c.lands_directly.ensures ∙ c.if-lands_directly.false) c.put_behind.ensures in
    let s = rw (c.in_ok-access.ensures.processor, c.in_ok-access.ensures.address) at r in
    record { meets = s.0; published = s.1 }
