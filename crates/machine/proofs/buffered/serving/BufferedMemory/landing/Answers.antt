use Rattle.std.proofs.Common.{sym, ◌∙◌}
use Rattle.kinds.proofs.Agreement.{no_landing, no_landing_behind}
use Rattle.machine.specs.Soundness.{sound_value}
use Rattle.machine.specs.View.{held_of}
use Rattle.machine.proofs.Serving.{landing_done}
use Rattle.machine.proofs.buffered.serving.BufferedMemory.landing.Goals as goal

pub returns-in_default-clause-published : goal.returns-in_default-clause-published
returns-in_default-clause-published g c l n =
    let m = c.args.self.now in
    let none = rw (c.in_ok-access.ensures.processor, c.in_ok-access.ensures.address) at (sym c.oldest_at.ensures ∙ c.in_default.is) in
    no_landing g.row.KIND (held_of m) (sound_value g.row.KIND m) m.plain c.args.processor c.args.address l n none

pub returns-then-held_back-clause-published : goal.returns-then-held_back-clause-published
returns-then-held_back-clause-published g c l n =
    let m = c.args.self.now in
    let found = rw (c.in_ok-access.ensures.processor, c.in_ok-access.ensures.address) at (sym c.oldest_at.ensures ∙ c.in-Some.is) in
    let back = rw (c.in_ok-access.ensures.processor, c.in_ok-access.ensures.address) at (sym c.held_back.ensures ∙ c.if-held_back.true) in
    no_landing_behind g.row.KIND (held_of m) (sound_value g.row.KIND m) m.plain c.args.processor c.args.address c.in-Some.store l n found back

pub returns : goal.returns
returns g c =
    let r = landing_done g.row.KIND c.args.self.now c.in_ok-access.access c.in-Some.store (sym c.oldest_at.ensures ∙ c.in-Some.is) c.land_oldest.result (held_of c.land_oldest.new.self) (sym c.held_back.ensures ∙ c.if-held_back.false) c.land_oldest.ensures.value c.land_oldest.ensures.held in
    let s = rw (c.in_ok-access.ensures.processor, c.in_ok-access.ensures.address) at r in
    record { meets = s.0; published = s.1 }
