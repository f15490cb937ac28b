use Rattle.std.proofs.Common.{sym, ◌∙◌}
use Rattle.kinds.proofs.Agreement.{each_stale}
use Rattle.machine.specs.Soundness.{sound_value}
use Rattle.machine.specs.View.{held_of}
use Rattle.machine.proofs.Serving.{old_read}
use Rattle.machine.proofs.buffered.serving.BufferedMemory.old.Goals as goal

pub returns-in_default-clause-published : goal.returns-in_default-clause-published
returns-in_default-clause-published g c l n =
    let m = c.args.self.now in
    (tt, each_stale g.row.KIND (held_of m) (sound_value g.row.KIND m) m.plain c.args.processor c.args.address l n)

pub returns : goal.returns
returns g c =
    let r = old_read g.row.KIND c.args.self.now c.in_ok-access.access c.args.serial c.in-Some.copy (held_of c.let_older_go.new.self) (sym c.copy_of.ensures ∙ c.in-Some.is) c.let_older_go.ensures in
    let s = rw (c.in_ok-access.ensures.processor, c.in_ok-access.ensures.address) at r in
    record { meets = s.0; published = s.1 }
