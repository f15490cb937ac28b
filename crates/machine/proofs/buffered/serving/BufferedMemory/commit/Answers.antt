use Rattle.std.proofs.Common.{eqb, length, sym, ◌∙◌}
use Rattle.std.proofs.lemmas.Bool.{eqb-false, eqb-true, not-false, not-true}
use Rattle.kinds.proofs.Agreement.{commit_agrees, no_commit}
use Rattle.machine.specs.Soundness.{sound_value}
use Rattle.machine.specs.View.{held_of}
use Rattle.machine.proofs.buffered.serving.BufferedMemory.commit.Goals as goal

pub returns-then-waits-clause-published : goal.returns-then-waits-clause-published
returns-then-waits-clause-published g c l =
    let m = c.args.self.now in
    let h = held_of m in
    let some = eqb-false (length (h.waits c.args.processor)) 0 (not-true (eqb (length (h.waits c.args.processor)) 0) (sym c.waits.ensures ∙ c.if-waits.true)) in
    no_commit g.row.KIND h (sound_value g.row.KIND m) m.plain c.args.processor l some

pub returns-clause-published : goal.returns-clause-published
returns-clause-published g c l =
    let m = c.args.self.now in
    let h = held_of m in
    let none = eqb-true (length (h.waits c.args.processor)) 0 (not-false (eqb (length (h.waits c.args.processor)) 0) (sym c.waits.ensures ∙ c.if-waits.false)) in
    commit_agrees g.row.KIND h (sound_value g.row.KIND m) m.plain c.args.processor l none
