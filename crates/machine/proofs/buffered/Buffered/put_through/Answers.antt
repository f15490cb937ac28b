use Rattle.std.proofs.Common.{length, ap, arith}
use Rattle.kinds.proofs.Invariants.{good_drop}
use Rattle.port.specs.Holdings.{copy_at}
use Rattle.machine.specs.View.{held_of}
use Rattle.machine.proofs.Moves.{direct_facts, direct_held}
use Rattle.machine.proofs.Values.{good_of}
use Rattle.machine.proofs.buffered.Buffered.put_through.Goals as goal

pub keep-requires : goal.keep-requires
keep-requires g c q =
    let m = c.args.self.now in
    omega
    (arith, (good_drop g.row.KIND (held_of m) (good_of g.row.KIND m) c.args.access.processor (copy_at c.args.access.address)).few q, ap (λ f. length (f q)) c.forget_at.ensures.copies, c.requires.room)

pub invariant_of-self : goal.invariant_of-self
invariant_of-self g c =
    let written = rw c.store.ensures at c.overwrite.ensures.cells in
    direct_facts g.row.KIND c.args.self.now c.args.access c.args.word c.args.place c.overwrite.new.cells c.forget_at.new.self c.keep.new.self written c.forget_at.ensures.waiting c.forget_at.ensures.copies c.keep.ensures.waiting c.keep.ensures.copies c.requires.room c.requires.lands

pub returns-clause-held : goal.returns-clause-held
returns-clause-held g c =
    let written = rw c.store.ensures at c.overwrite.ensures.cells in
    direct_held g.row.KIND c.args.self.now c.args.access c.args.word c.args.place c.overwrite.new.cells c.forget_at.new.self c.keep.new.self written c.forget_at.ensures.waiting c.forget_at.ensures.copies c.keep.ensures.waiting c.keep.ensures.copies
