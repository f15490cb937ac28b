use Rattle.machine.proofs.Moves.{put_facts}
use Rattle.machine.proofs.buffered.Buffered.put_behind.Goals as goal

pub invariant_of-self : goal.invariant_of-self
invariant_of-self g c =
    let pushed = rw c.store-store.ensures at c.push.ensures.after in
    put_facts g.row.KIND c.args.self.now c.args.access c.args.word c.args.place c.forget_at.new.self c.push.new.self c.requires.room c.forget_at.ensures.waiting c.forget_at.ensures.copies pushed c.requires.waits
