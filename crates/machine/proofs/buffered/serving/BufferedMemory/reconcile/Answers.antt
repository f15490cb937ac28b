use Rattle.machine.specs.View.{held_of}
use Rattle.machine.proofs.Serving.{reconciled}
use Rattle.machine.proofs.buffered.serving.BufferedMemory.reconcile.Goals as goal

pub returns : goal.returns
returns g c =
    let r = reconciled g.row.KIND c.args.self.now c.args.processor (held_of c.let_all_go.new.self) c.let_all_go.ensures c.in_ok-on_core.ensures.within in
    record { meets = r.0; published = r.1 }
