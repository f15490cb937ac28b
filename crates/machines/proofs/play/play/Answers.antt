use Rattle.machines.specs.Played.{begun}
use Rattle.machines.specs.declared.calls.Call.TheVariants.{Newest}
use Rattle.machines.proofs.Playing.{played_more}
use Rattle.machines.proofs.play.play.Goals as goal

pub loop-call-init : goal.loop-call-init
loop-call-init g c = begun

pub loop-call-preserved : goal.loop-call-preserved
loop-call-preserved g c =
    played_more g.M.Memory c.args.machine.now c.loop-call.machine c.play_one.new.machine c.args.calls.now c.loop-call.call-index (Newest 0 0)
    c.loop-call-test.true c.loop-call.invariant c.play_one.ensures
