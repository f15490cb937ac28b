use Rattle.foreign.proofs.Loads.{loads_put}
use Rattle.foreign.proofs.uses.stored.Goals as goal

pub returns-clause-same : goal.returns-clause-same
returns-clause-same g c =
    let m = c.args.machine.now in
    loads_put (g.M.Memory.choice m) (g.M.Memory.held m) c.args.processor c.args.address c.args.word 0 _ (g.M.Memory.held c.put.new.self) _ (g.M.Memory.held c.newest.new.self) (g.met.M.Port.bounds m) c.in_ok-put.ensures.0 c.in_ok-read.ensures.0
