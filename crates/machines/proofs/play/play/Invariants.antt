use Rattle.std.proofs.Common.{take}
use Rattle.machines.specs.Played.{Played}
use Rattle.machines.proofs.play.play.Given as goal

abbrev pub invariant-loop-call : goal.invariant-loop-call
invariant-loop-call g l = Played g.M.Memory l.initial.machine (take l.call-index l.calls) l.machine
