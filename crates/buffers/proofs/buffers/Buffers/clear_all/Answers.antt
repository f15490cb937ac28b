use Rattle.std.proofs.Common.{rules, vec_items}
use Rattle.buffers.proofs.Places.{empty}
use Rattle.buffers.proofs.buffers.Buffers.clear_all.Goals as goal

pub returns : goal.returns
returns g c = empty vec_items _ (search rules)
