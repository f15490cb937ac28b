use Rattle.std.proofs.Common.{rules, vec_items, []}
use Rattle.buffers.proofs.Places.{write}
use Rattle.buffers.proofs.buffers.Buffers.clear.Goals as goal

pub returns-then-at-lt4 : goal.returns-then-at-lt4
returns-then-at-lt4 g c = write vec_items c.args.self.now.buffers (λ xs. []) c.args.processor c.clear.new.self c.index-self-at.result (search rules) (search rules) (search rules)
