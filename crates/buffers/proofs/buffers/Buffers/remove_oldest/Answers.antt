use Rattle.std.proofs.Common.{rules, vec_items}
use Rattle.model.specs.Lists.{without_oldest}
use Rattle.buffers.proofs.Places.{write}
use Rattle.buffers.proofs.buffers.Buffers.remove_oldest.Goals as goal

pub returns-then-at-lt4-clause-after : goal.returns-then-at-lt4-clause-after
returns-then-at-lt4-clause-after g c = write vec_items c.args.self.now.buffers (without_oldest (g.Q.Query.picks c.args.query.now)) c.args.processor c.remove_oldest.new.items c.index-self-at.result (search rules) (search rules) (search rules)
