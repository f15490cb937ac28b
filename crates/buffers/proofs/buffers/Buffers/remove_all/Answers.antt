use Rattle.std.proofs.Common.{rules, vec_items}
use Rattle.model.specs.Lists.{without}
use Rattle.buffers.proofs.Places.{write}
use Rattle.buffers.proofs.buffers.Buffers.remove_all.Goals as goal

pub returns-then-at-lt4 : goal.returns-then-at-lt4
returns-then-at-lt4 g c = write vec_items c.args.self.now.buffers (without (g.Q.Query.picks c.args.query.now)) c.args.processor c.remove_all.new.items c.index-self-at.result (search rules) (search rules) (search rules)
