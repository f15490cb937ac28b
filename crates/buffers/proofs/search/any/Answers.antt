use Rattle.std.proofs.Common.{rules, tests, arith}
use Rattle.std.proofs.lemmas.Iterator.{YieldsList-from_slice}
use Rattle.std.proofs.lemmas.Iterator.Search.{any_from_yields_List}
use Rattle.buffers.proofs.Searches.{passes}
use Rattle.buffers.proofs.search.any.Goals as goal

pub returns : goal.returns
returns g c =
    let t = g.Q.Query.picks c.args.query.now in
    let xs = c.args.items.now in
    let some = any_from_yields_List t _ _ c.any.result c.any.ensures.ran (YieldsList-from_slice xs cc) (λ x b q k. search (rules, tests)) in
    let same = passes t xs in
    grind (arith, some, same)
