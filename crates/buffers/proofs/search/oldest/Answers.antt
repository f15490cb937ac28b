use Rattle.std.proofs.Common.{rules, tests, arith, ◌∙◌}
use Rattle.std.proofs.lemmas.Grind.{common_steps}
use Rattle.std.proofs.lemmas.Iterator.{YieldsList-from_slice}
use Rattle.std.proofs.lemmas.Iterator.Adapters.{position_from-zero}
use Rattle.std.proofs.lemmas.Iterator.Search.{position_from_yields_List}
use Rattle.buffers.proofs.Searches.{finds}
use Rattle.buffers.proofs.search.oldest.Goals as goal

pub returns : goal.returns
returns g c =
    let t = g.Q.Query.picks c.args.query.now in
    let xs = c.args.items.now in
    let first = position_from_yields_List t _ _ c.position.result c.position.ensures.ran (YieldsList-from_slice xs (grind (arith, common_steps))) (λ x b q k. search (rules, tests)) in
    let value = first ∙ position_from-zero t xs in
    record { value = value; finds = finds t xs c.position.result value }
