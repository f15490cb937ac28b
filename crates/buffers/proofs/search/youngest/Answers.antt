use Rattle.std.proofs.Common.{rules, tests, sym, ◌∙◌}
use Rattle.std.proofs.lemmas.Iterator.Adapters.{YieldsList-from_rev_slice, option_map_id}
use Rattle.std.proofs.lemmas.Iterator.Consumers.{YieldsList-from_copied}
use Rattle.std.proofs.lemmas.Iterator.Search.{find_from_yields_List}
use Rattle.buffers.proofs.Searches.{last}
use Rattle.buffers.proofs.search.youngest.Goals as goal

pub returns : goal.returns
returns g c =
    let t = g.Q.Query.picks c.args.query.now in
    let xs = c.args.items.now in
    sym (option_map_id c.find.result)
    ∙ find_from_yields_List t _ _ c.find.result c.find.ensures.ran (YieldsList-from_copied (YieldsList-from_rev_slice xs cc)) (λ x b q k. search (rules, tests))
    ∙ last t xs
