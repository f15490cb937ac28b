use Rattle.std.proofs.Common.{◌∙◌, rules, tests}
use Rattle.std.proofs.lemmas.Iterator.{YieldsList-from_slice}
use Rattle.std.proofs.lemmas.Iterator.Search.{find_from_yields_List}
use Rattle.machine.proofs.parts.first.Goals as goal

pub returns : goal.returns
returns g c =
    let picks = g.Q.Query.picks c.args.query.now in
    let found = find_from_yields_List picks _ _ c.find.result c.find.ensures.ran (YieldsList-from_slice c.args.items.now cc) (λ x b q k. search (rules, tests)) in
    c.copied.ensures ∙ found
