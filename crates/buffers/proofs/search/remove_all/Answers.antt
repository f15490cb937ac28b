use Rattle.std.proofs.Common.{rules, not, ◌∙◌}
use Rattle.std.proofs.lemmas.Fn.{filter_same}
use Rattle.buffers.proofs.Searches.{kept}
use Rattle.buffers.proofs.search.remove_all.Goals as goal

pub returns-clause-after : goal.returns-clause-after
returns-clause-after g c =
    let t = g.Q.Query.picks c.args.query.now in
    filter_same _ (λ x. not (t x)) _ (λ x b f' k. search rules) _ _ c.retain.ensures.filtered
    ∙ kept t c.args.items.now.items
