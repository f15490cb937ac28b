use Rattle.std.proofs.Common.{map, ap, ◌∙◌, rules}
use Rattle.std.proofs.lemmas.Iterator.{YieldsList-from_map, YieldsList-from_slice, items_from_collect}
use Rattle.std.proofs.lemmas.Result.{IfOk-weaker}
use Rattle.format_vectors.proofs.Pairs.{byte_of, spelled}
use Rattle.format_vectors.proofs.hex.bytes_of.Goals as goal

pub returns : goal.returns
returns c =
    IfOk-weaker c.collect.result _ _ (λ v e. spelled c.args.text.now v.items (e ∙ ap (map byte_of) c.as_chunks.ensures.front))
    (items_from_collect _ c.collect.ensures.ran
    (YieldsList-from_map _ byte_of (YieldsList-from_slice c.as_chunks.result.0.now cc) c.map.ensures.closure (λ x r q k. search rules)))
