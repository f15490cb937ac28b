use Rattle.std.proofs.Common.{◌≡◌, eqb, length, ok_or, sym, ap, ◌∙◌, arith, ltb-false, ltb-true}
use Rattle.std.proofs.lemmas.Bool.{cond-true, eq-eqb}
use Rattle.isa.specs.Instrs.{Decodes, decoded}
use Rattle.isa.proofs.Decoding.{decodes}
use Rattle.model.proofs.Choosing.{is_decoded}
use Rattle.model.specs.declared.fault.Refusal.TheVariants.{Malformed}
use Rattle.isa.proofs.instr.decode.InstrTryFromRefSliceU8.try_from.Goals as goal

pub returns : goal.returns
returns c =
    let bs = c.args.bytes.now in
    let four : length bs ≡ 4 = omega (arith, ltb-true, ltb-false) in
    let v : c.of_fields.result ≡ decoded bs =
    c.of_fields.ensures ∙ sym (cond-true (eqb (length bs) 4) _ _ (eq-eqb (length bs) 4 four)) in
    is_decoded decoded Decodes Malformed bs c.ok_or.result (c.ok_or.ensures.value ∙ ap (λ o. ok_or o Malformed) v) (decodes bs)
