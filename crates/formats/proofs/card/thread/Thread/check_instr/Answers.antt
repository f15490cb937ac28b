use Rattle.std.proofs.Common.{true, false, Some, sym, ap, ◌∙◌}
use Rattle.formats.specs.Cards.{card_refusal}
use Rattle.formats.proofs.CardAcceptance.{judged, unread}
use Rattle.model.specs.declared.fault.Refusal.TheVariants.{Malformed}
use Rattle.formats.proofs.card.thread.Thread.check_instr.Goals.{in_default-via-in-Ok+else-has_target, in_default-via-in_default}
use Rattle.formats.proofs.card.thread.Thread.check_instr.Goals as goal

pub returns-in-Ok : goal.returns-in-Ok
returns-in-Ok c =
    let thread = c.args.self.now in
    judged thread.header.bytes.now thread.processor c.args.index c.instr.result c.instr.ensures c.in-Ok.instr c.in-Ok.is true
    (sym c.if-has_target.true ∙ c.has_target.ensures)

pub returns-in_default : goal.returns-in_default
returns-in_default c =
    let thread = c.args.self.now in
    ap Some (c.refuses.ensures ∙ ap (card_refusal Malformed) c.byte_of.ensures)
    ∙ elim c.in_default.branch [
      | in_default-via-in-Ok+else-has_target w ↦
          judged thread.header.bytes.now thread.processor c.args.index c.instr.result c.instr.ensures w.in-Ok.instr w.in-Ok.is false
          (sym w.if-has_target.false ∙ w.has_target.ensures)
      | in_default-via-in_default w ↦
          unread thread.header.bytes.now thread.processor c.args.index c.instr.result c.instr.ensures w.in_default.field-0 w.in_default.is
    ]
