-- The threads of a card that has no fault.
use Rattle.std.proofs.Common.{◌≡◌, ℕ, ◌<◌, ◌≤◌, false, ltb, List, [], length, is_some, Some, None, Option, sym, ap, ◌∙◌, subst, arith}
use Rattle.std.specs.List.{slice_get}
use Rattle.std.proofs.lemmas.Bool.{cond-true, lt-ltb}
use Rattle.std.proofs.lemmas.Option.{slice_get_past}
use Rattle.formats.specs.declared.card.Card.{Card}
use Rattle.formats.specs.declared.card.thread.Thread.{Thread}
use Rattle.formats.specs.CardRules.{CardRules}
use Rattle.formats.specs.Cards.{card_fault, count_at, furthest, instr_bytes, offset_at, processors_in}
use Rattle.isa.specs.Instrs.{decoded}
use Rattle.formats.specs.Programs.{Runs, program, program_of}
use Rattle.formats.specs.Records.{records_from}
use Rattle.isa.specs.declared.instr.Instr.{Instr}
use Rattle.formats.proofs.CardAcceptance.{faultless_keeps}
use Rattle.isa.proofs.Decoding.{decodes}
use Rattle.formats.proofs.Firsts.{no_fault}
use Rattle.formats.proofs.Records.{AllThere, records_length, records_nth}

pub rules : (bs : List ℕ) → is_some (card_fault bs) ≡ false → CardRules bs
rules bs ok = faultless_keeps bs (no_fault (card_fault bs) ok)

module _ (bs : List ℕ) (ok : is_some (card_fault bs) ≡ false) (p : ℕ) where
  all_there : p < processors_in bs → AllThere decoded 4 bs (offset_at bs p) (count_at bs p)
  all_there l i m =
      let r = (rules bs ok).instructions p i l m in
      (r.instr, (decodes (instr_bytes bs p i) r.instr).1 r.bytes)

  thread_is : p < processors_in bs → (program bs).thread p ≡ records_from decoded 4 bs (offset_at bs p) (count_at bs p)
  thread_is l = cond-true (ltb p (processors_in bs)) (records_from decoded 4 bs (offset_at bs p) (count_at bs p)) [] (lt-ltb p (processors_in bs) l)

  pub thread_length : p < processors_in bs → count_at bs p ≡ length ((program bs).thread p)
  thread_length l = sym (ap length (thread_is l) ∙ records_length decoded 4 bs (offset_at bs p) (count_at bs p) (all_there l))

  pub thread_nth : p < processors_in bs → (i : ℕ) → i < count_at bs p → decoded (instr_bytes bs p i) ≡ slice_get ((program bs).thread p) i
  thread_nth l i m = sym (ap (λ t. slice_get t i) (thread_is l) ∙ records_nth decoded 4 bs (offset_at bs p) (count_at bs p) (all_there l) i m)

-- what is read of a card's thread, whose count is n
module _ (card : Card) {p : ℕ} (thread : Thread) (same : (thread.header.bytes.now ≡ card.bytes.now) × (thread.processor ≡ p)) {n : ℕ} (len : n ≡ count_at thread.header.bytes.now thread.processor) where
  abbrev instrs : List Instr
  instrs = (program_of card).thread p

  there : p < processors_in card.bytes.now
  there = let named = thread.named in let a = ap processors_in same.0 in let b = same.1 in omega arith

  counted : n ≡ count_at card.bytes.now p
  counted = len ∙ (ap (λ b. count_at b thread.processor) same.0 ∙ ap (count_at card.bytes.now) same.1)

  pub read_length : n ≡ length instrs
  read_length = counted ∙ thread_length card.bytes.now card.ok p there

  pub read_past : (i : ℕ) → n ≤ i → None ≡ slice_get instrs i
  read_past i h = let long = read_length in sym (slice_get_past instrs i (omega arith))

  pub read_nth : (i : ℕ) → i < n → decoded (instr_bytes thread.header.bytes.now thread.processor i) ≡ slice_get instrs i
  read_nth i h =
      let long = counted in
      ap (λ b. decoded (instr_bytes b thread.processor i)) same.0
      ∙ (ap (λ p. decoded (instr_bytes card.bytes.now p i)) same.1 ∙ thread_nth card.bytes.now card.ok p there i (omega arith))

  -- an instruction that the thread has runs with no check of its own
  pub read_runs : (i : ℕ) → i < n → (o : Option Instr) → o ≡ slice_get instrs i → Runs (length instrs) i o
  read_runs i h o e =
      let bs = card.bytes.now in
      let long = counted in
      let m : i < count_at bs p = omega arith in
      let r = (rules bs card.ok).instructions p i there m in
      let is = (decodes (instr_bytes bs p i) r.instr).1 r.bytes in
      let same' : Some r.instr ≡ o = sym is ∙ (thread_nth bs card.ok p there i m ∙ sym e) in
      subst (Runs (length instrs) i) same'
      (r.bytes.registers, subst (λ n. furthest i r.instr ≤ n) (thread_length bs card.ok p there) r.target)
