-- A card has no fault exactly where it keeps every rule.
use Rattle.std.proofs.Common.{◌≡◌, ℕ, ◌+◌, ◌*◌, ◌<◌, ◌≤◌, Bool, true, ◌&&◌, leb, List, length, ok_or, IsErrAnd, Some, None, Ok, Err, Option, Result, sym, refl, ap, ◌∙◌}
use Rattle.std.proofs.lemmas.Bool.{and_from, and_parts, false≢true, le-leb, leb-true}
use Rattle.model.specs.declared.fault.Fault.{Fault}
use Rattle.model.specs.declared.fault.Refusal.{Refusal}
use Rattle.model.specs.declared.fault.Refusal.TheVariants.{Malformed}
use Rattle.formats.specs.CardRules.{CardRules, HeaderIsWhole, IsInstruction, OneToEightAddresses, OneToFourProcessors, ThreadFits}
use Rattle.formats.specs.Cards.{addresses_in, card_fault, card_refusal, count_at, fits_thread, furthest, header_fault, header_length, instr_byte, instr_bytes, instr_fault, instrs_fault, offset_at, processors_in, thread_fault}
use Rattle.formats.specs.Checks.{IsCheckedView, check, first, first_of}
use Rattle.isa.specs.Instrs.{decoded}
use Rattle.isa.specs.declared.instr.Instr.{Instr}
use Rattle.isa.proofs.Decoding.{decodes}
use Rattle.formats.proofs.Firsts.{all_none, check_from, check_parts, each_none, first_from, first_parts, refused, viewed}

range : (low high n : ℕ) → leb low n && leb n high ≡ true → (low ≤ n) × (n ≤ high)
range low high n e =
    let p = and_parts (leb low n) (leb n high) e in (leb-true low n p.0, leb-true n high p.1)

in_range : (low high n : ℕ) → (low ≤ n) × (n ≤ high) → leb low n && leb n high ≡ true
in_range low high n h = and_from (leb low n) (leb n high) (le-leb low n h.0) (le-leb n high h.1)

-- what a header that has no fault keeps
pub record HeaderRules (bs : List ℕ) : Type 0 where
  pub header : HeaderIsWhole bs
  pub processors : OneToFourProcessors bs
  pub addresses : OneToEightAddresses bs

pub header_keeps : (bs : List ℕ) → header_fault bs ≡ None → HeaderRules bs
header_keeps bs e =
    let a = check_parts (leb 2 (length bs)) _ _ e in
    let b = check_parts (leb 1 (processors_in bs) && leb (processors_in bs) 4) _ _ a.1 in
    let c = check_parts (leb 1 (addresses_in bs) && leb (addresses_in bs) 8) _ _ b.1 in
    let d = check_parts (leb (header_length bs) (length bs)) _ _ c.1 in
    record {
      header = (leb-true 2 (length bs) a.0, leb-true (header_length bs) (length bs) d.0);
      processors = range 1 4 (processors_in bs) b.0;
      addresses = range 1 8 (addresses_in bs) c.0;
    }

keeps_header : (bs : List ℕ) → HeaderRules bs → header_fault bs ≡ None
keeps_header bs h =
    check_from (leb 2 (length bs)) _ _ (le-leb 2 (length bs) h.header.0)
    (check_from (leb 1 (processors_in bs) && leb (processors_in bs) 4) _ _ (in_range 1 4 (processors_in bs) h.processors)
    (check_from (leb 1 (addresses_in bs) && leb (addresses_in bs) 8) _ _ (in_range 1 8 (addresses_in bs) h.addresses)
    (check_from (leb (header_length bs) (length bs)) _ _ (le-leb (header_length bs) (length bs) h.header.1) refl)))

pub thread_keeps : (bs : List ℕ) (p : ℕ) → header_length bs ≤ length bs → thread_fault bs p ≡ None → ThreadFits bs p
thread_keeps bs p h e =
    let a = check_parts (leb (count_at bs p) 16) _ _ e in
    let b = check_parts (leb (header_length bs) (offset_at bs p)) _ _ a.1 in
    let c = check_parts (leb (offset_at bs p + 4 * count_at bs p) (length bs)) _ _ b.1 in
    record {
      header = h;
      count = leb-true (count_at bs p) 16 a.0;
      inside = (leb-true (header_length bs) (offset_at bs p) b.0, leb-true (offset_at bs p + 4 * count_at bs p) (length bs) c.0);
    }

keeps_thread : (bs : List ℕ) (p : ℕ) → ThreadFits bs p → thread_fault bs p ≡ None
keeps_thread bs p h =
    check_from (leb (count_at bs p) 16) _ _ (le-leb (count_at bs p) 16 h.count)
    (check_from (leb (header_length bs) (offset_at bs p)) _ _ (le-leb (header_length bs) (offset_at bs p) h.inside.0)
    (check_from (leb (offset_at bs p + 4 * count_at bs p) (length bs)) _ _ (le-leb (offset_at bs p + 4 * count_at bs p) (length bs) h.inside.1) refl))

instr_is : (bs : List ℕ) (p i : ℕ) (o : Option Instr) → o ≡ decoded (instr_bytes bs p i) → fits_thread (count_at bs p) i o ≡ true → IsInstruction bs p i
instr_is bs p i None d e = absurd (false≢true e)
instr_is bs p i (Some x) d e =
    record { instr = x; bytes = (decodes (instr_bytes bs p i) x).0 (sym d); target = leb-true (furthest i x) (count_at bs p) e }

instr_keeps : (bs : List ℕ) (p i : ℕ) → instr_fault bs p i ≡ None → IsInstruction bs p i
instr_keeps bs p i e =
    instr_is bs p i (decoded (instr_bytes bs p i)) refl
    (check_parts (fits_thread (count_at bs p) i (decoded (instr_bytes bs p i))) _ _ e).0

keeps_instr : (bs : List ℕ) (p i : ℕ) → IsInstruction bs p i → instr_fault bs p i ≡ None
keeps_instr bs p i h =
    let d = (decodes (instr_bytes bs p i) h.instr).1 h.bytes in
    check_from (fits_thread (count_at bs p) i (decoded (instr_bytes bs p i))) _ _
    (ap (fits_thread (count_at bs p) i) d ∙ le-leb (furthest i h.instr) (count_at bs p) h.target) refl

read_is : (o : Option Instr) (x : Instr) → ok_or o Malformed ≡ Ok x → o ≡ Some x
read_is None x e = absurd cc
read_is (Some y) x e = cc

unread_is : (o : Option Instr) (e : Refusal) → ok_or o Malformed ≡ Err e → o ≡ None
unread_is None e h = refl
unread_is (Some y) e h = absurd cc

-- what was read for an instruction
module _ (bs : List ℕ) (p i : ℕ) (r : Result Instr Refusal) (read : r ≡ ok_or (decoded (instr_bytes bs p i)) Malformed) where
  abbrev fits : Option Instr → Option Fault
  fits o = check (fits_thread (count_at bs p) i o) (card_refusal Malformed (instr_byte bs p i)) None

  is : (x : Instr) → r ≡ Ok x → fits (Some x) ≡ instr_fault bs p i
  is x e = ap fits (sym (read_is (decoded (instr_bytes bs p i)) x (sym read ∙ e)))

  -- an instruction by whether it stays in its thread, and bytes that stand for none
  pub judged : (x : Instr) → r ≡ Ok x → (b : Bool) → b ≡ leb (furthest i x) (count_at bs p) → check b (card_refusal Malformed (instr_byte bs p i)) None ≡ instr_fault bs p i
  judged x e b h = ap (λ b. check b (card_refusal Malformed (instr_byte bs p i)) None) h ∙ is x e

  pub unread : (refusal : Refusal) → r ≡ Err refusal → Some (card_refusal Malformed (instr_byte bs p i)) ≡ instr_fault bs p i
  unread refusal e = ap fits (sym (unread_is (decoded (instr_bytes bs p i)) refusal (sym read ∙ e)))

pub threads_keep : (bs : List ℕ) → header_length bs ≤ length bs → first_of (thread_fault bs) 0 (processors_in bs) ≡ None → (p : ℕ) → p < processors_in bs → ThreadFits bs p
threads_keep bs h e p l = thread_keeps bs p h (each_none (thread_fault bs) (processors_in bs) e p l)

pub faultless_keeps : (bs : List ℕ) → card_fault bs ≡ None → CardRules bs
faultless_keeps bs e =
    let a = first_parts (header_fault bs) _ e in
    let b = first_parts (first_of (thread_fault bs) 0 (processors_in bs)) _ a.1 in
    let h = header_keeps bs a.0 in
    let t = threads_keep bs h.header.1 b.0 in
    record {
      header = h.header;
      processors = h.processors;
      addresses = h.addresses;
      counts = λ p l. (t p l).count;
      offsets = λ p l. (t p l).inside;
      instructions = λ p i l m. instr_keeps bs p i (each_none (instr_fault bs p) (count_at bs p) (each_none (instrs_fault bs) (processors_in bs) b.1 p l) i m);
    }

keeps_faultless : (bs : List ℕ) → CardRules bs → card_fault bs ≡ None
keeps_faultless bs r =
    first_from (header_fault bs) _ (keeps_header bs (record { header = r.header; processors = r.processors; addresses = r.addresses }))
    (first_from (first_of (thread_fault bs) 0 (processors_in bs)) _
    (all_none (thread_fault bs) (processors_in bs) (λ p l. keeps_thread bs p (record { header = r.header.1; count = r.counts p l; inside = r.offsets p l })))
    (all_none (instrs_fault bs) (processors_in bs) (λ p l. all_none (instr_fault bs p) (count_at bs p) (λ i m. keeps_instr bs p i (r.instructions p i l m)))))

abbrev threads : List ℕ → Option Fault
threads bs = first_of (thread_fault bs) 0 (processors_in bs)

abbrev instrs : List ℕ → Option Fault
instrs bs = first_of (instrs_fault bs) 0 (processors_in bs)

-- a header that was read from equal bytes, and that has no fault
module _ (bs header : List ℕ) (same : header ≡ bs) (h : None ≡ header_fault bs) where
  pub of_thread : (fault : Fault) → Some fault ≡ threads header → Some fault ≡ card_fault bs
  of_thread fault t = ap (λ o. first o (instrs bs)) (t ∙ ap threads same) ∙ ap (λ o. first o (first (threads bs) (instrs bs))) h

  pub of_instr : None ≡ threads header → (o : Option Fault) → o ≡ instrs header → o ≡ card_fault bs
  of_instr t o i =
      i
      ∙ (ap instrs same
      ∙ (ap (λ o. first o (instrs bs)) (t ∙ ap threads same) ∙ ap (λ o. first o (first (threads bs) (instrs bs))) h))

module _ {T : Type 0} (over : T → List ℕ) where
  pub card_viewed : (bs : List ℕ) (view : T) → None ≡ card_fault bs → over view ≡ bs → IsCheckedView over card_fault CardRules bs (Ok view)
  card_viewed = viewed over card_fault faultless_keeps keeps_faultless

  pub card_refused : (bs : List ℕ) (r : Result T Fault) (fault : Fault) → Some fault ≡ card_fault bs → IsErrAnd r (λ e. e ≡ fault) → IsCheckedView over card_fault CardRules bs r
  card_refused = refused over card_fault faultless_keeps keeps_faultless
