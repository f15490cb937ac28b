-- A sheet has no fault exactly where it keeps every rule.
use Rattle.std.proofs.Common.{◌≡◌, ℕ, ◌+◌, ◌*◌, true, leb, List, length, is_some, IsErrAnd, Some, None, Ok, Option, Result, refl, ap, ◌∙◌}
use Rattle.std.proofs.lemmas.Bool.{false≢true, le-leb, leb-true}
use Rattle.model.specs.Kinds.{DecodesKind, kind_numbered}
use Rattle.model.specs.declared.fault.Fault.{Fault}
use Rattle.formats.specs.Checks.{IsCheckedView, first, first_of}
use Rattle.formats.specs.Moves.{move_decoded}
use Rattle.formats.specs.SheetRules.{IsMove, MovesAreWhole, NamesKind, SheetRules}
use Rattle.formats.specs.Sheets.{kind_in, move_bytes, move_fault, moves_in, sheet_fault, start_fault}
use Rattle.model.proofs.Numbering.{decodes_kind}
use Rattle.formats.proofs.Firsts.{all_none, check_from, check_parts, each_none, first_from, first_parts, refused, viewed}
use Rattle.formats.proofs.MoveDecoding.{decodes_move}

there : {T : Type 0} (o : Option T) → is_some o ≡ true → (x : T) × (o ≡ Some x)
there None e = absurd (false≢true e)
there (Some x) e = (x, refl)

kind_is : (bs : List ℕ) → DecodesKind (kind_in bs) (kind_numbered (kind_in bs))
kind_is bs = decodes_kind (kind_in bs)

-- what a start that has no fault keeps
pub record StartRules (bs : List ℕ) : Type 0 where
  pub kind : NamesKind bs
  pub whole : MovesAreWhole bs

pub start_keeps : (bs : List ℕ) → start_fault bs ≡ None → StartRules bs
start_keeps bs e =
    let a = check_parts (leb 2 (length bs)) _ _ e in
    let b = check_parts (is_some (kind_numbered (kind_in bs))) _ _ a.1 in
    let c = check_parts (leb (2 + 3 * moves_in bs) (length bs)) _ _ b.1 in
    let k = there (kind_numbered (kind_in bs)) b.0 in
    record {
      kind = (k.0, (kind_is bs k.0).0 k.1);
      whole = (leb-true 2 (length bs) a.0, leb-true (2 + 3 * moves_in bs) (length bs) c.0);
    }

keeps_start : (bs : List ℕ) → StartRules bs → start_fault bs ≡ None
keeps_start bs h =
    check_from (leb 2 (length bs)) _ _ (le-leb 2 (length bs) h.whole.0)
    (check_from (is_some (kind_numbered (kind_in bs))) _ _ (ap is_some ((kind_is bs h.kind.0).1 h.kind.1))
    (check_from (leb (2 + 3 * moves_in bs) (length bs)) _ _ (le-leb (2 + 3 * moves_in bs) (length bs) h.whole.1) refl))

move_keeps : (bs : List ℕ) (i : ℕ) → move_fault bs i ≡ None → IsMove bs i
move_keeps bs i e =
    let m = there (move_decoded (move_bytes bs i)) (check_parts (is_some (move_decoded (move_bytes bs i))) _ _ e).0 in
    (m.0, (decodes_move (move_bytes bs i) m.0).0 m.1)

keeps_move : (bs : List ℕ) (i : ℕ) → IsMove bs i → move_fault bs i ≡ None
keeps_move bs i h =
    check_from (is_some (move_decoded (move_bytes bs i))) _ _
    (ap is_some ((decodes_move (move_bytes bs i) h.0).1 h.1)) refl

pub faultless_keeps : (bs : List ℕ) → sheet_fault bs ≡ None → SheetRules bs
faultless_keeps bs e =
    let a = first_parts (start_fault bs) _ e in
    let s = start_keeps bs a.0 in
    record { kind = s.kind; whole = s.whole; moves = λ i l. move_keeps bs i (each_none (move_fault bs) (moves_in bs) a.1 i l) }

keeps_faultless : (bs : List ℕ) → SheetRules bs → sheet_fault bs ≡ None
keeps_faultless bs r =
    first_from (start_fault bs) _ (keeps_start bs (record { kind = r.kind; whole = r.whole }))
    (all_none (move_fault bs) (moves_in bs) (λ i l. keeps_move bs i (r.moves i l)))

-- the fault of a sheet whose start has none
pub past_start : (bs : List ℕ) → None ≡ start_fault bs → (o : Option Fault) → o ≡ first_of (move_fault bs) 0 (moves_in bs) → o ≡ sheet_fault bs
past_start bs h o m = m ∙ ap (λ o. first o (first_of (move_fault bs) 0 (moves_in bs))) h

module _ {T : Type 0} (over : T → List ℕ) where
  pub sheet_viewed : (bs : List ℕ) (view : T) → None ≡ sheet_fault bs → over view ≡ bs → IsCheckedView over sheet_fault SheetRules bs (Ok view)
  sheet_viewed = viewed over sheet_fault faultless_keeps keeps_faultless

  pub sheet_refused : (bs : List ℕ) (r : Result T Fault) (fault : Fault) → Some fault ≡ sheet_fault bs → IsErrAnd r (λ e. e ≡ fault) → IsCheckedView over sheet_fault SheetRules bs r
  sheet_refused = refused over sheet_fault faultless_keeps keeps_faultless
