-- The moves of a sheet that has no fault.
use Rattle.std.proofs.Common.{◌≡◌, ℕ, ◌<◌, false, List, length, is_some, sym}
use Rattle.std.specs.List.{slice_get}
use Rattle.formats.specs.Moves.{move_decoded}
use Rattle.formats.specs.Schedules.{schedule}
use Rattle.formats.specs.SheetRules.{SheetRules}
use Rattle.formats.specs.Sheets.{move_bytes, moves_in, sheet_fault}
use Rattle.formats.proofs.Firsts.{no_fault}
use Rattle.formats.proofs.MoveDecoding.{decodes_move}
use Rattle.formats.proofs.Records.{AllThere, records_length, records_nth}
use Rattle.formats.proofs.SheetAcceptance.{faultless_keeps}

pub keeps_rules : (bs : List ℕ) → is_some (sheet_fault bs) ≡ false → SheetRules bs
keeps_rules bs ok = faultless_keeps bs (no_fault (sheet_fault bs) ok)

module _ (bs : List ℕ) (ok : is_some (sheet_fault bs) ≡ false) where
  all_there : AllThere move_decoded 3 bs 2 (moves_in bs)
  all_there i l =
      let m = (keeps_rules bs ok).moves i l in
      (m.0, (decodes_move (move_bytes bs i) m.0).1 m.1)

  pub moves_length : moves_in bs ≡ length (schedule bs).moves
  moves_length = sym (records_length move_decoded 3 bs 2 (moves_in bs) all_there)

  pub moves_nth : (i : ℕ) → i < moves_in bs → move_decoded (move_bytes bs i) ≡ slice_get (schedule bs).moves i
  moves_nth i l = sym (records_nth move_decoded 3 bs 2 (moves_in bs) all_there i l)
