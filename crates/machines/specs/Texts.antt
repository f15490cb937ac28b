-- How calls and answers are written.
use Rattle.std.specs.Prelude.{ℕ, List, [], ◌∷◌, codes, decimal}
use Rattle.model.specs.Memory.{origin_text}
use Rattle.model.specs.Text.{text}
use Rattle.port.specs.declared.stored.Stored.{Stored}
use Rattle.port.specs.declared.stored.Stored.TheVariants.{Waiting, Landed as LandedDirectly}
use Rattle.machines.specs.declared.answers.Answer.{Answer}
use Rattle.machines.specs.declared.answers.Answer.TheVariants.{Loaded, Taken, Landed, Done}
use Rattle.machines.specs.declared.calls.Call.{Call}
use Rattle.machines.specs.declared.calls.Call.TheVariants.{Newest, Old, Put, Landing, Commit, Reconcile}

abbrev pub call_text : Call → List ℕ
call_text (Newest p a) = text (codes "newest " ∷ decimal p ∷ codes " address " ∷ decimal a ∷ [])
call_text (Old p a s) = text (codes "old " ∷ decimal p ∷ codes " address " ∷ decimal a ∷ codes " serial " ∷ decimal s ∷ [])
call_text (Put p a word place) = text (codes "put " ∷ decimal p ∷ codes " address " ∷ decimal a ∷ codes " word " ∷ decimal word ∷ [])
call_text (Landing p a) = text (codes "landing " ∷ decimal p ∷ codes " address " ∷ decimal a ∷ [])
call_text (Commit p) = text (codes "commit " ∷ decimal p ∷ [])
call_text (Reconcile p) = text (codes "reconcile " ∷ decimal p ∷ [])

abbrev pub stored_text : Stored → List ℕ
stored_text Waiting = codes "waits"
stored_text (LandedDirectly cell) = text (codes "landed serial " ∷ decimal cell.1 ∷ [])

abbrev pub answer_text : Answer → List ℕ
answer_text (Loaded value) = text (codes "word " ∷ decimal value.0 ∷ codes " from " ∷ origin_text value.1 ∷ [])
answer_text (Taken stored) = stored_text stored
answer_text (Landed cell) =
    text (codes "word " ∷ decimal cell.0 ∷ codes " serial " ∷ decimal cell.1 ∷ codes " from " ∷ origin_text cell.2 ∷ [])
answer_text Done = codes "done"
