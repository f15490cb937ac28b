-- Calls that are made one after the other.
use Rattle.std.specs.Prelude.{◌≡◌, List, [], ◌∷◌, ◌++◌}
use Rattle.port.specs.Calls.{Outcome, refuses, gives}
use Rattle.port.specs.declared.memory.Memory.{Ghosts}
use Rattle.machines.specs.Calls.{call_outcome}
use Rattle.machines.specs.declared.calls.Call.{Call}

-- what an outcome leaves of a machine s
abbrev pub Leaves : {S X : Type 0} → Ghosts S → Outcome X → S → S → Type 0
Leaves G (refuses fault) s s' = s' ≡ s
Leaves G (gives x h) s s' = (G.held s' ≡ h) × (G.settings s' ≡ G.settings s)

-- calls, first to last, that took a machine from s to where it is now
pub data Played {S : Type 0} (G : Ghosts S) (s : S) : List Call → S → Type 0 where
  begun : Played G s [] s
  further : {calls : List Call} {t : S} (call : Call) (t' : S) → Played G s calls t → Leaves G (call_outcome (G.choice t) (G.held t) call) t t' → Played G s (calls ++ call ∷ []) t'
