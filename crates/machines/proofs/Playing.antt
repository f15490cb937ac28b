-- One call more.
use Rattle.std.proofs.Common.{ℕ, ◌+◌, ◌<◌, List, length, get_or, take, sym, subst}
use Rattle.std.proofs.lemmas.List.{take_more}
use Rattle.port.specs.declared.memory.Memory.{Ghosts}
use Rattle.machines.specs.Calls.{call_outcome}
use Rattle.machines.specs.Played.{Leaves, Played, further}
use Rattle.machines.specs.declared.calls.Call.{Call}

pub played_more : {S : Type 0} (G : Ghosts S) (s t t' : S) (calls : List Call) (i : ℕ) (d : Call) → i < length calls → Played G s (take i calls) t → Leaves G (call_outcome (G.choice t) (G.held t) (get_or calls i d)) t t' → Played G s (take (i + 1) calls) t'
played_more G s t t' calls i d l before step =
    subst (λ (cs : List Call). Played G s cs t') (sym (take_more calls i d l)) (further (get_or calls i d) t' before step)
