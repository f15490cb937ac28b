-- What each of the four machines holds is sound, in the words of the port.
use Rattle.std.specs.Prelude.{ℕ, ◌≤◌}
use Rattle.std.proofs.Common.{sym, subst}
use Rattle.std.proofs.lemmas.List.{get_or_past}
use Rattle.buffers.proofs.Places.{past}
use Rattle.kinds.proofs.Invariants.{sound_of}
use Rattle.model.specs.Memory.{initial_cell}
use Rattle.port.specs.Laws.{Sound}
use Rattle.machine.specs.View.{held_of}
use Rattle.machine.specs.declared.buffered.Buffered.{Buffered}

pub sound_value : (k : ℕ) (m : Buffered k) → Sound (held_of m)
sound_value k m =
    sound_of (held_of m) m.bounded m.stale
    (λ p l. (past m.processors.waiting p l, past m.processors.copies p l))
    (λ a l. get_or_past m.cells a initial_cell (subst (λ n. n ≤ a) (sym m.whole) l))
