-- What one of the four machines holds.
use Rattle.std.specs.Prelude.{ℕ, List, []}
use Rattle.port.specs.Holdings.{Held}
use Rattle.machine.specs.Parts.{held_in}
use Rattle.machine.specs.declared.buffered.Buffered.{Buffered}

abbrev pub held_of : {k : ℕ} → Buffered k → Held
held_of m = held_in m.cells m.processors

-- the four kinds have no settings
abbrev pub unset : {k : ℕ} → Buffered k → List ℕ
unset m = []
