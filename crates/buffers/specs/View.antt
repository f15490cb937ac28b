-- What the buffers hold.
use Rattle.std.specs.Prelude.{ℕ, Bool, ◌&&◌, List, [], length, map, slice_index_or, vec_items, nat_lt}
use Rattle.buffers.specs.declared.buffers.Buffers.{Buffers}

-- a processor's buffer, oldest first; there are four, so past them it is empty
abbrev pub buffer_of : {T : Type 0} → Buffers T → ℕ → List T
buffer_of b p = slice_index_or (map vec_items b.buffers) p []

-- whether a processor's buffer takes one more
abbrev pub has_room : {T : Type 0} → Buffers T → ℕ → Bool
has_room b p = nat_lt p 4 && nat_lt (length (buffer_of b p)) 64
