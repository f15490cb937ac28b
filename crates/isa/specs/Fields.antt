-- Which fields of an instruction may be other than 0.
use Rattle.std.specs.Prelude.{ℕ, Bool, not, ◌&&◌, ◌||◌, ◌==◌, nat_lt}
use Rattle.isa.specs.declared.fields.Field.{Field}
use Rattle.isa.specs.declared.fields.Field.TheVariants.{D, S, C}

-- none for the two fences, all but s for Set and Branch, and all for the others
abbrev pub used : ℕ → Field → Bool
used kind D = nat_lt kind 6
used kind S = nat_lt kind 6 && not (kind == 0 || kind == 3)
used kind C = nat_lt kind 6

abbrev pub unused_clear : ℕ → ℕ → ℕ → ℕ → Bool
unused_clear kind d s c = (used kind D || d == 0) && (used kind S || s == 0) && (used kind C || c == 0)
