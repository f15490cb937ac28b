-- The address of a load or a store.
use Rattle.std.specs.Prelude.{ℕ, ◌+◌, ◌%◌, ◌^◌, cond, Some, None, Option, nat_lt}

-- the word of the base register plus the displacement, as a word
abbrev pub address_word : ℕ → ℕ → ℕ
address_word base displacement = (base + displacement) % 2 ^ 32

-- that address on a map of so many addresses, or none where it is off the map
abbrev pub address_on : ℕ → ℕ → ℕ → Option ℕ
address_on addresses base displacement = cond (nat_lt (address_word base displacement) addresses) (Some (address_word base displacement)) None
