-- Bytes in hexadecimal, with small letters.
use Rattle.std.specs.Prelude.{◌≡◌, ℕ, ◌+◌, ◌-◌, ◌*◌, ◌/◌, ◌<◌, cond, ◌&&◌, List, length, nat_le, slice_index}

-- the value of a digit, and 0 for what is none
abbrev pub digit_of : ℕ → ℕ
digit_of b = cond (nat_le 48 b && nat_le b 57) (b - 48) (cond (nat_le 97 b && nat_le b 102) (b - 87) 0)

-- a byte for each two digits of a text
pub record Spelled (text bytes : List ℕ) : Type 0 where
  pub len : length bytes ≡ length text / 2
  pub each : (k : ℕ) → k < length bytes → slice_index bytes k ≡ 16 * digit_of (slice_index text (2 * k)) + digit_of (slice_index text (2 * k + 1))
