-- What the eager kind chooses.
use Rattle.std.specs.Prelude.{ℕ, ◌+◌, Bool, cond, ◌&&◌, ◌||◌, length, Some, None, ◌==◌, nat_le, nat_lt}
use Rattle.model.specs.declared.fault.Refusal.TheVariants.{Held as HeldBack}
use Rattle.port.specs.Calls.{Choice}
use Rattle.port.specs.Holdings.{Held, total, may_keep, after_newest}

-- the processors that keep copies
abbrev pub odd : ℕ → Bool
odd q = q == 1 || q == 3

-- a store lands directly where nothing of its processor waits, odd processors keep every copy that they may, and a third store does not wait
abbrev pub eager_choice : Held → Choice
eager_choice h =
    record {
      lands = λ p a. (length (h.waits p) == 0);
      keeps = λ p a q. odd q && may_keep h p a q;
      refuses_old = λ p a s. None;
      refuses_put = λ p a. cond (nat_le 2 (length (h.waits p))) (Some HeldBack) None;
      refuses_landing = λ p a. None;
    }

-- how many copies the even processors hold
abbrev pub evens : Held → ℕ
evens h = length (h.copies 0) + length (h.copies 2)

-- they have none of that address
abbrev pub without_even : Held → ℕ → Held
without_even h a = after_newest (after_newest h 0 a) 2 a

-- two stores of p wait, and nothing else speaks against a third at a
abbrev pub full : Held → ℕ → ℕ → Bool
full h p a = nat_le 2 (length (h.waits p)) && (nat_lt a 8 && nat_lt (total h) 64)
