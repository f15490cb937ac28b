-- What it says of a list that the oldest that passes stands at a place, or that none passes.
use Rattle.std.specs.Prelude.{◌≡◌, ℕ, ◌<◌, Bool, true, false, List, length, Some, None, Option, slice_index_or}
use Rattle.std.specs.List.{remove}
use Rattle.model.specs.Lists.{none_of, oldest, without_oldest, without}

-- the oldest that passes stands at place i
pub record FoundAt {T : Type 0} (test : T → Bool) (xs : List T) (i : ℕ) : Type 0 where
  pub within : i < length xs
  pub some : none_of test xs ≡ false
  pub there : (d : T) → oldest test xs ≡ Some (slice_index_or xs i d)
  pub left : without_oldest test xs ≡ remove xs i
  pub rest : without test (remove xs i) ≡ without test xs

-- none passes
pub record FoundNone {T : Type 0} (test : T → Bool) (xs : List T) : Type 0 where
  pub none : none_of test xs ≡ true
  pub there : oldest test xs ≡ None
  pub left : without_oldest test xs ≡ xs
  pub rest : without test xs ≡ xs

abbrev pub Finds : {T : Type 0} → (T → Bool) → List T → Option ℕ → Type 0
Finds test xs (Some i) = FoundAt test xs i
Finds test xs None = FoundNone test xs
