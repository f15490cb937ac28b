-- Lists whose oldest element stands first: searches and removals by a test of the elements.
use Rattle.std.specs.Prelude.{ℕ, zero, suc, ◌+◌, Bool, true, cond, not, ◌&&◌, List, [], ◌∷◌, Some, None, Option, ◌==◌}
use Rattle.std.specs.List.{AllByRecursion}
-- the oldest that passes, and its place, where the list begins at a place
pub use Rattle.std.specs.List.{find as oldest, position_from as oldest_from}

-- f, but v at k
abbrev pub upd : {A : Type 0} → (ℕ → A) → ℕ → A → ℕ → A
upd f k v j = cond (j == k) v (f j)

-- f 0 + f 1 + .. + f (n - 1)
abbrev pub sum_to : (ℕ → ℕ) → ℕ → ℕ
sum_to f zero = 0
sum_to f (suc n) = sum_to f n + f n

-- no element passes
abbrev pub none_of : {T : Type 0} → (T → Bool) → List T → Bool
none_of test [] = true
none_of test (x ∷ xs) = not (test x) && none_of test xs

-- the list without it
abbrev pub without_oldest : {T : Type 0} → (T → Bool) → List T → List T
without_oldest test [] = []
without_oldest test (x ∷ xs) = cond (test x) xs (x ∷ without_oldest test xs)

-- the youngest that passes, else o
abbrev pub youngest_else : {T : Type 0} → (T → Bool) → Option T → List T → Option T
youngest_else test o [] = o
youngest_else test o (x ∷ xs) = youngest_else test (cond (test x) (Some x) o) xs

abbrev pub youngest : {T : Type 0} → (T → Bool) → List T → Option T
youngest test xs = youngest_else test None xs

-- the list without any that passes
abbrev pub without : {T : Type 0} → (T → Bool) → List T → List T
without test [] = []
without test (x ∷ xs) = cond (test x) (without test xs) (x ∷ without test xs)

-- R x y wherever x stands before y
abbrev pub Pairs : {T : Type 0} → (T → T → Type 0) → List T → Type 0
Pairs R [] = Unit {0}
Pairs R (x ∷ xs) = AllByRecursion (R x) xs × Pairs R xs
