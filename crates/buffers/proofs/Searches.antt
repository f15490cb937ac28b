-- What the calls of std find and keep, in the words of the lists.
use Rattle.std.proofs.Common.{◌≡◌, ℕ, Bool, true, false, cond, not, ◌&&◌, ◌||◌, List, [], ◌∷◌, Some, None, Option, sym, refl, ap, ◌∙◌, arith}
use Rattle.std.specs.List.{filter, find, list_any}
use Rattle.std.specs.Option.{option_or}
use Rattle.std.proofs.lemmas.Grind.{reverse_onto}
use Rattle.std.proofs.lemmas.List.Folds.{find-append}
use mathlib.Core.List.{reverse}
use Rattle.model.specs.Lists.{none_of, oldest_from, youngest, youngest_else, without}
use Rattle.model.proofs.Lists.{found, nowhere}
use Rattle.buffers.specs.Finding.{Finds}

module _ {T : Type 0} (test : T → Bool) where
  -- what the place of the oldest says
  pub finds : (xs : List T) (r : Option ℕ) → r ≡ oldest_from test 0 xs → Finds test xs r
  finds xs (Some i) e =
      let f = found test 0 xs i (sym e) in
      record {
        within = omega (arith, f.within);
        some = f.some;
        there = λ d. f.there i d (omega arith);
        left = f.left i (omega arith);
        rest = f.rest i (omega arith);
      }
  finds xs None e =
      let n = nowhere test 0 xs (sym e) in
      record { none = n.none; there = n.there; left = n.left; rest = n.rest }

  pub passes : (xs : List T) → list_any test xs ≡ not (none_of test xs)
  passes [] = refl
  passes (x ∷ xs) = go (test x) (passes xs)
    where
      go : (b : Bool) → list_any test xs ≡ not (none_of test xs) → (b || list_any test xs) ≡ not (not b && none_of test xs)
      go true h = refl
      go false h = h

  last_else : (o : Option T) (xs : List T) → option_or (find test (reverse xs)) o ≡ youngest_else test o xs
  last_else o [] = refl
  last_else o (x ∷ xs) =
      ap (λ ys. option_or (find test ys) o) (reverse_onto xs x [])
      ∙ ap (λ r. option_or r o) (find-append test (reverse xs) (x ∷ []))
      ∙ nested (find test (reverse xs)) (test x)
      ∙ last_else (cond (test x) (Some x) o) xs
    where
      nested : (r : Option T) (b : Bool) → option_or (option_or r (cond b (Some x) None)) o ≡ option_or r (cond b (Some x) o)
      nested None true = refl
      nested None false = refl
      nested (Some y) b = refl

  -- the first from the end
  pub last : (xs : List T) → find test (reverse xs) ≡ youngest test xs
  last xs = same (find test (reverse xs)) ∙ last_else None xs
    where
      same : (r : Option T) → r ≡ option_or r None
      same None = refl
      same (Some y) = refl

  pub kept : (xs : List T) → filter (λ x. not (test x)) xs ≡ without test xs
  kept [] = refl
  kept (x ∷ xs) = go (test x) (kept xs)
    where
      go : (b : Bool) → filter (λ y. not (test y)) xs ≡ without test xs → cond (not b) (x ∷ filter (λ y. not (test y)) xs) (filter (λ y. not (test y)) xs) ≡ cond b (without test xs) (x ∷ without test xs)
      go true h = h
      go false h = ap (λ ys. x ∷ ys) h
