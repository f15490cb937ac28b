-- Text as bytes.
use Rattle.std.specs.Prelude.{ℕ, List, [], ◌∷◌, ◌++◌}

-- one piece after another
abbrev pub text : List (List ℕ) → List ℕ
text [] = []
text (piece ∷ []) = piece
text (piece ∷ (next ∷ rest)) = piece ++ text (next ∷ rest)
