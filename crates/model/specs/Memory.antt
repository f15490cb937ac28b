-- What memory begins with, and how the store that wrote a word is named in print.
use Rattle.std.specs.Prelude.{ℕ, List, [], ◌∷◌, codes, decimal}
use Rattle.model.specs.Text.{text}
use Rattle.model.specs.declared.memory.Cell.{Cell}
use Rattle.model.specs.declared.memory.Origin.{Origin}
use Rattle.model.specs.declared.memory.Origin.TheVariants.{Initial, Store}

-- the word that stands at an address before any store lands there
abbrev pub initial_word : ℕ
initial_word = 0

abbrev pub initial_cell : Cell
initial_cell = record { word = initial_word; serial = 0; origin = Initial }

abbrev pub origin_text : Origin → List ℕ
origin_text Initial = codes "init"
origin_text (Store p place) = text (decimal p ∷ codes "." ∷ decimal place ∷ [])
