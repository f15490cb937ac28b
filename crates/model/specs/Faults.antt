-- The refusal table: each refusal with its number and word, and each layer with its name.
use Rattle.std.specs.Prelude.{ℕ, List, [], ◌∷◌, codes, decimal}
use Rattle.model.specs.Text.{text}
use Rattle.model.specs.declared.fault.Fault.{Fault}
use Rattle.model.specs.declared.fault.Layer.{Layer}
use Rattle.model.specs.declared.fault.Layer.TheVariants.{Card, Sheet, Machine, Bench, Judge}
use Rattle.model.specs.declared.fault.Refusal.{Refusal}
use Rattle.model.specs.declared.fault.Refusal.TheVariants.{Cut, Count, Malformed, NoCore, Ended, Misfit, OffMap, NothingWaits, Waits, NoCopy, Held, Spent, Unfinished, Foreign, Occupied, Thread, Stray, Order, Value}

abbrev pub refusal_number : Refusal → ℕ
refusal_number Cut = 1
refusal_number Count = 2
refusal_number Malformed = 3
refusal_number NoCore = 4
refusal_number Ended = 5
refusal_number Misfit = 6
refusal_number OffMap = 7
refusal_number NothingWaits = 8
refusal_number Waits = 9
refusal_number NoCopy = 10
refusal_number Held = 11
refusal_number Spent = 12
refusal_number Unfinished = 13
refusal_number Foreign = 14
refusal_number Occupied = 15
refusal_number Thread = 16
refusal_number Stray = 17
refusal_number Order = 18
refusal_number Value = 19

abbrev pub refusal_word : Refusal → List ℕ
refusal_word Cut = codes "cut"
refusal_word Count = codes "count"
refusal_word Malformed = codes "malformed"
refusal_word NoCore = codes "no core"
refusal_word Ended = codes "ended"
refusal_word Misfit = codes "misfit"
refusal_word OffMap = codes "off map"
refusal_word NothingWaits = codes "nothing waits"
refusal_word Waits = codes "waits"
refusal_word NoCopy = codes "no copy"
refusal_word Held = codes "held"
refusal_word Spent = codes "spent"
refusal_word Unfinished = codes "unfinished"
refusal_word Foreign = codes "foreign"
refusal_word Occupied = codes "occupied"
refusal_word Thread = codes "thread"
refusal_word Stray = codes "stray"
refusal_word Order = codes "order"
refusal_word Value = codes "value"

abbrev pub layer_name : Layer → List ℕ
layer_name Card = codes "card"
layer_name Sheet = codes "sheet"
layer_name Machine = codes "machine"
layer_name Bench = codes "bench"
layer_name Judge = codes "judge"

-- the fault with which a layer refuses, at a place
abbrev pub refused : Layer → Refusal → ℕ → Fault
refused layer refusal place = record { refusal = refusal; layer = layer; place = place }

-- how a fault is written: refused NUMBER LAYER PLACE
abbrev pub fault_text : Fault → List ℕ
fault_text fault =
    text
    (codes "refused "
    ∷ decimal (refusal_number fault.refusal)
    ∷ codes " "
    ∷ layer_name fault.layer
    ∷ codes " "
    ∷ decimal fault.place
    ∷ [])
