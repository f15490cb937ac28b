use Rattle.std.proofs.Common.{rules, arith, ◌≡◌, ℕ, zero, suc, ◌+◌, ◌^◌, ◌≤◌, List, length, take, refl, sym, ap, add-one, ◌∙◌}
use Rattle.std.specs.List.{sum_by}
use Rattle.std.proofs.iter.runs.Made.{chains}
use Rattle.std.proofs.lemmas.Iterator.{YieldsList-from_slice}
use Rattle.std.proofs.lemmas.Iterator.Adapters.{fits_from_length, at_most_from_yields_List}
use Rattle.std.proofs.lemmas.List.{take_all}
use Rattle.std.proofs.lemmas.List.Sums.{sum_by_more}
use Rattle.model.specs.Lists.{sum_to}
use Rattle.model.specs.Memory.{initial_cell}
use Rattle.model.specs.declared.memory.Cell.{Cell}
use Rattle.machine.specs.Parts.{cells_of}
use Rattle.machine.proofs.parts.serials.Goals as goal

-- the first n serials, summed along the list and by address
summed : (cells : List Cell) (n : ℕ) → n ≤ length cells → sum_by (λ (x : Cell). x.serial) (take n cells) ≡ sum_to (λ a. (cells_of cells a).serial) n
summed cells zero h = refl
summed cells (suc n) h =
    ap (λ i. sum_by (λ (x : Cell). x.serial) (take i cells)) (sym (add-one n)) ∙ sum_by_more (λ (x : Cell). x.serial) cells n initial_cell (omega arith)
    ∙ ap (λ s. s + (cells_of cells n).serial) (summed cells n (omega arith))

pub sum-requires-clause-fits : goal.sum-requires-clause-fits
sum-requires-clause-fits c =
    let few : length c.args.cells.now ≤ 8 = search rules in
    fits_from_length _ _ 8 (2 ^ 64) (at_most_from_yields_List (YieldsList-from_slice c.args.cells.now cc) few) c.map.ensures.closure (omega arith) (λ x r q k. search rules)

pub returns : goal.returns
returns c =
    let xs = c.args.cells.now in
    let sum : c.sum.result ≡ sum_by (λ (x : Cell). x.serial) xs = search (rules, chains) in
    let eight : length xs ≡ 8 = search rules in
    sum ∙ ap (λ ys. sum_by (λ (x : Cell). x.serial) ys) (sym (take_all 8 xs (omega arith))) ∙ summed xs 8 (omega arith)
