-- What is known of a machine's value, and what is owed of a new one.
use Rattle.std.specs.Prelude.{◌≡◌, ℕ, zero, suc, ◌<◌, ◌≤◌, true, List, [], length, replicate, Some, nat_lt, slice_index_or, refl}
use Rattle.std.proofs.Common.{sym, ap, subst, ◌∙◌, arith}
use Rattle.std.proofs.Math.Path.{fun_ext}
use Rattle.std.proofs.lemmas.Bool.{lt-ltb, and_from}
use Rattle.buffers.specs.View.{buffer_of, has_room}
use Rattle.kinds.specs.Invariants.{Few, Stale}
use Rattle.kinds.specs.Kinds.{Plain}
use Rattle.kinds.proofs.Invariants.{Good}
use Rattle.model.specs.Memory.{initial_cell}
use Rattle.model.specs.declared.memory.Cell.{Cell}
use Rattle.model.specs.declared.memory.WaitingStore.{WaitingStore}
use Rattle.model.specs.Lists.{oldest}
use Rattle.model.proofs.Lists.{term_at_most, length_without_oldest}
use Rattle.port.specs.Holdings.{Held, nothing_yet, pending, total, store_at}
use Rattle.machine.specs.Parts.{cells_of, held_in}
use Rattle.machine.specs.View.{held_of}
use Rattle.machine.specs.declared.buffered.Buffered.{Buffered}
use Rattle.machine.specs.declared.processors.Processors.{Processors}

pub good_of : (k : ℕ) (m : Buffered k) → Good k (held_of m)
good_of k m = record { bounded = m.bounded; few = m.few; stale = m.stale; plain = m.plain }

-- the facts in the type, under their names
abbrev pub Facts : ℕ → List Cell → Processors → Type 0
Facts k cells processors =
    record {
      whole : length cells ≡ 8;
      bounded : total (held_in cells processors) ≤ 64;
      few : Few (held_in cells processors);
      stale : Stale (held_in cells processors);
      plain : Plain k (held_in cells processors);
    }

pub facts : (k : ℕ) (cells : List Cell) (processors : Processors) (h : Held) → length cells ≡ 8 → held_in cells processors ≡ h → Good k h → Facts k cells processors
facts k cells processors h whole e g =
    let good = subst (Good k) (sym e) g in
    record { whole = whole; bounded = good.bounded; few = good.few; stale = good.stale; plain = good.plain }

-- ## Room

-- a store that is taken finds its buffer with room
pub room_there : (k : ℕ) (m : Buffered k) (p : ℕ) → p < 4 → total (held_of m) < 64 → has_room m.processors.waiting p ≡ true
room_there k m p l room =
    let at_most : length (buffer_of m.processors.waiting p) ≤ pending (buffer_of m.processors.waiting) = term_at_most length (buffer_of m.processors.waiting) p 4 l in
    and_from (nat_lt p 4) (nat_lt (length (buffer_of m.processors.waiting p)) 64) (lt-ltb p 4 l) (lt-ltb (length (buffer_of m.processors.waiting p)) 64 (omega arith))

-- where a store waits, fewer than 64 have landed, so that there is room for one copy more
pub copy_room : (k : ℕ) (m : Buffered k) (p a : ℕ) (w : WaitingStore) → p < 4 → oldest (store_at a) (buffer_of m.processors.waiting p) ≡ Some w → (q : ℕ) → length (buffer_of m.processors.copies q) < 64
copy_room k m p a w l found q =
    let at_most : length (buffer_of m.processors.waiting p) ≤ pending (buffer_of m.processors.waiting) = term_at_most length (buffer_of m.processors.waiting) p 4 l in
    omega (arith, m.few q, m.bounded, length_without_oldest (store_at a) (buffer_of m.processors.waiting p) w found)

-- ## New machines

initials : (n a : ℕ) → slice_index_or (replicate n initial_cell) a initial_cell ≡ initial_cell
initials zero a = refl
initials (suc n) zero = refl
initials (suc n) (suc a) = initials n a

pub held_new : (cells : List Cell) (processors : Processors) → cells ≡ replicate 8 initial_cell → buffer_of processors.waiting ≡ (λ p. []) → buffer_of processors.copies ≡ (λ p. []) → held_in cells processors ≡ nothing_yet
held_new cells processors e f g =
    let c : cells_of cells ≡ (λ a. initial_cell) = ap cells_of e ∙ fun_ext (initials 8) in
    cc

-- ## Equal values

-- what is so of an answer and of what is held is so of those that are equal to them
pub carried : {X : Type 0} (F : X → Held → Type 0) (x y : X) (g h : Held) → x ≡ y → g ≡ h → F y h → F x g
carried F x y g h e f r = subst (λ z. F z g) (sym e) (subst (F y) (sym f) r)
