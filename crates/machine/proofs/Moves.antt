-- What each move leaves held, from what it leaves in the parts, and that the facts in the type still hold.
use Rattle.std.proofs.Common.{◌≡◌, ℕ, ◌<◌, Bool, true, false, cond, ◌&&◌, List, [], ◌∷◌, ◌++◌, length, set, Some, ap, ap₂, ◌∙◌, arith}
use Rattle.std.proofs.lemmas.List.{length-set}
use Rattle.std.proofs.lemmas.Bool.{cond-true}
use Rattle.buffers.specs.View.{buffer_of, has_room}
use Rattle.buffers.specs.declared.buffers.Buffers.{Buffers}
use Rattle.kinds.specs.Kinds.{choice_of, lands_directly, keeps_copies}
use Rattle.kinds.proofs.Invariants.{good_clear, good_direct, good_drop, good_landing, good_put}
use Rattle.model.specs.Lists.{upd, oldest, without_oldest, without}
use Rattle.model.specs.Memory.{initial_cell}
use Rattle.model.specs.declared.memory.Cell.{Cell}
use Rattle.model.specs.declared.memory.StaleCopy.{StaleCopy}
use Rattle.model.specs.declared.memory.WaitingStore.{WaitingStore}
use Rattle.model.proofs.Lists.{set_is_upd}
use Rattle.port.specs.Holdings.{after_direct, after_landing, after_put, copy_at, keeping, landed, may_keep_in, overwritten, store_at, store_of, total, with_copies}
use Rattle.machine.specs.Parts.{cells_of, held_in}
use Rattle.machine.specs.View.{held_of}
use Rattle.machine.specs.declared.access.Access.{Access}
use Rattle.machine.specs.declared.buffered.Buffered.{Buffered}
use Rattle.machine.specs.declared.processors.Processors.{Processors}
use Rattle.machine.proofs.Values.{Facts, facts, good_of, room_there}

module _ (k : ℕ) (m : Buffered k) where
  -- ## Fewer copies

  module _ (p : ℕ) (after : Processors) (same : after.waiting ≡ m.processors.waiting) where
    pub fewer_held : (cs : List StaleCopy) → buffer_of after.copies ≡ upd (buffer_of m.processors.copies) p cs → held_in m.cells after ≡ with_copies (held_of m) p cs
    fewer_held cs e = let w = ap (λ (b : Buffers WaitingStore). buffer_of b) same in cc

    pub dropped_facts : (test : StaleCopy → Bool) → buffer_of after.copies ≡ upd (buffer_of m.processors.copies) p (without test (buffer_of m.processors.copies p)) → Facts k m.cells after
    dropped_facts test e =
        facts k m.cells after (with_copies (held_of m) p (without test (buffer_of m.processors.copies p))) m.whole
        (fewer_held (without test (buffer_of m.processors.copies p)) e) (good_drop k (held_of m) (good_of k m) p test)

    pub cleared_facts : buffer_of after.copies ≡ upd (buffer_of m.processors.copies) p [] → Facts k m.cells after
    cleared_facts e = facts k m.cells after (with_copies (held_of m) p []) m.whole (fewer_held [] e) (good_clear k (held_of m) (good_of k m) p)

  module _ (x : Access) where
    -- ## A store that waits

    module _ (word place : ℕ) (before : Processors) (waiting : Buffers WaitingStore) (room : total (held_of m) < 64)
        (same : before.waiting ≡ m.processors.waiting)
        (dropped : buffer_of before.copies ≡ upd (buffer_of m.processors.copies) x.processor (without (copy_at x.address) (buffer_of m.processors.copies x.processor)))
        (pushed : buffer_of waiting ≡ cond (has_room before.waiting x.processor) (upd (buffer_of before.waiting) x.processor (buffer_of before.waiting x.processor ++ store_of x.processor x.address word place ∷ [])) (buffer_of before.waiting)) where
      pub put_held : held_in m.cells (record { waiting = waiting; copies = before.copies }) ≡ after_put (held_of m) x.processor (store_of x.processor x.address word place)
      put_held =
          let w = store_of x.processor x.address word place in
          let pushes : Buffers WaitingStore → ℕ → List WaitingStore = λ b. upd (buffer_of b) x.processor (buffer_of b x.processor ++ w ∷ []) in
          let e : buffer_of waiting ≡ upd (buffer_of m.processors.waiting) x.processor (buffer_of m.processors.waiting x.processor ++ w ∷ []) =
          pushed ∙ ap (λ (b : Buffers WaitingStore). cond (has_room b x.processor) (pushes b) (buffer_of b)) same
          ∙ cond-true (has_room m.processors.waiting x.processor) (pushes m.processors.waiting) (buffer_of m.processors.waiting) (room_there k m x.processor x.on_core room) in
          cc

      pub put_facts : lands_directly k ≡ false → Facts k m.cells (record { waiting = waiting; copies = before.copies })
      put_facts waits =
          facts k m.cells (record { waiting = waiting; copies = before.copies }) (after_put (held_of m) x.processor (store_of x.processor x.address word place)) m.whole put_held
          (good_put k (held_of m) (good_of k m) x.processor (store_of x.processor x.address word place) x.on_core room waits)

    -- ## A store that lands

    module _ (w : WaitingStore) (cells : List Cell) (written : cells ≡ set m.cells x.address (landed (cells_of m.cells x.address) w)) where
      cells_held : cells_of cells ≡ upd (cells_of m.cells) x.address (landed (cells_of m.cells x.address) w)
      cells_held = ap cells_of written ∙ set_is_upd m.cells x.address (landed (cells_of m.cells x.address) w) initial_cell (omega (arith, m.whole, x.on_map))

      cells_whole : length cells ≡ 8
      cells_whole = ap length written ∙ length-set m.cells x.address (landed (cells_of m.cells x.address) w) ∙ m.whole

    module _ (word place : ℕ) (cells : List Cell) (before after : Processors)
        (written : cells ≡ set m.cells x.address (landed (cells_of m.cells x.address) (store_of x.processor x.address word place)))
        (same : before.waiting ≡ m.processors.waiting)
        (dropped : buffer_of before.copies ≡ upd (buffer_of m.processors.copies) x.processor (without (copy_at x.address) (buffer_of m.processors.copies x.processor)))
        (still : after.waiting ≡ before.waiting)
        (kept : buffer_of after.copies ≡ keeping (λ q. keeps_copies k && may_keep_in (buffer_of before.waiting) x.processor x.address q) (overwritten (held_of m) x.address) (buffer_of before.copies)) where
      pub direct_held : held_in cells after ≡ after_direct (held_of m) x.processor (store_of x.processor x.address word place) ((choice_of k (held_of m)).keeps x.processor x.address)
      direct_held =
          let c = cells_held (store_of x.processor x.address word place) cells written in
          let w = ap (λ (b : Buffers WaitingStore). buffer_of b) (still ∙ same) in
          let e = kept ∙ ap₂ (λ (b : Buffers WaitingStore) f. keeping (λ q. keeps_copies k && may_keep_in (buffer_of b) x.processor x.address q) (overwritten (held_of m) x.address) f) same dropped in
          cc

      pub direct_facts : total (held_of m) < 64 → lands_directly k ≡ true → Facts k cells after
      direct_facts room lands =
          facts k cells after (after_direct (held_of m) x.processor (store_of x.processor x.address word place) ((choice_of k (held_of m)).keeps x.processor x.address)) (cells_whole (store_of x.processor x.address word place) cells written) direct_held
          (good_direct k (held_of m) (good_of k m) x.processor (store_of x.processor x.address word place) x.on_core x.on_map room lands)

    module _ (w : WaitingStore) (cells : List Cell) (before : Processors) (waiting : Buffers WaitingStore)
        (written : cells ≡ set m.cells x.address (landed (cells_of m.cells x.address) w))
        (same : before.waiting ≡ m.processors.waiting)
        (kept : buffer_of before.copies ≡ keeping ((choice_of k (held_of m)).keeps x.processor x.address) (overwritten (held_of m) x.address) (buffer_of m.processors.copies))
        (taken : buffer_of waiting ≡ upd (buffer_of before.waiting) x.processor (without_oldest (store_at x.address) (buffer_of before.waiting x.processor))) where
      pub landing_held : held_in cells (record { waiting = waiting; copies = before.copies }) ≡ after_landing (held_of m) x.processor x.address w ((choice_of k (held_of m)).keeps x.processor x.address)
      landing_held =
          let c = cells_held w cells written in
          let e = taken ∙ ap (λ (b : Buffers WaitingStore). upd (buffer_of b) x.processor (without_oldest (store_at x.address) (buffer_of b x.processor))) same in
          cc

      pub landing_facts : oldest (store_at x.address) (buffer_of m.processors.waiting x.processor) ≡ Some w → Facts k cells (record { waiting = waiting; copies = before.copies })
      landing_facts found =
          facts k cells (record { waiting = waiting; copies = before.copies }) (after_landing (held_of m) x.processor x.address w ((choice_of k (held_of m)).keeps x.processor x.address)) (cells_whole w cells written) landing_held
          (good_landing k (held_of m) (good_of k m) x.processor x.address w x.on_core x.on_map found)
