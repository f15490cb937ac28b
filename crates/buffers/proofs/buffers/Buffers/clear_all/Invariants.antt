use Rattle.std.proofs.Common.{◌≡◌, [], ◌≤◌, All, length, vec_items, vec_capacity}
use Rattle.std.specs.List.{AllWithin}
use Rattle.buffers.proofs.buffers.Buffers.clear_all.Given as goal

abbrev pub invariant-loop-buffer : goal.invariant-loop-buffer
invariant-loop-buffer g l =
    (length l.buffer-items ≡ 4)
    × AllWithin (λ v. vec_items v ≡ []) l.buffer-items 0 l.buffer-index
    × All (λ v. 64 ≤ vec_capacity v) l.buffer-items
