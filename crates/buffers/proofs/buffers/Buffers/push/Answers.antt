use Rattle.std.proofs.Common.{rules, ◌≡◌, true, vec_items, [], ◌∷◌, ◌++◌}
use Rattle.buffers.specs.View.{has_room}
use Rattle.buffers.proofs.Places.{write}
use Rattle.buffers.proofs.buffers.Buffers.push.Goals as goal

pub returns-then-has_room-clause-after : goal.returns-then-has_room-clause-after
returns-then-has_room-clause-after g c =
    let room : has_room c.args.self.now c.args.processor ≡ true = cc in
    rw room (write vec_items c.args.self.now.buffers (λ xs. xs ++ c.args.item ∷ []) c.args.processor c.push_reserved.new.self c.index-self-processor.result (search rules) (search rules) (search rules))
