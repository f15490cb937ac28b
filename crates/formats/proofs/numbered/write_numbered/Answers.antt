use Rattle.std.proofs.Common.{is_ok, sym, ap, ◌∙◌, arith}
use Rattle.formats.proofs.Listings.{has_item, line_written, lines_written}
use Rattle.formats.proofs.numbered.write_numbered.Goals as goal
use Rattle.formats.proofs.numbered.write_numbered.Goals.{in-Some+in_ok-writeln, in_default}

pub loop-index-preserved : goal.loop-index-preserved
loop-index-preserved g c show items shows answers plain =
    let i = c.loop-index.index-counter in
    let so_far = c.loop-index.invariant show items shows answers plain in
    let is = answers.each i c.get.result c.loop-index-test.true c.get.ensures in
    elim c.match-get.branch [
      | in-Some+in_ok-writeln w ↦
          rw w.f-is
          (line_written show g.W.Write.write_str_gives c.args.f.now items i w.in-Some.item c.loop-index.f w.writeln.new.self (sym is ∙ w.in-Some.is) so_far
          (λ flat. (rw (shows w.in-Some.item) at w.writeln.ensures.writes) flat (ap is_ok w.in_ok-writeln.was)))
      | in_default w ↦ absurd (has_item show items i (omega (arith, answers.len)) (sym w.in_default.is ∙ is))
    ]

pub returns : goal.returns
returns g c show items shows answers plain ok =
    lines_written show g.W.Write.write_str_gives c.args.f.now items c.loop-index.index-counter c.loop-index.f
    (omega (arith, answers.len)) (c.loop-index.invariant show items shows answers plain)
