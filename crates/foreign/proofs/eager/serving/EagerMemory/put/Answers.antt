use Rattle.std.proofs.Common.{Err, length, sym, refl, ◌∙◌}
use Rattle.std.proofs.lemmas.Bool.{eqb-true}
use Rattle.std.proofs.lemmas.Result.{err_from_is_err_and}
use Rattle.kinds.specs.Kinds.{choice_of}
use Rattle.port.specs.Calls.{put_outcome}
use Rattle.machine.specs.View.{held_of}
use Rattle.machine.specs.Soundness.{sound_value}
use Rattle.foreign.specs.Eager.{eager_choice}
use Rattle.foreign.proofs.Eagerness.{put_refused, put_lands, never_refused}
use Rattle.foreign.proofs.Evenness.{even_puts, passes, still}
use Rattle.foreign.proofs.eager.serving.EagerMemory.put.Goals as goal

pub invariant_of-self : goal.invariant_of-self
invariant_of-self c =
    let s = c.args.self.now.below in
    let h = held_of s in
    let none = c.args.self.now.odd in
    record { odd = still (put_outcome (choice_of 3 h) h c.args.processor c.args.address c.args.word c.args.place) (even_puts h none c.args.processor c.args.address c.args.word c.args.place) s c.put.new.self c.put.result none c.put.ensures.meets }

pub returns-in_err-stored : goal.returns-in_err-stored
returns-in_err-stored c =
    let h = held_of c.args.self.now.below in
    let meets = c.in_err-stored.ensures.meets in
    let refused = put_refused h c.args.processor c.args.address c.args.word c.args.place c.in_err-stored.field-0.0 meets.0 in
    let p = err_from_is_err_and c.from_residual.result c.from_residual.ensures.1 in
    rw (p.1, p.2) (passes (put_outcome (eager_choice h) h c.args.processor c.args.address c.args.word c.args.place) c.args.self.now c.put.new.self _ (Err c.in_err-stored.field-0.0) (refused, meets.1))

pub returns-in_err-landing : goal.returns-in_err-landing
returns-in_err-landing c =
    let s = c.args.self.now.below in
    let p = c.args.processor in
    let free = sym c.is_full.ensures ∙ c.if-is_full.false in
    let none = eqb-true (length ((held_of s).waits p)) 0 (sym c.nothing_waits-first.ensures ∙ c.if-first.true) in
    absurd (never_refused (held_of s) (sound_value 3 s) p c.args.address c.args.word c.args.place free c.in_ok-stored.stored (held_of c.put.new.self) c.in_ok-stored.ensures.meets.0 none _ c.in_err-landing.ensures.0)

pub returns-then-first : goal.returns-then-first
returns-then-first c =
    let s = c.args.self.now.below in
    let p = c.args.processor in
    let free = sym c.is_full.ensures ∙ c.if-is_full.false in
    let none = eqb-true (length ((held_of s).waits p)) 0 (sym c.nothing_waits-first.ensures ∙ c.if-first.true) in
    (put_lands (held_of s) (sound_value 3 s) p c.args.address c.args.word c.args.place free c.in_ok-stored.stored (held_of c.put.new.self) c.in_ok-stored.ensures.meets.0 none c.in_ok-landing.field-0 (held_of c.landing.new.self.below) c.in_ok-landing.ensures.0, refl)
