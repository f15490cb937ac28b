-- Even processors hold no copies, whatever an eager machine is asked.
use Rattle.std.specs.Prelude.{◌≡◌, ℕ, ◌≤◌, List, [], length, Some, None, Ok, Err, Option, Result}
use Rattle.std.proofs.Common.{sym, ap, subst, arith}
use Rattle.std.proofs.Math.Bridge.{le_prop}
use Rattle.model.specs.Lists.{oldest, without}
use Rattle.model.proofs.Lists.{length_without}
use Rattle.model.specs.declared.fault.Fault.{Fault}
use Rattle.model.specs.declared.fault.Refusal.{Refusal}
use Rattle.model.specs.declared.memory.StaleCopy.{StaleCopy}
use Rattle.model.specs.declared.memory.WaitingStore.{WaitingStore}
use Rattle.port.specs.Calls.{Outcome, gives, refuses, unless, Meets, map_refusal, spent_refusal, core_refusal, old_found, old_outcome, newest_outcome, landing_found, landing_outcome, put_outcome, reconcile_outcome}
use Rattle.port.specs.Holdings.{Held, store_at, copy_at, older_copy, exact_copy, store_of, with_copies}
use Rattle.machine.specs.View.{held_of, unset}
use Rattle.machine.specs.declared.buffered.Buffered.{Buffered}
use Rattle.kinds.specs.Kinds.{choice_of}
use Rattle.foreign.specs.Eager.{eager_choice, evens}
use Rattle.foreign.specs.declared.eager.Eager.{Eager}
use Rattle.foreign.proofs.Eagerness.{fewer, even_put}

-- ## Outcomes

-- the even processors hold none then
abbrev pub Even : {X : Type 0} → Outcome X → Type 0
Even (refuses f) = Unit {0}
Even (gives x g) = evens g ≤ 0

even_unless : {X : Type 0} (o : Option Refusal) (p : ℕ) (rest : Outcome X) → Even rest → Even (unless o p rest)
even_unless None p rest e = e
even_unless (Some r) p rest e = tt

module _ (h : Held) (none : evens h ≤ 0) (p : ℕ) where
  even_copies : (cs : List StaleCopy) → length cs ≤ length (h.copies p) → evens (with_copies h p cs) ≤ 0
  even_copies cs l = fewer h p cs l none

  pub even_newest : (a : ℕ) → Even (newest_outcome h p a)
  even_newest a = even_unless (map_refusal p a) p _ (even_copies (without (copy_at a) (h.copies p)) (length_without (copy_at a) (h.copies p)))

  pub even_old : (a s : ℕ) → Even (old_outcome (eager_choice h) h p a s)
  even_old a s = even_unless (map_refusal p a) p _ (go (oldest (exact_copy a s) (h.copies p)))
    where
      go : (o : Option StaleCopy) → Even (old_found (eager_choice h) h p a s o)
      go None = tt
      go (Some c) = even_copies (without (older_copy a s) (h.copies p)) (length_without (older_copy a s) (h.copies p))

  pub even_reconcile : Even (reconcile_outcome h p)
  even_reconcile = even_unless (core_refusal p) p _ (even_copies [] (omega arith))

  pub even_landing : (a : ℕ) → Even (landing_outcome (eager_choice h) h p a)
  even_landing a = even_unless (map_refusal p a) p _ (go (oldest (store_at a) (h.waits p)))
    where
      go : (o : Option WaitingStore) → Even (landing_found (eager_choice h) h p a o)
      go None = tt
      go (Some w) = none

  -- what WMM makes of a put
  pub even_puts : (a word place : ℕ) → Even (put_outcome (choice_of 3 h) h p a word place)
  even_puts a word place =
      even_unless (map_refusal p a) p _ (even_unless (spent_refusal h) p _ (even_put h p (store_of p a word place) none))

-- ## Machines

pub still : {X : Type 0} (o : Outcome X) → Even o → (s t : Buffered 3) (r : Result X Fault) → evens (held_of s) ≤ 0 → Meets held_of unset o s t r → evens (held_of t) ≤ 0
still o e s t (Ok x) none m = subst Even m.0 e
still o e s t (Err f) none m = subst (λ (u : Buffered 3). evens (held_of u) ≤ 0) (sym m.1) none

-- a fact about what is held has one proof
same : (b c : Buffered 3) → b ≡ c → (x : evens (held_of b) ≤ 0) (y : evens (held_of c) ≤ 0) → ◌≡◌ {A = Eager} (record { below = b; odd = x }) (record { below = c; odd = y })
same b c e x =
    subst (λ (d : Buffered 3). (y : evens (held_of d) ≤ 0) → ◌≡◌ {A = Eager} (record { below = b; odd = x }) (record { below = d; odd = y })) e
    (λ y. ap (λ (o : evens (held_of b) ≤ 0). record { below = b; odd = o }) (le_prop x y))

-- what the machine below does, the eager one does
pub passes : {X : Type 0} (o : Outcome X) (m : Eager) (b : Buffered 3) (none : evens (held_of b) ≤ 0) (r : Result X Fault) → Meets held_of unset o m.below b r → Meets (λ (x : Eager). held_of x.below) (λ (x : Eager). []) o m (record { below = b; odd = none }) r
passes o m b none (Ok x) h = h
passes o m b none (Err f) h = (h.0, same b m.below h.1 none m.odd)
