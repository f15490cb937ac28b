-- The laws hold of the eager kind.
use Rattle.std.specs.Prelude.{cond, length, Some, None, nat_le}
use Rattle.std.proofs.Common.{refl, ap}
use Rattle.std.proofs.lemmas.List.{nil_from_length}
use Rattle.std.proofs.lemmas.Bool.{and_parts, eqb-true, false≢true}
use Rattle.model.specs.Lists.{none_of}
use Rattle.model.specs.Tables.{wmm_table}
use Rattle.model.specs.declared.fault.Refusal.TheVariants.{Held as HeldBack}
use Rattle.kinds.proofs.Laws.{own}
use Rattle.port.specs.Holdings.{Held, store_at, may_keep}
use Rattle.port.specs.Laws.{Bounds, Progress, NoCopies, InOrder, Direct}
use Rattle.foreign.specs.Eager.{odd, eager_choice}

pub eager_bounds : (h : Held) → Bounds h (eager_choice h)
eager_bounds h =
    record {
      lands = λ p a u l. ap (none_of (store_at a)) (nil_from_length (h.waits p) (eqb-true (length (h.waits p)) 0 l));
      keeps = λ p a q e. (and_parts (odd q) (may_keep h p a q) e).1;
      old = λ p a s. tt;
      put = λ p a. own (nat_le 2 (length (h.waits p)));
      landing = λ p a. tt;
    }

pub eager_progress : (h : Held) → Progress h (eager_choice h)
eager_progress h =
    record {
      put = λ p a e. ap (λ ws. cond (nat_le 2 (length ws)) (Some HeldBack) None) e;
      landing = λ p w ws e. refl;
    }

-- WMM's table leaves room for copies, for stores that land out of order and for waiting ones
pub eager_copyless : (h : Held) → NoCopies wmm_table h (eager_choice h)
eager_copyless h =
    record { holds = λ e p. absurd (false≢true e); keeps = λ e p a q. absurd (false≢true e) }

pub eager_ordered : (h : Held) → InOrder wmm_table h (eager_choice h)
eager_ordered h =
    record {
      put = λ e p a u l. absurd (false≢true e);
      landing = λ e p a w ws q n free. absurd (false≢true e);
    }

pub eager_direct : (h : Held) → Direct wmm_table (eager_choice h)
eager_direct h e p a u = absurd (false≢true e)
