use Rattle.std.proofs.Common.{◌≡◌}
use Rattle.buffers.specs.View.{buffer_of}
use Rattle.port.specs.Holdings.{may_keep_in}
use Rattle.machine.proofs.Keeping.{up_to}
use Rattle.machine.proofs.processors.Processors.keep.Given as goal

abbrev pub invariant-loop-processor : goal.invariant-loop-processor
invariant-loop-processor l =
    record {
      waiting : l.self.waiting ≡ l.initial.self.waiting;
      copies :
          buffer_of l.self.copies
          ≡ up_to l.processor (may_keep_in (buffer_of l.initial.self.waiting) l.landing.processor l.landing.address) (record { address = l.landing.address; cell = l.cell }) (buffer_of l.initial.self.copies);
    }
