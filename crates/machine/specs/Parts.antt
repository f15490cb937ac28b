-- What a machine that is made of these parts holds.
use Rattle.std.specs.Prelude.{ℕ, List, slice_index_or}
use Rattle.buffers.specs.View.{buffer_of}
use Rattle.model.specs.Memory.{initial_cell}
use Rattle.model.specs.declared.memory.Cell.{Cell}
use Rattle.port.specs.Holdings.{Held}
use Rattle.machine.specs.declared.processors.Processors.{Processors}

abbrev pub cells_of : List Cell → ℕ → Cell
cells_of cells a = slice_index_or cells a initial_cell

abbrev pub held_in : List Cell → Processors → Held
held_in cells processors =
    record {
      cell = cells_of cells;
      waits = buffer_of processors.waiting;
      copies = buffer_of processors.copies;
    }
