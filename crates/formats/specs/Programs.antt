-- The litmus program that the bytes of a card stand for.
use Rattle.std.specs.Prelude.{ℕ, ◌≤◌, cond, List, [], Some, None, Option, nat_lt}
use Rattle.formats.specs.Cards.{processors_in, addresses_in, count_at, furthest, offset_at}
use Rattle.isa.specs.Instrs.{RegistersExist, decoded}
use Rattle.formats.specs.Records.{records_from}
use Rattle.formats.specs.declared.card.Card.{Card}
use Rattle.isa.specs.declared.instr.Instr.{Instr}

-- a thread for each processor; one that the program does not have is empty
pub record Program : Type 0 where
  pub processors : ℕ
  pub addresses : ℕ
  pub thread : ℕ → List Instr

abbrev pub program : List ℕ → Program
program bs =
    record {
      processors = processors_in bs;
      addresses = addresses_in bs;
      thread = λ p. cond (nat_lt p (processors_in bs)) (records_from decoded 4 bs (offset_at bs p) (count_at bs p)) [];
    }

-- the program of a checked card
abbrev pub program_of : Card → Program
program_of card = program card.bytes.now

-- an instruction at index i of a thread of n that runs with no check of its own: its registers exist, and control stays in the thread
abbrev pub Runs : ℕ → ℕ → Option Instr → Type 0
Runs n i None = Unit {0}
Runs n i (Some instr) = RegistersExist instr × (furthest i instr ≤ n)
