-- What makes bytes a card, rule by rule, whatever the order in which the rules are checked.
use Rattle.std.specs.Prelude.{ℕ, ◌+◌, ◌*◌, ◌<◌, ◌≤◌, List, length}
use Rattle.formats.specs.Cards.{processors_in, addresses_in, furthest, header_length, count_at, offset_at, instr_bytes}
use Rattle.isa.specs.Instrs.{StandsFor}
use Rattle.isa.specs.declared.instr.Instr.{Instr}

abbrev pub OneToFourProcessors : List ℕ → Type 0
OneToFourProcessors bs = (1 ≤ processors_in bs) × (processors_in bs ≤ 4)

abbrev pub OneToEightAddresses : List ℕ → Type 0
OneToEightAddresses bs = (1 ≤ addresses_in bs) × (addresses_in bs ≤ 8)

abbrev pub HeaderIsWhole : List ℕ → Type 0
HeaderIsWhole bs = (2 ≤ length bs) × (header_length bs ≤ length bs)

abbrev pub AtMostSixteen : List ℕ → ℕ → Type 0
AtMostSixteen bs p = count_at bs p ≤ 16

-- the thread lies behind the header and within the bytes
abbrev pub LiesInside : List ℕ → ℕ → Type 0
LiesInside bs p = (header_length bs ≤ offset_at bs p) × (offset_at bs p + 4 * count_at bs p ≤ length bs)

-- what is known of a thread once the header and its count and offset are checked
pub record ThreadFits (bs : List ℕ) (p : ℕ) : Type 0 where
  pub header : header_length bs ≤ length bs
  pub count : AtMostSixteen bs p
  pub inside : LiesInside bs p

-- a branch, and so any instruction, goes at most to the end of its thread
abbrev pub StaysInThread : List ℕ → ℕ → ℕ → Instr → Type 0
StaysInThread bs p i instr = furthest i instr ≤ count_at bs p

-- the four bytes of instruction i of processor p stand for an instruction that stays in its thread
pub record IsInstruction (bs : List ℕ) (p i : ℕ) : Type 0 where
  pub instr : Instr
  pub bytes : StandsFor (instr_bytes bs p i) instr
  pub target : StaysInThread bs p i instr

pub record CardRules (bs : List ℕ) : Type 0 where
  pub header : HeaderIsWhole bs
  pub processors : OneToFourProcessors bs
  pub addresses : OneToEightAddresses bs
  pub counts : (p : ℕ) → p < processors_in bs → AtMostSixteen bs p
  pub offsets : (p : ℕ) → p < processors_in bs → LiesInside bs p
  pub instructions : (p i : ℕ) → p < processors_in bs → i < count_at bs p → IsInstruction bs p i
