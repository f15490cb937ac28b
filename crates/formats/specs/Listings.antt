-- Programs and schedules in plain text, a line for each instruction and each move.
use Rattle.std.specs.Prelude.{◌≡◌, ℕ, zero, suc, ◌+◌, ◌<◌, List, [], ◌∷◌, ◌++◌, length, Some, Option, codes, decimal, slice_get}
use Rattle.model.specs.Kinds.{kind_name}
use Rattle.model.specs.Text.{text}
use Rattle.model.specs.declared.kind.Kind.{Kind}
use Rattle.isa.specs.Instrs.{instr_text}
use Rattle.formats.specs.Moves.{move_text}
use Rattle.formats.specs.Programs.{Program}
use Rattle.formats.specs.Schedules.{Schedule}

-- a line for each item, with its index in front, counted from i
abbrev pub numbered : {T : Type 0} → (T → List ℕ) → ℕ → List T → List ℕ
numbered show i [] = []
numbered show i (x ∷ xs) = text (decimal i ∷ codes " " ∷ show x ∷ codes "\n" ∷ []) ++ numbered show (i + 1) xs

-- each value is displayed as its text
abbrev pub ShowsEach : {T : Type 0} → (T → Option (List ℕ)) → (T → List ℕ) → Type 0
ShowsEach {T} output show = (x : T) → output x ≡ Some (show x)

-- the items that are answered at the indices below n
pub record AnswersItems {T : Type 0} (answers : ℕ → Option T → Type 0) (n : ℕ) (items : List T) : Type 0 where
  pub len : length items ≡ n
  pub each : (i : ℕ) (item : Option T) → i < n → answers i item → item ≡ slice_get items i

abbrev pub thread_title : ℕ → List ℕ
thread_title p = text (codes "thread " ∷ decimal p ∷ codes "\n" ∷ [])

abbrev pub thread_text : Program → ℕ → List ℕ
thread_text prog p = thread_title p ++ numbered instr_text 0 (prog.thread p)

-- the threads of the first n processors
abbrev pub threads_text : Program → ℕ → List ℕ
threads_text prog zero = []
threads_text prog (suc n) = threads_text prog n ++ thread_text prog n

abbrev pub program_title : ℕ → ℕ → List ℕ
program_title processors addresses =
    text (codes "processors " ∷ decimal processors ∷ codes " addresses " ∷ decimal addresses ∷ codes "\n" ∷ [])

abbrev pub program_text : Program → List ℕ
program_text prog = program_title prog.processors prog.addresses ++ threads_text prog prog.processors

abbrev pub schedule_title : Kind → ℕ → List ℕ
schedule_title kind count = text (codes "kind " ∷ kind_name kind ∷ codes " moves " ∷ decimal count ∷ codes "\n" ∷ [])

abbrev pub schedule_text : Schedule → List ℕ
schedule_text plan = schedule_title plan.kind (length plan.moves) ++ numbered move_text 0 plan.moves
