-- The kinds of machine, with number and name.
use Rattle.std.specs.Prelude.{◌≡◌, ℕ, cond, List, Some, None, codes, Option, ◌==◌}
use Rattle.model.specs.declared.kind.Kind.{Kind}
use Rattle.model.specs.declared.kind.Kind.TheVariants.{Sc, Tso, Pso, Wmm}

abbrev pub kind_number : Kind → ℕ
kind_number Sc = 0
kind_number Tso = 1
kind_number Pso = 2
kind_number Wmm = 3

abbrev pub kind_numbered : ℕ → Option Kind
kind_numbered n =
    cond (n == 0) (Some Sc) (cond (n == 1) (Some Tso) (cond (n == 2) (Some Pso) (cond (n == 3) (Some Wmm) None)))

-- an answer that is a kind exactly where the number is that kind's
abbrev pub DecodesKind : ℕ → Option Kind → Type 0
DecodesKind n r = (kind : Kind) → (r ≡ Some kind → n ≡ kind_number kind) × (n ≡ kind_number kind → r ≡ Some kind)

abbrev pub kind_name : Kind → List ℕ
kind_name Sc = codes "SC"
kind_name Tso = codes "TSO"
kind_name Pso = codes "PSO"
kind_name Wmm = codes "WMM"
