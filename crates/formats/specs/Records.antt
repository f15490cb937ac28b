-- Records of a fixed width, one behind the other.
use Rattle.std.specs.Prelude.{ℕ, zero, suc, ◌+◌, List, [], ◌++◌, Option}
use Rattle.std.specs.List.{between}
use Rattle.std.specs.Option.{option_to_list}

-- n records, the first at a byte, each as it is decoded; bytes that stand for no record give none
abbrev pub records_from : {T : Type 0} → (List ℕ → Option T) → ℕ → List ℕ → ℕ → ℕ → List T
records_from decode width bs byte zero = []
records_from decode width bs byte (suc n) =
    option_to_list (decode (between byte (byte + width) bs)) ++ records_from decode width bs (byte + width) n
