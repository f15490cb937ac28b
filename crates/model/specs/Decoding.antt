-- What a conversion answers that refuses what stands for nothing.
use Rattle.std.specs.Prelude.{◌≡◌, ok_or, Option, Result}
use Rattle.std.specs.Result.{result_ok}
use Rattle.model.specs.declared.fault.Refusal.{Refusal}

-- the value that x stands for, or the refusal; and a value exactly where x is its own
pub record IsDecoded {X T : Type 0} (decoded : X → Option T) (Decodes : X → Option T → Type 0) (refusal : Refusal) (x : X) (r : Result T Refusal) : Type 0 where
  pub value : r ≡ ok_or (decoded x) refusal
  pub exact : Decodes x (result_ok r)
