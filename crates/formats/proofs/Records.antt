-- Records of a fixed width, where each of them is there.
use Rattle.std.proofs.Common.{◌≡◌, ℕ, zero, suc, ◌+◌, ◌*◌, ◌<◌, List, ◌++◌, length, Some, Option, sym, refl, ap, ◌∙◌, subst, mul-zero, mul-suc, arith}
use Rattle.std.specs.List.{between, slice_get}
use Rattle.std.specs.Option.{option_to_list}
use Rattle.formats.specs.Records.{records_from}

module _ {T : Type 0} (decode : List ℕ → Option T) (width : ℕ) (bs : List ℕ) where
  -- what stands at a byte
  abbrev pub at : ℕ → Option T
  at byte = decode (between byte (byte + width) bs)

  abbrev There : ℕ → Type 0
  There byte = (x : T) × (at byte ≡ Some x)

  -- each of n records from a byte on is there
  abbrev pub AllThere : ℕ → ℕ → Type 0
  AllThere byte n = (i : ℕ) → i < n → There (byte + width * i)

  later : (byte n : ℕ) → AllThere byte (suc n) → AllThere (byte + width) n
  later byte n h i l =
      let z : byte + width * suc i ≡ (byte + width) + width * i = omega (arith, mul-suc width i) in
      subst There z (h (suc i) (omega arith))

  here : (byte n : ℕ) → AllThere byte (suc n) → There byte
  here byte n h = let z : byte + width * 0 ≡ byte = omega (arith, mul-zero width) in subst There z (h 0 (omega arith))

  pub records_length : (byte n : ℕ) → AllThere byte n → length (records_from decode width bs byte n) ≡ n
  records_length byte zero h = refl
  records_length byte (suc n) h =
      ap (λ o. length (option_to_list o ++ records_from decode width bs (byte + width) n)) (here byte n h).1
      ∙ ap suc (records_length (byte + width) n (later byte n h))

  pub records_nth : (byte n : ℕ) → AllThere byte n → (i : ℕ) → i < n → slice_get (records_from decode width bs byte n) i ≡ at (byte + width * i)
  records_nth byte zero h i l = absurd (omega arith)
  records_nth byte (suc n) h zero l =
      let x = here byte n h in
      let z : byte ≡ byte + width * 0 = omega (arith, mul-zero width) in
      ap (λ o. slice_get (option_to_list o ++ records_from decode width bs (byte + width) n) 0) x.1 ∙ (sym x.1 ∙ ap at z)
  records_nth byte (suc n) h (suc i) l =
      let z : (byte + width) + width * i ≡ byte + width * suc i = omega (arith, mul-suc width i) in
      ap (λ o. slice_get (option_to_list o ++ records_from decode width bs (byte + width) n) (suc i)) (here byte n h).1
      ∙ (records_nth (byte + width) n (later byte n h) i (omega arith) ∙ ap at z)
