-- Text that is written line by line.
use Rattle.std.proofs.Common.{◌≡◌, ℕ, zero, suc, ◌+◌, ◌<◌, ◌≤◌, List, [], ◌∷◌, ◌++◌, length, take, Some, None, codes, decimal, sym, ap, ◌∙◌, ⊎_elim, arith}
use Rattle.std.specs.Fmt.{IsPlainFormatter, HasWritten}
use Rattle.std.specs.declared.fmt.Formatter.{Formatter}
use Rattle.std.specs.List.{slice_get}
use Rattle.std.proofs.Output.{has_written_append, has_written_of_eq}
use Rattle.std.proofs.lemmas.List.{append_assoc, append-nil, take_all}
use Rattle.model.specs.Text.{text}
use Rattle.formats.specs.Listings.{numbered, thread_text, threads_text}
use Rattle.formats.specs.Programs.{Program}
use Rattle.std.proofs.lemmas.Option.{none-some, slice_get_cases}

module _ {T : Type 0} (show : T → List ℕ) where
  abbrev pub line : ℕ → T → List ℕ
  line i x = text (decimal i ∷ codes " " ∷ show x ∷ codes "\n" ∷ [])

  one_more : (xs : List T) (j i : ℕ) (x : T) → slice_get xs i ≡ Some x → numbered show j (take (suc i) xs) ≡ numbered show j (take i xs) ++ line (j + i) x
  one_more [] j i x e = absurd (none-some x e)
  one_more (y ∷ ys) j zero x e =
      let same : y ≡ x = cc in
      let z : j ≡ j + 0 = omega arith in
      append-nil (line j y) ∙ (ap (line j) same ∙ ap (λ k. line k x) z)
  one_more (y ∷ ys) j (suc i) x e =
      let z : (j + 1) + i ≡ j + suc i = omega arith in
      ap (λ t. line j y ++ t) (one_more ys (j + 1) i x e)
      ∙ (sym (append_assoc (line j y) (numbered show (j + 1) (take i ys)) (line ((j + 1) + i) x))
      ∙ ap (λ k. (line j y ++ numbered show (j + 1) (take i ys)) ++ line k x) z)

  pub numbered_more : (xs : List T) (i : ℕ) (x : T) → slice_get xs i ≡ Some x → numbered show 0 (take (i + 1) xs) ≡ numbered show 0 (take i xs) ++ line i x
  numbered_more xs i x e =
      let a : i + 1 ≡ suc i = omega arith in
      let b : 0 + i ≡ i = omega arith in
      ap (λ n. numbered show 0 (take n xs)) a ∙ (one_more xs 0 i x e ∙ ap (λ k. numbered show 0 (take i xs) ++ line k x) b)

  pub numbered_all : (xs : List T) (n : ℕ) → length xs ≤ n → numbered show 0 (take n xs) ≡ numbered show 0 xs
  numbered_all xs n h = ap (numbered show 0) (take_all n xs h)

  -- an index below the length has an item
  pub has_item : (xs : List T) (i : ℕ) → i < length xs → None ≡ slice_get xs i → ⊥
  has_item xs i h e = ⊎_elim (λ item. none-some item.0 (e ∙ item.2)) (λ past. omega (arith, past.0)) (slice_get_cases xs i).1

  module _ {W : Type 0} (took : W → List ℕ → W → Type 0) (f : Formatter W) where
    -- one more line of a loop that has written i of them
    pub line_written : (xs : List T) (i : ℕ) (x : T) (g h : Formatter W) → slice_get xs i ≡ Some x → HasWritten took f (numbered show 0 (take i xs)) g → (IsPlainFormatter g → HasWritten took g (line i x) h) → HasWritten took f (numbered show 0 (take (i + 1) xs)) h
    line_written xs i x g h e so_far next =
        has_written_of_eq took f (numbered show 0 (take i xs) ++ line i x) (numbered show 0 (take (i + 1) xs)) h (sym (numbered_more xs i x e))
        (has_written_append took f (numbered show 0 (take i xs)) g (line i x) h so_far (next so_far.plain))

    pub lines_written : (xs : List T) (n : ℕ) (g : Formatter W) → length xs ≤ n → HasWritten took f (numbered show 0 (take n xs)) g → HasWritten took f (numbered show 0 xs) g
    lines_written xs n g h = has_written_of_eq took f (numbered show 0 (take n xs)) (numbered show 0 xs) g (numbered_all xs n h)

pub threads_more : (prog : Program) (n : ℕ) → threads_text prog n ++ thread_text prog n ≡ threads_text prog (n + 1)
threads_more prog n = let z : suc n ≡ n + 1 = omega arith in ap (threads_text prog) z
