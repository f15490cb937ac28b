-- A byte for each two digits of a text.
use Rattle.std.proofs.Common.{◌≡◌, ℕ, zero, suc, ◌+◌, ◌*◌, ◌/◌, ◌<◌, List, map, length, get_or, take, drop, refl, ap, ◌∙◌, arith}
use Rattle.std.specs.Simd.{first_chunks}
use Rattle.std.proofs.lemmas.List.{get_or-drop, get_or-take}
use Rattle.format_vectors.specs.Hex.{Spelled, digit_of}

abbrev byte : ℕ → ℕ → ℕ
byte high low = 16 * digit_of high + digit_of low

-- the byte of two digits
abbrev pub byte_of : List ℕ → ℕ
byte_of pair = byte (get_or pair 0 0) (get_or pair 1 0)

bytes_length : (n : ℕ) (text : List ℕ) → length (map byte_of (first_chunks 2 n text)) ≡ n
bytes_length zero text = refl
bytes_length (suc n) text = ap suc (bytes_length n (drop 2 text))

bytes_nth : (n : ℕ) (text : List ℕ) (k : ℕ) → k < n → get_or (map byte_of (first_chunks 2 n text)) k 0 ≡ byte (get_or text (2 * k) 0) (get_or text (2 * k + 1) 0)
bytes_nth zero text k h = absurd (omega arith)
bytes_nth (suc n) text zero h =
    ap (λ d. byte d (get_or (take 2 text) 1 0)) (get_or-take 2 text 0 0 (omega arith)) ∙ ap (byte (get_or text 0 0)) (get_or-take 2 text 1 0 (omega arith))
bytes_nth (suc n) text (suc k) h =
    let high : 2 + 2 * k ≡ 2 * suc k = omega arith in
    let low : 2 + (2 * k + 1) ≡ 2 * suc k + 1 = omega arith in
    bytes_nth n (drop 2 text) k (omega arith)
    ∙ (ap (λ d. byte d (get_or (drop 2 text) (2 * k + 1) 0)) (get_or-drop 2 text (2 * k) 0 ∙ ap (λ i. get_or text i 0) high)
    ∙ ap (byte (get_or text (2 * suc k) 0)) (get_or-drop 2 text (2 * k + 1) 0 ∙ ap (λ i. get_or text i 0) low))

pub spelled : (text bytes : List ℕ) → bytes ≡ map byte_of (first_chunks 2 (length text / 2) text) → Spelled text bytes
spelled text bytes e =
    let len : length bytes ≡ length text / 2 = ap length e ∙ bytes_length (length text / 2) text in
    record { len = len; each = λ k h. ap (λ v. get_or v k 0) e ∙ bytes_nth (length text / 2) text k (omega arith) }
