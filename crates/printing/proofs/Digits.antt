-- What a hole `{:016x}` writes of a number is its last 16 digits. Assumes nothing.
use Rattle.std.proofs.Common.{◌≡◌, ℕ, zero, suc, ◌+◌, ◌-◌, ◌/◌, ◌%◌, ◌^◌, ◌*◌, ◌≤◌, ◌<◌, false, List, [], ◌∷◌, ◌++◌, length, replicate, refl, sym, ◌∙◌, ap, arith, ⊎_elim, append_assoc, append-nil, pow-suc, div-lt_iff_lt-mul, eq-zero-or-pos, lt_irrefl}
use Rattle.std.proofs.DigitsParse.{digits_onto-nil, digits_onto_last, digits_onto_step}
use Rattle.std.proofs.lemmas.List.{replicate-append-replicate}
use Rattle.std.proofs.Padding.{padded_integral_zeros}
use Rattle.std.specs.Fmt.{digit_glyph, digits_onto, digits, padded_integral, format_spec}
use Rattle.io.specs.Digits.{last_digits}

last_digits_zero : (k : ℕ) → last_digits 16 k 0 ≡ replicate k 48
last_digits_zero zero = refl
last_digits_zero (suc k) = ap (λ (r : List ℕ). r ++ 48 ∷ []) (last_digits_zero k) ∙ replicate-append-replicate k 1 48 ∙ ap (λ (j : ℕ). replicate j 48) {x = k + 1} {y = suc k} (omega arith)

-- zeros in front of the digits of n, up to k digits, are the last k digits
zeros_before : (k i n : ℕ) (acc : List ℕ) → 0 < k → k ≤ i → n < 16 ^ k → replicate (k + length acc - length (digits_onto i 16 false n acc)) 48 ++ digits_onto i 16 false n acc ≡ last_digits 16 k n ++ acc
zeros_before zero i n acc h l f = absurd (omega arith)
zeros_before (suc k) i n acc h l f =
    let glyph = digit_glyph false (n % 16) in
    let some : 0 < i = omega arith in
    let split : last_digits 16 (suc k) n ++ acc ≡ last_digits 16 k (n / 16) ++ glyph ∷ acc = append_assoc (last_digits 16 k (n / 16)) (glyph ∷ []) acc in
    ⊎_elim
    (λ e.
    let left : suc k + length acc - suc (length acc) ≡ k = omega arith in
    rw (digits_onto_last 16 false n acc i some e, left, split, e, last_digits_zero k) refl)
    (λ p.
    let short : n < 16 ^ k * 16 = rw (pow-suc 16 k) at f in
    let more : 0 < k = ⊎_elim (λ z. absurd (above n p (rw z at short))) (λ q. q) (eq-zero-or-pos k) in
    let next = zeros_before k (i - 1) (n / 16) (glyph ∷ acc) more (omega arith) ((div-lt_iff_lt-mul {k = 16} {x = n} {y = 16 ^ k} (omega arith)).1 short) in
    let same : suc k + length acc ≡ k + length (glyph ∷ acc) = omega arith in
    rw (digits_onto_step 16 false n acc i some (λ z. lt_irrefl 0 (rw z at p)), same, split) next)
    (eq-zero-or-pos (n / 16))
  where
    above : (n : ℕ) → 0 < n / 16 → n < 16 → ⊥
    above n p l = omega arith

-- a number below 2 ^ 64 is written with 16 digits
pub sixteen_digits : (n : ℕ) → n < 2 ^ 64 → padded_integral (format_spec 32 0 4 16 (2 ^ 64 - 1)) false [] (digits 16 false n) ≡ last_digits 16 16 n
sixteen_digits n f = padded_integral_zeros (format_spec 32 0 4 16 (2 ^ 64 - 1)) (digits 16 false n) refl refl ∙ rw (sym (digits_onto-nil 16 false n)) (zeros_before 16 64 n [] (omega arith) (omega arith) f) ∙ append-nil (last_digits 16 16 n)
