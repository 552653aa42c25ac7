-- Magnitudes: a double that is finite and at most 2 ^ k in size, through rounding, negation, sums and products. Assumes nothing.
use Prim.Native.Nat.{ℕ, suc, ◌+◌, ◌-◌, ◌*◌, ◌/◌, ◌%◌, ◌^◌, ◌≤◌, ◌<◌, max, compare}
use mathlib.Core.Path.{◌≡◌, sym, ap, ◌∙◌, subst}
use mathlib.Core.Bool.{Bool, true, false, ◌&&◌, beq, cond}
use native.Mathlib.Nat.{le_trans, le_of_eq, lt_of_le_of_lt, lt-suc_self, add-mul, mul_assoc, mul_comm, mul-one, mul_right_comm, mul-mul-mul_comm, mul-pos, mul-le-mul, mul-le-mul_right, mul-lt-mul_of_pos_right, le_of_mul-le-mul_right, add-le-add, le-max_left, le-max_right, div-one, mod-one, div-lt_iff_lt-mul, pow-suc}
use native.Mathlib.Omega.{arith}
use lib.Dec.{ltb}
use lib.Pow.{pow-add, pow_pos, pow-lt, pow_mono}
use lib.Ieee.{Float, nan, inf, fin, binary64, up, down, unlike, size, nearest, units, round, neg, sum, add, mul}
use lib.Ieee.Digits.{size-le, back}
use lib.Ieee.Fits.{round_is, down_pos}
use lib.Ieee.Exact.{HasValue, units_val}
use lib.Ieee.Nearest.{closest, closest_mono}

-- x is finite and at most 2 ^ k in size
abbrev pub Mag : Float → ℕ → Type 0
Mag nan k = ⊥
Mag (inf s) k = ⊥
Mag (fin s m e) k = m * up e ≤ 2 ^ k * down e

-- ---- through rounding

mag_of : (x : Float) (s : Bool) (w l k : ℕ) → w ≤ 2 ^ (k + l) → HasValue x s w (2 ^ l) → Mag x k
mag_of nan s w l k h v = v
mag_of (inf t) s w l k h v = v
mag_of (fin t m e) s w l k h v =
    le_of_mul-le-mul_right
    (le_trans (le_of_eq v.1)
    (le_trans (mul-le-mul_right (down e) h)
    (le_of_eq (ap (λ (x : ℕ). x * down e) (pow-add 2 k l) ∙ mul_right_comm (2 ^ k) (2 ^ l) (down e)))))
    (pow_pos l)

-- a whole number is its own nearest
closest-one : (a : ℕ) → closest a 1 ≡ a
closest-one a =
    ap (λ (x : ℕ). nearest x (compare (a % 1 * 2) 1)) (div-one a)
    ∙ ap (λ (x : ℕ). nearest a (compare (x * 2) 1)) (mod-one a)

fewer : (z d : ℕ) → z ≤ suc d → z - 53 ≤ d
fewer z d h = omega arith

grid-le : (n den d : ℕ) → 0 < den → n ≤ 2 ^ d * den
    → closest n (den * 2 ^ (size (n / den) - 53)) * 2 ^ (size (n / den) - 53) ≤ 2 ^ d
grid-le n den d dp h =
    let j = size (n / den) - 53 in
    let below : n / den < 2 ^ suc d = (div-lt_iff_lt-mul dp).1 (lt_of_le_of_lt h (mul-lt-mul_of_pos_right (pow-lt (lt-suc_self d)) dp)) in
    let jd : j ≤ d = fewer (size (n / den)) d (size-le (n / den) (suc d) below) in
    let two : 2 ^ (d - j) * 2 ^ j ≡ 2 ^ d = sym (pow-add 2 (d - j) j) ∙ ap (λ (x : ℕ). 2 ^ x) (back d j jd) in
    let up' : n * 1 ≤ 2 ^ (d - j) * (den * 2 ^ j) =
    le_trans (le_of_eq (mul-one n)) (le_trans h (le_of_eq (ap (λ (x : ℕ). x * den) (sym two) ∙ mul_assoc (2 ^ (d - j)) (2 ^ j) den ∙ ap (λ (x : ℕ). 2 ^ (d - j) * x) (mul_comm (2 ^ j) den)))) in
    le_trans
    (mul-le-mul_right (2 ^ j)
    (le_trans (closest_mono n (den * 2 ^ j) (2 ^ (d - j)) 1 (mul-pos dp (pow_pos j)) one-pos up') (le_of_eq (closest-one (2 ^ (d - j))))))
    (le_of_eq two)
  where
    one-pos : 0 < 1
    one-pos = omega arith

room : (k : ℕ) → k ≤ 1023 → k + 1074 < 2098
room k h = omega arith

pub round-mag : (s : Bool) (num den k : ℕ) → 0 < den → num ≤ 2 ^ k * den → k ≤ 1023 → Mag (round binary64 s num den) k
round-mag s num den k dp h kk =
    let n = num * 2 ^ 1074 in
    let j = size (n / den) - 53 in
    let q = closest n (den * 2 ^ j) in
    let nh : n ≤ 2 ^ (k + 1074) * den =
    le_trans (mul-le-mul_right (2 ^ 1074) h) (le_of_eq (mul_right_comm (2 ^ k) den (2 ^ 1074) ∙ ap (λ (x : ℕ). x * den) (sym (pow-add 2 k 1074)))) in
    let g : q * 2 ^ j ≤ 2 ^ (k + 1074) = grid-le n den (k + 1074) dp nh in
    subst (λ (x : Float). Mag x k) (sym (round_is binary64 s num den))
    (mag_of (units binary64 s q j) s (q * 2 ^ j) 1074 k g (units_val binary64 s q j (lt_of_le_of_lt g (pow-lt (room k kk)))))

-- ---- through negation, products and sums

pub neg-mag : (x : Float) (k : ℕ) → Mag x k → Mag (neg x) k
unfolding neg
neg-mag nan k h = h
neg-mag (inf s) k h = h
neg-mag (fin s m e) k h = h

pub mul-mag : (x y : Float) (k l : ℕ) → k + l ≤ 1023 → Mag x k → Mag y l → Mag (mul binary64 x y) (k + l)
unfolding mul
mul-mag nan y k l h p q = absurd p
mul-mag (inf s) y k l h p q = absurd p
mul-mag (fin s m e) nan k l h p q = absurd q
mul-mag (fin s m e) (inf t) k l h p q = absurd q
mul-mag (fin s m e) (fin t n d) k l h p q =
    round-mag (unlike s t) (m * up e * (n * up d)) (down e * down d) (k + l) (mul-pos (down_pos e) (down_pos d))
    (le_trans (mul-le-mul p q)
    (le_of_eq (mul-mul-mul_comm (2 ^ k) (down e) (2 ^ l) (down d) ∙ ap (λ (x : ℕ). x * (down e * down d)) (sym (pow-add 2 k l)))))
    h

two_powers : (k l : ℕ) → 2 ^ k + 2 ^ l ≤ 2 ^ suc (max k l)
two_powers k l =
    le_trans (add-le-add (pow_mono (le-max_left k l)) (pow_mono (le-max_right k l)))
    (le_of_eq (twice (2 ^ max k l) ∙ sym (pow-suc 2 (max k l))))
  where
    twice : (x : ℕ) → x + x ≡ x * 2
    twice x = omega arith

sum-mag : (s : Bool) (a : ℕ) (t : Bool) (b c k : ℕ) → 0 < c → a + b ≤ 2 ^ k * c → k ≤ 1023 → Mag (sum binary64 s a t b c) k
unfolding sum
sum-mag s a t b c k cp h kk =
    pick (beq s t) (round binary64 s (a + b) c) _ (round-mag s (a + b) c k cp h kk)
    (pick (ltb a b) (round binary64 t (b - a) c) (round binary64 (s && ltb b a) (a - b) c)
    (round-mag t (b - a) c k cp (le_trans (less a b) h) kk)
    (round-mag (s && ltb b a) (a - b) c k cp (le_trans (less' a b) h) kk))
  where
    pick : (u : Bool) (x y : Float) → Mag x k → Mag y k → Mag (cond u x y) k
    pick true x y p q = p
    pick false x y p q = q

    less : (a b : ℕ) → b - a ≤ a + b
    less a b = omega arith

    less' : (a b : ℕ) → a - b ≤ a + b
    less' a b = omega arith

pub add-mag : (x y : Float) (k l : ℕ) → suc (max k l) ≤ 1023 → Mag x k → Mag y l → Mag (add binary64 x y) (suc (max k l))
unfolding add
add-mag nan y k l h p q = absurd p
add-mag (inf s) y k l h p q = absurd p
add-mag (fin s m e) nan k l h p q = absurd q
add-mag (fin s m e) (inf t) k l h p q = absurd q
add-mag (fin s m e) (fin t n d) k l h p q =
    sum-mag s (m * up e * down d) t (n * up d * down e) (down e * down d) (suc (max k l)) (mul-pos (down_pos e) (down_pos d))
    (le_trans (add-le-add (mul-le-mul_right (down d) p) (mul-le-mul_right (down e) q))
    (le_trans (le_of_eq (together (2 ^ k) (2 ^ l) (down e) (down d))) (mul-le-mul_right (down e * down d) (two_powers k l))))
    h
  where
    together : (x y u v : ℕ) → x * u * v + y * v * u ≡ (x + y) * (u * v)
    together x y u v =
        let p : x * u * v ≡ x * (u * v) = mul_assoc x u v in
        let q : y * v * u ≡ y * (u * v) = mul_assoc y v u ∙ ap (λ (z : ℕ). y * z) (mul_comm v u) in
        let r : (x + y) * (u * v) ≡ x * (u * v) + y * (u * v) = add-mul x y (u * v) in
        omega arith
