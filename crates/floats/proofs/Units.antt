-- Doubles counted in units of 2 ^ -1074: by their value, by their bit pattern, and by their significand. Assumes nothing.
use Prim.Native.Nat.{ℕ, zero, suc, ◌+◌, ◌-◌, ◌*◌, ◌/◌, ◌%◌, ◌^◌, ◌≤◌, ◌<◌}
use mathlib.Core.Path.{◌≡◌, refl, sym, ap, ◌∙◌, subst}
use mathlib.Core.Bool.{Bool, true, false, ◌&&◌, cond}
use native.Mathlib.Nat.{le_of_eq, lt_of_lt_of_le, lt_of_le_of_lt, lt_of_not-le, not-le_of_lt, mul-one, zero-mul, mul_assoc, mul_right_comm, mul-lt-mul_of_pos_right, lt_of_mul-lt-mul_right, add_comm, mul-div_cancel, mod-eq_of_lt}
use native.Mathlib.Omega.{arith}
use lib.Dec.{T, leb, ltb, eqb, leb→le, ltb→lt, lit<}
use lib.IntN.{ℤ, pos, negsuc}
use lib.Pow.{pow_pos, pow-add, pow-lt}
use lib.Ieee.{Float, nan, inf, fin, binary64, up, down, size, odd, fits, of_fields, of_bits, to_bits}
use lib.Ieee.Bits.{of_bits-to_bits}
use lib.Ieee.Exact.{HasValue, odd_sign}
use lib.Ieee.Fits.{and_l, and_r, down_pos}
use borrow.Author.Tests.{lt-leb, le-leb, ne_eqb}
use Rattle.floats.specs.Units.{count, Plain, units_at}
use Rattle.floats.proofs.Patterns.{unsigned-below}

-- ---- by value

pub value→count : (x : Float) (n : ℕ) → HasValue x false n (2 ^ 1074) → count x ≡ n
unfolding count
value→count nan n v = absurd v
value→count (inf s) n v = absurd v
value→count (fin s m e) n v = ap (λ (k : ℕ). k / down e) v.1 ∙ mul-div_cancel n (down_pos e)

-- ---- by bit pattern

pub units-low : (b : ℕ) → b < 2 ^ 52 → units_at b ≡ b % 2 ^ 52
units-low b h = ap (λ (x : Bool). cond x ((b % 2 ^ 52 + 2 ^ 52) * 2 ^ (b / 2 ^ 52 - 1)) (b % 2 ^ 52)) (lt-leb (2 ^ 52) b h)

pub units-high : (b : ℕ) → 2 ^ 52 ≤ b → units_at b ≡ (b % 2 ^ 52 + 2 ^ 52) * 2 ^ (b / 2 ^ 52 - 1)
units-high b h = ap (λ (x : Bool). cond x ((b % 2 ^ 52 + 2 ^ 52) * 2 ^ (b / 2 ^ 52 - 1)) (b % 2 ^ 52)) (le-leb (2 ^ 52) b h)

-- the units by the two fields
abbrev field_units : ℕ → ℕ → ℕ
field_units zero t = t
field_units (suc x) t = (2 ^ 52 + t) * 2 ^ x

fields_value : (x t : ℕ) → x < 2047 → HasValue (of_fields binary64 false x t) false (field_units x t) (2 ^ 1074)
unfolding of_fields
fields_value zero t h = subst (λ (n : ℕ). HasValue (odd 53 false t 0 1074) false n (2 ^ 1074)) (mul-one t) (odd_sign 53 false t 0 1074)
fields_value (suc x) t h =
    subst (λ (b : Bool). HasValue (cond b (cond (eqb t 0) (inf false) nan) (odd 53 false (2 ^ 52 + t) x 1074)) false ((2 ^ 52 + t) * 2 ^ x) (2 ^ 1074))
    (sym (ne_eqb (suc x) 2047 (omega arith)))
    (odd_sign 53 false (2 ^ 52 + t) x 1074)

units-fields : (b x : ℕ) → b / 2 ^ 52 ≡ x → field_units x (b % 2 ^ 52) ≡ units_at b
units-fields b zero e = sym (units-low b (omega arith))
units-fields b (suc x) e =
    let k : b / 2 ^ 52 - 1 ≡ x = omega arith in
    ap (λ (n : ℕ). n * 2 ^ x) (add_comm (2 ^ 52) (b % 2 ^ 52))
    ∙ ap (λ (j : ℕ). (b % 2 ^ 52 + 2 ^ 52) * 2 ^ j) (sym k)
    ∙ sym (units-high b (omega arith))

unsigned-fields : (b : ℕ) → b < 2 ^ 63 → of_bits binary64 b ≡ of_fields binary64 false (b / 2 ^ 52) (b % 2 ^ 52)
unfolding of_bits
unsigned-fields b h =
    ap (λ (s : Bool). of_fields binary64 s (b % 2 ^ 63 / 2 ^ 52) (b % 2 ^ 52)) (lt-leb (2 ^ 63) b h)
    ∙ ap (λ (n : ℕ). of_fields binary64 false (n / 2 ^ 52) (b % 2 ^ 52)) (mod-eq_of_lt h)

-- below the pattern of the infinity
pub pattern-value : (b : ℕ) → b < 2047 * 2 ^ 52 → HasValue (of_bits binary64 b) false (units_at b) (2 ^ 1074)
pattern-value b h =
    subst (λ (x : Float). HasValue x false (units_at b) (2 ^ 1074)) (sym (unsigned-fields b (omega arith)))
    (subst (λ (n : ℕ). HasValue (of_fields binary64 false (b / 2 ^ 52) (b % 2 ^ 52)) false n (2 ^ 1074)) (units-fields b (b / 2 ^ 52) refl) (fields_value (b / 2 ^ 52) (b % 2 ^ 52) (omega arith)))

-- what an exponent's field of all ones is not read as
abbrev Finite : Float → Type 0
Finite nan = ⊥
Finite (inf s) = ⊥
Finite (fin s m e) = Unit {0}

no-finite : (t : ℕ) → Finite (of_fields binary64 false 2047 t) → ⊥
unfolding of_fields
no-finite t p = go (eqb t 0) p
  where
    go : (c : Bool) → Finite (cond c (inf false) nan) → ⊥
    go true p = p
    go false p = p

pub plain-below : (x : Float) → Plain x → to_bits binary64 x < 2047 * 2 ^ 52
plain-below nan p = absurd p
plain-below (inf s) p = absurd p
plain-below (fin true m e) p = absurd (subst T p.0 tt)
plain-below (fin false m e) p =
    let b : ℕ = to_bits binary64 (fin false m e) in
    let l : b < 2 ^ 63 = unsigned-below m e p.1 in
    let r : of_fields binary64 false (b / 2 ^ 52) (b % 2 ^ 52) ≡ fin false m e = sym (unsigned-fields b l) ∙ of_bits-to_bits binary64 (fin false m e) p.1 in
    let n : b / 2 ^ 52 ≡ 2047 → ⊥ =
    λ k. no-finite (b % 2 ^ 52) (subst (λ (y : ℕ). Finite (of_fields binary64 false y (b % 2 ^ 52))) k (subst Finite (sym r) tt)) in
    omega arith

-- ---- by significand

pub shifted : (m a b : ℕ) → m * 2 ^ a * 2 ^ b ≡ m * 2 ^ (a + b)
shifted m a b = mul_assoc m (2 ^ a) (2 ^ b) ∙ ap (λ (x : ℕ). m * x) (sym (pow-add 2 a b))

-- x is M * 2 ^ j units, with an M of at most 53 digits
pub record Significand (x : Float) : Type 0 where
  pub M : ℕ
  pub j : ℕ
  pub small : M < 2 ^ 53
  pub is : HasValue x false (M * 2 ^ j) (2 ^ 1074)
  pub limit : M * 2 ^ j < 2 ^ 2098

exponent : (k : ℕ) → 2 ^ suc k ≤ 2 ^ 1074 → suc k ≤ 1074
exponent k h = go (lt_of_not-le (λ (g : 1075 ≤ suc k). not-le_of_lt (pow-lt {i = 1074} {j = suc k} g) h))
  where
    go : suc k < 1075 → suc k ≤ 1074
    go h = omega arith

shifted-value : (s : Bool) (m : ℕ) (e : ℤ) → s ≡ false → down e ≤ 2 ^ 1074 → (j : ℕ) × HasValue (fin s m e) false (m * 2 ^ j) (2 ^ 1074)
shifted-value s m (pos k) h l = (k + 1074, (h, shifted m k 1074 ∙ sym (mul-one (m * 2 ^ (k + 1074)))))
shifted-value s m (negsuc k) h l =
    let g : suc k ≤ 1074 = exponent k l in
    let e : 1074 - suc k + suc k ≡ 1074 = omega arith in
    (1074 - suc k, (h, ap (λ (n : ℕ). n * 2 ^ 1074) (mul-one m) ∙ sym (shifted m (1074 - suc k) (suc k) ∙ ap (λ (n : ℕ). m * 2 ^ n) e)))

within : (m n : ℕ) (e : ℤ) → m * up e * 2 ^ 1074 ≡ n * down e → m * up e < 2 ^ 1024 * down e → n < 2 ^ 2098
within m n e v h =
    lt_of_mul-lt-mul_right (down e)
    (lt_of_le_of_lt (le_of_eq (sym v))
    (lt_of_lt_of_le (mul-lt-mul_of_pos_right h (pow_pos 1074)) (le_of_eq (mul_right_comm (2 ^ 1024) (down e) (2 ^ 1074)))))

pub significand : (x : Float) → Plain x → Significand x
unfolding fits
significand nan p = absurd p
significand (inf s) p = absurd p
significand (fin s zero e) p = record {
  M = 0;
  j = 0;
  small = lit< tt;
  is = (p.0, ap (λ (n : ℕ). n * 2 ^ 1074) (zero-mul (up e)) ∙ sym (zero-mul (down e)));
  limit = lit< tt;
}
significand (fin s (suc m) e) p =
    let A = eqb (suc m % 2) 1 in
    let B = ltb (suc m) (2 ^ 53) in
    let C = leb (down e) (2 ^ 1074) in
    let D = ltb (suc m * up e) (2 ^ 1024 * down e) in
    let v = shifted-value s (suc m) e p.0 (leb→le (down e) (2 ^ 1074) (and_r (A && B) C (and_l (A && B && C) D p.1))) in
    record {
      M = suc m;
      j = v.0;
      small = ltb→lt (suc m) (2 ^ 53) (and_r A B (and_l (A && B) C (and_l (A && B && C) D p.1)));
      is = v.1;
      limit = within (suc m) (suc m * 2 ^ v.0) e v.1.1 (ltb→lt (suc m * up e) (2 ^ 1024 * down e) (and_r (A && B && C) D p.1));
    }

-- so no unit is lost in `count`
pub count-exact : (x : Float) → Plain x → HasValue x false (count x) (2 ^ 1074)
count-exact x p =
    let g = significand x p in
    subst (λ (n : ℕ). HasValue x false n (2 ^ 1074)) (sym (value→count x (g.M * 2 ^ g.j) g.is)) g.is

-- ---- two doubles with the same count

-- the pattern of a count
abbrev bits_at : ℕ → ℕ
bits_at n = cond false (2 ^ 63) 0 + (size n - 53) * 2 ^ 52 + n / 2 ^ (size n - 53)

bits-by-count : (x : Float) → Plain x → to_bits binary64 x ≡ bits_at (count x)
unfolding to_bits count
bits-by-count nan p = absurd p
bits-by-count (inf s) p = absurd p
bits-by-count (fin true m e) p = absurd (subst T p.0 tt)
bits-by-count (fin false m e) p = refl

plain_fits : (x : Float) → Plain x → T (fits binary64 x)
plain_fits nan p = absurd p
plain_fits (inf s) p = absurd p
plain_fits (fin s m e) p = p.1

pub same_count : (x y : Float) → Plain x → Plain y → count x ≡ count y → x ≡ y
same_count x y p o e =
    sym (of_bits-to_bits binary64 x (plain_fits x p))
    ∙ ap (of_bits binary64) (bits-by-count x p ∙ ap bits_at e ∙ sym (bits-by-count y o))
    ∙ of_bits-to_bits binary64 y (plain_fits y o)
