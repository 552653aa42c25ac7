-- `floor_root` is the whole part of the root, and `root_bits` goes by a number of 107 or 108 digits times a power of 4. Assumes nothing.
use Rattle.std.proofs.Common.{◌≡◌, ℕ, zero, suc, ◌+◌, ◌-◌, ◌*◌, ◌/◌, ◌^◌, ◌<◌, ◌≤◌, Bool, true, false, cond, not, T, leb, sym, refl, ap, ◌∙◌, subst, le_trans, le_of_eq, lt_of_lt_of_le, mul-le-mul_right, mul_comm, add-mul, mul-le-mul, le_antisymm, mul-lt-mul_of_pos_right, lt_of_not-le, mul-add, not-le_of_lt, mul-div_cancel, arith, leb→le, pow_pos, pow_mono, pow-add}
use native.Mathlib.Nat.{mul-mul-mul_comm, pow-succ'}
use lib.Dec.{nleb→lt}
use lib.Ieee.{size}
use lib.Ieee.Digits.{size-lt, size-le}
use Rattle.root.specs.Root.{floor_root, root_bits}

-- s is the whole part of the root of n
abbrev pub Floor : ℕ → ℕ → Type 0
Floor n s = (s * s ≤ n) × (n < (s + 1) * (s + 1))

-- ---- squares

pub square-sum : (a b : ℕ) → (a + b) * (a + b) ≡ a * a + 2 * (a * b) + b * b
square-sum a b = omega (arith, mul-add (a + b) a b, add-mul a b a, add-mul a b b, mul_comm b a)

pub square-double : (r : ℕ) → (2 * r) * (2 * r) ≡ 4 * (r * r)
square-double r = mul-mul-mul_comm 2 r 2 r

pub square-odd : (r : ℕ) → (2 * r + 1) * (2 * r + 1) ≡ 4 * (r * r) + 4 * r + 1
square-odd r = omega (arith, square-sum (2 * r) 1, square-double r)

pub square-next : (r : ℕ) → (r + 1) * (r + 1) ≡ r * r + 2 * r + 1
square-next r = omega (arith, square-sum r 1)

pub square_le : {a b : ℕ} → a ≤ b → a * a ≤ b * b
square_le h = mul-le-mul h h

pub below_root : (a s n : ℕ) → a * a ≤ n → n < (s + 1) * (s + 1) → a ≤ s
below_root a s n h l =
    let g : a < s + 1 = lt_of_not-le (λ (g : s + 1 ≤ a). not-le_of_lt l (le_trans (square_le g) h)) in
    omega arith

pub floor-unique : (n s t : ℕ) → Floor n s → Floor n t → s ≡ t
floor-unique n s t f g = le_antisymm (below_root s t n f.0 g.1) (below_root t s n g.0 f.1)

pub floor-above : (n s rem : ℕ) → n ≡ s * s + rem → rem ≤ 2 * s → Floor n s
floor-above n s rem h l = omega (arith, square-next s)

-- ---- `floor_root` is the whole part of the root

digit : (n f : ℕ) (b : Bool) → (T b → (2 * f + 1) * (2 * f + 1) ≤ n) → (T (not b) → n < (2 * f + 1) * (2 * f + 1)) → Floor (n / 4) f → Floor n (cond b (2 * f + 1) (2 * f))
digit n f true yes' no' h = (yes' tt, omega (arith, square-next f, square-odd f, square-next (2 * f + 1)))
digit n f false yes' no' h = (omega (arith, square-double f), no' tt)

pub floor_root-floor : (d n : ℕ) → n < 4 ^ d → Floor n (floor_root d n)
unfolding floor_root
floor_root-floor zero n h = omega arith
floor_root-floor (suc d) n h =
    let f = floor_root d (n / 4) in
    digit n f (leb ((2 * f + 1) * (2 * f + 1)) n) (leb→le ((2 * f + 1) * (2 * f + 1)) n) (nleb→lt ((2 * f + 1) * (2 * f + 1)) n)
    (floor_root-floor d (n / 4) (omega (arith, pow-succ' 4 d)))

pub floor_root-is : (d n s : ℕ) → n < 4 ^ d → Floor n s → floor_root d n ≡ s
floor_root-is d n s h f = floor-unique n (floor_root d n) s (floor_root-floor d n h) f

-- the root of a number of 2 d digits has d
pub floor_root-lt : (d n : ℕ) → floor_root d n < 2 ^ d
unfolding floor_root
floor_root-lt zero n = omega arith
floor_root-lt (suc d) n =
    let f = floor_root d (n / 4) in
    pick f (2 ^ d) (2 ^ suc d) (leb ((2 * f + 1) * (2 * f + 1)) n) (floor_root-lt d (n / 4)) (pow-succ' 2 d)
  where
    pick : (f p q : ℕ) (b : Bool) → f < p → q ≡ 2 * p → cond b (2 * f + 1) (2 * f) < q
    pick f p q true h e = omega arith
    pick f p q false h e = omega arith

-- ---- `root_bits` of a number that is scaled by a power of 4

pub four-pow : (k : ℕ) → 4 ^ k ≡ 2 ^ (k + k)
four-pow k = go k ∙ sym (pow-add 2 k k)
  where
    go : (k : ℕ) → 4 ^ k ≡ 2 ^ k * 2 ^ k
    go zero = refl
    go (suc k) = pow-succ' 4 k ∙ ap (λ (x : ℕ). 4 * x) (go k) ∙ sym (square-double (2 ^ k)) ∙ ap (λ (x : ℕ). x * x) (sym (pow-succ' 2 k))

pub four-pos : (k : ℕ) → 0 < 4 ^ k
four-pos k = subst (λ (x : ℕ). 0 < x) (sym (four-pow k)) (pow_pos (k + k))

over : (n j : ℕ) → 2 ^ j ≤ n → j < size n
over n j h = lt_of_not-le (λ (g : size n ≤ j). not-le_of_lt (size-lt n) (le_trans (pow_mono g) h))

half_of : (z k : ℕ) → 106 + (k + k) < z → z ≤ 108 + (k + k) → (z - 107) / 2 ≡ k
half_of z k a b = omega arith

pub root_bits-at : (P k : ℕ) → 2 ^ 106 ≤ P → P < 2 ^ 108 → root_bits (P * 4 ^ k) ≡ (k + 1) * 2 ^ 52 + (floor_root 54 P + 1) / 2
unfolding root_bits
root_bits-at P k a b =
    let n = P * 4 ^ k in
    let lo : 2 ^ (106 + (k + k)) ≤ n = le_trans (le_of_eq (pow-add 2 106 (k + k) ∙ ap (λ (x : ℕ). 2 ^ 106 * x) (sym (four-pow k)))) (mul-le-mul_right (4 ^ k) a) in
    let hi : n < 2 ^ (108 + (k + k)) = lt_of_lt_of_le (mul-lt-mul_of_pos_right b (four-pos k)) (le_of_eq (ap (λ (x : ℕ). 2 ^ 108 * x) (four-pow k) ∙ sym (pow-add 2 108 (k + k)))) in
    let e : (size n - 107) / 2 ≡ k = half_of (size n) k (over n (106 + (k + k)) lo) (size-le n (108 + (k + k)) hi) in
    ap (λ (j : ℕ). (j + 1) * 2 ^ 52 + (floor_root 54 (n / 4 ^ j) + 1) / 2) e
    ∙ ap (λ (x : ℕ). (k + 1) * 2 ^ 52 + (floor_root 54 x + 1) / 2) (mul-div_cancel P (four-pos k))
