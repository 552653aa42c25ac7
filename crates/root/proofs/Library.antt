-- `root_of` is the library's root of binary64, `sqrt`: both round the root of the same number of units. Assumes nothing.
use Rattle.std.proofs.Common.{◌≡◌, ℕ, zero, suc, ◌+◌, ◌-◌, ◌*◌, ◌/◌, ◌%◌, ◌^◌, ◌<◌, ◌≤◌, Bool, true, false, not, cond, T, eqb, ℤ, pos, negsuc, sym, refl, ap, ◌∙◌, subst, ⊎_elim, le_trans, le_of_eq, lt_of_lt_of_le, lt_of_le_of_lt, mul-le-mul_right, mul_assoc, add-mul, mul-lt-mul_of_pos_right, mul-pos, mul-div_cancel, lt_of_not-le, not-le_of_lt, zero-lt-suc, arith, leb→le, pow_pos, pow_mono, pow-add}
use Prim.Native.Nat.{compare, Ordering}
use native.Mathlib.Nat.{mul-mul-mul_comm, mul_comm, mul_right_comm, pow-succ', le-div_iff_mul-le, div-lt_iff_lt-mul}
use native.Mathlib.Numerals.{add-one}
use Rattle.std.proofs.lemmas.Nat.{div-mul-add, mod-mul-add}
use lib.Dec.{lit<, is_le, compare_is_eq, eqb→eq, nleb→lt}
use lib.Ieee.{Float, nan, inf, fin, binary64, up, down, size, fits, nearest, units, round, root_below, root_twice, sqrt}
use lib.Ieee.Exact.{HasValue, units_val}
use lib.Ieee.Fits.{up_pos, down_pos, round_is, sqrt-fits}
use lib.Ieee.Digits.{size-lt, size-le}
use lib.Ieee.Root.{whole_part}
use Rattle.floats.specs.Units.{count}
use Rattle.floats.proofs.Units.{count-exact, value→count, same_count, shifted}
use Rattle.root.specs.Root.{root_of}
use Rattle.root.proofs.Floor.{Floor, below_root, square_le, four-pow}
use Rattle.root.proofs.Nearest.{Digits, result, plain-of-value, le-or-lt, some}

-- ---- twice a root

-- with one more where the root goes on, it lies strictly between twice a and twice b, where n does between their squares
twice_between : (n r a b : ℕ) → Floor n r → a * a < n → n < b * b
    → (2 * a < 2 * r + cond (eqb (r * r) n) 0 1) × (2 * r + cond (eqb (r * r) n) 0 1 < 2 * b)
twice_between n r a b f h l = go (eqb (r * r) n) (eqb→eq (r * r) n)
  where
    low : a ≤ r
    low = below_root a r n (omega arith) f.1

    high : r < b
    high = lt_of_not-le (λ (g : b ≤ r). not-le_of_lt l (le_trans (square_le g) f.0))

    exact : r * r ≡ n → a < r
    exact e = lt_of_not-le (λ (g : r ≤ a). not-le_of_lt h (le_trans (le_of_eq (sym e)) (square_le g)))

    go : (t : Bool) → (T t → r * r ≡ n) → (2 * a < 2 * r + cond t 0 1) × (2 * r + cond t 0 1 < 2 * b)
    go true e = let g = exact (e tt) in let k = high in (omega arith, omega arith)
    go false e = let g = low in let k = high in (omega arith, omega arith)

-- ---- a number that is nearer to q * (2 * v) than v

compare-lt : (a b : ℕ) → a < b → compare a b ≡ Ordering.lt
compare-lt a b h = go (compare a b) (nleb→lt a b) (eqb→eq a b)
  where
    go : (o : Ordering) → (T (not (is_le o)) → b < a) → (T (compare_is_eq o) → a ≡ b) → o ≡ Ordering.lt
    go Ordering.lt k e = refl
    go Ordering.eq k e = let g : a ≡ b = e tt in absurd (omega arith)
    go Ordering.gt k e = let g : b < a = k tt in absurd (omega arith)

compare-gt : (a b : ℕ) → b < a → compare a b ≡ Ordering.gt
compare-gt a b h = go (compare a b) (leb→le a b)
  where
    go : (o : Ordering) → (T (is_le o) → a ≤ b) → o ≡ Ordering.gt
    go Ordering.lt k = let g : a ≤ b = k tt in absurd (omega arith)
    go Ordering.eq k = let g : a ≤ b = k tt in absurd (omega arith)
    go Ordering.gt k = refl

rounded : (n u q r : ℕ) (o : Ordering) → n ≡ q * u + r → r < u → compare (r * 2) u ≡ o → nearest (n / u) (compare (n % u * 2) u) ≡ nearest q o
rounded n u q r o e l c =
    ap (λ (x : ℕ). nearest (x / u) (compare (x % u * 2) u)) e
    ∙ ap (λ (x : ℕ). nearest x (compare ((q * u + r) % u * 2) u)) (div-mul-add q u r l)
    ∙ ap (λ (x : ℕ). nearest q (compare (x * 2) u)) (mod-mul-add q u r l)
    ∙ ap (nearest q) c

nearest-is : (n u v q : ℕ) → u ≡ 2 * v → 0 < q → (2 * q - 1) * v < n → n < (2 * q + 1) * v → nearest (n / u) (compare (n % u * 2) u) ≡ q
nearest-is n u v zero e p l h = absurd (omega arith)
nearest-is n u v (suc q) e p l h = ⊎_elim from_above from_below (le-or-lt (suc q * u) n)
  where
    whole : suc q * u ≡ 2 * suc q * v
    whole = ap (λ (x : ℕ). suc q * x) e ∙ sym (mul_assoc (suc q) 2 v) ∙ ap (λ (x : ℕ). x * v) (mul_comm (suc q) 2)

    next : suc q * u ≡ q * u + u
    next = ap (λ (x : ℕ). x * u) (sym (add-one q)) ∙ add-mul q 1 u ∙ one (q * u) u
      where
        one : (a b : ℕ) → a + 1 * b ≡ a + b
        one a b = omega arith

    upper : (2 * suc q + 1) * v ≡ 2 * suc q * v + v
    upper = add-mul (2 * suc q) 1 v ∙ one (2 * suc q * v) v
      where
        one : (a b : ℕ) → a + 1 * b ≡ a + b
        one a b = omega arith

    lower : (2 * suc q - 1) * v + v ≡ 2 * suc q * v
    lower = sym (one ((2 * suc q - 1) * v) v) ∙ sym (add-mul (2 * suc q - 1) 1 v) ∙ ap (λ (x : ℕ). x * v) back
      where
        one : (a b : ℕ) → a + 1 * b ≡ a + b
        one a b = omega arith

        back : 2 * suc q - 1 + 1 ≡ 2 * suc q
        back = omega arith

    from_above : suc q * u ≤ n → nearest (n / u) (compare (n % u * 2) u) ≡ suc q
    from_above g =
        let r : ℕ = n - suc q * u in
        let d : n ≡ suc q * u + r = omega arith in
        let s : r < v = gap n (suc q * u) (2 * suc q * v) ((2 * suc q + 1) * v) v h upper whole d in
        rounded n u (suc q) r Ordering.lt d (below r u v s e) (compare-lt (r * 2) u (doubled r u v s e))
      where
        gap : (n a b c v : ℕ) → n < c → c ≡ b + v → a ≡ b → n ≡ a + (n - a) → n - a < v
        gap n a b c v h k w d = omega arith

        below : (r u v : ℕ) → r < v → u ≡ 2 * v → r < u
        below r u v s e = omega arith

        doubled : (r u v : ℕ) → r < v → u ≡ 2 * v → r * 2 < u
        doubled r u v s e = omega arith

    from_below : n < suc q * u → nearest (n / u) (compare (n % u * 2) u) ≡ suc q
    from_below g =
        let r : ℕ = n - q * u in
        let s = gap n (q * u) (suc q * u) (2 * suc q * v) ((2 * suc q - 1) * v) u v next whole lower e l g in
        rounded n u q r Ordering.gt s.0 s.1 (compare-gt (r * 2) u s.2)
      where
        gap : (n a b c d u v : ℕ) → b ≡ a + u → b ≡ c → d + v ≡ c → u ≡ 2 * v → d < n → n < b → (n ≡ a + (n - a)) × (n - a < u) × (u < (n - a) * 2)
        gap n a b c d u v x w y e l g = (omega arith, omega arith, omega arith)

-- ---- the rounding that `sqrt` does

-- t / 2 ^ 2272 to the nearest double, where it is nearer to q * 2 ^ suc k units than to any other number of 53 digits
round-is : (t q k : ℕ) → 0 < q → (2 * q - 1) * 2 ^ (k + 1198) < t → t < (2 * q + 1) * 2 ^ (k + 1198) → 2 ^ (k + 1251) ≤ t → t < 2 ^ (k + 1252)
    → round binary64 false t (2 ^ 2272) ≡ units binary64 false q (suc k)
round-is t q k p l h a b =
    let n : ℕ = t * 2 ^ 1074 in
    let v : ℕ = 2 ^ (k + 2272) in
    let W : ℕ = n / 2 ^ 2272 in
    let w : (x : ℕ) → x * 2 ^ (k + 1198) * 2 ^ 1074 ≡ x * v = λ x. shifted x (k + 1198) 1074 ∙ ap (λ (y : ℕ). x * 2 ^ y) (more k) in
    let n_low : (2 * q - 1) * v < n = lt_of_le_of_lt (le_of_eq (sym (w (2 * q - 1)))) (mul-lt-mul_of_pos_right l (pow_pos 1074)) in
    let n_high : n < (2 * q + 1) * v = lt_of_lt_of_le (mul-lt-mul_of_pos_right h (pow_pos 1074)) (le_of_eq (w (2 * q + 1))) in
    let W_low : 2 ^ (k + 53) ≤ W = (le-div_iff_mul-le (pow_pos 2272)).1 (le_trans (le_of_eq (sym (pow-add 2 (k + 53) 2272) ∙ ap (λ (y : ℕ). 2 ^ y) (low k) ∙ pow-add 2 (k + 1251) 1074)) (mul-le-mul_right (2 ^ 1074) a)) in
    let W_high : W < 2 ^ (k + 54) = (div-lt_iff_lt-mul (pow_pos 2272)).1 (lt_of_lt_of_le (mul-lt-mul_of_pos_right b (pow_pos 1074)) (le_of_eq (sym (pow-add 2 (k + 1252) 1074) ∙ ap (λ (y : ℕ). 2 ^ y) (high k) ∙ pow-add 2 (k + 54) 2272))) in
    let e : size W - 53 ≡ suc k = digits (size W) k (over W (k + 53) W_low) (size-le W (k + 54) W_high) in
    let d : 2 ^ 2272 * 2 ^ suc k ≡ 2 * v = sym (pow-add 2 2272 (suc k)) ∙ ap (λ (y : ℕ). 2 ^ y) (unit k) ∙ pow-succ' 2 (k + 2272) in
    round_is binary64 false t (2 ^ 2272)
    ∙ ap (λ (j : ℕ). units binary64 false (nearest (n / (2 ^ 2272 * 2 ^ j)) (compare (n % (2 ^ 2272 * 2 ^ j) * 2) (2 ^ 2272 * 2 ^ j))) j) e
    ∙ ap (λ (x : ℕ). units binary64 false x (suc k)) (nearest-is n (2 ^ 2272 * 2 ^ suc k) v q d p n_low n_high)
  where
    more : (k : ℕ) → k + 1198 + 1074 ≡ k + 2272
    more k = omega arith

    low : (k : ℕ) → k + 53 + 2272 ≡ k + 1251 + 1074
    low k = omega arith

    high : (k : ℕ) → k + 1252 + 1074 ≡ k + 54 + 2272
    high k = omega arith

    unit : (k : ℕ) → 2272 + suc k ≡ suc (k + 2272)
    unit k = omega arith

    over : (n j : ℕ) → 2 ^ j ≤ n → j < size n
    over n j h = lt_of_not-le (λ (g : size n ≤ j). not-le_of_lt (size-lt n) (le_trans (pow_mono g) h))

    digits : (z k : ℕ) → k + 53 < z → z ≤ k + 54 → z - 53 ≡ suc k
    digits z k a b = omega arith

-- ---- what is under `sqrt`'s root

-- twice the root of P * 4 ^ k * 2 ^ 2394, whose q is that of `Digits`
twice-root : (P q k N : ℕ) → Digits P q → 2 ^ 106 ≤ P → P < 2 ^ 108 → N ≡ P * 4 ^ k * 2 ^ 2394 → round binary64 false (root_twice N) (2 ^ 2272) ≡ units binary64 false q (suc k)
unfolding root_twice
twice-root P q k N d lo hi e =
    let w : ℕ = 2 ^ (k + 1197) in
    let ww : 0 < w * w = mul-pos (pow_pos (k + 1197)) (pow_pos (k + 1197)) in
    let r : ℕ = root_below (size N) N in
    let f : Floor N r = whole_part N in
    let is : N ≡ P * (w * w) = e ∙ mul_assoc P (4 ^ k) (2 ^ 2394) ∙ ap (λ (x : ℕ). P * x) (ap (λ (x : ℕ). x * 2 ^ 2394) (four-pow k) ∙ sym (pow-add 2 (k + k) 2394) ∙ ap (λ (x : ℕ). 2 ^ x) (halves k) ∙ pow-add 2 (k + 1197) (k + 1197)) in
    let above : (a : ℕ) → a * a < P → (a * w) * (a * w) < N = λ a h. lt_of_le_of_lt (le_of_eq (mul-mul-mul_comm a w a w)) (lt_of_lt_of_le (mul-lt-mul_of_pos_right h ww) (le_of_eq (sym is))) in
    let below : (b : ℕ) → P < b * b → N < (b * w) * (b * w) = λ b h. lt_of_le_of_lt (le_of_eq is) (lt_of_lt_of_le (mul-lt-mul_of_pos_right h ww) (le_of_eq (sym (mul-mul-mul_comm b w b w)))) in
    let t : ℕ = 2 * r + cond (eqb (r * r) N) 0 1 in
    let s = twice_between N r ((2 * q - 1) * w) ((2 * q + 1) * w) f (above (2 * q - 1) d.under) (below (2 * q + 1) d.over) in
    let x : (a : ℕ) → 2 * (a * w) ≡ a * 2 ^ (k + 1198) = λ a. left a w ∙ ap (λ (y : ℕ). a * y) (sym (pow-succ' 2 (k + 1197)) ∙ ap (λ (y : ℕ). 2 ^ y) (step k)) in
    let r_low : 2 ^ 53 * w ≤ r = below_root (2 ^ 53 * w) r N (le_trans (le_of_eq (mul-mul-mul_comm (2 ^ 53) w (2 ^ 53) w)) (le_trans (mul-le-mul_right (w * w) lo) (le_of_eq (sym is)))) f.1 in
    let r_high : r < 2 ^ 54 * w = lt_of_not-le (λ (g : 2 ^ 54 * w ≤ r). not-le_of_lt (below (2 ^ 54) hi) (le_trans (square_le g) f.0)) in
    let y : 2 ^ 54 * w ≡ 2 ^ (k + 1251) = sym (pow-add 2 54 (k + 1197)) ∙ ap (λ (y : ℕ). 2 ^ y) (more k) in
    let z : 2 ^ 55 * w ≡ 2 ^ (k + 1252) = sym (pow-add 2 55 (k + 1197)) ∙ ap (λ (y : ℕ). 2 ^ y) (most k) in
    round-is t q k (omega (arith, d.q_lo))
    (lt_of_le_of_lt (le_of_eq (sym (x (2 * q - 1)))) s.0)
    (lt_of_lt_of_le s.1 (le_of_eq (x (2 * q + 1))))
    (le_trans (le_of_eq (sym y)) (at-least r w (cond (eqb (r * r) N) 0 1) r_low))
    (lt_of_lt_of_le (at-most r w (eqb (r * r) N) r_high) (le_of_eq z))
  where
    halves : (k : ℕ) → k + k + 2394 ≡ k + 1197 + (k + 1197)
    halves k = omega arith

    left : (a w : ℕ) → 2 * (a * w) ≡ a * (2 * w)
    left a w = omega (arith, mul_assoc a 2 w, mul_comm a 2, mul_assoc 2 a w)

    step : (k : ℕ) → suc (k + 1197) ≡ k + 1198
    step k = omega arith

    more : (k : ℕ) → 54 + (k + 1197) ≡ k + 1251
    more k = omega arith

    most : (k : ℕ) → 55 + (k + 1197) ≡ k + 1252
    most k = omega arith

    at-least : (r w c : ℕ) → 2 ^ 53 * w ≤ r → 2 ^ 54 * w ≤ 2 * r + c
    at-least r w c h = omega arith

    at-most : (r w : ℕ) (b : Bool) → r < 2 ^ 54 * w → 2 * r + cond b 0 1 < 2 ^ 55 * w
    at-most r w true h = omega arith
    at-most r w false h = omega arith

-- what a finite double is as a fraction, in places of 2 ^ -4542, from its units
places : (m n C : ℕ) (e : ℤ) → m * up e * 2 ^ 1074 ≡ C * down e → m * up e * 2 ^ 4542 / down e ≡ C * 2 ^ 3468
places m n C e h =
    ap (λ (x : ℕ). x / down e) (sym (shifted (m * up e) 1074 3468) ∙ ap (λ (x : ℕ). x * 2 ^ 3468) h ∙ mul_right_comm C (down e) (2 ^ 3468))
    ∙ mul-div_cancel (C * 2 ^ 3468) (down_pos e)

-- ---- the theorem

positive : (m : ℕ) (e : ℤ) → T (fits binary64 (fin false (suc m) e)) → 0 < count (fin false (suc m) e) → sqrt binary64 (fin false (suc m) e) ≡ root_of (fin false (suc m) e)
unfolding sqrt
positive m e h p =
    let x : Float = fin false (suc m) e in
    let R = result x (refl, h) p in
    let N : ℕ = suc m * up e * 2 ^ 4542 / down e in
    let c : N ≡ R.P * 4 ^ R.k * 2 ^ 2394 =
    places (suc m) 0 (count x) e (count-exact x (refl, h)).1 ∙ sym (shifted (count x) 1074 2394) ∙ ap (λ (y : ℕ). y * 2 ^ 2394) R.under in
    let u : sqrt binary64 x ≡ units binary64 false R.q (suc R.k) = twice-root R.P R.q R.k N R.digits R.lo R.hi c in
    let v : HasValue (sqrt binary64 x) false (R.q * 2 ^ suc R.k) (2 ^ 1074) =
    subst (λ (y : Float). HasValue y false (R.q * 2 ^ suc R.k) (2 ^ 1074)) (sym u) (units_val binary64 false R.q (suc R.k) (inside R.q R.k R.digits.q_hi R.limit)) in
    same_count (sqrt binary64 x) (root_of x)
    (plain-of-value (sqrt binary64 x) (R.q * 2 ^ suc R.k) (2 ^ 1074) v (sqrt-fits binary64 x))
    (plain-of-value (root_of x) (R.q * 2 ^ suc R.k) (2 ^ 1074) R.value R.double)
    (value→count (sqrt binary64 x) (R.q * 2 ^ suc R.k) v ∙ sym (value→count (root_of x) (R.q * 2 ^ suc R.k) R.value))
  where
    inside : (q k : ℕ) → q ≤ 2 ^ 53 → k ≤ 1532 → q * 2 ^ suc k < 2 ^ 2098
    inside q k h l = lt_of_le_of_lt (mul-le-mul_right (2 ^ suc k) h) (lt_of_le_of_lt (le_of_eq (sym (pow-add 2 53 (suc k)))) (pow-lt-pow k l))
      where
        pow-lt-pow : (k : ℕ) → k ≤ 1532 → 2 ^ (53 + suc k) < 2 ^ 2098
        pow-lt-pow k l = lt_of_le_of_lt (pow_mono {i = 53 + suc k} {j = 2097} (omega arith)) (lit< tt)

-- a zero is written in one way
canonical : (e : ℤ) → up e * down e ≡ 1 → e ≡ pos 0
canonical (pos zero) h = refl
canonical (pos (suc k)) h = absurd (omega (arith, pow-succ' 2 k))
canonical (negsuc k) h = absurd (omega (arith, pow-succ' 2 k))

-- `root_of` of any double is IEEE 754's squareRoot
pub is_sqrt : (x : Float) → T (fits binary64 x) → sqrt binary64 x ≡ root_of x
unfolding sqrt root_of fits
is_sqrt nan h = refl
is_sqrt (inf true) h = refl
is_sqrt (inf false) h = refl
is_sqrt (fin s zero e) h = ap (fin s 0) (sym (canonical e (eqb→eq (up e * down e) 1 h)))
is_sqrt (fin true (suc m) e) h = refl
is_sqrt (fin false (suc m) e) h =
    positive m e h (some (suc m * up e * 2 ^ 1074) (count (fin false (suc m) e)) (down e) (mul-pos (mul-pos (zero-lt-suc m) (up_pos e)) (pow_pos 1074)) (count-exact (fin false (suc m) e) (refl, h)).1)
