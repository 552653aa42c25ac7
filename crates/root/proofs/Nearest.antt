-- `root_of` gives the nearest double: the theorem `nearest`, for every positive finite double. Assumes nothing.
use Rattle.std.proofs.Common.{◌≡◌, ℕ, zero, suc, ◌+◌, ◌-◌, ◌*◌, ◌/◌, ◌%◌, ◌^◌, ◌<◌, ◌≤◌, Bool, true, false, not, T, leb, ◌⊎◌, sym, refl, ap, ◌∙◌, subst, inl, inr, ⊎_elim, le_trans, le_of_eq, lt_of_lt_of_le, lt_of_le_of_lt, mul-le-mul_right, zero-lt-suc, mul_assoc, add-mul, lt_of_mul-lt-mul_right, mul-le-mul_left, mul-lt-mul_of_pos_right, mul-pos, lt_of_not-le, zero-mul, not-le_of_lt, le_of_mul-le-mul_right, mul_left_comm, arith, leb→le, pow_pos, pow_mono, pow-add}
use native.Mathlib.Nat.{mul-mul-mul_comm, pow-succ'}
use lib.Dec.{nleb→lt}
use lib.Ieee.{Float, nan, inf, fin, binary64, up, down, size, fits, of_bits}
use lib.Ieee.Bits.{of_bits-fits}
use lib.Ieee.Exact.{HasValue}
use lib.Ieee.Digits.{size-lt, size_reaches, size-le}
use Rattle.floats.specs.Units.{count, Plain, units_at}
use Rattle.floats.proofs.Units.{units-high, value→count, pattern-value, shifted, significand}
use Rattle.root.specs.Root.{floor_root, root_bits, root_of, NearestRoot}
use Rattle.root.proofs.Floor.{Floor, floor_root-floor, floor_root-lt, below_root, square_le, square-odd, square-next, four-pow, four-pos, root_bits-at}

-- ---- two doubles are at least a step apart

pub le-or-lt : (a b : ℕ) → (a ≤ b) ⊎ (b < a)
le-or-lt a b = go (leb a b) (leb→le a b) (nleb→lt a b)
  where
    go : (t : Bool) → (T t → a ≤ b) → (T (not t) → b < a) → (a ≤ b) ⊎ (b < a)
    go true f g = inl (f tt)
    go false f g = inr (g tt)

-- M * 2 ^ j is a multiple of 2 ^ K for a j from K up
on-grid : (M j K : ℕ) → K ≤ j → M * 2 ^ j ≡ M * 2 ^ (j - K) * 2 ^ K
on-grid M j K h =
    let e : j - K + K ≡ j = omega arith in
    sym (shifted M (j - K) K ∙ ap (λ (n : ℕ). M * 2 ^ n) e)

-- and is below 2 ^ 52 * 2 ^ K for a j below that
fine : (M j k : ℕ) → M < 2 ^ 53 → j ≤ k → M * 2 ^ j + 2 ^ k ≤ 2 ^ 52 * 2 ^ suc k
fine M j k h l =
    let a : M * 2 ^ j ≤ M * 2 ^ k = mul-le-mul_left M (pow_mono l) in
    let b : (M + 1) * 2 ^ k ≤ 2 ^ 53 * 2 ^ k = mul-le-mul_right (2 ^ k) (omega arith) in
    omega (arith, add-mul M 1 (2 ^ k), pow-succ' 2 k)

step-above : (q k M j : ℕ) → 2 ^ 52 ≤ q → M < 2 ^ 53 → q * 2 ^ suc k < M * 2 ^ j → (q + 1) * 2 ^ suc k ≤ M * 2 ^ j
step-above q k M j a b l = ⊎_elim
    (λ (h : suc k ≤ j).
    let e = on-grid M j (suc k) h in
    let W = M * 2 ^ (j - suc k) in
    let c : q < W = lt_of_mul-lt-mul_right (2 ^ suc k) (lt_of_lt_of_le l (le_of_eq e)) in
    let d : q + 1 ≤ W = omega arith in
    le_trans (mul-le-mul_right (2 ^ suc k) d) (le_of_eq (sym e)))
    (λ (h : j < suc k).
    let f : M * 2 ^ j + 2 ^ k ≤ 2 ^ 52 * 2 ^ suc k = fine M j k b (omega arith) in
    let g : 2 ^ 52 * 2 ^ suc k ≤ q * 2 ^ suc k = mul-le-mul_right (2 ^ suc k) a in
    absurd (clash (q * 2 ^ suc k) (M * 2 ^ j) (2 ^ k) (2 ^ 52 * 2 ^ suc k) l f g))
    (le-or-lt (suc k) j)
  where
    clash : (r y u p : ℕ) → r < y → y + u ≤ p → p ≤ r → ⊥
    clash r y u p h k l = omega arith

step-below : (q k M j : ℕ) → 2 ^ 52 ≤ q → M < 2 ^ 53 → M * 2 ^ j < q * 2 ^ suc k
    → (M * 2 ^ j + 2 ^ suc k ≤ q * 2 ^ suc k) ⊎ ((q ≡ 2 ^ 52) × (M * 2 ^ j + 2 ^ k ≤ q * 2 ^ suc k))
step-below q k M j a b l = ⊎_elim
    (λ (h : suc k ≤ j).
    let e = on-grid M j (suc k) h in
    let W = M * 2 ^ (j - suc k) in
    let c : W < q = lt_of_mul-lt-mul_right (2 ^ suc k) (lt_of_le_of_lt (le_of_eq (sym e)) l) in
    let d : W + 1 ≤ q = omega arith in
    let f : (W + 1) * 2 ^ suc k ≤ q * 2 ^ suc k = mul-le-mul_right (2 ^ suc k) d in
    inl (join (M * 2 ^ j) (W * 2 ^ suc k) ((W + 1) * 2 ^ suc k) (q * 2 ^ suc k) (2 ^ suc k) e (add-mul W 1 (2 ^ suc k)) f))
    (λ (h : j < suc k).
    let f : M * 2 ^ j + 2 ^ k ≤ 2 ^ 52 * 2 ^ suc k = fine M j k b (omega arith) in
    ⊎_elim
    (λ (g : q ≤ 2 ^ 52). let e : q ≡ 2 ^ 52 = omega arith in inr (e, le_trans f (mul-le-mul_right (2 ^ suc k) a)))
    (λ (g : 2 ^ 52 < q).
    let u : (2 ^ 52 + 1) * 2 ^ suc k ≤ q * 2 ^ suc k = mul-le-mul_right (2 ^ suc k) (omega arith) in
    inl (omega arith))
    (le-or-lt q (2 ^ 52)))
    (le-or-lt (suc k) j)
  where
    join : (y w v r p : ℕ) → y ≡ w → v ≡ w + 1 * p → v ≤ r → y + p ≤ r
    join y w v r p e f h = omega arith

-- ---- what is under the root, as P * 4 ^ k with a P of 107 or 108 digits

record Scaled (n : ℕ) : Type 0 where
  P : ℕ
  k : ℕ
  is : n ≡ P * 4 ^ k
  lo : 2 ^ 106 ≤ P
  hi : P < 2 ^ 108
  even : P % 2 ≡ 0
  room : k + k + 107 ≤ size n

twice : (h : ℕ) → h * 2 % 2 ≡ 0
twice h = omega arith

scaled : (M a : ℕ) → 0 < M → M < 2 ^ 53 → 1074 ≤ a → Scaled (M * 2 ^ a)
scaled M a p s h =
    let n = M * 2 ^ a in
    let z : ℕ = size n in
    let k : ℕ = (z - 107) / 2 in
    let z-le : z ≤ 53 + a = size-le n (53 + a) (lt_of_lt_of_le (mul-lt-mul_of_pos_right s (pow_pos a)) (le_of_eq (sym (pow-add 2 53 a)))) in
    let z-gt : a < z = lt_of_not-le (λ (g : z ≤ a). not-le_of_lt (size-lt n) (le_trans (pow_mono g) (le_trans (le_of_eq (sym (one_mul' (2 ^ a)))) (mul-le-mul_right (2 ^ a) p)))) in
    let d : ℕ = a - (k + k) - 1 in
    let e : suc d + (k + k) ≡ a = omega arith in
    let is : n ≡ M * 2 ^ suc d * 4 ^ k =
    ap (λ (x : ℕ). M * 2 ^ x) (sym e) ∙ sym (shifted M (suc d) (k + k)) ∙ ap (λ (x : ℕ). M * 2 ^ suc d * x) (sym (four-pow k)) in
    let lo : 2 ^ 106 * 4 ^ k ≤ M * 2 ^ suc d * 4 ^ k =
    le_trans (le_of_eq (ap (λ (x : ℕ). 2 ^ 106 * x) (four-pow k) ∙ sym (pow-add 2 106 (k + k)))) (le_trans (size_reaches n (106 + (k + k)) (omega arith)) (le_of_eq is)) in
    let hi : M * 2 ^ suc d * 4 ^ k < 2 ^ 108 * 4 ^ k =
    lt_of_lt_of_le (lt_of_le_of_lt (le_of_eq (sym is)) (lt_of_lt_of_le (size-lt n) (pow_mono {i = z} {j = 108 + (k + k)} (omega arith)))) (le_of_eq (pow-add 2 108 (k + k) ∙ ap (λ (x : ℕ). 2 ^ 108 * x) (sym (four-pow k)))) in
    record {
      P = M * 2 ^ suc d;
      k = k;
      is = is;
      lo = le_of_mul-le-mul_right lo (four-pos k);
      hi = lt_of_mul-lt-mul_right (4 ^ k) hi;
      even = ap (λ (x : ℕ). x % 2) (sym (shifted M d 1 ∙ ap (λ (x : ℕ). M * 2 ^ x) (plus d))) ∙ twice (M * 2 ^ d);
      room = omega arith;
    }
  where
    one_mul' : (x : ℕ) → 1 * x ≡ x
    one_mul' x = omega arith

    plus : (d : ℕ) → d + 1 ≡ suc d
    plus d = omega arith

-- ---- the result, and how many units it is

-- a significand q of 53 digits, or 2 ^ 53, after the exponent's field
units_of : (q k : ℕ) → 2 ^ 52 ≤ q → q ≤ 2 ^ 53 → units_at ((k + 1) * 2 ^ 52 + q) ≡ q * 2 ^ suc k
units_of q k a b = ⊎_elim
    (λ (h : 2 ^ 53 ≤ q).
    let p : ((k + 1) * 2 ^ 52 + q) % 2 ^ 52 + 2 ^ 52 ≡ 2 ^ 52 = omega arith in
    let e : ((k + 1) * 2 ^ 52 + q) / 2 ^ 52 - 1 ≡ suc (suc k) = omega arith in
    let r : q ≡ 2 ^ 53 = omega arith in
    units-high ((k + 1) * 2 ^ 52 + q) (omega arith)
    ∙ ap (λ (x : ℕ). x * 2 ^ (((k + 1) * 2 ^ 52 + q) / 2 ^ 52 - 1)) p
    ∙ ap (λ (x : ℕ). 2 ^ 52 * 2 ^ x) e
    ∙ ap (λ (x : ℕ). 2 ^ 52 * x) (pow-succ' 2 (suc k))
    ∙ sym (mul_assoc (2 ^ 52) 2 (2 ^ suc k))
    ∙ ap (λ (x : ℕ). x * 2 ^ suc k) (sym r))
    (λ (h : q < 2 ^ 53).
    let p : ((k + 1) * 2 ^ 52 + q) % 2 ^ 52 + 2 ^ 52 ≡ q = omega arith in
    let e : ((k + 1) * 2 ^ 52 + q) / 2 ^ 52 - 1 ≡ suc k = omega arith in
    units-high ((k + 1) * 2 ^ 52 + q) (omega arith)
    ∙ ap (λ (x : ℕ). x * 2 ^ (((k + 1) * 2 ^ 52 + q) / 2 ^ 52 - 1)) p
    ∙ ap (λ (x : ℕ). q * 2 ^ x) e)
    (le-or-lt (2 ^ 53) q)

-- s is the root of P, cut to 54 digits, and q is s rounded to 53
pub record Digits (P q : ℕ) : Type 0 where
  pub q_lo : 2 ^ 52 ≤ q
  pub q_hi : q ≤ 2 ^ 53
  pub over : P < (2 * q + 1) * (2 * q + 1)
  pub under : (2 * q - 1) * (2 * q - 1) < P
  pub edge : q ≡ 2 ^ 52 → (2 * q) * (2 * q) ≤ P

digits : (P s : ℕ) → Floor P s → 2 ^ 106 ≤ P → s < 2 ^ 54 → P % 2 ≡ 0 → Digits P ((s + 1) / 2)
digits P s f lo hi e =
    let q : ℕ = (s + 1) / 2 in
    let s-lo : 2 ^ 53 ≤ s = below_root (2 ^ 53) s P lo f.1 in
    record {
      q_lo = omega arith;
      q_hi = omega arith;
      over = lt_of_lt_of_le f.1 (square_le {a = s + 1} {b = 2 * q + 1} (omega arith));
      under = ⊎_elim (uneven (2 * q - 1) s-lo) (even (2 * q - 1) s-lo) (le-or-lt 1 (s % 2));
      edge = λ g. le_trans (square_le {a = 2 * q} {b = s} (omega arith)) f.0;
    }
  where
    -- s is odd, so its square is, and P is even: they differ, and there is no tie
    odd-square : (h : ℕ) → s ≡ 2 * h + 1 → s * s < P
    odd-square h g =
        let k : s * s ≡ 4 * (h * h) + 4 * h + 1 = ap (λ (x : ℕ). x * x) g ∙ square-odd h in
        omega (arith, f.0)

    uneven : (t : ℕ) → 2 ^ 53 ≤ s → 1 ≤ s % 2 → (2 * ((s + 1) / 2) - 1) * (2 * ((s + 1) / 2) - 1) < P
    uneven t l g =
        let k : 2 * ((s + 1) / 2) - 1 ≡ s = omega arith in
        subst (λ (x : ℕ). x * x < P) (sym k) (odd-square (s / 2) (omega arith))

    even : (t : ℕ) → 2 ^ 53 ≤ s → s % 2 < 1 → (2 * ((s + 1) / 2) - 1) * (2 * ((s + 1) / 2) - 1) < P
    even t l g =
        let k : 2 * ((s + 1) / 2) - 1 ≡ s - 1 = omega arith in
        let j : s - 1 + 1 ≡ s = omega arith in
        let u : (s - 1 + 1) * (s - 1 + 1) ≡ s * s = ap (λ (x : ℕ). x * x) j in
        subst (λ (x : ℕ). x * x < P) (sym k) (omega (arith, square-next (s - 1), f.0))

-- ---- half of r + y is on y's side of the root

square-lt : {a b : ℕ} → a < b → a * a < b * b
square-lt {a} {b} h =
    let g : (a + 1) * (a + 1) ≤ b * b = square_le (omega arith) in
    omega (arith, square-next a)

quad : (P k : ℕ) → 4 * (P * 4 ^ k) ≡ P * (2 ^ suc k * 2 ^ suc k)
quad P k = mul_left_comm 4 P (4 ^ k) ∙ ap (λ (x : ℕ). P * x) (sym (pow-succ' 4 k) ∙ four-pow (suc k) ∙ pow-add 2 (suc k) (suc k))

at_above : (P k q M j : ℕ) → Digits P q → M < 2 ^ 53 → q * 2 ^ suc k < M * 2 ^ j
    → 4 * (P * 4 ^ k) < (q * 2 ^ suc k + M * 2 ^ j) * (q * 2 ^ suc k + M * 2 ^ j)
at_above P k q M j d s l =
    let w : ℕ = 2 ^ suc k in
    let y : ℕ = M * 2 ^ j in
    let t : (q + 1) * w ≤ y = step-above q k M j d.q_lo s l in
    let u : (2 * q + 1) * w ≤ q * w + y = omega (arith, add-mul q 1 w, add-mul (2 * q) 1 w, mul_assoc 2 q w) in
    lt_of_le_of_lt (le_of_eq (quad P k))
    (lt_of_lt_of_le (mul-lt-mul_of_pos_right d.over (mul-pos (pow_pos (suc k)) (pow_pos (suc k))))
    (le_trans (le_of_eq (sym (mul-mul-mul_comm (2 * q + 1) w (2 * q + 1) w))) (square_le u)))

at-below : (P k q M j : ℕ) → Digits P q → M < 2 ^ 53 → M * 2 ^ j < q * 2 ^ suc k
    → (q * 2 ^ suc k + M * 2 ^ j) * (q * 2 ^ suc k + M * 2 ^ j) < 4 * (P * 4 ^ k)
at-below P k q M j d s l =
    let w : ℕ = 2 ^ suc k in
    let y : ℕ = M * 2 ^ j in
    ⊎_elim
    (λ (h : y + w ≤ q * w).
    let t : ℕ = 2 * q - 1 in
    let e : t + 1 ≡ 2 * q = before q d.q_lo in
    let f : (t + 1) * w ≡ 2 * q * w = ap (λ (x : ℕ). x * w) e in
    let u : q * w + y ≤ t * w = shift (q * w) y w (t * w) ((t + 1) * w) h (add-mul t 1 w) (f ∙ mul_assoc 2 q w) in
    lt_of_le_of_lt (square_le u)
    (lt_of_le_of_lt (le_of_eq (mul-mul-mul_comm t w t w))
    (lt_of_lt_of_le (mul-lt-mul_of_pos_right d.under (mul-pos (pow_pos (suc k)) (pow_pos (suc k)))) (le_of_eq (sym (quad P k))))))
    (λ (h : (q ≡ 2 ^ 52) × (y + 2 ^ k ≤ q * w)).
    let u : q * w + y < 2 * q * w = less (q * w) y (2 ^ k) (2 * q * w) h.1 (pow_pos k) (mul_assoc 2 q w) in
    lt_of_lt_of_le (square-lt u)
    (le_trans (le_of_eq (mul-mul-mul_comm (2 * q) w (2 * q) w)) (le_trans (mul-le-mul_right (w * w) (d.edge h.0)) (le_of_eq (sym (quad P k))))))
    (step-below q k M j d.q_lo s l)
  where
    before : (q : ℕ) → 2 ^ 52 ≤ q → 2 * q - 1 + 1 ≡ 2 * q
    before q h = omega arith

    shift : (r y w v u : ℕ) → y + w ≤ r → u ≡ v + 1 * w → u ≡ 2 * r → r + y ≤ v
    shift r y w v u h e f = omega arith

    less : (r y p u : ℕ) → y + p ≤ r → 0 < p → u ≡ 2 * r → r + y < u
    less r y p u h a e = omega arith

-- ---- the theorem

by_pattern : (x : Float) → Plain x → 0 < count x → root_of x ≡ of_bits binary64 (root_bits (count x * 2 ^ 1074))
unfolding root_of count
by_pattern nan p h = absurd p
by_pattern (inf s) p h = absurd p
by_pattern (fin s zero e) p h = absurd (not-le_of_lt h (le_of_eq (value→count (fin s zero e) 0 (p.0, ap (λ (n : ℕ). n * 2 ^ 1074) (zero-mul (up e)) ∙ sym (zero-mul (down e))))))
by_pattern (fin true (suc m) e) p h = absurd (subst T p.0 tt)
by_pattern (fin false (suc m) e) p h = refl

pub plain-of-value : (x : Float) (n c : ℕ) → HasValue x false n c → T (fits binary64 x) → Plain x
plain-of-value nan n c v h = absurd v
plain-of-value (inf s) n c v h = absurd v
plain-of-value (fin s m e) n c v h = (v.0, h)

pub some : (n M p : ℕ) → 0 < n → n ≡ M * p → 0 < M
some n zero p h e = absurd (not-le_of_lt h (le_of_eq (e ∙ zero-mul p)))
some n (suc M) p h e = zero-lt-suc M

-- what is under the root, the root's significand, and the root
pub record Result (x : Float) : Type 0 where
  pub P : ℕ
  pub k : ℕ
  pub q : ℕ
  pub under : count x * 2 ^ 1074 ≡ P * 4 ^ k
  pub lo : 2 ^ 106 ≤ P
  pub hi : P < 2 ^ 108
  pub limit : k ≤ 1532
  pub digits : Digits P q
  pub value : HasValue (root_of x) false (q * 2 ^ suc k) (2 ^ 1074)
  pub double : T (fits binary64 (root_of x))

pub result : (x : Float) → Plain x → 0 < count x → Result x
result x p h =
    let g = significand x p in
    let c : count x ≡ g.M * 2 ^ g.j = value→count x (g.M * 2 ^ g.j) g.is in
    let a : ℕ = g.j + 1074 in
    let e : count x * 2 ^ 1074 ≡ g.M * 2 ^ a = ap (λ (n : ℕ). n * 2 ^ 1074) c ∙ shifted g.M g.j 1074 in
    let S = scaled g.M a (some (count x) g.M (2 ^ g.j) h c) g.small (omega arith) in
    let s : ℕ = floor_root 54 S.P in
    let d = digits S.P s (floor_root-floor 54 S.P S.hi) S.lo (floor_root-lt 54 S.P) S.even in
    let q : ℕ = (s + 1) / 2 in
    let b : ℕ = (S.k + 1) * 2 ^ 52 + q in
    let z : size (g.M * 2 ^ a) ≤ 3172 = size-le (g.M * 2 ^ a) 3172 (lt_of_le_of_lt (le_of_eq (sym (shifted g.M g.j 1074))) (mul-lt-mul_of_pos_right g.limit (pow_pos 1074))) in
    let fin : b < 2047 * 2 ^ 52 = inside S.k q (size (g.M * 2 ^ a)) S.room z d.q_hi in
    let r : root_of x ≡ of_bits binary64 b = by_pattern x p h ∙ ap (of_bits binary64) (ap root_bits (e ∙ S.is) ∙ root_bits-at S.P S.k S.lo S.hi) in
    record {
      P = S.P;
      k = S.k;
      q = q;
      under = e ∙ S.is;
      lo = S.lo;
      hi = S.hi;
      limit = most S.k (size (g.M * 2 ^ a)) S.room z;
      digits = d;
      value = subst (λ (y : Float). HasValue y false (q * 2 ^ suc S.k) (2 ^ 1074)) (sym r)
          (subst (λ (n : ℕ). HasValue (of_bits binary64 b) false n (2 ^ 1074)) (units_of q S.k d.q_lo d.q_hi) (pattern-value b fin));
      double = subst (λ (y : Float). T (fits binary64 y)) (sym r) (of_bits-fits binary64 b);
    }
  where
    inside : (k q z : ℕ) → k + k + 107 ≤ z → z ≤ 3172 → q ≤ 2 ^ 53 → (k + 1) * 2 ^ 52 + q < 2047 * 2 ^ 52
    inside k q z a b c = omega arith

    most : (k z : ℕ) → k + k + 107 ≤ z → z ≤ 3172 → k ≤ 1532
    most k z a b = omega arith

pub nearest : (x : Float) → Plain x → 0 < count x → NearestRoot x (root_of x)
nearest x p h =
    let R = result x p h in
    let c : count (root_of x) ≡ R.q * 2 ^ suc R.k = value→count (root_of x) (R.q * 2 ^ suc R.k) R.value in
    record {
      is_double = plain-of-value (root_of x) (R.q * 2 ^ suc R.k) (2 ^ 1074) R.value R.double;
      from_above = λ y o l.
          let g = significand y o in
          let d : count y ≡ g.M * 2 ^ g.j = value→count y (g.M * 2 ^ g.j) g.is in
          rw (R.under, c, d) (at_above R.P R.k R.q g.M g.j R.digits g.small (rw (c, d) at l));
      from_below = λ y o l.
          let g = significand y o in
          let d : count y ≡ g.M * 2 ^ g.j = value→count y (g.M * 2 ^ g.j) g.is in
          rw (R.under, c, d) (at-below R.P R.k R.q g.M g.j R.digits g.small (rw (d, c) at l));
    }
