-- Sums of doubles that begin with +0: no such sum is -0, so +0 more changes nothing. Assumes nothing.
use Prim.Native.Nat.{ℕ, zero, suc, ◌+◌, ◌-◌, ◌*◌, ◌^◌, ◌≤◌, ◌<◌}
use mathlib.Core.Path.{◌≡◌, refl, sym, ap, ◌∙◌, subst}
use mathlib.Core.Bool.{Bool, true, false, beq, cond}
use mathlib.Core.List.{List, [], ◌∷◌, foldl, Memᴰ}
use native.Mathlib.Nat.{le_trans, le_of_eq, zero-lt-suc, mul-pos, mul_comm, mul_assoc, mul_right_comm, mul-sub, mul-one, one-mul, zero-mul, zero-add, sub-zero, add-mul, mul-le-mul_right}
use native.Mathlib.Omega.{arith}
use lib.Dec.{T, ltb, lit<}
use lib.IntN.{ℤ, pos}
use lib.Pow.{pow_pos}
use lib.Ieee.{Float, nan, inf, fin, binary64, up, down, odd, units, round, neg, sum, add, fits, of_bits}
use lib.Ieee.Bits.{of_bits-fits}
use lib.Ieee.Fits.{up_pos, down_pos, round_is, round-fits, add-fits}
use lib.Ieee.Exact.{HasValue, round_exact}
use lib.Ieee.Order.{round_mono}
use lib.Ieee.Scale.{round_same}
use lib.Ieee.Positive.{above, above_of_le, positive_of_value, first_pos}
use borrow.Author.Tests.{lt-ltb, ltb-true}
use Rattle.floats.specs.Ops as Ops
use Rattle.floats.specs.Ops.{◌⊕◌}
use Rattle.floats.specs.Units.{count, Plain}
use Rattle.floats.proofs.Units.{Significand, significand, value→count, count-exact, same_count}
use Rattle.floats.proofs.Integers.{neg-round}

-- x is not -0
abbrev pub NotMinusZero : Float → Type 0
NotMinusZero nan = Unit {0}
NotMinusZero (inf s) = Unit {0}
NotMinusZero (fin false m e) = Unit {0}
NotMinusZero (fin true zero e) = ⊥
NotMinusZero (fin true (suc m) e) = Unit {0}

-- a choice of two doubles that are not -0
pick : (b : Bool) (x y : Float) → NotMinusZero x → NotMinusZero y → NotMinusZero (cond b x y)
pick true x y p q = p
pick false x y p q = q

-- ---- a double is what its own value rounds to

-- a finite double with its sign cleared is a double
fits-plain : (s : Bool) (m : ℕ) (e : ℤ) → T (fits binary64 (fin s m e)) → Plain (fin false m e)
unfolding fits
fits-plain s zero e p = (refl, p)
fits-plain s (suc m) e p = (refl, p)

-- a double that has a value with the sign clear
plain_of : (x : Float) (n d : ℕ) → HasValue x false n d → T (fits binary64 x) → Plain x
plain_of nan n d v p = absurd v
plain_of (inf s) n d v p = absurd v
plain_of (fin s m e) n d v p = (v.0, p)

-- its size, rounded, where its sign is clear
round-plain : (m : ℕ) (e : ℤ) → Plain (fin false m e) → round binary64 false (m * up e) (down e) ≡ fin false m e
round-plain m e p =
    let x : Float = fin false m e in
    let g : Significand x = significand x p in
    let n : ℕ = g.M * 2 ^ g.j in
    let r : Float = round binary64 false n (2 ^ 1074) in
    let v : HasValue r false n (2 ^ 1074) = round_exact binary64 false n (2 ^ 1074) g.M g.j (pow_pos 1074) g.small g.limit refl in
    round_same binary64 false (m * up e) (down e) n (2 ^ 1074) (down_pos e) (pow_pos 1074) g.is.1
    ∙ same_count r x (plain_of r n (2 ^ 1074) v (round-fits binary64 false n (2 ^ 1074))) p (value→count r n v ∙ sym (value→count x n g.is))

-- with either sign
pub round-own : (s : Bool) (m : ℕ) (e : ℤ) → T (fits binary64 (fin s m e)) → round binary64 s (m * up e) (down e) ≡ fin s m e
unfolding neg
round-own false m e p = round-plain m e (fits-plain false m e p)
round-own true m e p = sym (neg-round binary64 (m * up e) (down e)) ∙ ap neg (round-plain m e (fits-plain true m e p))

-- ---- +0 and a double

-- +0 as data
zero_is : Ops.zero ≡ fin false 0 (pos 0)
unfolding of_bits
zero_is = refl

-- 0 and ±b / c, by `sum`
zero-sum : (t : Bool) (b c : ℕ) → (T t → 0 < b) → sum binary64 false 0 t b c ≡ round binary64 t b c
unfolding sum
zero-sum false b c h = ap (λ (n : ℕ). round binary64 false n c) (zero-add b)
zero-sum true b c h = rw (lt-ltb 0 b (h tt)) (ap (λ (n : ℕ). round binary64 true n c) (sub-zero b))

-- +0 and a finite double
zero-plus-finite : (t : Bool) (n : ℕ) (d : ℤ) → T (fits binary64 (fin t n d)) → (T t → 0 < n) → fin false 0 (pos 0) ⊕ fin t n d ≡ fin t n d
unfolding add
zero-plus-finite t n d p h =
    ap (λ (a : ℕ). sum binary64 false a t (n * up d * 1) (1 * down d)) (zero-mul (down d))
    ∙ ap (λ (b : ℕ). sum binary64 false 0 t b (1 * down d)) (mul-one (n * up d))
    ∙ ap (λ (c : ℕ). sum binary64 false 0 t (n * up d) c) (one-mul (down d))
    ∙ zero-sum t (n * up d) (down d) (λ k. mul-pos (h k) (up_pos d))
    ∙ round-own t n d p

-- +0 and any double
zero-plus-any : (z : Float) → T (fits binary64 z) → NotMinusZero z → fin false 0 (pos 0) ⊕ z ≡ z
unfolding add
zero-plus-any nan p h = refl
zero-plus-any (inf s) p h = refl
zero-plus-any (fin false n d) p h = zero-plus-finite false n d p (λ k. absurd k)
zero-plus-any (fin true zero d) p h = absurd h
zero-plus-any (fin true (suc n) d) p h = zero-plus-finite true (suc n) d p (λ k. zero-lt-suc n)

-- +0 and a double that is not -0 is that double
pub zero-plus : (z : Float) → T (fits binary64 z) → NotMinusZero z → Ops.zero ⊕ z ≡ z
zero-plus z p h = ap (λ (x : Float). x ⊕ z) zero_is ∙ zero-plus-any z p h

-- ---- fractions that do not round to -0

-- a value written with an odd significand and the sign clear
odd-clear : (d q k l : ℕ) → NotMinusZero (odd d false q k l)
unfolding odd
odd-clear d zero k l = tt
odd-clear d (suc q) k l = tt

-- whole units with the sign clear
units-clear : (q k : ℕ) → NotMinusZero (units binary64 false q k)
unfolding units
units-clear q k = pick (ltb (q * 2 ^ k) (2 ^ 2098)) (odd 54 false q k 1074) (inf false) (odd-clear 54 q k 1074) tt

-- a fraction with the sign clear
round-clear : (num den : ℕ) → NotMinusZero (round binary64 false num den)
round-clear num den = subst NotMinusZero (sym (round_is binary64 false num den)) (units-clear _ _)

-- what is above zero, negated
neg-above : (x : Float) → T (above x) → NotMinusZero (neg x)
unfolding neg
neg-above nan p = tt
neg-above (inf s) p = tt
neg-above (fin true m e) p = tt
neg-above (fin false zero e) p = absurd p
neg-above (fin false (suc m) e) p = tt

-- a fraction of at least one unit of 2 ^ -1074 rounds to what is above zero
unit-above : (num den : ℕ) → 0 < den → den ≤ num * 2 ^ 1074 → T (above (round binary64 false num den))
unit-above num den dp h =
    let lo : Float = round binary64 false 1 (2 ^ 1074) in
    let v : HasValue lo false 1 (2 ^ 1074) = round_exact binary64 false 1 (2 ^ 1074) 1 0 (pow_pos 1074) (lit< tt) (lit< tt) refl in
    above_of_le lo (round binary64 false num den) (positive_of_value lo 1 (2 ^ 1074) v (lit< tt))
    (round_mono binary64 1 (2 ^ 1074) num den (pow_pos 1074) dp (le_trans (le_of_eq (one-mul den)) h))

-- a fraction above zero that is whole units, with either sign
round-units : (s : Bool) (num den k : ℕ) → 0 < den → 0 < num → num * 2 ^ 1074 ≡ k * den → NotMinusZero (round binary64 s num den)
round-units false num den k dp np e = round-clear num den
round-units true num den k dp np e =
    let kp : 0 < k = first_pos k den (subst (λ (n : ℕ). 0 < n) e (mul-pos np (pow_pos 1074))) in
    subst NotMinusZero (neg-round binary64 num den)
    (neg-above (round binary64 false num den)
    (unit-above num den dp (le_trans (le_of_eq (sym (one-mul den))) (le_trans (mul-le-mul_right den kp) (le_of_eq (sym e))))))

-- ---- a sum of two doubles

-- a difference of whole units
difference : (s : Bool) (a b c j k : ℕ) → 0 < c → a * 2 ^ 1074 ≡ j * c → b * 2 ^ 1074 ≡ k * c → a < b → NotMinusZero (round binary64 s (b - a) c)
difference s a b c j k cp ea eb h = round-units s (b - a) c (k - j) cp (apart a b h) (sub-mul b a (2 ^ 1074) ∙ ap (λ (x : ℕ). x - a * 2 ^ 1074) eb ∙ ap (λ (x : ℕ). k * c - x) ea ∙ sym (sub-mul k j c))
  where
    apart : (a b : ℕ) → a < b → 0 < b - a
    apart a b h = omega arith

    sub-mul : (x y z : ℕ) → (x - y) * z ≡ x * z - y * z
    sub-mul x y z = mul_comm (x - y) z ∙ mul-sub z x y ∙ ap (λ (n : ℕ). n - z * y) (mul_comm z x) ∙ ap (λ (n : ℕ). x * z - n) (mul_comm z y)

-- ±a / c and ±b / c of whole units, the first of which is not -0
sum-units : (s : Bool) (a : ℕ) (t : Bool) (b c j k : ℕ) → 0 < c → (T s → 0 < a) → a * 2 ^ 1074 ≡ j * c → b * 2 ^ 1074 ≡ k * c → NotMinusZero (sum binary64 s a t b c)
unfolding sum
sum-units false a false b c j k cp h ea eb = round-clear (a + b) c
sum-units true a true b c j k cp h ea eb =
    round-units true (a + b) c (j + k) cp (more a b (h tt)) (add-mul a b (2 ^ 1074) ∙ ap (λ (x : ℕ). x + b * 2 ^ 1074) ea ∙ ap (λ (x : ℕ). j * c + x) eb ∙ sym (add-mul j k c))
  where
    more : (a b : ℕ) → 0 < a → 0 < a + b
    more a b h = omega arith
sum-units false a true b c j k cp h ea eb = go (ltb a b) (ltb-true a b)
  where
    go : (u : Bool) → (u ≡ true → a < b) → NotMinusZero (cond u (round binary64 true (b - a) c) (round binary64 false (a - b) c))
    go false f = round-clear (a - b) c
    go true f = difference true a b c j k cp ea eb (f refl)
sum-units true a false b c j k cp h ea eb = pick (ltb a b) (round binary64 false (b - a) c) (round binary64 (ltb b a) (a - b) c) (round-clear (b - a) c) (other (ltb b a) (ltb-true b a))
  where
    other : (u : Bool) → (u ≡ true → b < a) → NotMinusZero (round binary64 u (a - b) c)
    other false f = round-clear (a - b) c
    other true f = difference true b a c k j cp eb ea (f refl)

-- a finite double is whole units, over a common denominator
common : (s : Bool) (m : ℕ) (e : ℤ) (d : ℕ) → T (fits binary64 (fin s m e)) → m * up e * d * 2 ^ 1074 ≡ count (fin false m e) * (down e * d)
common s m e d p =
    let n : ℕ = count (fin false m e) in
    mul_right_comm (m * up e) d (2 ^ 1074) ∙ ap (λ (x : ℕ). x * d) (count-exact (fin false m e) (fits-plain s m e p)).1 ∙ mul_assoc n (down e) d

-- two finite doubles
fin-plus-fin : (s : Bool) (m : ℕ) (e : ℤ) (t : Bool) (n : ℕ) (d : ℤ) → T (fits binary64 (fin s m e)) → T (fits binary64 (fin t n d)) → (T s → 0 < m) → NotMinusZero (fin s m e ⊕ fin t n d)
unfolding add
fin-plus-fin s m e t n d p q h =
    sum-units s (m * up e * down d) t (n * up d * down e) (down e * down d) (count (fin false m e)) (count (fin false n d)) (mul-pos (down_pos e) (down_pos d))
    (λ k. mul-pos (mul-pos (h k) (up_pos e)) (down_pos d))
    (common s m e (down d) p)
    (common t n d (down e) q ∙ ap (λ (x : ℕ). count (fin false n d) * x) (mul_comm (down d) (down e)))

-- a sum is not -0 where its first number is not
pub sum-never-minus-zero : (acc x : Float) → NotMinusZero acc → T (fits binary64 acc) → T (fits binary64 x) → NotMinusZero (acc ⊕ x)
unfolding add
sum-never-minus-zero nan x h p q = tt
sum-never-minus-zero (inf s) nan h p q = tt
sum-never-minus-zero (inf s) (inf t) h p q = pick (beq s t) (inf s) nan tt tt
sum-never-minus-zero (inf s) (fin t n d) h p q = tt
sum-never-minus-zero (fin s m e) nan h p q = tt
sum-never-minus-zero (fin s m e) (inf t) h p q = tt
sum-never-minus-zero (fin false m e) (fin t n d) h p q = fin-plus-fin false m e t n d p q (λ k. absurd k)
sum-never-minus-zero (fin true zero e) (fin t n d) h p q = absurd h
sum-never-minus-zero (fin true (suc m) e) (fin t n d) h p q = fin-plus-fin true (suc m) e t n d p q (λ k. zero-lt-suc m)

-- ---- a list of doubles

-- a sum from a double on that is not -0 is not -0
folded : (xs : List Float) (acc : Float) → ((x : Float) → Memᴰ x xs → T (fits binary64 x)) → T (fits binary64 acc) → NotMinusZero acc
    → T (fits binary64 (foldl ◌⊕◌ acc xs)) × NotMinusZero (foldl ◌⊕◌ acc xs)
folded [] acc h p n = (p, n)
folded (x ∷ xs) acc h p n =
    folded xs (acc ⊕ x) (λ y m. h y (Memᴰ.tail m)) (add-fits binary64 acc x) (sum-never-minus-zero acc x n p (h x (Memᴰ.head refl)))

-- +0 and a sum from +0 on is that sum
pub sum-from-zero : (xs : List Float) → ((x : Float) → Memᴰ x xs → T (fits binary64 x)) → Ops.zero ⊕ foldl ◌⊕◌ Ops.zero xs ≡ foldl ◌⊕◌ Ops.zero xs
sum-from-zero xs h =
    let r = folded xs Ops.zero h (of_bits-fits binary64 0) (subst NotMinusZero (sym zero_is) tt) in
    zero-plus (foldl ◌⊕◌ Ops.zero xs) r.0 r.1
