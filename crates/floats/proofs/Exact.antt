-- Doubles whose value is an integer of bounded size, and their negation, products, sums and differences: exact below 2 ^ 53. Assumes nothing.
use Prim.Native.Nat.{ℕ, ◌+◌, ◌-◌, ◌*◌, ◌^◌, ◌≤◌, ◌<◌, zero-le}
use mathlib.Core.Path.{◌≡◌, sym, ap, ◌∙◌, subst, subst₂, ap₂}
use mathlib.Core.Logic.{◌⊎◌, inl, inr}
use mathlib.Core.Bool.{Bool, true, false, not, cond}
use native.Mathlib.Nat.{le_trans, le_of_eq, le_refl, lt_of_le_of_lt, add-mul, mul-sub, mul-one, mul-zero, mul_comm, mul_assoc, mul-mul-mul_comm, mul-pos, mul-le-mul, mul-le-mul_left, le_of_mul-le-mul_right, lt_of_mul-lt-mul_right, add-le-add, zero-mul, eq-zero-or-pos}
use native.Mathlib.Omega.{arith}
use lib.Dec.{T, ltb, ltb→lt, nltb→le}
use lib.Pow.{pow_pos}
use lib.IntN.{ℤ, pos, neg_ℤ, ◌+ℤ◌, ◌-ℤ◌, ◌*ℤ◌, zero-*ℤ, *ℤ-zero}
use lib.Ieee.{Float, nan, inf, fin, binary64, up, down, unlike, round, neg, sum, add, sub, mul}
use lib.Ieee.Fits.{down_pos}
use lib.Ieee.Exact.{HasValue}
use Rattle.floats.specs.Whole.{signed}
use Rattle.floats.proofs.Values.{round-int}
use Rattle.floats.proofs.Magnitude.{Mag}
use Rattle.floats.proofs.Signs.{signed-not, signed-zero, signed_mul, signed_add, down_to, below-zero, flip}

-- x has the value z, of size at most b
pub record Exactly (x : Float) (z : ℤ) (b : ℕ) : Type 0 where
  pub s : Bool
  pub a : ℕ
  pub val : HasValue x s a 1
  pub is : signed s a ≡ z
  pub le : a ≤ b

-- ---- negation

neg-val : (x : Float) (s : Bool) (a : ℕ) → HasValue x s a 1 → HasValue (neg x) (not s) a 1
unfolding neg
neg-val nan s a h = h
neg-val (inf t) s a h = h
neg-val (fin t m e) s a h = (ap not h.0, h.1)

pub neg-exactly : (x : Float) (z : ℤ) (b : ℕ) → Exactly x z b → Exactly (neg x) (neg_ℤ z) b
neg-exactly x z b h = record {
  s = not h.s;
  a = h.a;
  val = neg-val x h.s h.a h.val;
  is = signed-not h.s h.a ∙ ap neg_ℤ h.is;
  le = h.le;
}

-- ---- products

mul_val : (x y : Float) (s t : Bool) (a b : ℕ) → a * b < 2 ^ 53 → HasValue x s a 1 → HasValue y t b 1 → HasValue (mul binary64 x y) (unlike s t) (a * b) 1
unfolding mul
mul_val nan y s t a b h p q = absurd p
mul_val (inf u) y s t a b h p q = absurd p
mul_val (fin u m e) nan s t a b h p q = absurd q
mul_val (fin u m e) (inf v) s t a b h p q = absurd q
mul_val (fin u m e) (fin v n d) s t a b h p q =
    subst₂ (λ (w : Bool) (c : Bool). HasValue (round binary64 (unlike u v) (m * up e * (n * up d)) (down e * down d)) (unlike w c) (a * b) 1) p.0 q.0
    (round-int (unlike u v) (m * up e * (n * up d)) (down e * down d) (a * b) (mul-pos (down_pos e) (down_pos d))
    (ap (λ (w : ℕ). w * (n * up d)) (sym (mul-one (m * up e)) ∙ p.1)
    ∙ ap (λ (w : ℕ). a * down e * w) (sym (mul-one (n * up d)) ∙ q.1)
    ∙ mul-mul-mul_comm a (down e) b (down d))
    h)

-- zero times a finite double, on either side
round-zero : (s : Bool) (num den : ℕ) → 0 < den → num ≡ 0 → Exactly (round binary64 s num den) (pos 0) 0
round-zero s num den dp h = record {
  s = s;
  a = 0;
  val = round-int s num den 0 dp (h ∙ sym (zero-mul den)) (pow_pos 53);
  is = signed-zero s;
  le = le_refl 0;
}

nothing : (x : ℕ) (e : ℤ) → x * 1 ≡ 0 * down e → x ≡ 0
nothing x e h = sym (mul-one x) ∙ h ∙ zero-mul (down e)

zero-mul-exactly : (x y : Float) (s : Bool) (k : ℕ) → HasValue x s 0 1 → Mag y k → Exactly (mul binary64 x y) (pos 0) 0
unfolding mul
zero-mul-exactly nan y s k p q = absurd p
zero-mul-exactly (inf u) y s k p q = absurd p
zero-mul-exactly (fin u m e) nan s k p q = absurd q
zero-mul-exactly (fin u m e) (inf v) s k p q = absurd q
zero-mul-exactly (fin u m e) (fin v n d) s k p q =
    round-zero (unlike u v) (m * up e * (n * up d)) (down e * down d) (mul-pos (down_pos e) (down_pos d))
    (ap (λ (w : ℕ). w * (n * up d)) (nothing (m * up e) e p.1) ∙ zero-mul (n * up d))

mul-zero-exactly : (x y : Float) (t : Bool) (k : ℕ) → Mag x k → HasValue y t 0 1 → Exactly (mul binary64 x y) (pos 0) 0
unfolding mul
mul-zero-exactly nan y t k p q = absurd p
mul-zero-exactly (inf u) y t k p q = absurd p
mul-zero-exactly (fin u m e) nan t k p q = absurd q
mul-zero-exactly (fin u m e) (inf v) t k p q = absurd q
mul-zero-exactly (fin u m e) (fin v n d) t k p q =
    round-zero (unlike u v) (m * up e * (n * up d)) (down e * down d) (mul-pos (down_pos e) (down_pos d))
    (ap (λ (w : ℕ). m * up e * w) (nothing (n * up d) d q.1) ∙ mul-zero (m * up e))

pub mul-exactly : (x y : Float) (z w : ℤ) (b c k l : ℕ) → b * c < 2 ^ 53 → Mag x k → Mag y l → (b < 2 ^ 53 → Exactly x z b) → (c < 2 ^ 53 → Exactly y w c) → Exactly (mul binary64 x y) (z *ℤ w) (b * c)
mul-exactly x y z w b c k l h mx my p q = go (eq-zero-or-pos b) (eq-zero-or-pos c)
  where
    le-zero : (n : ℕ) → n ≤ 0 → n ≡ 0
    le-zero n e = omega arith

    from_zero : {v : Float} {u : ℤ} → u ≡ pos 0 → Exactly v (pos 0) 0 → Exactly v u (b * c)
    from_zero e r = record { s = r.s; a = r.a; val = r.val; is = r.is ∙ sym e; le = le_trans r.le zero-le }

    first : Exactly x z 0 → Exactly (mul binary64 x y) (z *ℤ w) (b * c)
    first r =
        let e : r.a ≡ 0 = le-zero r.a r.le in
        let ze : z ≡ pos 0 = sym r.is ∙ ap (signed r.s) e ∙ signed-zero r.s in
        from_zero (ap (λ (v : ℤ). v *ℤ w) ze ∙ zero-*ℤ w) (zero-mul-exactly x y r.s l (subst (λ (n : ℕ). HasValue x r.s n 1) e r.val) my)

    second : Exactly y w 0 → Exactly (mul binary64 x y) (z *ℤ w) (b * c)
    second r =
        let e : r.a ≡ 0 = le-zero r.a r.le in
        let we : w ≡ pos 0 = sym r.is ∙ ap (signed r.s) e ∙ signed-zero r.s in
        from_zero (ap (λ (v : ℤ). z *ℤ v) we ∙ *ℤ-zero z) (mul-zero-exactly x y r.s k mx (subst (λ (n : ℕ). HasValue y r.s n 1) e r.val))

    both : Exactly x z b → Exactly y w c → Exactly (mul binary64 x y) (z *ℤ w) (b * c)
    both r t = record {
      s = unlike r.s t.s;
      a = r.a * t.a;
      val = mul_val x y r.s t.s r.a t.a (lt_of_le_of_lt (mul-le-mul r.le t.le) h) r.val t.val;
      is = signed_mul r.s t.s r.a t.a ∙ ap₂ ◌*ℤ◌ r.is t.is;
      le = mul-le-mul r.le t.le;
    }

    -- each factor is below 2 ^ 53 where the other is not 0
    left : 0 < c → b < 2 ^ 53
    left cp = lt_of_le_of_lt (le_trans (le_of_eq (sym (mul-one b))) (mul-le-mul_left b cp)) h

    right : 0 < b → c < 2 ^ 53
    right bp = lt_of_le_of_lt (le_trans (le_of_eq (sym (mul-one c))) (le_trans (mul-le-mul_left c bp) (le_of_eq (mul_comm c b)))) h

    go : (b ≡ 0) ⊎ (0 < b) → (c ≡ 0) ⊎ (0 < c) → Exactly (mul binary64 x y) (z *ℤ w) (b * c)
    go (inl e) r = first (subst (λ (n : ℕ). Exactly x z n) e (p (subst (λ (n : ℕ). n < 2 ^ 53) (sym e) (pow_pos 53))))
    go (inr bp) (inl e) = second (subst (λ (n : ℕ). Exactly y w n) e (q (subst (λ (n : ℕ). n < 2 ^ 53) (sym e) (pow_pos 53))))
    go (inr bp) (inr cp) = both (p (left cp)) (q (right bp))

-- ---- sums, of two sizes a and b over a common denominator c, and differences

sub-mul : (a b c : ℕ) → (a - b) * c ≡ a * c - b * c
sub-mul a b c = mul_comm (a - b) c ∙ mul-sub c a b ∙ ap₂ ◌-◌ (mul_comm c a) (mul_comm c b)

alike : (s : Bool) (a b c : ℕ) → 0 < c → a + b < 2 ^ 53 → Exactly (round binary64 s (a * c + b * c) c) (signed s a +ℤ signed s b) (a + b)
alike s a b c cp h = record {
  s = s;
  a = a + b;
  val = round-int s (a * c + b * c) c (a + b) cp (sym (add-mul a b c)) h;
  is = signed_add s a b;
  le = le_refl (a + b);
}

apart : (s : Bool) (a b c n : ℕ) (z : ℤ) → 0 < c → a ≤ n → n < 2 ^ 53 → signed s (a - b) ≡ z → Exactly (round binary64 s (a * c - b * c) c) z n
apart s a b c n z cp l h e = record {
  s = s;
  a = a - b;
  val = round-int s (a * c - b * c) c (a - b) cp (sym (sub-mul a b c)) (omega arith);
  is = e;
  le = omega arith;
}

sum-val : (s : Bool) (a : ℕ) (t : Bool) (b c : ℕ) → 0 < c → a + b < 2 ^ 53 → Exactly (sum binary64 s (a * c) t (b * c) c) (signed s a +ℤ signed t b) (a + b)
unfolding sum
sum-val false a false b c cp h = alike false a b c cp h
sum-val true a true b c cp h = alike true a b c cp h
sum-val false a true b c cp h =
    go (ltb (a * c) (b * c)) (λ p. lt_of_mul-lt-mul_right c (ltb→lt (a * c) (b * c) p)) (λ p. le_of_mul-le-mul_right (nltb→le (a * c) (b * c) p) cp)
  where
    go : (u : Bool) → (T u → a < b) → (T (not u) → b ≤ a)
        → Exactly (cond u (round binary64 true (b * c - a * c) c) (round binary64 false (a * c - b * c) c)) (pos a +ℤ neg_ℤ (pos b)) (a + b)
    go true p q = apart true b a c (a + b) (pos a +ℤ neg_ℤ (pos b)) cp (omega arith) h (below-zero a b (p tt))
    go false p q = apart false a b c (a + b) (pos a +ℤ neg_ℤ (pos b)) cp (omega arith) h (down_to a b (q tt))
sum-val true a false b c cp h =
    go (ltb (a * c) (b * c)) (ltb (b * c) (a * c))
    (λ p. lt_of_mul-lt-mul_right c (ltb→lt (a * c) (b * c) p))
    (λ p. lt_of_mul-lt-mul_right c (ltb→lt (b * c) (a * c) p))
    (λ p. le_of_mul-le-mul_right (nltb→le (b * c) (a * c) p) cp)
    (λ p. le_of_mul-le-mul_right (nltb→le (a * c) (b * c) p) cp)
  where
    level : (x y : ℕ) → x ≤ y → y ≤ x → x - y ≡ y - x
    level x y p q = omega arith

    go : (u v : Bool) → (T u → a < b) → (T v → b < a) → (T (not v) → a ≤ b) → (T (not u) → b ≤ a)
        → Exactly (cond u (round binary64 false (b * c - a * c) c) (round binary64 v (a * c - b * c) c)) (neg_ℤ (pos a) +ℤ pos b) (a + b)
    go true v p q r w =
        let l : a < b = p tt in
        apart false b a c (a + b) (neg_ℤ (pos a) +ℤ pos b) cp (omega arith) h (flip a b (pos (b - a)) (down_to b a (omega arith)))
    go false true p q r w = apart true a b c (a + b) (neg_ℤ (pos a) +ℤ pos b) cp (omega arith) h (flip a b (neg_ℤ (pos (a - b))) (below-zero b a (q tt)))
    go false false p q r w =
        apart false a b c (a + b) (neg_ℤ (pos a) +ℤ pos b) cp (omega arith) h (flip a b (pos (a - b)) (ap pos (level a b (r tt) (w tt)) ∙ down_to b a (r tt)))

add-val : (x y : Float) (s t : Bool) (a b : ℕ) → a + b < 2 ^ 53 → HasValue x s a 1 → HasValue y t b 1 → Exactly (add binary64 x y) (signed s a +ℤ signed t b) (a + b)
unfolding add
add-val nan y s t a b h p q = absurd p
add-val (inf u) y s t a b h p q = absurd p
add-val (fin u m e) nan s t a b h p q = absurd q
add-val (fin u m e) (inf v) s t a b h p q = absurd q
add-val (fin u m e) (fin v n d) s t a b h p q =
    let c = down e * down d in
    let l : m * up e * down d ≡ a * c = ap (λ (w : ℕ). w * down d) (sym (mul-one (m * up e)) ∙ p.1) ∙ mul_assoc a (down e) (down d) in
    let r : n * up d * down e ≡ b * c = ap (λ (w : ℕ). w * down e) (sym (mul-one (n * up d)) ∙ q.1) ∙ mul_assoc b (down d) (down e) ∙ ap (λ (w : ℕ). b * w) (mul_comm (down d) (down e)) in
    subst₂ (λ (i j : Bool). Exactly (sum binary64 u (m * up e * down d) v (n * up d * down e) c) (signed i a +ℤ signed j b) (a + b)) p.0 q.0
    (subst₂ (λ (i j : ℕ). Exactly (sum binary64 u i v j c) (signed u a +ℤ signed v b) (a + b)) (sym l) (sym r)
    (sum-val u a v b c (mul-pos (down_pos e) (down_pos d)) h))

pub add-exactly : (x y : Float) (z w : ℤ) (b c : ℕ) → b + c < 2 ^ 53 → Exactly x z b → Exactly y w c → Exactly (add binary64 x y) (z +ℤ w) (b + c)
add-exactly x y z w b c h p q =
    let l : p.a + q.a ≤ b + c = add-le-add p.le q.le in
    let r = add-val x y p.s q.s p.a q.a (lt_of_le_of_lt l h) p.val q.val in
    record { s = r.s; a = r.a; val = r.val; is = r.is ∙ ap₂ ◌+ℤ◌ p.is q.is; le = le_trans r.le l }

pub sub-exactly : (x y : Float) (z w : ℤ) (b c : ℕ) → b + c < 2 ^ 53 → Exactly x z b → Exactly y w c → Exactly (sub binary64 x y) (z -ℤ w) (b + c)
unfolding sub
sub-exactly x y z w b c h p q = add-exactly x (neg y) z (neg_ℤ w) b c h p (neg-exactly y w c q)
