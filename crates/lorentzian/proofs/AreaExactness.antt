-- Where three squared lengths are whole and at most 16,777,216 in size, the squared area is exact. Assumes nothing.
use Prim.Native.Nat.{ℕ, ◌*◌, ◌^◌, ◌≤◌, ◌<◌}
use mathlib.Core.Path.{◌≡◌, refl, sym, ap, ◌∙◌, subst}
use mathlib.Core.Bool.{Bool, false}
use native.Mathlib.Nat.{le_refl, lt_of_lt_of_le, lt_of_le_of_lt, mul_assoc, mul_right_comm, mul-pos, mul-lt-mul_of_pos_right}
use lib.Dec.{lit<, lit≤}
use lib.Pow.{pow_pos}
use lib.IntN.{ℤ, pos, nat_abs}
use lib.Ieee.{Float, nan, inf, fin, binary64, up, down, unlike, round, div, of_bits}
use lib.Ieee.Fits.{down_pos}
use lib.Ieee.Exact.{HasValue, round_exact}
use Rattle.floats.specs.Ops.{◌⊘◌, dbl, two}
use Rattle.floats.specs.Whole.{IsInt, IsRatio}
use Rattle.floats.specs.Algebra.{Algebra, doubles, integers}
use Rattle.floats.proofs.Signs.{unlike_false}
use Rattle.floats.proofs.Values.{rescale}
use Rattle.floats.proofs.Exact.{Exactly}
use Rattle.floats.proofs.Integers.{value→ratio}
use Rattle.floats.proofs.Related.{Closed, Triple}
use Rattle.floats.proofs.Bounds.{Bound, bounds, Follows, closed, int-follows}
use Rattle.lorentzian.specs.Triangle.{area16, area_sq, limit}

-- ---- a relation that the operations keep holds of `area16`

module _ (A B C : Type 0) (o : Algebra A) (p : Algebra B) (q : Algebra C) (R : A → B → C → Type 0) (κ : Closed A B C o p q R) where
  area_related : (t a b c : Triple A B C R) → R (area16 o t.x a.x b.x c.x) (area16 p t.y a.y b.y c.y) (area16 q t.w a.w b.w c.w)
  unfolding area16
  area_related t a b c =
      let T = t.related in
      let A = a.related in
      let B = b.related in
      let C = c.related in
      κ.sub
      (κ.sub
      (κ.sub
      (κ.add
      (κ.add (κ.mul (κ.mul T A) B) (κ.mul (κ.mul T B) C))
      (κ.mul (κ.mul T C) A))
      (κ.mul A A))
      (κ.mul B B))
      (κ.mul C C)

-- ---- an exact sixteenth

sixteenth : (x : Float) (s : Bool) (a : ℕ) → a < 2 ^ 53 → HasValue x s a 1 → HasValue (div binary64 x (fin false 1 (pos 4))) s a 16
unfolding div
sixteenth nan s a l h = h
sixteenth (inf t) s a l h = absurd h
sixteenth (fin t m e) s a l h =
    let d = down e in
    let eq : m * up e * 1 * 2 ^ 1074 ≡ a * 2 ^ 1070 * (16 * d) =
    ap (λ (x : ℕ). x * 2 ^ 1074) h.1
    ∙ mul_right_comm a d (2 ^ 1074)
    ∙ ap (λ (x : ℕ). x * d) (sym (mul_assoc a (2 ^ 1070) 16))
    ∙ mul_assoc (a * 2 ^ 1070) 16 d in
    let big : a * 2 ^ 1070 < 2 ^ 2098 = lt_of_lt_of_le (mul-lt-mul_of_pos_right l (pow_pos 1070)) (lit≤ tt) in
    rescale (round binary64 (unlike t false) (m * up e * 1) (16 * d)) s (m * up e * 1) (16 * d) a 16 d (down_pos e) h.1 refl
    (subst (λ (u : Bool). HasValue (round binary64 (unlike t false) (m * up e * 1) (16 * d)) u (m * up e * 1) (16 * d)) (unlike_false t ∙ h.0)
    (round_exact binary64 (unlike t false) (m * up e * 1) (16 * d) a 1070 (mul-pos (lit< tt) (down_pos e)) l big eq))

sixteenth-exact : (x : Float) (z : ℤ) (b : ℕ) → b < 2 ^ 53 → Exactly x z b → IsRatio (x ⊘ dbl 0x4030_0000_0000_0000) z 16
unfolding of_bits
sixteenth-exact x z b l h =
    let y = div binary64 x (fin false 1 (pos 4)) in
    subst (λ (w : ℤ). IsRatio y w 16) h.is (value→ratio y h.s h.a 16 (sixteenth x h.s h.a (lt_of_le_of_lt h.le l) h.val))

-- ---- the theorem

two-follows : Follows two (pos 2) (record { b = 2; k = 1 })
unfolding of_bits
two-follows h = (lit≤ tt, λ s. record { s = false; a = 2; val = (refl, refl); is = refl; le = le_refl 2 })

-- a length of size at most 2 ^ 24
side : (x : Float) (z : ℤ) → IsInt x z → nat_abs z ≤ limit → Triple Float ℤ Bound Follows
side x z h l = record { x = x; y = z; w = record { b = 2 ^ 24; k = 24 }; related = int-follows 24 x z h l }

module _ (s01 s02 s12 : Float) (z01 z02 z12 : ℤ) (p : IsInt s01 z01) (P : nat_abs z01 ≤ limit) (q : IsInt s02 z02) (Q : nat_abs z02 ≤ limit) (r : IsInt s12 z12) (R : nat_abs z12 ≤ limit) where
  -- the squared area is a sixteenth of the integers' `area16`
  pub area-exact : IsRatio (area_sq s01 s02 s12) (area16 integers (pos 2) z01 z02 z12) 16
  unfolding area_sq area16 side
  area-exact =
      sixteenth-exact (area16 doubles two s01 s02 s12) (area16 integers (pos 2) z01 z02 z12) (9 * 2 ^ 48) (lit< tt)
      ((area_related Float ℤ Bound doubles integers bounds Follows closed
      (record { x = two; y = pos 2; w = record { b = 2; k = 1 }; related = two-follows })
      (side s01 z01 p P) (side s02 z02 q Q) (side s12 z12 r R)
      (lit≤ tt)).1 (lit< tt))
