-- Exactness as a relation that the operations keep: a double, an integer, and bounds on both. Assumes nothing.
use Prim.Native.Nat.{ℕ, suc, ◌+◌, ◌*◌, ◌^◌, ◌≤◌, ◌<◌, max}
use mathlib.Core.Path.{refl}
use mathlib.Core.Bool.{true, false}
use native.Mathlib.Nat.{le_refl}
use native.Mathlib.Omega.{arith}
use lib.Dec.{lit≤}
use lib.IntN.{ℤ, neg_ℤ, nat_abs}
use lib.Ieee.{Float, of_bits, neg, sub}
use Rattle.floats.specs.Whole.{IsInt}
use Rattle.floats.specs.Algebra.{Algebra, doubles, integers}
use Rattle.floats.proofs.Magnitude.{Mag, neg-mag, add-mag, mul-mag}
use Rattle.floats.proofs.Exact.{Exactly, neg-exactly, add-exactly, mul-exactly}
use Rattle.floats.proofs.Integers.{int→exactly, exactly→int, int→mag}
use Rattle.floats.proofs.Related.{Closed}

-- b bounds the integer's size, and 2 ^ k the double's
pub record Bound : Type 0 where
  pub b : ℕ
  pub k : ℕ

-- what the operations make of the bounds; b = 0 says that the value is 0, and past a list's end stands a bound that says nothing
abbrev pub bounds : Algebra Bound
bounds = record {
  out = record { b = 0; k = 1024 };
  zero = record { b = 0; k = 0 };
  one = record { b = 1; k = 0 };
  minus_one = record { b = 1; k = 0 };
  add = λ x y. record { b = x.b + y.b; k = suc (max x.k y.k) };
  sub = λ x y. record { b = x.b + y.b; k = suc (max x.k y.k) };
  mul = λ x y. record { b = x.b * y.b; k = x.k + y.k };
}

-- as long as 2 ^ k does not overflow, x is finite and at most 2 ^ k in size; where b is below 2 ^ 53 too, x is exactly z, which is at most b in size
abbrev pub Follows : Float → ℤ → Bound → Type 0
Follows x z β = β.k ≤ 1023 → Mag x β.k × (β.b < 2 ^ 53 → Exactly x z β.b)

add-follows : {x x' : Float} {z z' : ℤ} {β β' : Bound} → Follows x z β → Follows x' z' β' → Follows (doubles.add x x') (integers.add z z') (bounds.add β β')
add-follows {x} {x'} {z} {z'} {β} {β'} p q h =
    let P = p (omega arith) in
    let Q = q (omega arith) in
    (add-mag x x' β.k β'.k h P.0 Q.0, λ s. add-exactly x x' z z' β.b β'.b s (P.1 (omega arith)) (Q.1 (omega arith)))

neg-follows : {x : Float} {z : ℤ} {β : Bound} → Follows x z β → Follows (neg x) (neg_ℤ z) β
neg-follows {x} {z} {β} p h = let P = p h in (neg-mag x β.k P.0, λ s. neg-exactly x z β.b (P.1 s))

sub-follows : {x x' : Float} {z z' : ℤ} {β β' : Bound} → Follows x z β → Follows x' z' β' → Follows (doubles.sub x x') (integers.sub z z') (bounds.sub β β')
unfolding sub
sub-follows {x} {x'} {z} {z'} {β} {β'} p q = add-follows p (neg-follows q)

mul-follows : {x x' : Float} {z z' : ℤ} {β β' : Bound} → Follows x z β → Follows x' z' β' → Follows (doubles.mul x x') (integers.mul z z') (bounds.mul β β')
mul-follows {x} {x'} {z} {z'} {β} {β'} p q h =
    let P = p (omega arith) in
    let Q = q (omega arith) in
    (mul-mag x x' β.k β'.k h P.0 Q.0, λ s. mul-exactly x x' z z' β.b β'.b β.k β'.k s P.0 Q.0 P.1 Q.1)

zero-follows : Follows doubles.zero integers.zero bounds.zero
unfolding of_bits
zero-follows h = (lit≤ tt, λ s. record { s = false; a = 0; val = (refl, refl); is = refl; le = le_refl 0 })

one_follows : Follows doubles.one integers.one bounds.one
unfolding of_bits
one_follows h = (lit≤ tt, λ s. record { s = false; a = 1; val = (refl, refl); is = refl; le = le_refl 1 })

minus-one-follows : Follows doubles.minus_one integers.minus_one bounds.minus_one
unfolding of_bits neg
minus-one-follows h = (lit≤ tt, λ s. record { s = true; a = 1; val = (refl, refl); is = refl; le = le_refl 1 })

out-follows : Follows doubles.out integers.out bounds.out
out-follows h = absurd (omega arith)

pub closed : Closed Float ℤ Bound doubles integers bounds Follows
closed = record {
  out = out-follows;
  zero = zero-follows;
  one = one_follows;
  minus_one = minus-one-follows;
  add = add-follows;
  sub = sub-follows;
  mul = mul-follows;
}

-- ---- from an integer, and back to one

pub int-follows : (k : ℕ) (x : Float) (z : ℤ) → IsInt x z → nat_abs z ≤ 2 ^ k → Follows x z (record { b = 2 ^ k; k = k })
int-follows k x z h l = λ _. (int→mag x z k h l, λ _. int→exactly x z (2 ^ k) h l)

pub follows-int : (x : Float) (z : ℤ) (β : Bound) → Follows x z β → β.k ≤ 1023 → β.b < 2 ^ 53 → IsInt x z
follows-int x z β f h l = exactly→int x z β.b ((f h).1 l)
