-- Where all ten lengths are small, the determinants of four rows of lengths are finite. Assumes nothing.
use Prim.Native.Nat.{ℕ, zero, suc, ◌*◌, ◌≤◌, ◌<◌}
use mathlib.Core.Path.{◌≡◌, sym, subst}
use mathlib.Core.Bool.{true, true≢false}
use mathlib.Core.List.{List, [], ◌∷◌}
use native.Mathlib.Nat.{le_trans, le_of_eq, le_of_lt, mul-one, mul-le-mul_right}
use native.Mathlib.Omega.{arith}
use lib.Dec.{T, leb, leb→le, ltb→lt, lit≤}
use lib.ListN.{length, get_or}
use lib.Ieee.{Float, nan, inf, fin, of_bits, up, down, lt, sub}
use Rattle.lists.proofs.Tests.{and-true}
use Rattle.floats.specs.Algebra.{doubles}
use Rattle.floats.specs.Methods.{abs_of}
use Rattle.floats.proofs.Bounds.{Bound, bounds}
use Rattle.floats.proofs.Magnitude.{Mag, neg-mag, add-mag, mul-mag}
use Rattle.floats.proofs.Related.{Closed}
use Rattle.geometry.specs.Determinant.{table, at, skip, minor, sign, det3, expand, det4}
use Rattle.geometry.specs.CayleyMenger.{cm}
use Rattle.geometry.specs.declared.shared.TheConstants.{SMALL}
use Rattle.geometry.specs.Minors.{all_small}
use Rattle.geometry.proofs.Computed.{ten, ten-at, all, all-at}
use Rattle.geometry.proofs.Related.{first-related}

-- ---- small lengths are finite

-- a double below the limit in size is at most 2 ^ 250
small-mag : (x : Float) → lt (abs_of x) SMALL ≡ true → Mag x 250
unfolding lt abs_of of_bits
small-mag nan h = absurd (true≢false (sym h))
small-mag (inf s) h = absurd (true≢false (sym h))
small-mag (fin s m e) h = le_trans (le_of_eq (sym (mul-one (m * up e)))) (le_trans (le_of_lt (ltb→lt _ _ (subst T (sym h) tt))) (mul-le-mul_right (down e) (lit≤ tt)))

-- so is each of small ones
small-at : (xs : List Float) → all_small xs ≡ true → (k : ℕ) → k < length xs → Mag (get_or xs k nan) 250
unfolding all_small
small-at [] h k l = absurd (omega arith)
small-at (x ∷ xs) h zero l = small-mag x (and-true _ _ h).0
small-at (x ∷ xs) h (suc k) l = small-at xs (and-true _ _ h).1 k (omega arith)

-- ---- sums and products of finite doubles

-- as long as 2 ^ k does not overflow, x is finite and at most 2 ^ k in size; of y nothing is asked
record Stays (x y : Float) (β : Bound) : Type 0 where
  mag : β.k ≤ 1023 → Mag x β.k

add-stays : {x x' y y' : Float} {β β' : Bound} → Stays x y β → Stays x' y' β' → Stays (doubles.add x x') (doubles.add y y') (bounds.add β β')
add-stays {x} {x'} {y} {y'} {β} {β'} p q = record { mag = λ h. add-mag x x' β.k β'.k h (p.mag (omega arith)) (q.mag (omega arith)) }

sub-stays : {x x' y y' : Float} {β β' : Bound} → Stays x y β → Stays x' y' β' → Stays (doubles.sub x x') (doubles.sub y y') (bounds.sub β β')
unfolding sub
sub-stays {x} {x'} {y} {y'} {β} {β'} p q = record { mag = λ h. add-mag x _ β.k β'.k h (p.mag (omega arith)) (neg-mag x' β'.k (q.mag (omega arith))) }

mul-stays : {x x' y y' : Float} {β β' : Bound} → Stays x y β → Stays x' y' β' → Stays (doubles.mul x x') (doubles.mul y y') (bounds.mul β β')
mul-stays {x} {x'} {y} {y'} {β} {β'} p q = record { mag = λ h. mul-mag x x' β.k β'.k h (p.mag (omega arith)) (q.mag (omega arith)) }

zero-stays : Stays doubles.zero doubles.zero bounds.zero
unfolding of_bits
zero-stays = record { mag = λ _. lit≤ tt }

one-stays : Stays doubles.one doubles.one bounds.one
unfolding of_bits
one-stays = record { mag = λ _. lit≤ tt }

minus-one-stays : Stays doubles.minus_one doubles.minus_one bounds.minus_one
minus-one-stays = record { mag = λ h. neg-mag doubles.one 0 (one-stays.mag h) }

out-stays : Stays doubles.out doubles.out bounds.out
out-stays = record { mag = λ h. absurd (omega arith) }

stays : Closed Float Float Bound doubles doubles bounds Stays
stays = record { out = out-stays; zero = zero-stays; one = one-stays; minus_one = minus-one-stays; add = add-stays; sub = sub-stays; mul = mul-stays }

-- ---- the bound of the determinants, computed

-- a length of size at most 2 ^ 250
abbrev length_bound : Bound
length_bound = record { b = 0; k = 250 }

-- that of the determinant which the 0 of the border's row multiplies, in a cofactor
abbrev bound : ℕ → ℕ → Bound
bound row col = det4 bounds (minor bounds 4 (minor bounds 5 (cm bounds (ten length_bound)) row col) 0 0)

-- all are finite
all_finite : T (all (λ i. all (λ j. leb (bound i j).k 1023) 6) 6)
unfolding all ten table at skip minor sign det3 expand det4 cm
all_finite = tt

-- ---- the fact

-- the determinant that the 0 of the border's row multiplies is finite
pub first-finite : (s : List Float) → length s ≡ 10 → all_small s ≡ true → (row col : ℕ) → row < 6 → col < 6 → Mag (det4 doubles (minor doubles 4 (minor doubles 5 (cm doubles s) row col) 0 0)) (bound row col).k
first-finite s long small row col r c =
    let fine : T (leb (bound row col).k 1023) = all-at (λ b. leb (bound row b).k 1023) 6 (all-at (λ a. all (λ b. leb (bound a b).k 1023) 6) 6 all_finite row r) col c in
    (first-related Float Float Bound doubles doubles bounds Stays stays s s (ten length_bound) length-stays row col).mag (leb→le (bound row col).k 1023 fine)
  where
    length-stays : (k : ℕ) → k < 10 → Stays (get_or s k nan) (get_or s k nan) (get_or (ten length_bound) k bounds.out)
    length-stays k l = rw (ten-at length_bound k l) (record { mag = λ _. small-at s small k (omega arith) })
