-- Where all ten squared lengths are whole and at most 32,768 in size, each cofactor of the rows and columns 1 to 5 is exactly the integers' cofactor. Assumes nothing.
use Prim.Native.Nat.{ℕ, zero, suc, ◌+◌, ◌-◌, ◌^◌, ◌≤◌, ◌<◌}
use mathlib.Core.Path.{◌≡◌, refl, subst₂}
use mathlib.Core.Bool.{Bool, ◌&&◌}
use mathlib.Core.List.{List, [], ◌∷◌, map}
use native.Mathlib.Nat.{le_trans}
use native.Mathlib.Omega.{arith}
use lib.Dec.{T, leb, ltb, leb→le, ltb→lt}
use lib.ListN.{length, get_or}
use lib.IntN.{ℤ, pos, nat_abs}
use lib.Ieee.{Float, nan, binary64, of_int}
use lib.Ieee.Fits.{and_l, and_r}
use Rattle.floats.specs.Algebra.{doubles, integers}
use Rattle.floats.specs.Whole.{IsInt}
use Rattle.floats.proofs.Integers.{of_int-int}
use Rattle.floats.proofs.Bounds.{Bound, bounds, Follows, closed, int-follows, follows-int}
use Rattle.geometry.specs.Determinant.{table, at, skip, minor, sign, det3, expand, det4, det5, cofactor}
use Rattle.geometry.specs.CayleyMenger.{cm, cofactors, WholeWithin, limit}
use Rattle.geometry.proofs.Computed.{ten, ten-at, all, all-at}
use Rattle.geometry.proofs.Related.{cm-cofactor_related}

-- ---- the bounds of the cofactors, computed

-- a length of size at most 2 ^ 15
abbrev length_bound : Bound
length_bound = record { b = 2 ^ 15; k = 15 }

-- the bound of a cofactor
abbrev bound : ℕ → ℕ → Bound
bound row col = cofactor bounds (cm bounds (ten length_bound)) row col

-- such a bound makes it exact
fine : Bound → Bool
fine β = leb β.k 1023 && ltb β.b (2 ^ 53)

all_fine : T (all (λ i. all (λ j. fine (bound (i + 1) (j + 1))) 5) 5)
unfolding all fine ten table at skip minor sign det3 expand det4 det5 cofactor cm
all_fine = tt

-- ---- the theorem

-- doubles with the values of integers, one by one
data Ints : List Float → List ℤ → Type 0 where
  none : Ints [] []
  more : {x : Float} {z : ℤ} {xs : List Float} {zs : List ℤ} → IsInt x z → Ints xs zs → Ints (x ∷ xs) (z ∷ zs)

ints_at : {xs : List Float} {zs : List ℤ} → Ints xs zs → (k : ℕ) → k < length xs → IsInt (get_or xs k nan) (get_or zs k (pos 0))
ints_at none k l = absurd (omega arith)
ints_at (more h t) zero l = h
ints_at (more h t) (suc k) l = ints_at t k (omega arith)

module _ (x : List Float) (z : List ℤ) (h : WholeWithin 10 limit x z) where
  length-follows : (k : ℕ) → k < 10 → Follows (get_or x k nan) (get_or z k (pos 0)) (get_or (ten length_bound) k bounds.out)
  length-follows k l = rw (ten-at length_bound k l) (int-follows 15 (get_or x k nan) (get_or z k (pos 0)) (h k l).0 (h k l).1)

  exact-at : (i j : ℕ) → i < 5 → j < 5 → IsInt (cofactor doubles (cm doubles x) (i + 1) (j + 1)) (cofactor integers (cm integers z) (i + 1) (j + 1))
  exact-at i j hi hj =
      let β = bound (i + 1) (j + 1) in
      let ok : T (fine β) = all-at (λ b. fine (bound (i + 1) (b + 1))) 5 (all-at (λ a. all (λ b. fine (bound (a + 1) (b + 1))) 5) 5 all_fine i hi) j hj in
      follows-int (cofactor doubles (cm doubles x) (i + 1) (j + 1)) (cofactor integers (cm integers z) (i + 1) (j + 1)) β
      (cm-cofactor_related Float ℤ Bound doubles integers bounds Follows closed x z (ten length_bound) length-follows (i + 1) (j + 1))
      (leb→le β.k 1023 (unfold fine in and_l (leb β.k 1023) (ltb β.b (2 ^ 53)) ok))
      (ltb→lt β.b (2 ^ 53) (unfold fine in and_r (leb β.k 1023) (ltb β.b (2 ^ 53)) ok))

  pub cofactor-exact : (row col : ℕ) → 1 ≤ row → row ≤ 5 → 1 ≤ col → col ≤ 5 → IsInt (cofactor doubles (cm doubles x) row col) (cofactor integers (cm integers z) row col)
  cofactor-exact row col r1 r5 c1 c5 =
      subst₂ (λ (i j : ℕ). IsInt (cofactor doubles (cm doubles x) i j) (cofactor integers (cm integers z) i j)) (up_one row r1) (up_one col c1)
      (exact-at (row - 1) (col - 1) (omega arith) (omega arith))
    where
      up_one : (n : ℕ) → 1 ≤ n → n - 1 + 1 ≡ n
      up_one n h = omega arith

  fifteen : Ints (cofactors doubles x) (cofactors integers z)
  unfolding cofactors
  fifteen =
      let C : (i j : ℕ) → T (ltb i 5 && ltb j 5) → IsInt (cofactor doubles (cm doubles x) (i + 1) (j + 1)) (cofactor integers (cm integers z) (i + 1) (j + 1)) =
      λ i j h. exact-at i j (ltb→lt i 5 (and_l (ltb i 5) (ltb j 5) h)) (ltb→lt j 5 (and_r (ltb i 5) (ltb j 5) h)) in
      more (C 0 0 tt) (more (C 0 1 tt) (more (C 0 2 tt) (more (C 0 3 tt) (more (C 0 4 tt)
      (more (C 1 1 tt) (more (C 1 2 tt) (more (C 1 3 tt) (more (C 1 4 tt)
      (more (C 2 2 tt) (more (C 2 3 tt) (more (C 2 4 tt)
      (more (C 3 3 tt) (more (C 3 4 tt)
      (more (C 4 4 tt) none))))))))))))))

  -- each of the 15
  pub cofactors-exact : (k : ℕ) → k < 15 → IsInt (get_or (cofactors doubles x) k nan) (get_or (cofactors integers z) k (pos 0))
  cofactors-exact k l = ints_at fifteen k (unfold cofactors in l)

-- ---- the doubles of any integers in range are such lengths

get_or-map : {A B : Type 0} (f : A → B) (a : A) (b : B) (xs : List A) (k : ℕ) → k < length xs → get_or (map f xs) k b ≡ f (get_or xs k a)
get_or-map f a b [] k l = absurd (omega arith)
get_or-map f a b (x ∷ xs) zero l = refl
get_or-map f a b (x ∷ xs) (suc k) l = get_or-map f a b xs k (omega arith)

pub whole-of_int : (n b : ℕ) (z : List ℤ) → n ≤ length z → b ≤ 2 ^ 53 → ((k : ℕ) → k < n → nat_abs (get_or z k (pos 0)) ≤ b) → WholeWithin n b (map (of_int binary64) z) z
whole-of_int n b z long small h k l = (
  rw (get_or-map (of_int binary64) (pos 0) nan z k (omega arith)) (of_int-int (get_or z k (pos 0)) (le_trans (h k l) small)),
  h k l,
)
