-- A length has one sign, and the counts grow by it. Assumes nothing.
use Prim.Native.Nat.{ℕ, ◌+◌, ◌*◌, ◌≤◌, ◌<◌}
use mathlib.Core.Bool.{Bool, true, false, cond}
use mathlib.Core.List.{List, [], ◌∷◌, ◌++◌}
use mathlib.Core.Path.{◌≡◌, refl}
use native.Mathlib.Numerals.{add-one}
use native.Mathlib.Omega.{arith}
use lib.Ieee.{Float, nan, inf, fin, lt, eq, up, down, of_bits}
use lib.IntN.{pos}
use lib.ListN.{length, get_or, take}
use lib.Seq.{take-suc, length-take-le}
use borrow.Author.Tests.{ltb-true, ne_eqb}
use Rattle.lists.specs.Lists.{keep}
use Rattle.length_signs.specs.LengthSigns.{is_timelike, is_null, is_spacelike, signs_of}
use Rattle.length_signs.specs.Parts.{count_if, with_length}

below-zero : (x : Float) → lt x (fin false 0 (pos 0)) ≡ true → eq x (fin false 0 (pos 0)) ≡ false
unfolding lt eq
below-zero nan h = refl
below-zero (inf s) h = refl
below-zero (fin false m e) h = absurd (let k : m * up e * down (pos 0) < 0 * down e = ltb-true (m * up e * down (pos 0)) (0 * down e) h in omega arith)
below-zero (fin true m e) h =
    let k : 0 < m * up e * down (pos 0) + 0 * down e = ltb-true 0 (m * up e * down (pos 0) + 0 * down e) h in
    rw (ne_eqb (m * up e * down (pos 0)) (0 * down e) (λ z. omega arith)) refl

-- a length below zero is no zero
pub timelike-not_null : (x : Float) → is_timelike x ≡ true → is_null x ≡ false
unfolding of_bits
timelike-not_null x h = below-zero x h

-- ---- the counts

kept_next : (q : Float → Bool) (xs : List Float) (x : Float) → length (keep q (xs ++ x ∷ [])) ≡ count_if (q x) (length (keep q xs))
unfolding keep
kept_next q [] x = go (q x)
  where
    go : (b : Bool) → length {A = Float} (cond b (x ∷ []) []) ≡ count_if b 0
    go true = refl
    go false = refl
kept_next q (y ∷ xs) x = go (q y) (q x) (kept_next q xs x)
  where
    go : (b e : Bool) → length (keep q (xs ++ x ∷ [])) ≡ count_if e (length (keep q xs))
        → length (cond b (y ∷ keep q (xs ++ x ∷ [])) (keep q (xs ++ x ∷ []))) ≡ count_if e (length (cond b (y ∷ keep q xs) (keep q xs)))
    go true true r = omega arith
    go true false r = omega arith
    go false e r = r

kept-most : (q : Float → Bool) (xs : List Float) → length (keep q xs) ≤ length xs
unfolding keep
kept-most q [] = omega arith
kept-most q (x ∷ xs) = go (q x) (kept-most q xs)
  where
    go : (b : Bool) → length (keep q xs) ≤ length xs → length (cond b (x ∷ keep q xs) (keep q xs)) ≤ length (x ∷ xs)
    go true r = omega arith
    go false r = omega arith

-- the counts of one length more
pub signs-next : (ls : List Float) (k : ℕ) → k < length ls → signs_of (take (k + 1) ls) ≡ with_length (signs_of (take k ls)) (get_or ls k nan)
unfolding signs_of with_length
signs-next ls k h =
    rw (add-one k, take-suc ls k nan h, kept_next is_timelike (take k ls) (get_or ls k nan), kept_next is_null (take k ls) (get_or ls k nan), kept_next is_spacelike (take k ls) (get_or ls k nan)) refl

-- none is larger than the number of lengths
pub signs-most : (ls : List Float) (k : ℕ) → k ≤ length ls → ((signs_of (take k ls)).timelike ≤ k) × ((signs_of (take k ls)).null ≤ k) × ((signs_of (take k ls)).spacelike ≤ k)
unfolding signs_of
signs-most ls k h =
    let l = length-take-le k ls h in (
      omega (arith, l, kept-most is_timelike (take k ls)),
      omega (arith, l, kept-most is_null (take k ls)),
      omega (arith, l, kept-most is_spacelike (take k ls)),
    )
