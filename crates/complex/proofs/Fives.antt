-- Pentachorons taken from a flat list one after the other. Assumes nothing.
use Prim.Native.Nat.{ℕ, suc, ◌+◌, ◌*◌, ◌/◌, ◌<◌, ◌≤◌}
use mathlib.Core.Path.{◌≡◌, refl, sym, ap, ◌∙◌}
use mathlib.Core.List.{List, [], ◌∷◌, ◌++◌}
use native.Mathlib.Omega.{arith}
use lib.ListN.{length, take, drop, length-append, length-drop}
use lib.Seq.{take_at, drop_at, drop-drop}
use Rattle.lists.specs.Rows.{rows}
use Rattle.complex.specs.Builder.{pentachorons}

-- five numbers at the front of a list are its first pentachoron
pub fives_cons : (xs p rest : List ℕ) → xs ≡ p ++ rest → length p ≡ 5 → pentachorons xs ≡ p ∷ pentachorons rest
unfolding rows
fives_cons xs p rest e five =
    let n : length xs / 5 ≡ suc (length rest / 5) = omega (arith, ap length e, length-append p rest) in
    rw n (rw e (rw (take_at p rest 5 five, drop_at p rest 5 five) refl))

-- fewer than five numbers have none
pub fives_nil : (xs : List ℕ) → length xs < 5 → pentachorons xs ≡ []
unfolding rows
fives_nil xs few = let n : length xs / 5 ≡ 0 = omega arith in rw n refl

-- ---- a walk by fives

-- a walk of xs by parts of `size` is at pentachoron k: that and those that follow are left
pub record AtFive (xs left : List ℕ) (size k : ℕ) : Type 0 where
  pub fives : size ≡ 5
  pub within : 5 * k ≤ length xs
  pub rest : left ≡ drop (5 * k) xs

-- the walk begins
pub five-first : {xs left : List ℕ} {size k : ℕ} → left ≡ xs → size ≡ 5 → k ≡ 0 → AtFive xs left size k
five-first {xs = xs} e s z = record { fives = s; within = omega arith; rest = e ∙ ap (λ (m : ℕ). drop (5 * m) xs) (sym z) }

-- the part that is taken there
pub five-taken : {xs left p left' : List ℕ} {size k : ℕ} → AtFive xs left size k → left ≡ p ++ left' → length p ≡ size
    → (p ≡ take 5 (drop (5 * k) xs)) × (left' ≡ drop (5 * (k + 1)) xs) × (5 * k + 5 ≤ length xs)
five-taken {xs = xs} {left = left} {p = p} {left' = left'} {k = k} at e n =
    let five : length p ≡ 5 = n ∙ at.fives in
    let z : 5 * k + 5 ≡ 5 * (k + 1) = omega arith in
    let whole : drop (5 * k) xs ≡ p ++ left' = sym at.rest ∙ e in (
      sym (ap (take 5) whole ∙ take_at p left' 5 five),
      sym (ap (λ (m : ℕ). drop m xs) (sym z) ∙ sym (drop-drop 5 (5 * k) xs) ∙ ap (drop 5) whole ∙ drop_at p left' 5 five),
      omega (arith, five, at.within, length-drop (5 * k) xs, ap length whole, length-append p left'),
    )

-- the walk goes on
pub five-next : {xs left left' : List ℕ} {size size' k k' : ℕ} (p : List ℕ) → AtFive xs left size k → left ≡ p ++ left' → length p ≡ size → size' ≡ size → k' ≡ k + 1
    → AtFive xs left' size' k'
five-next {xs = xs} p at e n s z =
    let t = five-taken at e n in
    record { fives = s ∙ at.fives; within = omega (arith, t.2, z); rest = t.1 ∙ ap (λ (m : ℕ). drop (5 * m) xs) (sym z) }

-- and ends after the last pentachoron
pub five-last : {xs left : List ℕ} {size k : ℕ} → AtFive xs left size k → length left < size → k ≡ length xs / 5
five-last {xs = xs} {k = k} at few = omega (arith, at.fives, at.within, ap length at.rest, length-drop (5 * k) xs)
