-- Laws of what the builder writes: pentachorons are kept and sorted, adjacency lists ascend, and a sorted list is built into the same lists. Assumes nothing.
-- That no face stands twice and each is found at one index is `faces-distinct` and `faces-found`; that a face's list holds exactly the rows in which it lies is `mem-holding` and `holding-mem` (Lying).
use Rattle.refusals.specs.Refusals.{Done}
use Prim.Native.Nat.{ℕ, ◌+◌, ◌/◌, ◌%◌, ◌<◌}
use mathlib.Core.Path.{◌≡◌, refl, ap, ◌∙◌, subst}
use mathlib.Core.Bool.{false}
use mathlib.Core.Logic.{⊎_elim}
use mathlib.Core.List.Memᴰ
use mathlib.Core.List.{List, [], ◌∷◌, map, Memᴰ}
use native.Mathlib.Omega.{arith}
use lib.Dec.{leb}
use lib.ListN.{length, get_or}
use borrow.Author.Tests.{leb-false, lt-leb}
use Rattle.lists.specs.Lists.{upto, within, Rising, Once}
use Rattle.lists.specs.Rows.{flat}
use Rattle.lists.specs.Sorting.{sort, Ascending, times}
use Rattle.lists.proofs.Tests.{fails}
use Rattle.lists.proofs.Elements.{get_or-map, keep-rising, upto-rising, among-says}
use Rattle.lists.proofs.Rows.{length-rows, length-flat}
use Rattle.lists.proofs.Sorting.{sort_ascending, sort-times, sort-mem, sort-once, sort_sorted}
use Rattle.complex.specs.Complex.{holding}
use Rattle.complex.specs.Builder.{pentachorons, sorted_pents, too_large, repeats, offence, check_of, built_of, Lists, rooms_of, lists_after}
use Rattle.complex.proofs.SortedPents.{sorted-wide-all, length-sorted-all, sorted-is, sorted_of, sorted_back}
use Rattle.complex.proofs.Offences.{or-false, offence-done, once-of, passed, check-same}

-- ---- the pentachorons

-- each is the sort of the one at its place; there are as many as were given (`length-sorted-all`), repeated ones too
pub pentachoron-at : (given : List ℕ) (k : ℕ) → k < length given / 5 → get_or (sorted_pents given) k [] ≡ sort (get_or (pentachorons given) k [])
unfolding sorted_pents
pentachoron-at given k h = get_or-map sort (pentachorons given) k [] [] (omega (arith, length-rows 5 (length given / 5) given))

-- it is ascending, and each vertex stands in it as often
pub pentachoron-sorted : (given : List ℕ) (k : ℕ) → k < length given / 5
    → Ascending (get_or (sorted_pents given) k []) × ((v : ℕ) → times v (get_or (sorted_pents given) k []) ≡ times v (get_or (pentachorons given) k []))
pentachoron-sorted given k h =
    let e = pentachoron-at given k h in
    let p = get_or (pentachorons given) k [] in
    rw e (sort_ascending p, λ v. sort-times v p)

-- ---- adjacency lists ascend

pub holding-rising : (rs : List (List ℕ)) (s : List ℕ) → Rising (holding rs s)
unfolding holding
holding-rising rs s = keep-rising (λ i. within s (get_or rs i [])) (upto (length rs)) (upto-rising (length rs))

-- ---- building from the sorted list

-- ascending lists, sorted, are the same
pub all-sorted : (ps : List (List ℕ)) → ((p : List ℕ) → Memᴰ p ps → Ascending p) → map sort ps ≡ ps
all-sorted [] h = refl
all-sorted (p ∷ ps) h = λ i. sort_sorted p (h p (Memᴰ.head refl)) i ∷ all-sorted ps (λ q m. h q (Memᴰ.tail m)) i

module _ (given : List ℕ) (whole : length given % 5 ≡ 0) where
  again-long : length (flat (sorted_pents given)) ≡ length given
  again-long = length-flat 5 (sorted_pents given) (sorted-wide-all given) ∙ omega (arith, length-sorted-all given)

  ascending : (p : List ℕ) → Memᴰ p (sorted_pents given) → Ascending p
  ascending p m = let w = sorted_of given p m in subst Ascending w.2 (sort_ascending w.0)

  -- the sorted pentachorons, sorted again, are the same
  pub sorted-again : sorted_pents (flat (sorted_pents given)) ≡ sorted_pents given
  sorted-again = sorted-is (flat (sorted_pents given)) ∙ ap (map sort) (sorted_back given) ∙ all-sorted (sorted_pents given) ascending

-- vertices that are not too large are below n
pub not-large : (n : ℕ) (p : List ℕ) → too_large n p ≡ false → {v : ℕ} → Memᴰ v p → v < n
unfolding too_large
not-large n [] h m = absurd (Memᴰ.not-nil m)
not-large n (x ∷ p) h m =
    let a = or-false (leb n x) (too_large n p) h in
    ⊎_elim (λ e. omega (arith, leb-false n x a.0)) (not-large n p a.1) (Memᴰ.cases_cons m)

pub all-below : (n : ℕ) (p : List ℕ) → ((v : ℕ) → Memᴰ v p → v < n) → too_large n p ≡ false
unfolding too_large
all-below n [] g = refl
all-below n (x ∷ p) g = rw (lt-leb n x (g x (Memᴰ.head refl)), all-below n p (λ v m. g v (Memᴰ.tail m))) refl

pub no-repeat : (p : List ℕ) → Once p → repeats p ≡ false
unfolding repeats
no-repeat [] o = refl
no-repeat (v ∷ p) o = rw (fails (among-says v p) o.0, no-repeat p o.1) refl

-- every vertex of the sort is below n where every vertex is
large-sort : (n : ℕ) (p : List ℕ) → too_large n p ≡ false → too_large n (sort p) ≡ false
large-sort n p h = all-below n (sort p) (λ v m. not-large n p h (sort-mem p m))

-- no vertex of the sort stands twice where none does
repeats-sort : (p : List ℕ) → repeats p ≡ false → repeats (sort p) ≡ false
repeats-sort p h = no-repeat (sort p) (sort-once p (once-of p h))

-- pentachorons of which none offends
pub no-offence : (n k : ℕ) (ps : List (List ℕ)) → ((p : List ℕ) → Memᴰ p ps → (too_large n p ≡ false) × (repeats p ≡ false)) → offence n k ps ≡ Done
unfolding offence
no-offence n k [] h = refl
no-offence n k (p ∷ ps) h =
    let a = h p (Memᴰ.head refl) in
    rw (a.0, a.1) (no-offence n (k + 1) ps (λ q m. h q (Memᴰ.tail m)))

module _ (n : ℕ) (given : List ℕ) (l : Lists) (done : check_of n given (rooms_of l) ≡ Done) where
  whole-list : length given % 5 ≡ 0
  whole-list = (passed n given l done).whole

  again-done : check_of n (flat (sorted_pents given)) (rooms_of l) ≡ Done
  again-done =
      check-same n given (flat (sorted_pents given)) (rooms_of l) (again-long given whole-list) done
      (λ d. ap (offence n 0) (sorted_back given)
      ∙ no-offence n 0 (sorted_pents given)
      (λ p m.
      let w = sorted_of given p m in
      let c = offence-done n 0 (pentachorons given) d w.0 w.1 in
      rw (← w.2) (large-sort n w.0 c.0, repeats-sort w.0 c.1)))

  -- a list that is built is built with the same answer into the same lists from its sorted pentachorons
  pub built-again : (built_of (check_of n (flat (sorted_pents given)) (rooms_of l)) n (flat (sorted_pents given)) ≡ built_of (check_of n given (rooms_of l)) n given)
      × (lists_after (check_of n (flat (sorted_pents given)) (rooms_of l)) (flat (sorted_pents given)) l ≡ lists_after (check_of n given (rooms_of l)) given l)
  built-again = rw (again-done, done) (rw (sorted-again given whole-list) (refl, refl))
