-- Triangles in the gradient: one whose area is below the limit adds nothing, one whose area is a NaN adds a NaN at each of its edges. Assumes nothing.
use Prim.Native.Nat.{ℕ, ◌<◌}
use mathlib.Core.Path.{◌≡◌, refl, sym, ap, ◌∙◌, subst}
use mathlib.Core.Logic.{⊎_elim}
use mathlib.Core.Bool.{Bool, true, false, not, cond}
use mathlib.Core.List.{List, [], ◌∷◌, map, foldl, Memᴰ}
use native.Mathlib.Omega.{arith}
use lib.ListN.{length, get_or, replicate, length-replicate}
use lib.Ieee.{Float, nan, inf, fin, binary64, of_bits, neg, add, mul, div, lt, le}
use Rattle.floats.specs.Ops.{◌⊕◌, zero, one}
use Rattle.floats.specs.Methods.{abs_of}
use Rattle.root.specs.Root.{root_of}
use Rattle.lists.specs.Lists.{keep, gather, upto}
use Rattle.lists.specs.Loops.{scatter, hits}
use Rattle.lists.proofs.Elements.{get_or-any, gather-mem, gather-rest, upto-mem}
use Rattle.lists.proofs.Loops.{length-scatter, scatter-at, hits_has}
use Rattle.lorentzian.specs.Triangle.{area_sq_grad}
use Rattle.hinges.specs.Hinges.{FaceLists}
use Rattle.hinges.specs.Action.{edges_at, tri_lengths, area_sq_of, abs_area, area_limit, factor_of, contribution_of, at_three, contributions_of, contributions, gradient_of}

-- ---- below the limit

pub skipped-adds-nothing : (F : FaceLists) (ls ds : List Float) (t : ℕ) → lt (abs_area (tri_lengths F ls t)) area_limit ≡ true → contributions F ls ds t ≡ []
unfolding contributions contributions_of
skipped-adds-nothing F ls ds t e = rw e refl

-- triangles below the limit add nothing to the gradient
pub gradient-skips : (F : FaceLists) (ls ds : List Float) → gradient_of F ls ds ≡ scatter nan ◌⊕◌ (gather (contributions F ls ds) (keep (λ t. not (lt (abs_area (tri_lengths F ls t)) area_limit)) (upto (length F.triangles)))) (replicate (length F.edges) zero)
unfolding gradient_of
gradient-skips F ls ds =
    ap (λ (es : List (ℕ × Float)). scatter nan ◌⊕◌ es (replicate (length F.edges) zero))
    (gather-rest (contributions F ls ds) (λ t. lt (abs_area (tri_lengths F ls t)) area_limit) (skipped-adds-nothing F ls ds) (upto (length F.triangles)))

-- ---- a NaN

-- an area whose square is a NaN is a NaN
pub nan_area : (s : List Float) → area_sq_of s ≡ nan → abs_area s ≡ nan
unfolding abs_area root_of abs_of
nan_area s e = rw e refl

factor-nan : (square : Float) → factor_of square nan ≡ nan
unfolding factor_of of_bits neg mul div
factor-nan square = go (le zero square)
  where
    go : (b : Bool) → div binary64 (cond b one (neg one)) nan ≡ nan
    go true = refl
    go false = refl

-- a triangle whose area is a NaN is not skipped
pub nan-not-skipped : (F : FaceLists) (ls ds : List Float) (t : ℕ) → abs_area (tri_lengths F ls t) ≡ nan → contributions F ls ds t ≡ at_three (edges_at F t) (nan ∷ nan ∷ nan ∷ [])
unfolding contributions contributions_of contribution_of area_sq_grad lt mul
nan-not-skipped F ls ds t e = rw (e, factor-nan (area_sq_of (tri_lengths F ls t))) refl

add-nan : (x : Float) → x ⊕ nan ≡ nan
unfolding add
add-nan nan = refl
add-nan (inf s) = refl
add-nan (fin s m e) = refl

-- a sum that began with a NaN
sum-from-nan : (xs : List Float) → foldl ◌⊕◌ nan xs ≡ nan
unfolding add
sum-from-nan [] = refl
sum-from-nan (x ∷ xs) = sum-from-nan xs

-- a sum with a NaN in it
sum_with-nan : (x : Float) (xs : List Float) → Memᴰ nan xs → foldl ◌⊕◌ x xs ≡ nan
sum_with-nan x [] m = absurd (mathlib.Core.List.Memᴰ.not-nil m)
sum_with-nan x (y ∷ xs) m =
    ⊎_elim
    (λ e. ap (λ (z : Float). foldl ◌⊕◌ (x ⊕ z) xs) (sym e) ∙ ap (λ (z : Float). foldl ◌⊕◌ z xs) (add-nan x) ∙ sum-from-nan xs)
    (sum_with-nan (x ⊕ y) xs)
    (mathlib.Core.List.Memᴰ.cases_cons m)

three_nans : (es : List ℕ) → length es ≡ 3 → at_three es (nan ∷ nan ∷ nan ∷ []) ≡ map (λ e. (e, nan)) es
three_nans (a ∷ b ∷ c ∷ []) h = refl
three_nans [] h = absurd (omega arith)
three_nans (a ∷ []) h = absurd (omega arith)
three_nans (a ∷ b ∷ []) h = absurd (omega arith)
three_nans (a ∷ b ∷ c ∷ d ∷ es) h = absurd (omega arith)

-- the gradient is a NaN at each edge of such a triangle
pub nan-entry : (F : FaceLists) (ls ds : List Float) (t : ℕ) → abs_area (tri_lengths F ls t) ≡ nan → t < length F.triangles → length (edges_at F t) ≡ 3
    → (e : ℕ) → Memᴰ e (edges_at F t) → e < length F.edges → get_or (gradient_of F ls ds) e zero ≡ nan
unfolding gradient_of
nan-entry F ls ds t a h l e m k =
    let events : List (ℕ × Float) = gather (contributions F ls ds) (upto (length F.triangles)) in
    let own : contributions F ls ds t ≡ map (λ e. (e, nan)) (edges_at F t) = nan-not-skipped F ls ds t a ∙ three_nans (edges_at F t) l in
    let n : Memᴰ (e, nan) (contributions F ls ds t) = subst (λ (es : List (ℕ × Float)). Memᴰ (e, nan) es) (sym own) (mathlib.Core.List.Memᴰ.map (λ (e : ℕ). (e, nan)) m) in
    get_or-any (scatter nan ◌⊕◌ events (replicate (length F.edges) zero)) e zero nan (rw (length-scatter nan ◌⊕◌ events (replicate (length F.edges) zero), length-replicate) k)
    ∙ scatter-at nan ◌⊕◌ events (replicate (length F.edges) zero) e (rw length-replicate k)
    ∙ sum_with-nan _ (hits e events) (hits_has e events (gather-mem (contributions F ls ds) (upto-mem (length F.triangles) t h) n))
