-- The two terms of the local Hessian over all triangles and pentachorons on free edges, from lists of marks and sums in scratch. Assumes nothing.
use Prim.Native.Nat.{ℕ, ◌+◌, ◌*◌, ◌≤◌, ◌<◌}
use mathlib.Core.Bool.{Bool, false}
use mathlib.Core.List.{List, ◌++◌}
use mathlib.Core.Path.{◌≡◌, refl, sym, ap, ◌∙◌}
use native.Mathlib.Omega.{arith}
use lib.Ieee.{Float, nan}
use lib.ListN.{length, get_or, take, drop, replicate, length-replicate}
use lib.Seq.{length-take-le}
use Rattle.floats.specs.Ops.{◌⊕◌, zero}
use Rattle.lists.specs.Lists.{gather, upto, Once}
use Rattle.lists.specs.Rows.{over}
use Rattle.lists.specs.Groups.{Below}
use Rattle.lists.specs.Loops.{scatter}
use Rattle.lists.proofs.Elements.{map_same, mem-upto, mem-get_or}
use Rattle.complex.specs.declared.Complex.{Complex}
use Rattle.complex.specs.declared.Incidence.{Incidence}
use Rattle.marks.specs.Marks.{met, listed, marked, marked_below}
use Rattle.marks.proofs.Marking.{marked-listed}
use Rattle.hinges.specs.Hinges.{FaceLists, faces_of}
use Rattle.hinges.specs.Parts.{IsMeasured}
use Rattle.hinges.specs.Local.{local_triangles, local_pents}
use Rattle.hinges.proofs.LocalEntries.{sum-at}
use Rattle.hinges.proofs.PentachoronSteps.{pents-wide}
use Rattle.second_derivatives.specs.Parts.{before}
use Rattle.hessian.specs.Hessian.{local_hessian}
use Rattle.hessian.specs.Parts.{diagonal_at, first_at, second_at}
use Rattle.hessian.specs.Steps.{ahead, diagonal_events, diagonal_of}
use Rattle.hessian.proofs.HessianMatrix.{diagonal-sum, matrix-over}

-- the marked rows are those on free edges
pub on-free : (rs edges : List (List ℕ)) (free : List ℕ) (n m : ℕ) (marks₀ marks : List Bool) → marks₀ ≡ replicate m false → marks ≡ marked (met rs edges free) marks₀ → length rs ≡ n → n ≤ m
    → marked_below n marks ≡ listed (length rs) (met rs edges free)
on-free rs edges free n m marks₀ marks z e l h = rw (e, z, l) (marked-listed (met rs edges free) n m h)

-- a list whose first n numbers were filled with 0
pub zeros-first : (n : ℕ) (old front : List Float) → n ≤ length old → front ≡ replicate (length (take n old)) zero → front ++ drop n old ≡ over (replicate n zero) old
unfolding over
zeros-first n old front h e = rw (e, length-take-le n old h, length-replicate) refl

module _ (events : List (ℕ × Float)) (free : List ℕ) where
  -- the sums of free edges are the same in scratch of m and of k places
  sums-alike : (m k : ℕ) → Below free m → Below free k → diagonal_events free (scatter nan ◌⊕◌ events (replicate m zero)) ≡ diagonal_events free (scatter nan ◌⊕◌ events (replicate k zero))
  unfolding diagonal_events
  sums-alike m k a b =
      map_same _ _ (upto (length free)) (λ i h.
      let l = mem-upto (length free) i h in
      ap (λ (x : Float). (i * length free + i, x)) (sum-at events m (get_or free i 0) (a i l) ∙ sym (sum-at events k (get_or free i 0) (b i l))))

-- the sums on the diagonal are those of the triangles on free edges, in scratch of m places
pub sums-whole : (F : FaceLists) (ls : List Float) (free : List ℕ) (m : ℕ) → Below free m → Below free 81920 → (own : List ℕ) (sums₀ sums : List Float) → own ≡ local_triangles F free → sums₀ ≡ replicate m zero
    → sums ≡ scatter nan ◌⊕◌ (gather (diagonal_at F ls) own) sums₀ → diagonal_events free sums ≡ diagonal_events free (diagonal_of F ls free)
unfolding diagonal_of
sums-whole F ls free m low few own sums₀ sums o z is =
    ap (diagonal_events free) (is ∙ ap (λ (xs : List ℕ). scatter nan ◌⊕◌ (gather (diagonal_at F ls) xs) sums₀) o ∙ ap (scatter nan ◌⊕◌ (gather (diagonal_at F ls) (local_triangles F free))) z)
    ∙ sums-alike (gather (diagonal_at F ls) (local_triangles F free)) free m 81920 low few

module _ (x : Complex) (i : Incidence) (n : ℕ) (ok : IsMeasured x i n) (ls : List Float) (free : List ℕ) (eps : Float) where
  abbrev F : FaceLists
  F = faces_of x

  -- a list in which the second term was summed and the first put before it has the Hessian
  pub hessian-whole : Once free → Below free x.counts.edges → x.counts.edges ≤ 81920 → (old zeros second first : List Float) → zeros ≡ over (replicate (length free * length free) zero) old
      → second ≡ scatter nan ◌⊕◌ (gather (second_at F ls free eps) (local_pents F free)) zeros
      → first ≡ scatter nan ahead (diagonal_events free (diagonal_of F ls free)) (scatter nan before (gather (first_at F ls free) (local_triangles F free)) second)
      → first ≡ over (local_hessian F ls free eps) old
  unfolding diagonal_of
  hessian-whole once below few old zeros second first z s t =
      matrix-over F ls free eps once ok.simplices ok.edges_found (pents-wide ok.passable) ok.passable.edges_found (diagonal_of F ls free)
      (λ e m. diagonal-sum F ls free once ok.simplices ok.edges_found 81920 e (let w = mem-get_or 0 m in let k : get_or free w.0 0 < x.counts.edges = below w.0 w.1 in omega (arith, k, w.2, few)) m)
      old zeros second first z s t
