-- Deficits in a list of scratch: its front is read, and the gradient's list begins with the entries. Assumes nothing.
use Prim.Native.Nat.{ℕ}
use mathlib.Core.List.{List, ◌++◌, Memᴰ}
use mathlib.Core.Path.{◌≡◌, refl, ap, ◌∙◌}
use native.Mathlib.Omega.{arith}
use lib.Ieee.{Float, nan}
use lib.ListN.{length, get_or, drop, replicate, length-replicate, get_or-append}
use Rattle.floats.specs.Ops.{◌⊕◌, ◌⊗◌, zero}
use Rattle.lists.specs.Lists.{gather, upto}
use Rattle.lists.specs.Rows.{over}
use Rattle.lists.specs.Loops.{scatter}
use Rattle.lists.proofs.Elements.{gather-same, mem-upto}
use Rattle.lists.proofs.Loops.{length-scatter}
use Rattle.lists.proofs.Folds.{fold_same}
use Rattle.lists.proofs.Rows.{length-rows}
use Rattle.complex.specs.Lent.{edges_of, triangles_of}
use Rattle.hinges.specs.Hinges.{FaceLists, faces_of, hinges, deficits_of}
use Rattle.hinges.specs.Action.{edges_at, tri_lengths, abs_area, action_of, action, contributions_of, contributions, gradient_of, gradient}
use Rattle.hinges.proofs.OnePass.{length-hinges}
use Rattle.calls.specs.declared.built.BuiltComplex.{BuiltComplex}

-- ---- the front of a list

front_at : (F : FaceLists) (ls old : List Float) (t : ℕ) → Memᴰ t (upto (length F.triangles)) → get_or (over (deficits_of (hinges F ls)) old) t nan ≡ get_or (deficits_of (hinges F ls)) t nan
unfolding over
front_at F ls old t m =
    get_or-append (deficits_of (hinges F ls)) (drop (length (deficits_of (hinges F ls))) old) nan t (omega (arith, mem-upto (length F.triangles) t m, length-hinges F ls (λ h. h.deficit)))

-- the action reads the deficits of triangles alone
pub action-front : (F : FaceLists) (ls old ds : List Float) → ds ≡ over (deficits_of (hinges F ls)) old → action_of F ls ds ≡ action F ls
unfolding action_of
action-front F ls old ds e =
    ap (action_of F ls) e
    ∙ fold_same (λ sum t. sum ⊕ abs_area (tri_lengths F ls t) ⊗ get_or (over (deficits_of (hinges F ls)) old) t nan) (λ sum t. sum ⊕ abs_area (tri_lengths F ls t) ⊗ get_or (deficits_of (hinges F ls)) t nan) zero (upto (length F.triangles))
    (λ s t m. ap (λ (x : Float). s ⊕ abs_area (tri_lengths F ls t) ⊗ x) (front_at F ls old t m))

-- so does the gradient
contributions-front : (F : FaceLists) (ls old ds : List Float) → ds ≡ over (deficits_of (hinges F ls)) old → gather (contributions F ls ds) (upto (length F.triangles)) ≡ gather (contributions F ls (deficits_of (hinges F ls))) (upto (length F.triangles))
unfolding contributions
contributions-front F ls old ds e =
    gather-same (contributions F ls ds) (contributions F ls (deficits_of (hinges F ls))) (upto (length F.triangles))
    (λ t m. ap (contributions_of (edges_at F t) (tri_lengths F ls t)) (ap (λ (l : List Float). get_or l t nan) e ∙ front_at F ls old t m))

-- the gradient of deficits in scratch
pub gradient-front : (F : FaceLists) (ls old ds : List Float) → ds ≡ over (deficits_of (hinges F ls)) old → gradient_of F ls ds ≡ gradient F ls
unfolding gradient_of
gradient-front F ls old ds e = ap (λ (es : List (ℕ × Float)). scatter nan ◌⊕◌ es (replicate (length F.edges) zero)) (contributions-front F ls old ds e)

-- ---- the entries

-- what all triangles add to zeros, in the place of the first entries
pub entries_over : (b : BuiltComplex) (ls ds old zeros new : List Float) → zeros ≡ replicate b.complex.counts.edges zero
    → new ≡ scatter nan ◌⊕◌ (gather (contributions (faces_of b.complex) ls ds) (upto b.complex.counts.triangles)) zeros
    → new ++ drop b.complex.counts.edges old ≡ over (gradient_of (faces_of b.complex) ls ds) old
unfolding over gradient_of
entries_over b ls ds old zeros new z e =
    let x = b.complex in
    let n = x.counts.edges in
    let es = gather (contributions (faces_of x) ls ds) (upto x.counts.triangles) in
    let r = replicate n zero in
    let E : length (edges_of x) ≡ n = length-rows 2 n x.edges.now in
    let T : length (triangles_of x) ≡ x.counts.triangles = length-rows 3 x.counts.triangles x.triangles.now in
    ap (λ (xs : List Float). xs ++ drop n old) (e ∙ ap (scatter nan ◌⊕◌ es) z)
    ∙ rw (E, T, length-scatter nan ◌⊕◌ es r, length-replicate n zero) refl
