-- The entries of the local Hessian: what the loops leave in the matrix is, entry by entry, the first term and the second. Assumes nothing.
use Prim.Native.Nat.{ℕ, ◌+◌, ◌*◌, ◌<◌}
use mathlib.Core.Bool.{Bool, true, false, true≢false, cond}
use mathlib.Core.List.{List, [], ◌∷◌, map, Memᴰ}
use mathlib.Core.Path.{◌≡◌, refl, sym, ap, ◌∙◌, subst}
use lib.Dec.{T}
use lib.Ieee.{Float, nan, neg, lt, binary64, fits}
use lib.Ieee.Fits.{mul-fits}
use lib.ListN.{length, get_or, length-map}
use Rattle.floats.specs.Ops.{◌⊗◌}
use Rattle.floats.specs.Methods.{abs_of}
use Rattle.lists.specs.Lists.{gather, upto, combos, among, Once}
use Rattle.lists.specs.Keys.{find}
use Rattle.lists.specs.Rows.{Wide}
use Rattle.lists.specs.Loops.{hits}
use Rattle.lists.proofs.Tests.{passes}
use Rattle.lists.proofs.Elements.{get_or-mem, gather-mem, mem-gather, mem-upto, among-says}
use Rattle.complex.specs.declared.numbering.Face.TheVariants.{Edge}
use Rattle.complex.specs.Complex.{holding, row_numbers}
use Rattle.complex.proofs.Meetings.{count-faces}
use Rattle.incidence.specs.Incidence.{Simplices}
use Rattle.jacobian.specs.Jacobian.{jacobian}
use Rattle.marks.specs.Marks.{met, listed}
use Rattle.hinges.specs.Hinges.{FaceLists, pent_lengths, hinges, hinge_in}
use Rattle.hinges.specs.Action.{edges_at, tri_lengths, abs_area, area_limit}
use Rattle.hinges.specs.Parts.{Found}
use Rattle.hinges.specs.Local.{local_triangles, local_pents}
use Rattle.hinges.proofs.SharedTriangle.{face-lies, edges-three, edges-once}
use Rattle.second_derivatives.specs.SecondDerivatives.{area_second, nine_adds, first_adds, area_slope, left_by, lengths_of, slope_row, row_adds, triangle_adds, second_adds}
use Rattle.second_derivatives.specs.Parts.{off_diagonal}
use Rattle.hessian.specs.Hessian.{named, adds_at, first_of, second_of}
use Rattle.hessian.specs.Parts.{first_placed, diagonal_at, first_at, second_at}
use Rattle.hessian.proofs.Addends.{Inside, named-from, adds-from, adds_none, entry-adds, off-only, off-adds, off-none, on-adds, kept-adds}

-- ---- addends are inside, and doubles

mem-cond : {A : Type 0} (b : Bool) (xs : List A) {x : A} → Memᴰ x (cond b [] xs) → Memᴰ x xs
mem-cond true xs m = absurd (mathlib.Core.List.Memᴰ.not-nil m)
mem-cond false xs m = m

first-inside : (s : List Float) (deficit : Float) → Inside 3 (first_adds s deficit)
unfolding first_adds nine_adds
first-inside s deficit a m =
    let w = mem-gather (λ i. map (λ j. ((i, j), area_second s (abs_area s) i j ⊗ deficit)) (upto 3)) (upto 3) (mem-cond (lt (abs_area s) area_limit) (gather (λ i. map (λ j. ((i, j), area_second s (abs_area s) i j ⊗ deficit)) (upto 3)) (upto 3)) m) in
    let v : (j : ℕ) × Memᴰ j (upto 3) × (((w.0, j), area_second s (abs_area s) w.0 j ⊗ deficit) ≡ a) = mathlib.Core.List.Memᴰ.of_map (λ j. ((w.0, j), area_second s (abs_area s) w.0 j ⊗ deficit)) (upto 3) w.2 in
    (subst (λ (k : ℕ). k < 3) (ap (λ (b : (ℕ × ℕ) × Float). b.0.0) v.2) (mem-upto 3 w.0 w.1), subst (λ (k : ℕ). k < 3) (ap (λ (b : (ℕ × ℕ) × Float). b.0.1) v.2) (mem-upto 3 v.0 v.1))

-- a row's addends: their places, and their values are products
row_inside : (s jac : List Float) (k e : ℕ) → e < 10 → (a : (ℕ × ℕ) × Float) → Memᴰ a (row_adds s jac k e) → (a.0.0 < 10) × (a.0.1 < 10) × T (fits binary64 a.1)
unfolding row_adds slope_row
row_inside s jac k e h a m =
    let slope = area_slope s (left_by k) e in
    let row : ℕ → (ℕ × ℕ) × Float = λ f. ((e, f), slope ⊗ neg (get_or jac (10 * k + f) nan)) in
    let v : (f : ℕ) × Memᴰ f (upto 10) × (row f ≡ a) = mathlib.Core.List.Memᴰ.of_map row (upto 10) (mem-cond (lt (abs_of slope) area_limit) (map row (upto 10)) m) in (
      subst (λ (k : ℕ). k < 10) (ap (λ (b : (ℕ × ℕ) × Float). b.0.0) v.2) h,
      subst (λ (k : ℕ). k < 10) (ap (λ (b : (ℕ × ℕ) × Float). b.0.1) v.2) (mem-upto 10 v.0 v.1),
      subst (λ (x : Float). T (fits binary64 x)) (ap (λ (b : (ℕ × ℕ) × Float). b.1) v.2) (mul-fits binary64 slope (neg (get_or jac (10 * k + v.0) nan))),
    )

second_from : (s : List Float) (eps : Float) (a : (ℕ × ℕ) × Float) → Memᴰ a (second_adds s eps) → (a.0.0 < 10) × (a.0.1 < 10) × T (fits binary64 a.1)
unfolding second_adds triangle_adds
second_from s eps a m =
    let jac = jacobian s eps in
    let w = mem-gather (triangle_adds s jac) (upto 10) m in
    let v = mem-gather (row_adds s jac w.0) (upto 10) (mem-cond (lt (abs_area (lengths_of s (left_by w.0))) area_limit) (gather (row_adds s jac w.0) (upto 10)) w.2) in
    row_inside s jac w.0 v.0 (mem-upto 10 v.0 v.1) a v.2

-- ---- rows with no free edge

-- a row that no free edge meets adds nothing in a free edge's row of the matrix
none-met : (rs edges : List (List ℕ)) → Found edges 2 rs → (free : List ℕ) (e f t : ℕ) → Memᴰ e free → t < length rs → among t (met rs edges free) ≡ false
    → (adds : List ((ℕ × ℕ) × Float)) → Inside (length (row_numbers edges 2 (get_or rs t []))) adds → adds_at e f (named (row_numbers edges 2 (get_or rs t [])) adds) ≡ []
unfolding met
none-met rs edges found free e f t m h q adds inside =
    let es = row_numbers edges 2 (get_or rs t []) in
    adds_none e f (named es adds)
    (λ a k p r.
    let w = named-from es adds inside a k in
    let l : Memᴰ e es = mathlib.Core.List.Memᴰ.cast (sym p) w.4 in
    true≢false (sym (passes (among-says t (gather (λ e. holding rs (get_or edges e [])) free)) (gather-mem (λ e. holding rs (get_or edges e [])) m (face-lies edges 2 rs found t e h l))) ∙ q))

-- nothing is added where there are no addends
empty-adds : (e : ℕ) → adds_at e e [] ≡ []
unfolding adds_at
empty-adds e = refl

gather-empty : (e : ℕ) (xs : List ℕ) → adds_at e e (gather (λ t. []) xs) ≡ []
unfolding gather adds_at
gather-empty e [] = refl
gather-empty e (x ∷ xs) = gather-empty e xs

-- the places of a triangle's edges are three
pub inside-three : (F : FaceLists) (ls : List Float) → Simplices F.pents F.triangles → Found F.edges 2 F.triangles → (t : ℕ) → t < length F.triangles → Inside (length (edges_at F t)) (first_placed F ls t)
inside-three F ls ok found t h = rw (edges-three F ok found t h) (first-inside (tri_lengths F ls t) (hinge_in (hinges F ls) t).deficit)

module _ (F : FaceLists) (ls : List Float) (free : List ℕ) (once : Once free) where
  -- ---- the second term

  module _ (wide : Wide 5 F.pents) (found : Found F.edges 2 F.pents) (eps : Float) where
    ten-edges : (p : ℕ) → p < length F.pents → length (row_numbers F.edges 2 (get_or F.pents p [])) ≡ 10
    ten-edges p h =
        let r = get_or F.pents p [] in
        length-map (combos r 2) (λ s. find s F.edges) ∙ count-faces Edge r (wide r (get_or-mem F.pents p [] h))

    second-inside : (p : ℕ) → p < length F.pents → Inside (length (row_numbers F.edges 2 (get_or F.pents p []))) (second_adds (pent_lengths F ls (get_or F.pents p [])) eps)
    second-inside p h a m = let w = second_from (pent_lengths F ls (get_or F.pents p [])) eps a m in rw (ten-edges p h) (w.0, w.1)

    -- what the pentachorons on free edges put into an entry
    pub second-entry : (i j : ℕ) → i < length free → j < length free
        → hits (i * length free + j) (gather (second_at F ls free eps) (local_pents F free)) ≡ adds_at (get_or free i 0) (get_or free j 0) (gather (second_of F ls eps) (upto (length F.pents)))
    unfolding listed second_at second_of
    second-entry i j hi hj =
        let P = length F.pents in
        kept-adds (i * length free + j) (get_or free i 0) (get_or free j 0) (second_at F ls free eps) (second_of F ls eps) (λ t. among t (met F.pents F.edges free)) (upto P)
        (λ p m. entry-adds free once i j hi hj (row_numbers F.edges 2 (get_or F.pents p [])) (second_adds (pent_lengths F ls (get_or F.pents p [])) eps) (second-inside p (mem-upto P p m)))
        (λ p m q. none-met F.pents F.edges found free (get_or free i 0) (get_or free j 0) p (get_or-mem free i 0 hi) (mem-upto P p m) q (second_adds (pent_lengths F ls (get_or F.pents p [])) eps) (second-inside p (mem-upto P p m)))

    -- all that is added there are doubles
    pub second_fits : (e f : ℕ) (x : Float) → Memᴰ x (adds_at e f (gather (second_of F ls eps) (upto (length F.pents)))) → T (fits binary64 x)
    unfolding second_of
    second_fits e f x m =
        let w = adds-from e f (gather (second_of F ls eps) (upto (length F.pents))) m in
        let v = mem-gather (second_of F ls eps) (upto (length F.pents)) w.1 in
        let r = get_or F.pents v.0 [] in
        let name : (ℕ × ℕ) × Float → (ℕ × ℕ) × Float = λ a. ((get_or (row_numbers F.edges 2 r) a.0.0 0, get_or (row_numbers F.edges 2 r) a.0.1 0), a.1) in
        let u : (b : (ℕ × ℕ) × Float) × Memᴰ b (second_adds (pent_lengths F ls r) eps) × (name b ≡ w.0) = mathlib.Core.List.Memᴰ.of_map name (second_adds (pent_lengths F ls r) eps) v.2 in
        subst (λ (y : Float). T (fits binary64 y)) (ap (λ (b : (ℕ × ℕ) × Float). b.1) u.2 ∙ w.4) (second_from (pent_lengths F ls r) eps u.0 u.1).2

  -- ---- the first term

  module _ (ok : Simplices F.pents F.triangles) (found : Found F.edges 2 F.triangles) where
    absent-tri : (e f t : ℕ) → Memᴰ e free → t < length F.triangles → among t (met F.triangles F.edges free) ≡ false → adds_at e f (first_of F ls t) ≡ []
    unfolding first_of
    absent-tri e f t m h q = none-met F.triangles F.edges found free e f t m h q (first_placed F ls t) (inside-three F ls ok found t h)

    -- what the triangles on free edges put into an entry off the diagonal
    pub first_entry : (i j : ℕ) → i < length free → j < length free → (get_or free i 0 ≡ get_or free j 0 → ⊥)
        → hits (i * length free + j) (gather (first_at F ls free) (local_triangles F free)) ≡ adds_at (get_or free i 0) (get_or free j 0) (gather (first_of F ls) (upto (length F.triangles)))
    unfolding listed first_at first_of
    first_entry i j hi hj ne =
        let n = length F.triangles in
        kept-adds (i * length free + j) (get_or free i 0) (get_or free j 0) (first_at F ls free) (first_of F ls) (λ t. among t (met F.triangles F.edges free)) (upto n)
        (λ t m. entry-adds free once i j hi hj (edges_at F t) (off_diagonal (first_placed F ls t)) (off-only (edges_at F t) (first_placed F ls t) (inside-three F ls ok found t (mem-upto n t m))) ∙ off-adds (edges_at F t) (get_or free i 0) (get_or free j 0) ne (first_placed F ls t))
        (λ t m q. absent-tri (get_or free i 0) (get_or free j 0) t (get_or-mem free i 0 hi) (mem-upto n t m) q)

    -- on the diagonal they put nothing
    pub first-none : (i : ℕ) → i < length free → hits (i * length free + i) (gather (first_at F ls free) (local_triangles F free)) ≡ []
    unfolding listed first_at
    first-none i hi =
        let n = length F.triangles in
        let e = get_or free i 0 in
        kept-adds (i * length free + i) e e (first_at F ls free) (λ t. []) (λ t. among t (met F.triangles F.edges free)) (upto n)
        (λ t m. entry-adds free once i i hi hi (edges_at F t) (off_diagonal (first_placed F ls t)) (off-only (edges_at F t) (first_placed F ls t) (inside-three F ls ok found t (mem-upto n t m))) ∙ off-none (edges_at F t) (edges-once F ok found t (mem-upto n t m)) e (first_placed F ls t) (inside-three F ls ok found t (mem-upto n t m)) ∙ sym (empty-adds e))
        (λ t m q. empty-adds e)
        ∙ gather-empty e (upto n)

    -- what they add on it
    pub diagonal-entry : (e : ℕ) → Memᴰ e free → hits e (gather (diagonal_at F ls) (local_triangles F free)) ≡ adds_at e e (gather (first_of F ls) (upto (length F.triangles)))
    unfolding listed diagonal_at first_of
    diagonal-entry e me =
        let n = length F.triangles in
        kept-adds e e e (diagonal_at F ls) (first_of F ls) (λ t. among t (met F.triangles F.edges free)) (upto n)
        (λ t m. on-adds (edges_at F t) (edges-once F ok found t (mem-upto n t m)) e (first_placed F ls t) (inside-three F ls ok found t (mem-upto n t m)))
        (λ t m q. absent-tri e e t me (mem-upto n t m) q)
