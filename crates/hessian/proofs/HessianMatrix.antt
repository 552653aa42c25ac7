-- The matrix that the loops of the local Hessian leave: two edges off the diagonal lie in at most one triangle, and each entry is the sum of both terms. Assumes nothing.
use Prim.Native.Nat.{ℕ, ◌+◌, ◌*◌, ◌/◌, ◌%◌, ◌≤◌, ◌<◌}
use mathlib.Core.Bool.{Bool, true, false, cond, ◌&&◌}
use mathlib.Core.List.Memᴰ
use mathlib.Core.List.{List, [], ◌∷◌, ◌++◌, map, map-id, append-nil, foldl, Memᴰ}
use mathlib.Core.Logic.{⊎_elim}
use mathlib.Core.Path.{◌≡◌, refl, sym, ap, ◌∙◌, subst}
use native.Mathlib.Nat.{div-add-mod', mod-lt, mul-le-mul_right}
use native.Mathlib.Omega.{arith}
use lib.Arith.{digits_lt, digits_div, digits_mod}
use lib.Dec.{eqb}
use lib.Ieee.{Float, nan, lt}
use lib.ListN.{length, get_or, drop, replicate, length-replicate, get_or-replicate}
use Rattle.floats.specs.Ops as Ops
use Rattle.floats.specs.Ops.{◌⊕◌, ◌⊗◌}
use Rattle.floats.proofs.Sums.{sum-from-zero}
use Rattle.lists.specs.Lists.{gather, upto, Once}
use Rattle.lists.specs.Rows.{Wide, over}
use Rattle.lists.specs.Loops.{scatter, hits}
use Rattle.lists.proofs.Tests.{lt-or-ge, eq-or-ne}
use Rattle.lists.proofs.Elements.{get_or-mem, map_same, map-upto, gather-same, gather-places, map_loops, mem-gather, mem-upto, upto-mem, upto-rising}
use Rattle.lists.proofs.Sorting.{rising-once}
use Rattle.lists.proofs.Loops.{length-scatter, scatter-at, scatter-front, hits-none, hits-one}
use Rattle.incidence.specs.Incidence.{Simplices}
use Rattle.hinges.specs.Hinges.{FaceLists, hinges, hinge_in}
use Rattle.hinges.specs.Action.{edges_at, tri_lengths, abs_area, area_limit}
use Rattle.hinges.specs.Parts.{Found}
use Rattle.hinges.specs.Local.{local_triangles, local_pents}
use Rattle.hinges.proofs.SharedTriangle.{edges-three, edges-once, one-triangle}
use Rattle.second_derivatives.specs.SecondDerivatives.{area_second, nine_adds, first_adds}
use Rattle.second_derivatives.specs.Parts.{before}
use Rattle.hessian.specs.Hessian.{named, adds_at, first_of, second_of, first_term, second_term, entry, local_hessian}
use Rattle.hessian.specs.Parts.{first_placed, diagonal_at, first_at, second_at}
use Rattle.hessian.specs.Steps.{ahead, diagonal_events}
use Rattle.hessian.proofs.Addends.{named-from, one_place, adds-append, adds-from, placed_below}
use Rattle.hessian.proofs.HessianEntries.{inside-three, second-entry, second_fits, first_entry, first-none, diagonal-entry}

-- ---- at most one addend

module _ (e f : ℕ) where
  -- an addend of row e and column f
  abbrev Adds : List ((ℕ × ℕ) × Float) → Type 0
  Adds adds = (a : (ℕ × ℕ) × Float) × Memᴰ a adds × (a.0.0 ≡ e) × (a.0.1 ≡ f)

  -- where no two numbers add there, and none adds twice
  few-adds : (g : ℕ → List ((ℕ × ℕ) × Float)) (xs : List ℕ) → Once xs → ((x : ℕ) → Memᴰ x xs → length (adds_at e f (g x)) ≤ 1)
      → ((x y : ℕ) → Memᴰ x xs → Memᴰ y xs → Adds (g x) → Adds (g y) → x ≡ y) → length (adds_at e f (gather g xs)) ≤ 1
  unfolding gather adds_at
  few-adds g [] o one same = omega arith
  few-adds g (x ∷ xs) o one same =
      subst (λ (l : List Float). length l ≤ 1) (sym (adds-append e f (g x) (gather g xs)))
      (go (adds_at e f (g x)) refl (few-adds g xs o.1 (λ y m. one y (Memᴰ.tail m)) (λ y z m n. same y z (Memᴰ.tail m) (Memᴰ.tail n))))
    where
      none : (bs : List Float) → ((b : Float) → Memᴰ b bs → ⊥) → bs ≡ []
      none [] n = refl
      none (b ∷ bs) n = absurd (n b (Memᴰ.head refl))

      go : (A : List Float) → adds_at e f (g x) ≡ A → length (adds_at e f (gather g xs)) ≤ 1 → length (A ++ adds_at e f (gather g xs)) ≤ 1
      go [] q r = r
      go (a ∷ A) q r =
          let w = adds-from e f (g x) (subst (λ (l : List Float). Memᴰ a l) (sym q) (Memᴰ.head refl)) in
          let z : adds_at e f (gather g xs) ≡ [] =
          none (adds_at e f (gather g xs))
          (λ b m.
          let u = adds-from e f (gather g xs) m in
          let v = mem-gather g xs u.1 in
          o.0 (Memᴰ.cast (same x v.0 (Memᴰ.head refl) (Memᴰ.tail v.1) (w.0, w.1, w.2, w.3) (u.0, v.2, u.2, u.3)) v.1)) in
          let h : length (a ∷ A) ≤ 1 = subst (λ (l : List Float). length l ≤ 1) q (one x (Memᴰ.head refl)) in
          subst (λ (l : List Float). length ((a ∷ A) ++ l) ≤ 1) (sym z) (subst (λ (l : List Float). length l ≤ 1) (sym (append-nil (a ∷ A))) h)

  -- three different edges: each pair of places has its own row and column
  module _ (es : List ℕ) (once : Once es) (three : length es ≡ 3) (x : ℕ → ℕ → Float) where
    abbrev one : ℕ → ℕ → (ℕ × ℕ) × Float
    one i j = ((get_or es i 0, get_or es j 0), x i j)

    single : (i : ℕ) → length (adds_at e f (gather (λ j. one i j ∷ []) (upto 3))) ≤ 1
    unfolding adds_at
    single i =
        few-adds (λ j. one i j ∷ []) (upto 3) (rising-once (upto 3) (upto-rising 3)) (λ j m. go (eqb (get_or es i 0) e && eqb (get_or es j 0) f) (x i j))
        (λ j k mj mk a b. one_place es j k once (omega (arith, mem-upto 3 j mj)) (omega (arith, mem-upto 3 k mk)) (column j a ∙ sym (column k b)))
      where
        go : (b : Bool) (y : Float) → length (cond b (y ∷ []) []) ≤ 1
        go true y = omega arith
        go false y = omega arith

        column : (j : ℕ) → Adds (one i j ∷ []) → get_or es j 0 ≡ f
        column j a = ⊎_elim (λ p. ap (λ (b : (ℕ × ℕ) × Float). b.0.1) (sym p) ∙ a.3) (λ m. absurd (Memᴰ.not-nil m)) (Memᴰ.cases_cons a.1)

    nine : length (adds_at e f (gather (λ i. gather (λ j. one i j ∷ []) (upto 3)) (upto 3))) ≤ 1
    nine =
        few-adds (λ i. gather (λ j. one i j ∷ []) (upto 3)) (upto 3) (rising-once (upto 3) (upto-rising 3)) (λ i m. single i)
        (λ i k mi mk a b. one_place es i k once (omega (arith, mem-upto 3 i mi)) (omega (arith, mem-upto 3 k mk)) (row i a ∙ sym (row k b)))
      where
        row : (i : ℕ) → Adds (gather (λ j. one i j ∷ []) (upto 3)) → get_or es i 0 ≡ e
        row i a =
            let w = mem-gather (λ j. one i j ∷ []) (upto 3) a.1 in
            ⊎_elim (λ p. ap (λ (b : (ℕ × ℕ) × Float). b.0.0) (sym p) ∙ a.2) (λ m. absurd (Memᴰ.not-nil m)) (Memᴰ.cases_cons w.2)

    named_nine : named es (gather (λ i. map (λ j. ((i, j), x i j)) (upto 3)) (upto 3)) ≡ gather (λ i. gather (λ j. one i j ∷ []) (upto 3)) (upto 3)
    unfolding upto gather
    named_nine = refl

-- what a triangle adds there
few-first : (es : List ℕ) (s : List Float) (deficit : Float) (e f : ℕ) → Once es → length es ≡ 3 → length (adds_at e f (named es (first_adds s deficit))) ≤ 1
unfolding first_adds nine_adds adds_at
few-first es s deficit e f once three = go (lt (abs_area s) area_limit)
  where
    go : (b : Bool) → length (adds_at e f (named es (cond b [] (gather (λ i. map (λ j. ((i, j), area_second s (abs_area s) i j ⊗ deficit)) (upto 3)) (upto 3))))) ≤ 1
    go true = omega arith
    go false =
        rw (named_nine e f es once three (λ i j. area_second s (abs_area s) i j ⊗ deficit)) (nine e f es once three (λ i j. area_second s (abs_area s) i j ⊗ deficit))

-- all triangles
few-all : (F : FaceLists) (ls : List Float) → Simplices F.pents F.triangles → Found F.edges 2 F.triangles → (e f : ℕ) → (e ≡ f → ⊥)
    → length (adds_at e f (gather (first_of F ls) (upto (length F.triangles)))) ≤ 1
unfolding first_of
few-all F ls ok found e f ne =
    let n = length F.triangles in
    few-adds e f (first_of F ls) (upto n) (rising-once (upto n) (upto-rising n))
    (λ t m. few-first (edges_at F t) (tri_lengths F ls t) (hinge_in (hinges F ls) t).deficit e f (edges-once F ok found t (mem-upto n t m)) (edges-three F ok found t (mem-upto n t m)))
    (λ t u mt mu a b.
    let p = named-from (edges_at F t) (first_placed F ls t) (inside-three F ls ok found t (mem-upto n t mt)) a.0 a.1 in
    let q = named-from (edges_at F u) (first_placed F ls u) (inside-three F ls ok found u (mem-upto n u mu)) b.0 b.1 in
    one-triangle F ok found t u e f (mem-upto n t mt) (mem-upto n u mu) ne (Memᴰ.cast (sym a.2) p.4) (Memᴰ.cast (sym a.3) p.5) (Memᴰ.cast (sym b.2) q.4) (Memᴰ.cast (sym b.3) q.5))

-- a sum of at most one addend before another sum
before-one : (xs : List Float) (second : Float) → length xs ≤ 1 → Ops.zero ⊕ second ≡ second → foldl before second xs ≡ foldl ◌⊕◌ Ops.zero xs ⊕ second
before-one [] second h z = sym z
before-one (x ∷ []) second h z = refl
before-one (x ∷ y ∷ xs) second h z = absurd (omega arith)

-- ---- the sums on the diagonal

-- the sum of a free edge
pub diagonal-sum : (F : FaceLists) (ls : List Float) (free : List ℕ) → Once free → Simplices F.pents F.triangles → Found F.edges 2 F.triangles → (m e : ℕ) → e < m → Memᴰ e free
    → get_or (scatter nan ◌⊕◌ (gather (diagonal_at F ls) (local_triangles F free)) (replicate m Ops.zero)) e nan ≡ first_term F ls e e
unfolding first_term
diagonal-sum F ls free once ok found m e h k =
    scatter-at nan ◌⊕◌ (gather (diagonal_at F ls) (local_triangles F free)) (replicate m Ops.zero) e (rw (length-replicate m Ops.zero) h)
    ∙ rw (get_or-replicate m e Ops.zero nan h, diagonal-entry F ls free once ok found e k) refl

module _ (free : List ℕ) (sums : List Float) (i j : ℕ) (hi : i < length free) (hj : j < length free) where
  row_of : (k : ℕ) → k < length free → k * length free + k ≡ i * length free + j → (k ≡ i) × (k ≡ j)
  row_of k h e =
      (sym (digits_div k h) ∙ ap (λ (x : ℕ). x / length free) e ∙ digits_div i hj, sym (digits_mod k h) ∙ ap (λ (x : ℕ). x % length free) e ∙ digits_mod i hj)

  on-diagonal : i ≡ j → hits (i * length free + j) (diagonal_events free sums) ≡ get_or sums (get_or free i 0) nan ∷ []
  unfolding diagonal_events
  on-diagonal e =
      hits-one (i * length free + j) (λ k. k * length free + k) (λ k. get_or sums (get_or free k 0) nan) (upto (length free)) i (rising-once (upto (length free)) (upto-rising (length free))) (upto-mem (length free) i hi) (ap (λ (k : ℕ). i * length free + k) e)
      (λ k m q. (row_of k (mem-upto (length free) k m) q).0)

  off-diagonal : (i ≡ j → ⊥) → hits (i * length free + j) (diagonal_events free sums) ≡ []
  unfolding diagonal_events
  off-diagonal ne =
      hits-none (i * length free + j) (map (λ k. (k * length free + k, get_or sums (get_or free k 0) nan)) (upto (length free)))
      (λ a m q.
      let w : (k : ℕ) × Memᴰ k (upto (length free)) × ((k * length free + k, get_or sums (get_or free k 0) nan) ≡ a) = Memᴰ.of_map (λ k. (k * length free + k, get_or sums (get_or free k 0) nan)) (upto (length free)) m in
      let r = row_of w.0 (mem-upto (length free) w.0 w.1) (ap (λ (b : ℕ × Float). b.0) w.2 ∙ q) in
      ne (sym r.0 ∙ r.1))

-- ---- the matrix

div_below : (k n m : ℕ) → 0 < n → k < m * n → k / n < m
div_below k n m h l = ⊎_elim (λ p. p) (λ q. let r : m * n ≤ k / n * n = mul-le-mul_right n q in absurd (omega (arith, l, r, div-add-mod' k n))) (lt-or-ge (k / n) m)

no-square : (n : ℕ) → n ≤ 0 → n * n ≡ 0
no-square n h = let e : n ≡ 0 = omega arith in rw e refl

empty-list : {A : Type 0} (xs : List A) → length xs ≡ 0 → xs ≡ []
empty-list [] h = refl
empty-list (x ∷ xs) h = absurd (omega arith)

empty-gather : {B : Type 0} (f : ℕ → List B) (xs : List ℕ) → length xs ≤ 0 → gather f xs ≡ []
unfolding gather
empty-gather f [] h = refl
empty-gather f (x ∷ xs) h = absurd (omega arith)

-- a row and a column below n have a place in the matrix
in-matrix : (n : ℕ) (a : ℕ × Float) → (i : ℕ) × (j : ℕ) × (i < n) × (j < n) × (a.0 ≡ i * n + j) → a.0 < n * n
in-matrix n a w = subst (λ (k : ℕ). k < n * n) (sym w.4) (digits_lt w.2 w.3)

module _ (F : FaceLists) (ls : List Float) (free : List ℕ) (eps : Float) (once : Once free) (ok : Simplices F.pents F.triangles) (found : Found F.edges 2 F.triangles)
    (wide : Wide 5 F.pents) (pents-found : Found F.edges 2 F.pents) (sums : List Float) (summed : (e : ℕ) → Memᴰ e free → get_or sums e nan ≡ first_term F ls e e) where
  abbrev n : ℕ
  n = length free

  abbrev seconds : List (ℕ × Float)
  seconds = gather (second_at F ls free eps) (local_pents F free)

  abbrev firsts : List (ℕ × Float)
  firsts = gather (first_at F ls free) (local_triangles F free)

  -- after the second term
  abbrev matrix2 : List Float
  matrix2 = scatter nan ◌⊕◌ seconds (replicate (n * n) Ops.zero)

  -- after the first term off the diagonal
  abbrev matrix1 : List Float
  matrix1 = scatter nan before firsts matrix2

  -- at the end
  abbrev matrix : List Float
  matrix = scatter nan ahead (diagonal_events free sums) matrix1

  length2 : length matrix2 ≡ n * n
  length2 = length-scatter nan ◌⊕◌ seconds (replicate (n * n) Ops.zero) ∙ length-replicate (n * n) Ops.zero

  length1 : length matrix1 ≡ n * n
  length1 = length-scatter nan before firsts matrix2 ∙ length2

  length0 : length matrix ≡ n * n
  length0 = length-scatter nan ahead (diagonal_events free sums) matrix1 ∙ length1

  module _ (i j : ℕ) (hi : i < n) (hj : j < n) where
    abbrev place : ℕ
    place = i * n + j

    inside : place < n * n
    inside = digits_lt hi hj

    abbrev e : ℕ
    e = get_or free i 0

    abbrev f : ℕ
    f = get_or free j 0

    second_is : get_or matrix2 place nan ≡ second_term F ls eps e f
    unfolding second_term
    second_is =
        scatter-at nan ◌⊕◌ seconds (replicate (n * n) Ops.zero) place (rw (length-replicate (n * n) Ops.zero) inside)
        ∙ rw (get_or-replicate (n * n) place Ops.zero nan inside, second-entry F ls free once wide pents-found eps i j hi hj) refl

    second-plus : Ops.zero ⊕ second_term F ls eps e f ≡ second_term F ls eps e f
    unfolding second_term
    second-plus = sum-from-zero (adds_at e f (gather (second_of F ls eps) (upto (length F.pents)))) (second_fits F ls free once wide pents-found eps e f)

    matrix-reads : get_or matrix place nan ≡ foldl ahead (foldl before (second_term F ls eps e f) (hits place firsts)) (hits place (diagonal_events free sums))
    matrix-reads =
        scatter-at nan ahead (diagonal_events free sums) matrix1 place (rw length1 inside)
        ∙ ap (λ (h : Float). foldl ahead h (hits place (diagonal_events free sums))) (scatter-at nan before firsts matrix2 place (rw length2 inside) ∙ ap (λ (h : Float). foldl before h (hits place firsts)) second_is)

    -- an entry is the sum of both terms
    entry-is : get_or matrix place nan ≡ entry F ls eps e f
    unfolding entry first_term
    entry-is = matrix-reads ∙ ⊎_elim same other (eq-or-ne i j)
      where
        same : i ≡ j → foldl ahead (foldl before (second_term F ls eps e f) (hits place firsts)) (hits place (diagonal_events free sums)) ≡ first_term F ls e f ⊕ second_term F ls eps e f
        same q =
            let z : hits place firsts ≡ [] = subst (λ (k : ℕ). hits (i * n + k) firsts ≡ []) q (first-none F ls free once ok found i hi) in
            let d : get_or sums e nan ≡ first_term F ls e f = summed e (get_or-mem free i 0 hi) ∙ ap (λ (k : ℕ). first_term F ls e (get_or free k 0)) q in
            rw (z, on-diagonal free sums i j hi hj q) (ap (λ (x : Float). x ⊕ second_term F ls eps e f) d)

        other : (i ≡ j → ⊥) → foldl ahead (foldl before (second_term F ls eps e f) (hits place firsts)) (hits place (diagonal_events free sums)) ≡ first_term F ls e f ⊕ second_term F ls eps e f
        other ne =
            let differ : e ≡ f → ⊥ = λ q. ne (one_place free i j once hi hj q) in
            rw (first_entry F ls free once ok found i j hi hj differ, off-diagonal free sums i j hi hj ne)
            (before-one (adds_at e f (gather (first_of F ls) (upto (length F.triangles)))) (second_term F ls eps e f) (few-all F ls ok found e f differ) second-plus)

  -- all entries, row after row
  matrix-is : matrix ≡ local_hessian F ls free eps
  unfolding local_hessian
  matrix-is = ⊎_elim some none (lt-or-ge 0 n)
    where
      all : ℕ → ℕ → Float
      all j i = entry F ls eps (get_or free i 0) (get_or free j 0)

      by-places : gather (λ e. map (entry F ls eps e) free) free ≡ gather (λ i. map (λ j. all j i) (upto n)) (upto n)
      by-places =
          gather-places (λ e. map (entry F ls eps e) free) free 0
          ∙ gather-same (λ i. map (entry F ls eps (get_or free i 0)) free) (λ i. map (λ j. all j i) (upto n)) (upto n) (λ i m. map-upto (entry F ls eps (get_or free i 0)) free 0 nan)

      reads : matrix ≡ map (λ k. get_or matrix k nan) (upto (n * n))
      reads = sym (map-id matrix) ∙ map-upto (λ x. x) matrix nan nan ∙ ap (λ (k : ℕ). map (λ k. get_or matrix k nan) (upto k)) length0

      some : 0 < n → matrix ≡ gather (λ e. map (entry F ls eps e) free) free
      some h =
          reads
          ∙ map_same (λ k. get_or matrix k nan) (λ k. all (k % n) (k / n)) (upto (n * n))
          (λ k m.
          let l : k < n * n = mem-upto (n * n) k m in
          ap (λ (x : ℕ). get_or matrix x nan) (sym (div-add-mod' k n)) ∙ entry-is (k / n) (k % n) (div_below k n n h l) (mod-lt k h))
          ∙ sym (by-places ∙ map_loops all n n h)

      none : n ≤ 0 → matrix ≡ gather (λ e. map (entry F ls eps e) free) free
      none h = empty-list matrix (omega (arith, length0, no-square n h)) ∙ sym (empty-gather (λ e. map (entry F ls eps e) free) free h)

  -- the same with what follows it
  pub matrix-over : (old zeros after2 after1 : List Float) → zeros ≡ over (replicate (n * n) Ops.zero) old → after2 ≡ scatter nan ◌⊕◌ seconds zeros
      → after1 ≡ scatter nan ahead (diagonal_events free sums) (scatter nan before firsts after2) → after1 ≡ over (local_hessian F ls free eps) old
  unfolding over second_at first_at diagonal_events
  matrix-over old zeros after2 after1 z s t =
      let rest = drop (n * n) old in
      let z2 : zeros ≡ replicate (n * n) Ops.zero ++ rest = z ∙ ap (λ (k : ℕ). replicate (n * n) Ops.zero ++ drop k old) (length-replicate (n * n) Ops.zero) in
      let s2 : after2 ≡ matrix2 ++ rest = s ∙ ap (scatter nan ◌⊕◌ seconds) z2 ∙ scatter-front nan ◌⊕◌ seconds (replicate (n * n) Ops.zero) rest (λ a m. rw (length-replicate (n * n) Ops.zero) (seconds-below a m)) in
      let s1 : scatter nan before firsts after2 ≡ matrix1 ++ rest = ap (scatter nan before firsts) s2 ∙ scatter-front nan before firsts matrix2 rest (λ a m. rw length2 (firsts-below a m)) in
      t
      ∙ ap (scatter nan ahead (diagonal_events free sums)) s1
      ∙ scatter-front nan ahead (diagonal_events free sums) matrix1 rest (λ a m. rw length1 (diagonal-below a m))
      ∙ ap (λ (k : ℕ). matrix ++ drop k old) (sym length0)
      ∙ ap (λ (l : List Float). l ++ drop (length l) old) matrix-is
    where
      seconds-below : (a : ℕ × Float) → Memᴰ a seconds → a.0 < n * n
      seconds-below a m = let w = mem-gather (second_at F ls free eps) (local_pents F free) m in in-matrix n a (placed_below n _ _ a w.2)

      firsts-below : (a : ℕ × Float) → Memᴰ a firsts → a.0 < n * n
      firsts-below a m = let w = mem-gather (first_at F ls free) (local_triangles F free) m in in-matrix n a (placed_below n _ _ a w.2)

      diagonal-below : (a : ℕ × Float) → Memᴰ a (diagonal_events free sums) → a.0 < n * n
      diagonal-below a m =
          let event : ℕ → ℕ × Float = λ k. (k * n + k, get_or sums (get_or free k 0) nan) in
          let w : (k : ℕ) × Memᴰ k (upto n) × (event k ≡ a) = Memᴰ.of_map event (upto n) m in
          let h : w.0 < n = mem-upto n w.0 w.1 in
          in-matrix n a (w.0, w.0, h, h, ap (λ (b : ℕ × Float). b.0) (sym w.2))
