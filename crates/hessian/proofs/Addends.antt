-- Addends in rows and columns: what stands in an entry of the flat matrix is what is added in the row and the column of two free edges. Assumes nothing.
use Prim.Native.Nat.{ℕ, zero, suc, ◌+◌, ◌*◌, ◌/◌, ◌%◌, ◌<◌}
use mathlib.Core.Bool.{Bool, true, false, not, cond, ◌&&◌}
use mathlib.Core.List.{List, [], ◌∷◌, ◌++◌, map, Memᴰ}
use mathlib.Core.Logic.{⊎_elim}
use mathlib.Core.Path.{◌≡◌, refl, sym, ap, ◌∙◌}
use native.Mathlib.Nat.{le_of_suc-le-suc, not-suc-le-zero}
use lib.Arith.{digits_div, digits_mod}
use lib.Dec.{eqb}
use lib.Ieee.{Float}
use lib.ListN.{length, get_or}
use Rattle.lists.specs.Lists.{keep, gather, Once}
use Rattle.lists.specs.Loops.{hits}
use Rattle.lists.proofs.Tests.{Says, pass, fail, eqb-says, ltb-says, both-says, passes, fails}
use Rattle.lists.proofs.Elements.{get_or-mem, get_or-map, keep-only, mem-keep}
use Rattle.lists.proofs.Loops.{hits-append, hits-none}
use Rattle.second_derivatives.specs.Parts.{index_of, places_in, placed_in, placed, on_diagonal, off_diagonal}
use Rattle.second_derivatives.proofs.Placing.{placed-there}
use Rattle.hessian.specs.Hessian.{named, adds_at}

-- ---- places in a list with no repetition

-- what stands at the place that is found
pub index-get : (v : ℕ) (xs : List ℕ) → index_of v xs < length xs → get_or xs (index_of v xs) 0 ≡ v
unfolding index_of
index-get v [] h = absurd (not-suc-le-zero h)
index-get v (x ∷ xs) h = go (eqb-says x v) h (index-get v xs)
  where
    go : {b : Bool} → Says (x ≡ v) b → cond b zero (suc (index_of v xs)) < suc (length xs) → (index_of v xs < length xs → get_or xs (index_of v xs) 0 ≡ v) → get_or (x ∷ xs) (cond b zero (suc (index_of v xs))) 0 ≡ v
    go (pass e) k r = e
    go (fail n) k r = r (le_of_suc-le-suc k)

-- where none stands twice each is found at its own place
pub index-once : (xs : List ℕ) (i : ℕ) → Once xs → i < length xs → index_of (get_or xs i 0) xs ≡ i
unfolding index_of
index-once [] i o h = absurd (not-suc-le-zero h)
index-once (x ∷ xs) zero o h = rw (passes (eqb-says x x) refl) refl
index-once (x ∷ xs) (suc i) o h =
    let m : Memᴰ (get_or xs i 0) xs = get_or-mem xs i 0 (le_of_suc-le-suc h) in
    rw (fails (eqb-says x (get_or xs i 0)) (λ e. o.0 (mathlib.Core.List.Memᴰ.cast e m))) (ap suc (index-once xs i o.1 (le_of_suc-le-suc h)))

-- a number stands in one place
pub one_place : (xs : List ℕ) (i j : ℕ) → Once xs → i < length xs → j < length xs → get_or xs i 0 ≡ get_or xs j 0 → i ≡ j
one_place xs i j o h k e = sym (index-once xs i o h) ∙ ap (λ (v : ℕ). index_of v xs) e ∙ index-once xs j o k

-- ---- what is added in a row and a column

-- the values of one list of addends after another
pub adds-append : (e f : ℕ) (xs ys : List ((ℕ × ℕ) × Float)) → adds_at e f (xs ++ ys) ≡ adds_at e f xs ++ adds_at e f ys
unfolding adds_at
adds-append e f [] ys = refl
adds-append e f (a ∷ xs) ys = go (eqb a.0.0 e && eqb a.0.1 f) (adds-append e f xs ys)
  where
    go : (b : Bool) → adds_at e f (xs ++ ys) ≡ adds_at e f xs ++ adds_at e f ys → cond b (a.1 ∷ adds_at e f (xs ++ ys)) (adds_at e f (xs ++ ys)) ≡ cond b (a.1 ∷ adds_at e f xs) (adds_at e f xs) ++ adds_at e f ys
    go true r = ap (λ (l : List Float). a.1 ∷ l) r
    go false r = r

-- an addend of a value that is added in a row and a column
pub adds-from : (e f : ℕ) (xs : List ((ℕ × ℕ) × Float)) {x : Float} → Memᴰ x (adds_at e f xs) → (a : (ℕ × ℕ) × Float) × Memᴰ a xs × (a.0.0 ≡ e) × (a.0.1 ≡ f) × (a.1 ≡ x)
unfolding adds_at
adds-from e f [] m = absurd (mathlib.Core.List.Memᴰ.not-nil m)
adds-from e f (a ∷ xs) {x} m = go (both-says (eqb-says a.0.0 e) (eqb-says a.0.1 f)) m (λ k. let r = adds-from e f xs k in (r.0, mathlib.Core.List.Memᴰ.tail r.1, r.2, r.3, r.4))
  where
    go : {b : Bool} → Says ((a.0.0 ≡ e) × (a.0.1 ≡ f)) b → Memᴰ x (cond b (a.1 ∷ adds_at e f xs) (adds_at e f xs))
        → (Memᴰ x (adds_at e f xs) → (b : (ℕ × ℕ) × Float) × Memᴰ b (a ∷ xs) × (b.0.0 ≡ e) × (b.0.1 ≡ f) × (b.1 ≡ x)) → (b : (ℕ × ℕ) × Float) × Memᴰ b (a ∷ xs) × (b.0.0 ≡ e) × (b.0.1 ≡ f) × (b.1 ≡ x)
    go (pass w) k later = ⊎_elim (λ q. (a, mathlib.Core.List.Memᴰ.head refl, w.0, w.1, sym q)) later (mathlib.Core.List.Memᴰ.cases_cons k)
    go (fail n) k later = later k

no-elements : {A : Type 0} (xs : List A) → ((x : A) → Memᴰ x xs → ⊥) → xs ≡ []
no-elements [] n = refl
no-elements (x ∷ xs) n = absurd (n x (mathlib.Core.List.Memᴰ.head refl))

-- no addend in that row and column
pub adds_none : (e f : ℕ) (xs : List ((ℕ × ℕ) × Float)) → ((a : (ℕ × ℕ) × Float) → Memᴰ a xs → a.0.0 ≡ e → a.0.1 ≡ f → ⊥) → adds_at e f xs ≡ []
adds_none e f xs n = no-elements (adds_at e f xs) (λ x m. let w = adds-from e f xs m in n w.0 w.1 w.2 w.3)

-- rows and columns below a number
abbrev pub Inside : ℕ → List ((ℕ × ℕ) × Float) → Type 0
Inside n adds = (a : (ℕ × ℕ) × Float) → Memᴰ a adds → (a.0.0 < n) × (a.0.1 < n)

-- an addend by numbers comes from one by places
pub named-from : (es : List ℕ) (adds : List ((ℕ × ℕ) × Float)) → Inside (length es) adds → (a : (ℕ × ℕ) × Float) → Memᴰ a (named es adds)
    → (b : (ℕ × ℕ) × Float) × Memᴰ b adds × (get_or es b.0.0 0 ≡ a.0.0) × (get_or es b.0.1 0 ≡ a.0.1) × Memᴰ a.0.0 es × Memᴰ a.0.1 es
named-from es adds inside a m =
    let w : (b : (ℕ × ℕ) × Float) × Memᴰ b adds × (((get_or es b.0.0 0, get_or es b.0.1 0), b.1) ≡ a) = mathlib.Core.List.Memᴰ.of_map (λ a. ((get_or es a.0.0 0, get_or es a.0.1 0), a.1)) adds m in
    let h = inside w.0 w.1 in
    let r : get_or es w.0.0.0 0 ≡ a.0.0 = ap (λ (x : (ℕ × ℕ) × Float). x.0.0) w.2 in
    let c : get_or es w.0.0.1 0 ≡ a.0.1 = ap (λ (x : (ℕ × ℕ) × Float). x.0.1) w.2 in
    (w.0, w.1, r, c, mathlib.Core.List.Memᴰ.cast (sym r) (get_or-mem es w.0.0.0 0 h.0), mathlib.Core.List.Memᴰ.cast (sym c) (get_or-mem es w.0.0.1 0 h.1))

-- ---- an entry of the flat matrix

mem-placed : (n i j : ℕ) (x : Float) (a : ℕ × Float) → Memᴰ a (placed_in n i j x) → (i < n) × (j < n) × (a.0 ≡ i * n + j)
unfolding placed_in
mem-placed n i j x a m = go (both-says (ltb-says i n) (ltb-says j n)) m
  where
    go : {b : Bool} → Says ((i < n) × (j < n)) b → Memᴰ a (cond b ((i * n + j, x) ∷ []) []) → (i < n) × (j < n) × (a.0 ≡ i * n + j)
    go (pass w) k = ⊎_elim (λ e. (w.0, w.1, ap (λ (b : ℕ × Float). b.0) e)) (λ l. absurd (mathlib.Core.List.Memᴰ.not-nil l)) (mathlib.Core.List.Memᴰ.cases_cons k)
    go (fail f) k = absurd (mathlib.Core.List.Memᴰ.not-nil k)

-- a place is below the count of entries
pub placed_below : (n : ℕ) (at : List ℕ) (adds : List ((ℕ × ℕ) × Float)) (a : ℕ × Float) → Memᴰ a (placed n at adds) → (i : ℕ) × (j : ℕ) × (i < n) × (j < n) × (a.0 ≡ i * n + j)
unfolding placed gather
placed_below n at [] a m = absurd (mathlib.Core.List.Memᴰ.not-nil m)
placed_below n at (b ∷ adds) a m =
    ⊎_elim (λ k. let w = mem-placed n (get_or at b.0.0 0) (get_or at b.0.1 0) b.1 a k in (get_or at b.0.0 0, get_or at b.0.1 0, w.0, w.1, w.2)) (placed_below n at adds a) (mathlib.Core.List.Memᴰ.append_cases (placed_in n (get_or at b.0.0 0) (get_or at b.0.1 0) b.1) m)

module _ (free : List ℕ) (once : Once free) (i j : ℕ) (hi : i < length free) (hj : j < length free) where
  one_addend : (v w : ℕ) (x : Float) → hits (i * length free + j) (placed_in (length free) (index_of v free) (index_of w free) x) ≡ cond (eqb v (get_or free i 0) && eqb w (get_or free j 0)) (x ∷ []) []
  unfolding hits
  one_addend v w x = go (both-says (eqb-says v (get_or free i 0)) (eqb-says w (get_or free j 0)))
    where
      go : {b : Bool} → Says ((v ≡ get_or free i 0) × (w ≡ get_or free j 0)) b → hits (i * length free + j) (placed_in (length free) (index_of v free) (index_of w free) x) ≡ cond b (x ∷ []) []
      go (pass q) =
          let p : index_of v free ≡ i = ap (λ (u : ℕ). index_of u free) q.0 ∙ index-once free i once hi in
          let r : index_of w free ≡ j = ap (λ (u : ℕ). index_of u free) q.1 ∙ index-once free j once hj in
          rw (p, r, placed-there (length free) i j x hi hj, passes (eqb-says (i * length free + j) (i * length free + j)) refl) refl
      go (fail f) =
          hits-none (i * length free + j) (placed_in (length free) (index_of v free) (index_of w free) x)
          (λ a m e.
          let s = mem-placed (length free) (index_of v free) (index_of w free) x a m in
          let t : index_of v free * length free + index_of w free ≡ i * length free + j = sym s.2 ∙ e in
          let p : index_of v free ≡ i = sym (digits_div (index_of v free) s.1) ∙ ap (λ (k : ℕ). k / length free) t ∙ digits_div i hj in
          let r : index_of w free ≡ j = sym (digits_mod (index_of v free) s.1) ∙ ap (λ (k : ℕ). k % length free) t ∙ digits_mod i hj in
          f (sym (index-get v free s.0) ∙ ap (λ (k : ℕ). get_or free k 0) p, sym (index-get w free s.1) ∙ ap (λ (k : ℕ). get_or free k 0) r))

  -- what is placed in row i and column j is what is added there by the numbers of both edges
  pub entry-adds : (es : List ℕ) (adds : List ((ℕ × ℕ) × Float)) → Inside (length es) adds
      → hits (i * length free + j) (placed (length free) (places_in free es) adds) ≡ adds_at (get_or free i 0) (get_or free j 0) (named es adds)
  unfolding placed gather hits adds_at
  entry-adds es [] inside = refl
  entry-adds es (a ∷ adds) inside =
      let at = places_in free es in
      let h = inside a (mathlib.Core.List.Memᴰ.head refl) in
      let v = get_or es a.0.0 0 in
      let w = get_or es a.0.1 0 in
      hits-append (i * length free + j) (placed_in (length free) (get_or at a.0.0 0) (get_or at a.0.1 0) a.1) (placed (length free) at adds)
      ∙ rw (get_or-map (λ e. index_of e free) es a.0.0 0 0 h.0, get_or-map (λ e. index_of e free) es a.0.1 0 0 h.1, one_addend v w a.1, entry-adds es adds (λ b m. inside b (mathlib.Core.List.Memᴰ.tail m)))
      (put (eqb v (get_or free i 0) && eqb w (get_or free j 0)) a.1 (adds_at (get_or free i 0) (get_or free j 0) (named es adds)))
    where
      put : (b : Bool) (x : Float) (r : List Float) → cond b (x ∷ []) [] ++ r ≡ cond b (x ∷ r) r
      put true x r = refl
      put false x r = refl

-- ---- on the diagonal and off it

-- those off it are inside too
pub off-only : (es : List ℕ) (adds : List ((ℕ × ℕ) × Float)) → Inside (length es) adds → Inside (length es) (off_diagonal adds)
unfolding off_diagonal
off-only es adds inside a m = inside a (keep-only (λ a. not (eqb a.0.0 a.0.1)) adds m)

off-differ : (adds : List ((ℕ × ℕ) × Float)) (a : (ℕ × ℕ) × Float) → Memᴰ a (off_diagonal adds) → a.0.0 ≡ a.0.1 → ⊥
unfolding off_diagonal
off-differ adds a m = (mem-keep (λ a. not_eqb a.0.0 a.0.1) adds m).1
  where
    not_eqb : (p q : ℕ) → Says (p ≡ q → ⊥) (not (eqb p q))
    not_eqb p q = go (eqb-says p q)
      where
        go : {b : Bool} → Says (p ≡ q) b → Says (p ≡ q → ⊥) (not b)
        go (pass e) = fail (λ n. n e)
        go (fail n) = pass n

module _ (es : List ℕ) where
  -- off it nothing is missing
  pub off-adds : (e f : ℕ) → (e ≡ f → ⊥) → (adds : List ((ℕ × ℕ) × Float)) → adds_at e f (named es (off_diagonal adds)) ≡ adds_at e f (named es adds)
  unfolding off_diagonal keep adds_at
  off-adds e f ne [] = refl
  off-adds e f ne (a ∷ adds) = go (eqb-says a.0.0 a.0.1) (off-adds e f ne adds)
    where
      go : {b : Bool} → Says (a.0.0 ≡ a.0.1) b → adds_at e f (named es (off_diagonal adds)) ≡ adds_at e f (named es adds)
          → adds_at e f (named es (cond (not b) (a ∷ off_diagonal adds) (off_diagonal adds))) ≡ adds_at e f (named es (a ∷ adds))
      go (pass q) r =
          r ∙ sym (rw (fails (both-says (eqb-says (get_or es a.0.0 0) e) (eqb-says (get_or es a.0.1 0) f)) (λ w. ne (sym w.0 ∙ ap (λ (k : ℕ). get_or es k 0) q ∙ w.1))) refl)
      go (fail n) r =
          ap (λ (l : List Float). cond (eqb (get_or es a.0.0 0) e && eqb (get_or es a.0.1 0) f) (a.1 ∷ l) l) r

  module _ (once : Once es) (e : ℕ) where
    -- on it nothing is left
    pub off-none : (adds : List ((ℕ × ℕ) × Float)) → Inside (length es) adds → adds_at e e (named es (off_diagonal adds)) ≡ []
    off-none adds inside =
        adds_none e e (named es (off_diagonal adds))
        (λ a m p q.
        let w = named-from es (off_diagonal adds) (off-only es adds inside) a m in
        let h = off-only es adds inside w.0 w.1 in
        off-differ adds w.0 w.1 (one_place es w.0.0.0 w.0.0.1 once h.0 h.1 (w.2 ∙ p ∙ sym (w.3 ∙ q))))

    -- what is added on it
    pub on-adds : (adds : List ((ℕ × ℕ) × Float)) → Inside (length es) adds → hits e (on_diagonal es adds) ≡ adds_at e e (named es adds)
    unfolding on_diagonal keep hits adds_at
    on-adds [] inside = refl
    on-adds (a ∷ adds) inside = go (eqb-says a.0.0 a.0.1) (on-adds adds (λ b m. inside b (mathlib.Core.List.Memᴰ.tail m)))
      where
        v : ℕ
        v = get_or es a.0.0 0

        w : ℕ
        w = get_or es a.0.1 0

        twice : (b : Bool) → (b && b) ≡ b
        twice true = refl
        twice false = refl

        go : {b : Bool} → Says (a.0.0 ≡ a.0.1) b → hits e (on_diagonal es adds) ≡ adds_at e e (named es adds)
            → hits e (map (λ a. (get_or es a.0.0 0, a.1)) (cond b (a ∷ keep (λ a. eqb a.0.0 a.0.1) adds) (keep (λ a. eqb a.0.0 a.0.1) adds))) ≡ cond (eqb v e && eqb w e) (a.1 ∷ adds_at e e (named es adds)) (adds_at e e (named es adds))
        go (pass q) r =
            ap (λ (l : List Float). cond (eqb v e) (a.1 ∷ l) l) r
            ∙ ap (λ (b : Bool). cond b (a.1 ∷ adds_at e e (named es adds)) (adds_at e e (named es adds))) (sym (ap (λ (k : ℕ). eqb v e && eqb (get_or es k 0) e) (sym q) ∙ twice (eqb v e)))
        go (fail n) r =
            r ∙ sym (rw (fails (both-says (eqb-says v e) (eqb-says w e)) (λ p. n (one_place es a.0.0 a.0.1 once (inside a (mathlib.Core.List.Memᴰ.head refl)).0 (inside a (mathlib.Core.List.Memᴰ.head refl)).1 (p.0 ∙ sym p.1)))) refl)

-- ---- events of some numbers

-- what the kept numbers put at a place, where they put what is added in a row and a column and the others add nothing there
pub kept-adds : (k e f : ℕ) (event : ℕ → List (ℕ × Float)) (adds : ℕ → List ((ℕ × ℕ) × Float)) (q : ℕ → Bool) (xs : List ℕ)
    → ((x : ℕ) → Memᴰ x xs → hits k (event x) ≡ adds_at e f (adds x)) → ((x : ℕ) → Memᴰ x xs → q x ≡ false → adds_at e f (adds x) ≡ [])
    → hits k (gather event (keep q xs)) ≡ adds_at e f (gather adds xs)
unfolding gather keep hits adds_at
kept-adds k e f event adds q [] same none = refl
kept-adds k e f event adds q (x ∷ xs) same none =
    go (q x) refl (kept-adds k e f event adds q xs (λ y m. same y (mathlib.Core.List.Memᴰ.tail m)) (λ y m. none y (mathlib.Core.List.Memᴰ.tail m))) ∙ sym (adds-append e f (adds x) (gather adds xs))
  where
    go : (b : Bool) → q x ≡ b → hits k (gather event (keep q xs)) ≡ adds_at e f (gather adds xs) → hits k (gather event (cond b (x ∷ keep q xs) (keep q xs))) ≡ adds_at e f (adds x) ++ adds_at e f (gather adds xs)
    go true p r = hits-append k (event x) (gather event (keep q xs)) ∙ rw (same x (mathlib.Core.List.Memᴰ.head refl), r) refl
    go false p r = r ∙ rw (none x (mathlib.Core.List.Memᴰ.head refl) p) refl
