-- The numbers of the edges of triangles, stored triangle after triangle. Assumes nothing.
use Prim.Native.Nat.{ℕ, zero, suc, ◌+◌, ◌*◌, ◌/◌, ◌%◌, ◌≤◌, ◌<◌}
use mathlib.Core.Path.{◌≡◌, sym, ap, ◌∙◌}
use mathlib.Core.Bool.{Bool, true, false, ◌&&◌}
use mathlib.Core.Logic.{⊎_elim}
use mathlib.Core.List.{List, [], ◌∷◌}
use native.Mathlib.Nat.{le_of_suc-le-suc, not-suc-le-zero}
use native.Mathlib.Omega.{arith}
use lib.Dec.{T, ltb, ltb→lt}
use lib.ListN.{length, get_or, take, set, length-set}
use lib.Seq.{get_or-set_same, get_or-set_other, get_or-take, length-take-le}
use Rattle.lists.specs.Groups.{Below, Grouping}
use Rattle.lists.proofs.Tests.{lt-or-ge, eq-or-ne}
use Rattle.complex.specs.Parts.{edge_places, edge_at, Consistent, EdgesOf, Lent, Adjacent}

-- ---- the table of places

-- all numbers of a list are below ten
below_ten : List ℕ → Bool
below_ten [] = true
below_ten (x ∷ xs) = ltb x 10 && below_ten xs

-- all numbers of all rows are below ten
all_below : List (List ℕ) → Bool
all_below [] = true
all_below (r ∷ rs) = below_ten r && all_below rs

first : (a b : Bool) → T (a && b) → T a
first true b t = tt
first false b t = t

rest : (a b : Bool) → T (a && b) → T b
rest true b t = t
rest false b t = absurd t

below-ten : (xs : List ℕ) → T (below_ten xs) → (j : ℕ) → get_or xs j 0 < 10
unfolding below_ten
below-ten [] t j = omega arith
below-ten (x ∷ xs) t zero = ltb→lt x 10 (first (ltb x 10) (below_ten xs) t)
below-ten (x ∷ xs) t (suc j) = below-ten xs (rest (ltb x 10) (below_ten xs) t) j

all-below : (rs : List (List ℕ)) → T (all_below rs) → (q i : ℕ) → get_or (get_or rs q []) i 0 < 10
unfolding all_below
all-below [] t q i = omega arith
all-below (r ∷ rs) t zero i = below-ten r (first (below_ten r) (all_below rs) t) i
all-below (r ∷ rs) t (suc q) i = all-below rs (rest (below_ten r) (all_below rs) t) q i

pub place-below : (q i : ℕ) → get_or (get_or edge_places q []) i 0 < 10
unfolding below_ten all_below
place-below q i = all-below edge_places tt q i

-- ---- three stores

module _ (l : List ℕ) (t a b c : ℕ) (room : 3 * t + 3 ≤ length l) where
  stored : List ℕ
  stored = set (set (set l (3 * t) a) (3 * t + 1) b) (3 * t + 2) c

  stored_other : (p : ℕ) → (p ≡ 3 * t → ⊥) → (p ≡ 3 * t + 1 → ⊥) → (p ≡ 3 * t + 2 → ⊥) → get_or stored p 0 ≡ get_or l p 0
  unfolding stored
  stored_other p f g h =
      get_or-set_other (set (set l (3 * t) a) (3 * t + 1) b) (3 * t + 2) p c 0 h
      ∙ get_or-set_other (set l (3 * t) a) (3 * t + 1) p b 0 g ∙ get_or-set_other l (3 * t) p a 0 f

  stored-first : get_or stored (3 * t + 0) 0 ≡ a
  unfolding stored
  stored-first =
      let z : 3 * t + 0 ≡ 3 * t = omega arith in
      rw z
      (get_or-set_other (set (set l (3 * t) a) (3 * t + 1) b) (3 * t + 2) (3 * t) c 0 (λ e. omega arith)
      ∙ get_or-set_other (set l (3 * t) a) (3 * t + 1) (3 * t) b 0 (λ e. omega arith) ∙ get_or-set_same l (3 * t) a 0 (omega arith))

  stored-second : get_or stored (3 * t + 1) 0 ≡ b
  unfolding stored
  stored-second =
      get_or-set_other (set (set l (3 * t) a) (3 * t + 1) b) (3 * t + 2) (3 * t + 1) c 0 (λ e. omega arith)
      ∙ get_or-set_same (set l (3 * t) a) (3 * t + 1) b 0 (omega (arith, length-set l (3 * t) a))

  stored-third : get_or stored (3 * t + 2) 0 ≡ c
  unfolding stored
  stored-third =
      get_or-set_same (set (set l (3 * t) a) (3 * t + 1) b) (3 * t + 2) c 0
      (omega (arith, length-set (set l (3 * t) a) (3 * t + 1) b, length-set l (3 * t) a))

  -- what stands at another triangle is kept
  stored-apart : (u i : ℕ) → i < 3 → (u ≡ t → ⊥) → get_or stored (3 * u + i) 0 ≡ get_or l (3 * u + i) 0
  stored-apart u i h n =
      ⊎_elim
      (λ (k : u < t). stored_other (3 * u + i) (λ e. omega arith) (λ e. omega arith) (λ e. omega arith))
      (λ (k : t ≤ u). let m : t < u = above k in stored_other (3 * u + i) (λ e. omega arith) (λ e. omega arith) (λ e. omega arith))
      (lt-or-ge u t)
    where
      above : t ≤ u → t < u
      above k = ⊎_elim (λ (g : t < u). g) (λ (g : u ≤ t). absurd (n (omega arith))) (lt-or-ge t u)

-- a turn: the triangle that is met as the k-th gets its edges
module _ (pe pt te : List ℕ) (k room : ℕ) (ok : Consistent pe pt room) (inside : k < length pt) (long : length te ≡ room) (inv : EdgesOf pe pt te k) where
  t : ℕ
  t = get_or pt k 0

  fits : 3 * t + 3 ≤ length te
  unfolding t
  fits = omega (arith, ok.places k inside)

  here : (i : ℕ) → i < 3 → get_or (stored te t (edge_at pe k 0) (edge_at pe k 1) (edge_at pe k 2) fits) (3 * t + i) 0 ≡ edge_at pe k i
  here zero h = stored-first te t (edge_at pe k 0) (edge_at pe k 1) (edge_at pe k 2) fits
  here (suc zero) h = stored-second te t (edge_at pe k 0) (edge_at pe k 1) (edge_at pe k 2) fits
  here (suc (suc zero)) h = stored-third te t (edge_at pe k 0) (edge_at pe k 1) (edge_at pe k 2) fits
  here (suc (suc (suc i))) h = absurd (not-suc-le-zero (le_of_suc-le-suc (le_of_suc-le-suc (le_of_suc-le-suc h))))

  all : (j i : ℕ) → j < k + 1 → i < 3 → get_or (stored te t (edge_at pe k 0) (edge_at pe k 1) (edge_at pe k 2) fits) (3 * get_or pt j 0 + i) 0 ≡ edge_at pe j i
  unfolding t
  all j i hj hi =
      ⊎_elim
      (λ (e : get_or pt j 0 ≡ t). ap (λ (u : ℕ). get_or (stored te t (edge_at pe k 0) (edge_at pe k 1) (edge_at pe k 2) fits) (3 * u + i) 0) e ∙ here i hi ∙ sym (ok.same j k i (omega arith) inside hi e))
      (λ (n : get_or pt j 0 ≡ t → ⊥).
      stored-apart te t (edge_at pe k 0) (edge_at pe k 1) (edge_at pe k 2) fits (get_or pt j 0) i hi n
      ∙ inv.edge j i (before n) hi)
      (eq-or-ne (get_or pt j 0) t)
    where
      before : (get_or pt j 0 ≡ get_or pt k 0 → ⊥) → j < k
      before n = ⊎_elim (λ (g : j < k). g) (λ (g : k ≤ j). let e : j ≡ k = omega arith in absurd (n (ap (λ (m : ℕ). get_or pt m 0) e))) (lt-or-ge j k)

  pub edges-turn : EdgesOf pe pt (set (set (set te (3 * get_or pt k 0) (edge_at pe k 0)) (3 * get_or pt k 0 + 1) (edge_at pe k 1)) (3 * get_or pt k 0 + 2) (edge_at pe k 2)) (k + 1)
  unfolding stored t
  edges-turn = record { edge = all }

-- ---- the numbers of edges, triangle after triangle

-- a number of an edge that is met is a number of an edge
pub edge-at-below : (pe pt : List ℕ) (E room k i : ℕ) → Consistent pe pt room → Below pe E → k < length pt → i < 3 → edge_at pe k i < E
unfolding edge_at
edge-at-below pe pt E room k i ok below hk hi =
    below (10 * (k / 10) + get_or (get_or edge_places (k % 10) []) i 0) (omega (arith, ok.whole, ok.alike, place-below (k % 10) i))

module _ (pe pt te : List ℕ) (E T scratch : ℕ) (lent : Lent) (adj : Adjacent pe pt E T scratch lent) (long : length te ≡ scratch) (edges : EdgesOf pe pt te (length pt)) where
  pub length-triangles : length (take (3 * T) te) ≡ 3 * T
  length-triangles = length-take-le (3 * T) te (omega (arith, adj.tris))

  triangles-below : Below (take (3 * T) te) E
  triangles-below p h =
      let b : p < 3 * T = omega (arith, length-triangles) in
      let m = adj.tri_met (p / 3) (omega arith) in
      let z : 3 * (p / 3) + p % 3 ≡ p = omega arith in
      let e : get_or te p 0 ≡ edge_at pe m.0 (p % 3) =
      ap (λ (q : ℕ). get_or te q 0) (sym z) ∙ ap (λ (t : ℕ). get_or te (3 * t + p % 3) 0) (sym m.2) ∙ edges.edge m.0 (p % 3) m.1 (omega arith) in
      omega (arith, get_or-take (3 * T) te p 0 b, e, edge-at-below pe pt E scratch m.0 (p % 3) adj.consistent adj.edge_below m.1 (omega arith))

  pub can-group-triangles : (i s : ℕ) → 3 * T ≤ i → E < s → Grouping (take (3 * T) te) 3 E i s
  can-group-triangles i s room starts =
      record {
        width = omega arith;
        few = omega (arith, length-triangles, adj.most);
        below = triangles-below;
        room = omega (arith, length-triangles);
        room_starts = starts;
      }
