-- The types and the flat squared lengths of a lattice's edges. Definitions only.
use Rattle.std.specs.Prelude.{ℕ, ◌≡◌, ◌+◌, ◌/◌, ◌%◌, Bool, false, cond, List, length, map, eqb, ltb, get_or, ℤ, pos, negsuc, Float}
use Rattle.std.proofs.Math.IntN.{sub_ℕ}
use Rattle.std.specs.Float.{binary64}
use Rattle.std.specs.Float.Ieee.{neg, of_int}
use Rattle.floats.specs.Ops.{◌⊕◌, ◌⊗◌}
use Rattle.lists.specs.Rows.{rows, over}
use Rattle.foliation.specs.declared.Lattice.{Lattice}
use Rattle.foliation.specs.declared.coords.LawfulLattice.{LawfulLattice}
use Rattle.foliation.specs.Lattice.{coords_of}
use Rattle.lattice_edges.specs.declared.edges.EdgeType.{EdgeType}
use Rattle.lattice_edges.specs.declared.edges.EdgeType.TheVariants.{Spatial, Timelike, Diagonal}

-- the shortest step from a to b along a periodic axis of n points, the Rust's `min_image`: with d = b - a, d - n where d is above n / 2, d + n where it is below -n / 2, which is cut toward zero, and d elsewhere
unfoldable pub min_image : ℕ → ℕ → ℕ → ℤ
min_image a b n = cond (ltb (a + n / 2) b) (sub_ℕ b (a + n)) (cond (ltb (b + n / 2) a) (sub_ℕ (b + n) a) (sub_ℕ b a))

-- ---- types

-- the byte of a type: 0 for Spatial, 1 for Timelike, 2 for Diagonal
abbrev pub type_byte : EdgeType → ℕ
type_byte Spatial = 0
type_byte Timelike = 1
type_byte Diagonal = 2

-- an integer is 0
abbrev pub is_zero : ℤ → Bool
is_zero (pos n) = eqb n 0
is_zero (negsuc n) = false

-- the type of the edge from a to b: Spatial without a step in time, Timelike with a step in time alone, Diagonal with both
unfoldable pub edge_type_of : Lattice → ℕ → ℕ → EdgeType
edge_type_of l a b =
    cond (is_zero (min_image (a % l.n_t) (b % l.n_t) l.n_t)) Spatial (cond (eqb (a / l.n_t) (b / l.n_t)) Timelike Diagonal)

-- the bytes of the types of some edges
unfoldable pub types_of : Lattice → List (List ℕ) → List ℕ
types_of l es = map (λ e. type_byte (edge_type_of l (get_or e 0 0) (get_or e 1 0))) es

-- ---- squared lengths

-- the step along an axis, as a double, times a unit of length
unfoldable pub delta_of : ℕ → ℕ → ℕ → Float → Float
delta_of a b n unit = of_int binary64 (min_image a b n) ⊗ unit

-- -δt² + δx² + δy² + δz², from left to right
unfoldable pub minkowski : Float → Float → Float → Float → Float
minkowski δt δx δy δz = neg δt ⊗ δt ⊕ δx ⊗ δx ⊕ δy ⊗ δy ⊕ δz ⊗ δz

-- the squared length of the edge from a to b
unfoldable pub sq_length_of : Lattice → ℕ → ℕ → Float → Float → Float
sq_length_of l a b spacing dt =
    let p = coords_of l a in
    let q = coords_of l b in
    minkowski (delta_of p.t q.t l.n_t dt) (delta_of p.x q.x l.n_s spacing) (delta_of p.y q.y l.n_s spacing) (delta_of p.z q.z l.n_s spacing)

-- the squared lengths of some edges
unfoldable pub lengths_of : Lattice → List (List ℕ) → Float → Float → List Float
lengths_of l es spacing dt = map (λ e. sq_length_of l (get_or e 0 0) (get_or e 1 0) spacing dt) es

-- ---- entries of edges

-- a closure's answer is what h makes of a lattice and two of its vertices
abbrev pub Gives : {A : Type 0} → (LawfulLattice → ℕ → ℕ → A → Type 0) → (Lattice → ℕ → ℕ → A) → Type 0
Gives {A} post h = (s : LawfulLattice) (a b : ℕ) (v : A) → post s a b v → v ≡ h s.lattice a b

-- the entries of some edges
abbrev pub entries_of : {A : Type 0} → (Lattice → ℕ → ℕ → A) → Lattice → List (List ℕ) → List A
entries_of h l es = map (λ e. h l (get_or e 0 0) (get_or e 1 0)) es

-- the entries of some edges, whatever h the closure computes, go to the front of a list
abbrev pub WritesEntries : {A : Type 0} → (LawfulLattice → ℕ → ℕ → A → Type 0) → LawfulLattice → List ℕ → List A → List A → Type 0
WritesEntries {A} post s edges old new =
    (h : Lattice → ℕ → ℕ → A) → Gives post h → new ≡ over (entries_of h s.lattice (rows 2 (length edges / 2) edges)) old
