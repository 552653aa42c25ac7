-- The hinges of a complex: a deficit and a kind for each triangle, in one pass over the pentachorons as the Rust has it, and each triangle by itself. Definitions only.
-- Pentachorons, edges and triangles are rising lists of vertices; `ls` has a signed squared length for each edge.
use Rattle.std.specs.Prelude.{ℕ, zero, suc, not, length, get_or, replicate, Float, Option, Some, None, unwrap_or}
use mathlib.Core.List.{List, [], map, foldl}
use Rattle.std.specs.Float.{nan}
use Rattle.std.specs.Float.Ieee.{neg}
use Rattle.floats.specs.Ops as Ops
use Rattle.floats.specs.Ops.{◌⊕◌, ◌⊖◌, ◌⊗◌, dbl, two}
use Rattle.lists.specs.Lists.{keep, gather, upto, combos, among}
use Rattle.lists.specs.Keys.{find}
use Rattle.lists.specs.Loops.{scatter}
use Rattle.complex.specs.declared.Counts.{Counts}
use Rattle.complex.specs.declared.Complex.{Complex}
use Rattle.complex.specs.Complex.{edges, triangles, row_numbers}
use Rattle.complex.specs.Check.{pents_in, edges_in, triangles_in}
use Rattle.incidence.specs.Incidence.{opposite_indices}
use Rattle.lorentzian.specs.declared.dihedral.HingeType.{HingeType}
use Rattle.lorentzian.specs.declared.dihedral.HingeType.TheVariants.{Spacelike, Timelike}
use Rattle.lorentzian.specs.declared.dihedral.Dihedral.{Dihedral}
use Rattle.lorentzian.specs.Dihedral.{kind_number, kind_of, value_of, compute_dihedral, dihedral_by}
use Rattle.hinges.specs.declared.hinge.Hinge.{Hinge}

-- ---- the lists that hinges are read from

-- the rows of pentachorons, edges and triangles, in any numbering
pub record FaceLists : Type 0 where
  pub pents : List (List ℕ)
  pub edges : List (List ℕ)
  pub triangles : List (List ℕ)

-- those of the complex that the builder makes of sorted pentachorons
abbrev pub built_faces : List (List ℕ) → FaceLists
built_faces ps = record { pents = ps; edges = edges ps; triangles = triangles ps }

-- those of lent lists
abbrev pub faces_in : Counts → List ℕ → List ℕ → List ℕ → FaceLists
faces_in c ps es ts = record { pents = pents_in c ps; edges = edges_in c es; triangles = triangles_in c ts }

-- those of a lent complex
abbrev pub faces_of : Complex → FaceLists
faces_of x = faces_in x.counts x.pents.now x.edges.now x.triangles.now

-- ---- kinds as bytes

-- the byte of a kind: 0 Spacelike, 1 Timelike, and 2 where there is none yet
abbrev pub byte_of : Option HingeType → ℕ
byte_of (Some k) = kind_number k
byte_of None = 2

-- the kind of a byte: 0 is Spacelike, 1 Timelike, any other is no kind
abbrev pub kind_in : ℕ → Option HingeType
kind_in zero = Some Spacelike
kind_in (suc zero) = Some Timelike
kind_in (suc (suc n)) = None

-- ---- a hinge

-- the Rust's PI
abbrev pub pi : Float
pi = dbl 0x4009_21fb_5444_2d18

-- the deficit of a hinge whose dihedrals have a sum: 2π less the angles, or the boosts negated
abbrev pub deficit_of : HingeType → Float → Float
deficit_of Spacelike sum = two ⊗ pi ⊖ sum
deficit_of Timelike sum = neg sum

-- the hinge with a sum of dihedrals
abbrev pub hinge_of : HingeType → Float → Hinge
hinge_of k sum = record { deficit = deficit_of k sum; kind = k }

-- a sum with one dihedral more
unfoldable pub plus : Float → Dihedral → Float
plus sum d = sum ⊕ value_of d

-- the kind of a hinge is that of its first dihedral
unfoldable pub first : Option HingeType → Dihedral → Option HingeType
first (Some k) d = Some k
first None d = Some (kind_of d)

-- the hinge of a first kind and a sum; Spacelike where there was no dihedral
unfoldable pub closed : Option HingeType → Float → Hinge
closed k sum = hinge_of (unwrap_or k Spacelike) sum

-- the hinge that has these dihedrals, in this order
unfoldable pub hinge : List Dihedral → Hinge
hinge ds = closed (foldl first None ds) (foldl plus Ops.zero ds)

-- ---- the dihedrals of a pentachoron

-- the lengths of the edges with these numbers
abbrev pub lengths_at : List Float → List ℕ → List Float
lengths_at ls es = map (λ e. get_or ls e nan) es

-- the ten squared lengths of a pentachoron
unfoldable pub pent_lengths : FaceLists → List Float → List ℕ → List Float
pent_lengths F ls p = lengths_at ls (row_numbers F.edges 2 p)

-- the dihedral at the triangle opposite the edge of the local indices l and m, by the rule on the product
abbrev pub dihedral_at : List Float → ℕ → ℕ → Dihedral
dihedral_at = dihedral_by compute_dihedral

-- the same by the list of both local indices
abbrev pub dihedral_of : List Float → List ℕ → Dihedral
dihedral_of s lm = dihedral_at s (get_or lm 0 0) (get_or lm 1 0)

-- the pairs l < m of local indices, in the order of the Rust's loops
abbrev pub local_pairs : List (List ℕ)
local_pairs = combos (upto 5) 2

-- the triangle of a pentachoron that is left by the vertices with the local indices l and m
unfoldable pub without : List ℕ → List ℕ → List ℕ
without p lm = map (λ v. get_or p v 0) (keep (λ v. not (among v lm)) (upto 5))

-- the dihedrals of a pentachoron, each with the number of its triangle
unfoldable pub dihedrals : FaceLists → List Float → List ℕ → List (ℕ × Dihedral)
dihedrals F ls p = map (λ lm. (find (without p lm) F.triangles, dihedral_of (pent_lengths F ls p) lm)) local_pairs

-- ---- all hinges in one pass

-- the dihedrals of all pentachorons
unfoldable pub pass_dihedrals : FaceLists → List Float → List (ℕ × Dihedral)
pass_dihedrals F ls = gather (dihedrals F ls) F.pents

-- the sum of each triangle's dihedrals
unfoldable pub sums : FaceLists → List Float → List Float
sums F ls = scatter nan plus (pass_dihedrals F ls) (replicate (length F.triangles) Ops.zero)

-- the first kind of each triangle
unfoldable pub first_kinds : FaceLists → List Float → List (Option HingeType)
first_kinds F ls = scatter None first (pass_dihedrals F ls) (replicate (length F.triangles) None)

-- `lorentzian_deficit_angles`: the hinge of each triangle
unfoldable pub hinges : FaceLists → List Float → List Hinge
hinges F ls = map (λ t. closed (get_or (first_kinds F ls) t None) (get_or (sums F ls) t nan)) (upto (length F.triangles))

-- the hinge of triangle t in a table
abbrev pub hinge_in : List Hinge → ℕ → Hinge
hinge_in table t = get_or table t (hinge_of Spacelike nan)

-- the deficits of a table
abbrev pub deficits_of : List Hinge → List Float
deficits_of table = map (λ h. h.deficit) table

-- the kinds of a table, as bytes
abbrev pub kinds_of : List Hinge → List ℕ
kinds_of table = map (λ h. kind_number h.kind) table

-- ---- a triangle by itself

-- the dihedral of a triangle in pentachoron i
unfoldable pub dihedral_in : FaceLists → List Float → List ℕ → ℕ → Dihedral
dihedral_in F ls t i = let p = get_or F.pents i [] in dihedral_of (pent_lengths F ls p) (opposite_indices p t)

-- the hinge of triangle t, by the numbers of the pentachorons in which each triangle lies
unfoldable pub hinge_at : FaceLists → List (List ℕ) → List Float → ℕ → Hinge
hinge_at F tri_to_pents ls t = hinge (map (dihedral_in F ls (get_or F.triangles t [])) (get_or tri_to_pents t []))
