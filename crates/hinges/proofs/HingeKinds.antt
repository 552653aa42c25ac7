-- The kinds of hinges, as values and as bytes, and two doubles of their deficits. Assumes nothing.
use Rattle.std.specs.Prelude.{Option, Some, None, unwrap_or}
use Prim.Native.Nat.{ℕ, ◌<◌}
use mathlib.Core.Path.{◌≡◌, refl, ap, ◌∙◌}
use mathlib.Core.List.{List, [], ◌∷◌, map, foldl}
use lib.ListN.{length, get_or}
use lib.Ieee.{Float, of_bits, neg, mul}
use Rattle.floats.specs.Ops as Ops
use Rattle.floats.specs.Ops.{◌⊗◌, dbl, two}
use Rattle.lists.specs.Rows.{Wide}
use Rattle.complex.specs.Complex.{holding}
use Rattle.incidence.specs.Incidence.{Simplices}
use Rattle.lorentzian.specs.declared.dihedral.HingeType.{HingeType}
use Rattle.lorentzian.specs.declared.dihedral.HingeType.TheVariants.{Spacelike, Timelike}
use Rattle.lorentzian.specs.declared.dihedral.Dihedral.{Dihedral}
use Rattle.lorentzian.specs.Dihedral.{kind_of}
use Rattle.hinges.specs.declared.hinge.Hinge.{Hinge}
use Rattle.hinges.specs.Hinges.{FaceLists, byte_of, kind_in, pi, deficit_of, first, closed, hinge, hinges, hinge_in, dihedral_in}
use Rattle.hinges.proofs.OnePass.{hinge-in}

-- ---- the kind of a hinge

-- a kind that is there stays
first-stays : (k : HingeType) (ds : List Dihedral) → foldl first (Some k) ds ≡ Some k
unfolding first
first-stays k [] = refl
first-stays k (d ∷ ds) = first-stays k ds

-- the first dihedral decides
pub kind-first : (d : Dihedral) (ds : List Dihedral) → (hinge (d ∷ ds)).kind ≡ kind_of d
unfolding hinge closed first
kind-first d ds = ap (λ (k : (Option HingeType)). unwrap_or k Spacelike) (first-stays (kind_of d) ds)

pub kind-none : (hinge []).kind ≡ Spacelike
unfolding hinge closed
kind-none = refl

-- the kind of a triangle is that of its first pentachoron
pub hinge-kind : (F : FaceLists) (ls : List Float) → Simplices F.pents F.triangles → Wide 5 F.pents → (t : ℕ) → t < length F.triangles → (i : ℕ) (rest : List ℕ)
    → holding F.pents (get_or F.triangles t []) ≡ i ∷ rest → (hinge_in (hinges F ls) t).kind ≡ kind_of (dihedral_in F ls (get_or F.triangles t []) i)
hinge-kind F ls ok five t h i rest e =
    let f = dihedral_in F ls (get_or F.triangles t []) in
    ap (λ (h : Hinge). h.kind) (hinge-in F ls ok five t h ∙ ap (λ (is : List ℕ). hinge (map f is)) e) ∙ kind-first (f i) (map f rest)

-- ---- kinds as bytes

-- a kind that is written is read again
pub kind-byte : (k : (Option HingeType)) → kind_in (byte_of k) ≡ k
kind-byte (Some Spacelike) = refl
kind-byte (Some Timelike) = refl
kind-byte None = refl

-- ---- doubles

-- the 2.0 * PI of a Spacelike deficit
pub two-pi : two ⊗ pi ≡ dbl 0x4019_21fb_5444_2d18
unfolding of_bits mul
two-pi = refl

-- the deficit of a Timelike hinge of sum 0 is -0.0
pub timelike-zero : deficit_of Timelike Ops.zero ≡ dbl 0x8000_0000_0000_0000
unfolding of_bits neg
timelike-zero = refl
