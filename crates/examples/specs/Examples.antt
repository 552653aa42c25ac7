-- The examples P1 to P9 as one list, and the one claim made of each: what a definition gives is what is said of it. Definitions only.
use Rattle.std.specs.Prelude.{ℕ, suc, ◌/◌, ◌%◌, ◌≡◌, Bool, true, cond, List, [], ◌∷◌, ◌++◌, eqb, replicate, Float, Ok}
use Rattle.std.specs.Float.{nan}
use Rattle.std.specs.Float.Ieee.{neg, lt}
use Rattle.floats.specs.Ops.{◌⊗◌, dbl, zero, half, one, two}
use Rattle.floats.specs.Algebra.{doubles}
use Rattle.root.specs.Root.{root_of}
use Rattle.refusals.specs.Refusals.{number_in, place_in}
use Rattle.complex.specs.Complex.{tri_to_pents}
use Rattle.complex.specs.Check.{room_for}
use Rattle.complex.specs.Builder.{sorted_pents, check_of, Built, built_of}
use Rattle.geometry.specs.Determinant.{table, cofactor}
use Rattle.geometry.specs.CayleyMenger.{cm}
use Rattle.lorentzian.specs.Triangle.{area_sq, area_sq_grad}
use Rattle.lorentzian.specs.Dihedral.{kind_of, ratio_of, compute_dihedral, dihedral_by, lorentzian_dihedral, pairs}
use Rattle.lorentzian.specs.declared.dihedral.HingeType.{HingeType}
use Rattle.lorentzian.specs.declared.dihedral.HingeType.TheVariants.{Spacelike, Timelike}
use Rattle.lorentzian.specs.declared.dihedral.Dihedral.{Dihedral}
use Rattle.lorentzian.specs.declared.dihedral.Dihedral.TheVariants.{Angle, Boost}

-- ---- the claim

-- what an example speaks of
pub data Answer : Type 0 where
  numbers : List Float → Answer
  dihedrals : List Dihedral → Answer
  kind : HingeType → Answer
  truth : Bool → Answer
  built : Built → Answer
  naturals : List ℕ → Answer
  rows : List (List ℕ) → Answer

-- an example: its number, what the definitions give, and what is said of it
pub record Example : Type 0 where
  pub number : ℕ
  pub given : Answer
  pub said : Answer

-- the n-th example: what is given and what is said
abbrev pub example : ℕ → Answer → Answer → Example
example n given said = record { number = n; given = given; said = said }

-- the two are the same
abbrev pub Holds : Example → Type 0
Holds e = e.given ≡ e.said

-- each of the examples holds
abbrev pub AllHold : List Example → Type 0
AllHold [] = Unit {0}
AllHold (e ∷ es) = Holds e × AllHold es

-- ---- what the examples share

-- the cofactor C_lm of the squared lengths s
abbrev pub C : List Float → ℕ → ℕ → Float
C s l m = cofactor doubles (cm doubles s) (suc l) (suc m)

-- the ratio of the pair l, m
abbrev pub ratio : List Float → ℕ → ℕ → Float
ratio s l m = ratio_of (C s l m) (C s l l) (root_of (C s l l ⊗ C s m m))

-- the dihedral of the pair by the first rule
abbrev pub first : List Float → ℕ → ℕ → Dihedral
first = dihedral_by compute_dihedral

-- 4, 8, 16 and 0.25
abbrev pub four : Float
four = dbl 0x4010_0000_0000_0000

abbrev pub eight : Float
eight = dbl 0x4020_0000_0000_0000

abbrev pub sixteen : Float
sixteen = dbl 0x4030_0000_0000_0000

abbrev pub quarter : Float
quarter = dbl 0x3fd0_0000_0000_0000

-- ---- P1

-- lengths all 1
abbrev pub ones : List Float
ones = replicate 10 one

-- diagonal cofactors 4, the others -1; ratio 0.25; squared area 3/16; area gradient 1/8 each
abbrev pub p1 : List Example
p1 =
    example 1 (numbers (table 25 (λ i. C ones (i / 5) (i % 5)))) (numbers (table 25 (λ i. cond (eqb (i / 5) (i % 5)) four (neg one))))
    ∷ example 1 (numbers (ratio ones 0 1 ∷ [])) (numbers (quarter ∷ []))
    ∷ example 1 (numbers (area_sq one one one ∷ [])) (numbers (dbl 0x3fc8_0000_0000_0000 ∷ []))
    ∷ example 1 (numbers (area_sq_grad one one one)) (numbers (replicate 3 (dbl 0x3fc0_0000_0000_0000)))
    ∷ []

-- ---- P2 and P3

-- lengths -1, 1, 1, 1, 0, 0, 0, 2, 2, 2
abbrev pub mixed : List Float
mixed = neg one ∷ one ∷ one ∷ one ∷ zero ∷ zero ∷ zero ∷ two ∷ two ∷ two ∷ []

-- C_00 = -16, C_11 = 8, C_22 = -8, C_01 = -8, C_02 = 8, and C_23 is the zero -0.0
abbrev pub p2 : List Example
p2 =
    example 2 (numbers (C mixed 0 0 ∷ C mixed 1 1 ∷ C mixed 2 2 ∷ C mixed 0 1 ∷ C mixed 0 2 ∷ C mixed 2 3 ∷ []))
    (numbers (neg sixteen ∷ eight ∷ neg eight ∷ neg eight ∷ eight ∷ neg zero ∷ []))
    ∷ []

-- by either rule (0,1) is Timelike, (0,2) Spacelike, (2,3) Spacelike with bits 3ff921fb54442d18, (1,2) Timelike 0
abbrev pub p3 : (ℕ → ℕ → Dihedral) → List Example
p3 rule =
    example 3 (kind (kind_of (rule 0 1))) (kind Timelike)
    ∷ example 3 (kind (kind_of (rule 0 2))) (kind Spacelike)
    ∷ example 3 (dihedrals (rule 2 3 ∷ [])) (dihedrals (Angle (dbl 0x3ff9_21fb_5444_2d18) ∷ []))
    ∷ example 3 (dihedrals (rule 1 2 ∷ [])) (dihedrals (Boost zero ∷ []))
    ∷ []

-- the ratio of (0,2), which both rules take, is positive
abbrev pub p3_ratio : List Example
p3_ratio = example 3 (truth (lt zero (ratio mixed 0 2))) (truth true) ∷ []

-- ---- P4

-- lengths all 0
abbrev pub zeros : List Float
zeros = replicate 10 zero

-- every pair is Spacelike 0 by the first rule, Timelike 0 by the second
abbrev pub p4 : List Example
p4 =
    example 4 (dihedrals (pairs (first zeros))) (dihedrals (replicate 10 (Angle zero)))
    ∷ example 4 (dihedrals (pairs (lorentzian_dihedral zeros))) (dihedrals (replicate 10 (Boost zero)))
    ∷ []

-- ---- P5 and P6

-- the builder's answer at vertex count n for a list of P pentachorons
abbrev pub build : ℕ → ℕ → List ℕ → Built
build n P given = built_of (check_of n given (room_for P)) n given

-- pentachorons 01234 and 12345
abbrev pub neighbours : List ℕ
neighbours = 0 ∷ 1 ∷ 2 ∷ 3 ∷ 4 ∷ 1 ∷ 2 ∷ 3 ∷ 4 ∷ 5 ∷ []

-- they have 14 edges, 16 triangles and 9 tets
abbrev pub p5 : List Example
p5 = example 5 (built (build 6 2 neighbours)) (built (Ok (record { vertices = 6; pentachorons = 2; edges = 14; triangles = 16; tets = 9 }))) ∷ []

-- pentachoron 4,3,2,1,0 twice
abbrev pub twice : List ℕ
twice = 4 ∷ 3 ∷ 2 ∷ 1 ∷ 0 ∷ 4 ∷ 3 ∷ 2 ∷ 1 ∷ 0 ∷ []

-- it has 10 edges, and each triangle two pentachorons
abbrev pub p6 : List Example
p6 =
    example 6 (built (build 5 2 twice)) (built (Ok (record { vertices = 5; pentachorons = 2; edges = 10; triangles = 10; tets = 5 })))
    ∷ example 6 (rows (tri_to_pents (sorted_pents twice))) (rows (replicate 10 (0 ∷ 1 ∷ [])))
    ∷ []

-- ---- P7 and P8

-- the number and the place of a refusal
abbrev pub refusal : Built → Answer
refusal b = naturals (number_in b ∷ place_in b ∷ [])

-- vertex 5 of 5 gives refusal 3
abbrev pub p7 : List Example
p7 = example 7 (refusal (build 5 1 (0 ∷ 1 ∷ 2 ∷ 3 ∷ 5 ∷ []))) (naturals (3 ∷ 0 ∷ [])) ∷ []

-- 0,0,1,2,3 gives refusal 4
abbrev pub p8 : List Example
p8 = example 8 (refusal (build 5 1 (0 ∷ 0 ∷ 1 ∷ 2 ∷ 3 ∷ []))) (naturals (4 ∷ 0 ∷ [])) ∷ []

-- ---- P9

-- the root of 0.25 is 0.5, that of -1 NaN
abbrev pub p9 : List Example
p9 = example 9 (numbers (root_of quarter ∷ root_of (neg one) ∷ [])) (numbers (half ∷ nan ∷ [])) ∷ []

-- ---- the list

-- all examples
abbrev pub examples : List Example
examples = p1 ++ p2 ++ p3 (first mixed) ++ p3 (lorentzian_dihedral mixed) ++ p3_ratio ++ p4 ++ p5 ++ p6 ++ p7 ++ p8 ++ p9
