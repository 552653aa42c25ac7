-- Dihedrals by both rules. In either a dihedral is an angle or a boost and carries its one number. Definitions only.
use Rattle.std.specs.Prelude.{ℕ, ◌+◌, ◌≡◌, cond, ◌||◌, List, [], ◌∷◌, ltb, eqb, Float, Result, Ok, Err, codes}
use Rattle.std.specs.Float.Ieee.{neg, lt, le}
use Rattle.refusals.specs.declared.Refusal.{Refusal}
use Rattle.refusals.specs.declared.Refusal.TheVariants.{BadIndex}
use Rattle.floats.specs.Ops.{◌⊕◌, ◌⊗◌, ◌⊘◌, dbl, zero, one}
use Rattle.floats.specs.Methods.{abs_of, signum_of, clamp_unit_of}
use Rattle.floats.specs.Algebra.{doubles}
use Rattle.root.specs.Root.{root_of}
use Rattle.fdlibm.specs.Acos.{acos_of}
use Rattle.fdlibm.specs.Acosh.{acosh_of}
use Rattle.fdlibm.specs.Asinh.{asinh_of}
use Rattle.geometry.specs.Determinant.{cofactor}
use Rattle.geometry.specs.CayleyMenger.{cm}
use Rattle.lorentzian.specs.declared.dihedral.HingeType.{HingeType}
use Rattle.lorentzian.specs.declared.dihedral.HingeType.TheVariants.{Spacelike, Timelike}
use Rattle.lorentzian.specs.declared.dihedral.Dihedral.{Dihedral}
use Rattle.lorentzian.specs.declared.dihedral.Dihedral.TheVariants.{Angle, Boost}

-- ---- the cases

-- 0 for Spacelike, 1 for Timelike
abbrev pub kind_number : HingeType → ℕ
kind_number Spacelike = 0
kind_number Timelike = 1

-- the letter S or T
abbrev pub kind_text : HingeType → List ℕ
kind_text Spacelike = codes "S"
kind_text Timelike = codes "T"

-- an angle's kind is Spacelike, a boost's Timelike
abbrev pub kind_of : Dihedral → HingeType
kind_of (Angle x) = Spacelike
kind_of (Boost x) = Timelike

-- the one number
abbrev pub value_of : Dihedral → Float
value_of (Angle x) = x
value_of (Boost x) = x

-- the number of its kind
abbrev pub kind_number_of : Dihedral → ℕ
kind_number_of d = kind_number (kind_of d)

-- ---- what both rules share

-- the size up to which a ratio is a cosine: 1.0 + 1e-12
abbrev pub ratio_limit : Float
ratio_limit = one ⊕ dbl 0x3d71_9799_812d_ea11

-- -C_lm over the root of the product, its sign turned if C_ll is negative
unfoldable pub ratio_of : Float → Float → Float → Float
ratio_of clm cll root = cond (lt cll zero) (neg one) one ⊗ neg clm ⊘ root

-- the dihedral of a ratio whose cofactors have the same sign; a NaN ratio is a boost
unfoldable pub of_ratio : Float → Dihedral
of_ratio ratio =
    cond (le (abs_of ratio) ratio_limit)
    (Angle (acos_of (clamp_unit_of ratio)))
    (Boost (signum_of ratio ⊗ acosh_of (abs_of ratio)))

-- the dihedral where the product is not positive
unfoldable pub of_mixed : Float → Float → Dihedral
of_mixed clm root = Boost (asinh_of (neg clm ⊘ root))

-- ---- the first rule, on the product

-- below it in size the product is degenerate: 1e-60
abbrev pub product_limit : Float
product_limit = dbl 0x3379_b604_aaac_a626

-- the dihedral of three cofactors: the product rounded once, then the root, then the quotient; a NaN product goes to the last branch
unfoldable pub compute_dihedral : Float → Float → Float → Dihedral
compute_dihedral clm cll cmm =
    let product = cll ⊗ cmm in
    cond (lt (abs_of product) product_limit) (Angle zero)
    (cond (lt zero product)
    (of_ratio (ratio_of clm cll (root_of product)))
    (of_mixed clm (root_of (neg product))))

-- ---- the second rule, on the root

-- below it the root is degenerate: 1e-30
abbrev pub root_limit : Float
root_limit = dbl 0x39b4_484b_feeb_c2a0

-- the dihedral of three cofactors; a degenerate root gives an angle where the product is positive, else a boost
unfoldable pub dihedral_by_root : Float → Float → Float → Dihedral
dihedral_by_root clm cll cmm =
    let product = cll ⊗ cmm in
    cond (lt zero product)
    (cond (lt (root_of product) root_limit) (Angle zero) (of_ratio (ratio_of clm cll (root_of product))))
    (cond (lt (root_of (abs_of product)) root_limit) (Boost zero) (of_mixed clm (root_of (abs_of product))))

-- ---- of a pentachoron

-- the rule that answers by `post` answers what f gives
abbrev pub Gives : (Float → Float → Float → Dihedral → Type 0) → (Float → Float → Float → Dihedral) → Type 0
Gives post f = (x y z : Float) (d : Dihedral) → post x y z d → d ≡ f x y z

-- the dihedral by the rule f at the triangle opposite the edge of the vertices l and m; they are not put in order
unfoldable pub dihedral_by : (Float → Float → Float → Dihedral) → List Float → ℕ → ℕ → Dihedral
dihedral_by f s l m =
    let C = cofactor doubles (cm doubles s) in
    f (C (l + 1) (m + 1)) (C (l + 1) (l + 1)) (C (m + 1) (m + 1))

-- that by the second rule
abbrev pub lorentzian_dihedral : List Float → ℕ → ℕ → Dihedral
lorentzian_dihedral = dihedral_by dihedral_by_root

-- refusal 11 where l or m is above 4, or they are the same
abbrev pub dihedral_answer : List Float → ℕ → ℕ → Result Dihedral Refusal
dihedral_answer s l m = cond (ltb 4 l || (ltb 4 m || eqb l m)) (Err BadIndex) (Ok (lorentzian_dihedral s l m))

-- the dihedral's number, or `other` for a refusal
abbrev pub value_or : Result Dihedral Refusal → Float → Float
value_or (Ok d) other = value_of d
value_or (Err r) other = other

-- the number of the dihedral's kind, or `other` for a refusal
abbrev pub kind_or : Result Dihedral Refusal → ℕ → ℕ
kind_or (Ok d) other = kind_number_of d
kind_or (Err r) other = other

-- what f gives for the pairs 01, 02, 03, 04, 12, 13, 14, 23, 24, 34
abbrev pub pairs : {A : Type 0} → (ℕ → ℕ → A) → List A
pairs f = f 0 1 ∷ f 0 2 ∷ f 0 3 ∷ f 0 4 ∷ f 1 2 ∷ f 1 3 ∷ f 1 4 ∷ f 2 3 ∷ f 2 4 ∷ f 3 4 ∷ []
