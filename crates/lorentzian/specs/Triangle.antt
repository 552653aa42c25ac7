-- The squared area of a triangle of signed squared lengths, and its gradient, by its own lengths and by a pentachoron's. Definitions only.
use Rattle.std.specs.Prelude.{ℕ, zero, suc, ◌+◌, ◌-◌, Bool, cond, ◌||◌, List, [], ◌∷◌, ltb, eqb, get_or, set, replicate, Float, Err, Result}
use Rattle.std.specs.Float.{nan}
use Rattle.refusals.specs.declared.Refusal.{Refusal}
use Rattle.refusals.specs.declared.Refusal.TheVariants.{BadIndex}
use Rattle.refusals.specs.Refusals.{Outcome, Done, answer_by}
use Rattle.floats.specs.Ops as Ops
use Rattle.floats.specs.Ops.{◌⊕◌, ◌⊖◌, ◌⊘◌, dbl, two}
use Rattle.floats.specs.Algebra.{Algebra, doubles}

-- ---- a triangle

-- 16 times the squared area, over any algebra with its 2: 2ab + 2bc + 2ca - a² - b² - c²
unfoldable pub area16 : {A : Type 0} → Algebra A → A → A → A → A → A
area16 o two a b c =
    o.sub
    (o.sub
    (o.sub
    (o.add
    (o.add (o.mul (o.mul two a) b) (o.mul (o.mul two b) c))
    (o.mul (o.mul two c) a))
    (o.mul a a))
    (o.mul b b))
    (o.mul c c)

-- the squared area of the triangle of squared lengths 01, 02, 12
unfoldable pub area_sq : Float → Float → Float → Float
area_sq s01 s02 s12 = area16 doubles two s01 s02 s12 ⊘ dbl 0x4030_0000_0000_0000

-- its derivatives by s01, s02, s12
unfoldable pub area_sq_grad : Float → Float → Float → List Float
area_sq_grad s01 s02 s12 =
    let eight = dbl 0x4020_0000_0000_0000 in
    ((s02 ⊕ s12 ⊖ s01) ⊘ eight) ∷ ((s01 ⊕ s12 ⊖ s02) ⊘ eight) ∷ ((s01 ⊕ s02 ⊖ s12) ⊘ eight) ∷ []

-- how large whole lengths may be for an exact squared area
abbrev pub limit : ℕ
limit = 16777216

-- ---- a triangle of a pentachoron

-- the number of the edge of two vertices, the lower one first: 01, 02, 03, 04, 12, 13, 14, 23, 24, 34
unfoldable pub edge_of : ℕ → ℕ → ℕ
edge_of zero high = high - 1
edge_of (suc zero) high = high + 2
edge_of (suc (suc zero)) high = high + 4
edge_of (suc (suc (suc low))) high = 9

-- the number of the edge of two vertices
unfoldable pub edge_idx : ℕ → ℕ → ℕ
edge_idx a b = cond (ltb a b) (edge_of a b) (edge_of b a)

-- a, b and c are no three of a pentachoron's five vertices: one is above 4, or two are the same
unfoldable pub no_triangle : ℕ → ℕ → ℕ → Bool
no_triangle a b c = ltb 4 a || (ltb 4 b || (ltb 4 c || (eqb a b || (eqb a c || eqb b c))))

-- the derivatives of the squared area of abc by the ten squared lengths s
unfoldable pub grad_in_pent : List Float → ℕ → ℕ → ℕ → List Float
grad_in_pent s a b c =
    let grad = area_sq_grad (get_or s (edge_idx a b) nan) (get_or s (edge_idx a c) nan) (get_or s (edge_idx b c) nan) in
    set (set (set (replicate 10 Ops.zero) (edge_idx a b) (get_or grad 0 nan)) (edge_idx a c) (get_or grad 1 nan)) (edge_idx b c) (get_or grad 2 nan)

-- refusal 11 where the three of `tri` are no triangle
abbrev pub grad_outcome : List ℕ → Outcome
grad_outcome tri = cond (no_triangle (get_or tri 0 0) (get_or tri 1 0) (get_or tri 2 0)) (Err BadIndex) Done

-- the derivatives of the squared area of the three of `tri`, where they are a triangle
abbrev pub grad_answer : List Float → List ℕ → Result (List Float) Refusal
grad_answer s tri = answer_by (grad_outcome tri) (grad_in_pent s (get_or tri 0 0) (get_or tri 1 0) (get_or tri 2 0))
