-- The shortest step along a periodic axis: when it is 0. Assumes nothing.
use Prim.Native.Nat.{ℕ, suc, ◌+◌, ◌-◌, ◌/◌, ◌%◌, ◌≤◌, ◌<◌}
use mathlib.Core.Path.{◌≡◌, refl}
use mathlib.Core.Bool.{Bool, cond}
use native.Mathlib.Omega.{arith}
use lib.Dec.{eqb}
use lib.IntN.{pos, negsuc, sub_ℕ}
use borrow.Author.Tests.{lt-ltb, le-ltb}
use Rattle.lists.proofs.Tests.{Says, pass, fail, eqb-says, ltb-says, says-by, said, passes}
use Rattle.foliation.specs.declared.coords.LawfulLattice.{LawfulLattice}
use Rattle.foliation.proofs.Sizes.{sizes, remainder-below}
use Rattle.lattice_edges.specs.Edges.{min_image, is_zero}

-- ---- differences

-- b - a where a is larger
sub-down : (a b : ℕ) → b < a → sub_ℕ b a ≡ negsuc (a - suc b)
sub-down a b h = rw (lt-ltb b a h) refl

-- b - a where it is no number below 0
sub-up : (a b : ℕ) → a ≤ b → sub_ℕ b a ≡ pos (b - a)
sub-up a b h = rw (le-ltb b a h) refl

-- ---- no step

-- the step is 0 between equal points alone
zero-says : (a b n : ℕ) → a < n → b < n → Says (a ≡ b) (is_zero (min_image a b n))
unfolding min_image
zero-says a b n ha hb = go (ltb-says (a + n / 2) b) (ltb-says (b + n / 2) a)
  where
    plain : {c : Bool} → Says (b < a) c → Says (a ≡ b) (is_zero (cond c (negsuc (a - suc b)) (pos (b - a))))
    plain (pass l) = fail (λ e. omega arith)
    plain (fail f) = says-by (eqb (b - a) 0) (λ t. let z : b - a ≡ 0 = said (eqb-says (b - a) 0) t in omega arith) (λ e. let z : b - a ≡ 0 = omega arith in passes (eqb-says (b - a) 0) z)

    go : {c d : Bool} → Says (a + n / 2 < b) c → Says (b + n / 2 < a) d → Says (a ≡ b) (is_zero (cond c (sub_ℕ b (a + n)) (cond d (sub_ℕ (b + n) a) (sub_ℕ b a))))
    go (pass l) y = rw (sub-down (a + n) b (omega arith)) (fail (λ e. omega arith))
    go (fail f) (pass l) =
        rw (sub-up a (b + n) (omega arith))
        (says-by (eqb (b + n - a) 0) (λ t. let z : b + n - a ≡ 0 = said (eqb-says (b + n - a) 0) t in omega arith) (λ e. let f : ⊥ = omega arith in absurd f))
    go (fail f) (fail g) = plain (ltb-says b a)

-- the type's test of two vertices
pub time-says : (s : LawfulLattice) (a b : ℕ) → Says (a % s.lattice.n_t ≡ b % s.lattice.n_t) (is_zero (min_image (a % s.lattice.n_t) (b % s.lattice.n_t) s.lattice.n_t))
time-says s a b =
    let n = s.lattice.n_t in
    let least = (sizes s).t_least in
    zero-says (a % n) (b % n) n (remainder-below a n least) (remainder-below b n least)
