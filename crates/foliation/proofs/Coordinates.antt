-- Coordinates that stay small, and the numbers of vertices. Assumes nothing.
use Prim.Native.Nat.{ℕ, suc, ◌+◌, ◌*◌, ◌/◌, ◌%◌, ◌≤◌, ◌<◌}
use mathlib.Core.Path.{◌≡◌}
use mathlib.Core.Bool.{cond}
use native.Mathlib.Nat.{mod-le, div-le_self, mul-le-mul_left, mul-suc}
use native.Mathlib.Omega.{arith}
use Rattle.lists.proofs.Tests.{Says, pass, fail, eqb-says}
use Rattle.foliation.specs.declared.Lattice.{Lattice}
use Rattle.foliation.specs.declared.coords.Coords.{Coords}
use Rattle.foliation.specs.Lattice.{vertex_count, vertex, coords_of, stepped}
use Rattle.foliation.specs.Parts.{Near}
use Rattle.foliation.proofs.Sizes.{Lawful, remainder-below}

-- ---- small coordinates

-- a vertex has no coordinate above its number
pub coords-near : (l : Lattice) (v m : ℕ) → v ≤ m → Near m (coords_of l v)
unfolding coords_of
coords-near l v m h =
    let nt = l.n_t in
    let ns = l.n_s in
    let r : v / nt ≤ v = div-le_self v nt in
    record {
      t = omega (arith, mod-le v nt);
      x = omega (arith, mod-le (v / nt) ns);
      y = omega (arith, mod-le (v / nt / ns) ns, div-le_self (v / nt) ns);
      z = omega (arith, div-le_self (v / nt) (ns * ns));
    }

pub near-more : (m n : ℕ) (c : Coords) → m ≤ n → Near m c → Near n c
near-more m n c h k = record { t = omega (arith, k.t); x = omega (arith, k.x); y = omega (arith, k.y); z = omega (arith, k.z) }

-- one step makes a coordinate larger by one
pub step-near : (m : ℕ) (c : Coords) (axis : ℕ) → Near m c → Near (m + 1) (stepped c axis)
unfolding stepped
step-near m c axis n = go (eqb-says axis 0) (eqb-says axis 1) (eqb-says axis 2)
  where
    go : {a b d : _} → Says (axis ≡ 0) a → Says (axis ≡ 1) b → Says (axis ≡ 2) d
        → Near (m + 1) (cond a (record { t = c.t + 1; x = c.x; y = c.y; z = c.z }) (cond b (record { t = c.t; x = c.x + 1; y = c.y; z = c.z }) (cond d (record { t = c.t; x = c.x; y = c.y + 1; z = c.z }) (record { t = c.t; x = c.x; y = c.y; z = c.z + 1 }))))
    go (pass p) q r = record { t = omega (arith, n.t); x = omega (arith, n.x); y = omega (arith, n.y); z = omega (arith, n.z) }
    go (fail p) (pass q) r = record { t = omega (arith, n.t); x = omega (arith, n.x); y = omega (arith, n.y); z = omega (arith, n.z) }
    go (fail p) (fail q) (pass r) = record { t = omega (arith, n.t); x = omega (arith, n.x); y = omega (arith, n.y); z = omega (arith, n.z) }
    go (fail p) (fail q) (fail r) = record { t = omega (arith, n.t); x = omega (arith, n.x); y = omega (arith, n.y); z = omega (arith, n.z) }

-- ---- digits

-- a number of two digits
digits-below : (a b n m : ℕ) → a < n → b < m → a + n * b < n * m
digits-below a b n m h k = let p : n * suc b ≤ n * m = mul-le-mul_left n k in omega (arith, mul-suc n b)

module _ (l : Lattice) (ok : Lawful l) (c : Coords) where
  pub plane-below : c.y % l.n_s + l.n_s * (c.z % l.n_s) < l.n_s * l.n_s
  plane-below = digits-below (c.y % l.n_s) (c.z % l.n_s) l.n_s l.n_s (remainder-below c.y l.n_s ok.s_least) (remainder-below c.z l.n_s ok.s_least)

  pub space-below : c.x % l.n_s + l.n_s * (c.y % l.n_s + l.n_s * (c.z % l.n_s)) < l.n_s * (l.n_s * l.n_s)
  space-below = digits-below _ _ l.n_s (l.n_s * l.n_s) (remainder-below c.x l.n_s ok.s_least) plane-below

  pub vertex-below : vertex l c < vertex_count l
  unfolding vertex
  vertex-below = digits-below _ _ l.n_t (l.n_s * (l.n_s * l.n_s)) (remainder-below c.t l.n_t ok.t_least) space-below
