-- What a lawful size says. Assumes nothing.
use Prim.Native.Nat.{ℕ, ◌*◌, ◌%◌, ◌≤◌, ◌<◌}
use mathlib.Core.Path.{◌≡◌, subst}
use Rattle.std.specs.Prelude.{Err, Ok, Result}
use Rattle.refusals.specs.declared.Refusal.{Refusal}
use Rattle.refusals.specs.declared.Refusal.TheVariants.{LatticeSize}
use mathlib.Core.Bool.{true, false}
use native.Mathlib.Nat.{mod-lt, mul-le-mul}
use native.Mathlib.Omega.{arith}
use Rattle.lists.proofs.Tests.{Says, leb-says, and-says, both-says, said}
use Rattle.foliation.specs.declared.Lattice.{Lattice}
use Rattle.foliation.specs.declared.coords.LawfulLattice.{LawfulLattice}
use Rattle.foliation.specs.Lattice.{vertex_count, is_lawful}
use Rattle.foliation.specs.Listing.{Checked}

-- n_t and n_s are in 2..8, and there are at most 341 cells
pub record Lawful (l : Lattice) : Type 0 where
  pub t_least : 2 ≤ l.n_t
  pub t_most : l.n_t ≤ 8
  pub s_least : 2 ≤ l.n_s
  pub s_most : l.n_s ≤ 8
  pub cells : vertex_count l ≤ 341

pub lawful-says : (l : Lattice) → Says (Lawful l) (is_lawful l)
unfolding is_lawful
lawful-says l =
    and-says
    (λ (a : (((2 ≤ l.n_t) × (l.n_t ≤ 8)) × (2 ≤ l.n_s)) × (l.n_s ≤ 8)) b. record { t_least = a.0.0.0; t_most = a.0.0.1; s_least = a.0.1; s_most = a.1; cells = b })
    (λ h. (((h.t_least, h.t_most), h.s_least), h.s_most))
    (λ h. h.cells)
    (both-says (both-says (both-says (leb-says 2 l.n_t) (leb-says l.n_t 8)) (leb-says 2 l.n_s)) (leb-says l.n_s 8))
    (leb-says (vertex_count l) 341)

-- what the test of a size says where it passes
pub lawful : (l : Lattice) → is_lawful l ≡ true → Lawful l
lawful l h = said (lawful-says l) h

-- what a lattice of a lawful size has
pub sizes : (s : LawfulLattice) → Lawful s.lattice
sizes s = lawful s.lattice s.lawful

-- ---- the check of a size

-- where it passes
pub checked : (l : Lattice) (r : Result LawfulLattice Refusal) (s : LawfulLattice) → Checked l r → r ≡ Ok s → s.lattice ≡ l
checked l r s h e = subst (Checked l) e h

-- where it refuses
pub unlawful : (l : Lattice) (r : Result LawfulLattice Refusal) (x : Refusal) → Checked l r → r ≡ Err x → (is_lawful l ≡ false) × (x ≡ LatticeSize)
unlawful l r x h e = subst (Checked l) e h

-- ---- bounds

-- a remainder along an axis
pub remainder-below : (v n : ℕ) → 2 ≤ n → v % n < n
remainder-below v n h = mod-lt v (omega arith)

pub square-most : (n : ℕ) → n ≤ 8 → n * n ≤ 64
square-most n h = mul-le-mul h h

pub cube-most : (n : ℕ) → n ≤ 8 → n * (n * n) ≤ 512
cube-most n h = mul-le-mul h (square-most n h)

pub cells-most : (l : Lattice) → l.n_t ≤ 8 → l.n_s ≤ 8 → vertex_count l ≤ 4096
cells-most l h k = mul-le-mul h (cube-most l.n_s k)
