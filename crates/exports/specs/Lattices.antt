-- The calls on lattices as they are exported: numbers, count and sizes in plain numbers. Definitions only.
use Rattle.refusals.specs.declared.Refusal.{Refusal}
use Rattle.refusals.specs.Refusals.{Outcome, number_in, value_or}
use Rattle.std.specs.Prelude.{ℕ, ◌≡◌, List, Result}
use Rattle.complex.specs.Builder.{Lists}
use Rattle.foliation.specs.declared.Lattice.{Lattice}
use Rattle.foliation.specs.Listing as Listing
use Rattle.lattice_edges.specs.OnLattice as OnLattice
use Rattle.boundary.specs.Counts.{counts_of_list}

-- two sizes as a lattice
abbrev pub lattice_of : ℕ → ℕ → Lattice
lattice_of t s = record { n_t = t; n_s = s }

-- the list of a lattice's pentachorons: the answer in plain numbers, and the list and the count after it
pub record Listed (l : Lattice) (old : List ℕ) (count r : ℕ) (new : List ℕ) (count' : ℕ) : Type 0 where
  pub answer : Result ℕ Refusal
  pub lists : Listing.ListsPents l old answer new
  pub numbered : r ≡ number_in answer
  pub counted : count' ≡ value_or answer count

-- a call over a lattice's complex: its answer as a number, and the lent list after it
pub record Filled {A : Type 0} (l : Lattice) (counts : List ℕ) (ls : Lists) (values old : List A) (r : ℕ) (new : List A) : Type 0 where
  pub answer : Outcome
  pub filled : OnLattice.Filled l (counts_of_list counts) ls values old answer new
  pub numbered : r ≡ number_in answer
