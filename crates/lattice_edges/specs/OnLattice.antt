-- Calls over the complex of a lattice, with a lent list that has a place for each edge: when they are refused, and what they leave. Definitions only.
use Rattle.refusals.specs.Refusals.{Done, Outcome}
use Rattle.std.specs.Prelude.{ℕ, ◌≡◌, Bool, not, cond, ◌&&◌, List, eqb, ltb, length, Err, Ok, Result}
use Rattle.refusals.specs.declared.Refusal.{Refusal}
use Rattle.refusals.specs.declared.Refusal.TheVariants.{ShortRoom, LatticeSize, NotBuilt}
use Rattle.lists.specs.Rows.{flat, begins}
use Rattle.complex.specs.declared.Counts.{Counts}
use Rattle.complex.specs.Builder.{Lists}
use Rattle.complex.specs.Check.{is_built, written_after}
use Rattle.foliation.specs.declared.Lattice.{Lattice}
use Rattle.foliation.specs.declared.coords.LawfulLattice.{LawfulLattice}
use Rattle.foliation.specs.Lattice.{vertex_count, is_lawful, lattice_pents}
use Rattle.lattice_edges.specs.Edges.{Gives, entries_of}

-- vertex count and pentachorons are those of the lattice, in their order
unfoldable pub has_lattice_pents : Lattice → Counts → List ℕ → Bool
has_lattice_pents l c pents = eqb c.vertices (vertex_count l) && eqb c.pentachorons (length (lattice_pents l)) && begins (flat (lattice_pents l)) pents

-- LatticeSize for a size that is not lawful, NotBuilt for a complex that is not built or not that lattice's, then ShortRoom for a list shorter than the number of edges
unfoldable pub lattice_check_of : Lattice → Counts → Lists → ℕ → Outcome
lattice_check_of l c ls room =
    cond (not (is_lawful l)) (Err LatticeSize)
    (cond (not (has_lattice_pents l c ls.pents && is_built c ls)) (Err NotBuilt) (cond (ltb room c.edges) (Err ShortRoom) Done))

-- a call that is checked: the lattice itself where nothing is refused, else the refusal
abbrev pub Checked : Lattice → Counts → Lists → ℕ → Result LawfulLattice Refusal → Type 0
Checked l c ls room (Ok s) = (s.lattice ≡ l) × (lattice_check_of l c ls room ≡ Done)
Checked l c ls room (Err r) = lattice_check_of l c ls room ≡ Err r

-- a call: its answer, and the lent list after it, which has the values of the edges where the call is not refused
pub record Filled {A : Type 0} (l : Lattice) (c : Counts) (ls : Lists) (values old : List A) (r : Outcome) (new : List A) : Type 0 where
  pub answered : r ≡ lattice_check_of l c ls (length old)
  pub left : new ≡ written_after r values old

-- such a call with the entries of some edges as values, whatever h the closure computes
abbrev pub FillsEntries : {A : Type 0} → (LawfulLattice → ℕ → ℕ → A → Type 0) → Lattice → Counts → Lists → List (List ℕ) → List A → Outcome → List A → Type 0
FillsEntries {A} post l c ls es old r new = (h : Lattice → ℕ → ℕ → A) → Gives post h → Filled l c ls (entries_of h l es) old r new
