-- The list of a lattice's pentachorons, `foliated_hypercubic`: when it is refused, what is answered, and what is left in the lent list. Definitions only.
use Rattle.refusals.specs.declared.Refusal.{Refusal}
use Rattle.std.specs.Prelude.{ℕ, ◌*◌, ◌≡◌, false, not, cond, List, ltb, length, Err, Ok, Result}
use Rattle.refusals.specs.declared.Refusal.TheVariants.{ShortRoom, LatticeSize}
use Rattle.lists.specs.Rows.{flat, over}
use Rattle.foliation.specs.declared.Lattice.{Lattice}
use Rattle.foliation.specs.declared.coords.LawfulLattice.{LawfulLattice}
use Rattle.foliation.specs.Lattice.{vertex_count, is_lawful, lattice_pents}

-- a size that is checked: the lattice itself where it is lawful, else the refusal
abbrev pub Checked : Lattice → Result LawfulLattice Refusal → Type 0
Checked l (Ok s) = s.lattice ≡ l
Checked l (Err r) = (is_lawful l ≡ false) × (r ≡ LatticeSize)

-- the answer for a list of so many places: LatticeSize for a size that is not lawful, then ShortRoom for a list shorter than 120 numbers a cell
unfoldable pub listed_of : Lattice → ℕ → Result ℕ Refusal
listed_of l room = cond (not (is_lawful l)) (Err LatticeSize) (cond (ltb room (120 * vertex_count l)) (Err ShortRoom) (Ok (length (lattice_pents l))))

-- the list after the call, by its answer: unchanged where it is refused
abbrev pub list_after : Result ℕ Refusal → Lattice → List ℕ → List ℕ
list_after (Ok n) l old = over (flat (lattice_pents l)) old
list_after (Err r) l old = old

-- the call: its answer, and the list after it
pub record ListsPents (l : Lattice) (old : List ℕ) (r : Result ℕ Refusal) (new : List ℕ) : Type 0 where
  pub answered : r ≡ listed_of l (length old)
  pub left : new ≡ list_after r l old
