-- The builder and the check of a complex as they are exported: numbers, place and counts in plain numbers. Definitions only.
use Rattle.refusals.specs.Refusals.{Outcome, number_in, place_in, value_or}
use Rattle.std.specs.Prelude.{ℕ, ◌≡◌, List}
use Rattle.complex.specs.Check as Check
use Rattle.complex.specs.Builder as Builder
use Rattle.complex.specs.Builder.{Lists, Builds}
use Rattle.boundary.specs.Counts.{counts_list, counts_of_list}

-- the builder at vertex count n and a pentachoron list: its answer in plain numbers, and the lists, counts and place after it
pub record Built (n : ℕ) (given : List ℕ) (before : Lists) (counts : List ℕ) (r : ℕ) (after : Lists) (counts' : List ℕ) (place : ℕ) : Type 0 where
  pub answer : Builder.Built
  pub builds : Builds n given before answer after
  pub numbered : r ≡ number_in answer
  pub placed : place ≡ place_in answer
  pub counted : counts' ≡ counts_list (value_or answer (counts_of_list counts))

-- the check of a complex: its answer as a number, and the edge numbers and triangle numbers after it
pub record Checked (counts : List ℕ) (l : Lists) (pe pt : List ℕ) (r : ℕ) (pe' pt' : List ℕ) : Type 0 where
  pub answer : Outcome
  pub checks : Check.Checked (counts_of_list counts) l pe pt answer pe' pt'
  pub numbered : r ≡ number_in answer
