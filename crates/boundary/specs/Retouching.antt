-- The retouch as it is exported: refusals in plain numbers. Definitions only.
use Rattle.refusals.specs.Refusals.{Outcome, number_in}
use Rattle.std.specs.Prelude.{ℕ, List, ◌≡◌, Float, length}
use Rattle.complex.specs.Builder.{Lists}
use Rattle.calls.specs.Calls.{room_check_of, short_table}
use Rattle.retouch.specs.Retouch.{edge_check_of, Retouched}
use Rattle.boundary.specs.Counts.{counts_of_list}
use Rattle.boundary.specs.Hinges.{faces_lent, Before, call_check_of}

-- a new length x at edge e: the answer as a number, and the lists of lengths, deficits and kinds after the call. The checks say what is said of the complex, then 8, then 9, then 5
pub record TableRetouch (first : Before) (counts : List ℕ) (l : Lists) (ls : List Float) (e : ℕ) (x : Float) (ds : List Float) (ks : List ℕ) (r : ℕ) (ls' ds' : List Float) (ks' : List ℕ) : Type 0 where
  pub answer : Outcome
  pub retouched : Retouched (call_check_of first counts l ls (edge_check_of (counts_of_list counts) e (room_check_of (short_table (counts_of_list counts) (length ds) (length ks))))) (faces_lent counts l) ls e x ds ks answer ls' ds' ks'
  pub numbered : r ≡ number_in answer
