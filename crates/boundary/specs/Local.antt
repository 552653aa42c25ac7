-- The calls with free edges as they are exported: refusals and counts in plain numbers. Definitions only.
use Rattle.refusals.specs.declared.Refusal.{Refusal}
use Rattle.refusals.specs.Refusals.{Outcome, number_in, value_or}
use Rattle.std.specs.Prelude.{ℕ, List, ◌≡◌, ltb, Float, length, Result}
use Rattle.complex.specs.Builder.{Lists}
use Rattle.calls.specs.Calls.{free_check_of, room_check_of, Filled}
use Rattle.local_regge.specs.LocalCalls.{short_local, LocallyTabled}
use Rattle.boundary.specs.Counts.{counts_of_list}
use Rattle.boundary.specs.Hinges.{faces_lent, Before, call_check_of}

-- what the checks say: that of the complex, then 8, then 9, then 10, then the others
abbrev pub free_call_check_of : Before → List ℕ → Lists → List Float → List ℕ → Outcome → Outcome
free_call_check_of first counts l ls free others = call_check_of first counts l ls (free_check_of (counts_of_list counts) free others)

-- hinges on free edges: the answer as a number, and the three lists and the count of hinges after the call
pub record LocalTable (first : Before) (counts : List ℕ) (l : Lists) (ls : List Float) (free ts : List ℕ) (ds : List Float) (ks : List ℕ) (count r : ℕ) (ts' : List ℕ) (ds' : List Float) (ks' : List ℕ) (count' : ℕ) : Type 0 where
  pub answer : Result ℕ Refusal
  pub tabled : LocallyTabled (free_call_check_of first counts l ls free (room_check_of (short_local (faces_lent counts l) free (length ts) (length ds) (length ks)))) (faces_lent counts l) ls free ts ds ks answer ts' ds' ks'
  pub numbered : r ≡ number_in answer
  pub counted : count' ≡ value_or answer count

-- a list that needs n places for its content: the answer as a number, and the list after the call
pub record LocalFill (first : Before) (counts : List ℕ) (l : Lists) (ls : List Float) (free : List ℕ) (n : ℕ) (content old : List Float) (r : ℕ) (new : List Float) : Type 0 where
  pub answer : Outcome
  pub filled : Filled (free_call_check_of first counts l ls free (room_check_of (ltb (length old) n))) content old answer new
  pub numbered : r ≡ number_in answer
