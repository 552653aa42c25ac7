-- The table of hinges as a list of records: what working it out anew and a retouch answer and leave. Definitions only.
use Rattle.refusals.specs.Refusals.{Outcome}
use Rattle.std.specs.Prelude.{ℕ, Bool, List, ◌≡◌, ltb, Float, set}
use Rattle.lists.specs.Writes.{writes}
use Rattle.complex.specs.declared.Counts.{Counts}
use Rattle.complex.specs.Check.{written_after}
use Rattle.hinges.specs.declared.hinge.Hinge.{Hinge}
use Rattle.hinges.specs.Hinges.{FaceLists, hinges}
use Rattle.retouch.specs.Retouch.{touched, anew, after}

-- a table has fewer records than there are triangles
abbrev pub short_records : Counts → ℕ → Bool
short_records c records = ltb records c.triangles

-- all hinges: the answer r of checks that say o, and the table after the call
pub record TableWorked (o : Outcome) (F : FaceLists) (ls : List Float) (table : List Hinge) (r : Outcome) (table' : List Hinge) : Type 0 where
  pub answered : r ≡ o
  pub records : table' ≡ written_after r (hinges F ls) table

-- the retouch: the answer r of checks that say o, and the lengths and the table after the call
pub record TableRetouched (o : Outcome) (F : FaceLists) (ls : List Float) (e : ℕ) (x : Float) (table : List Hinge) (r : Outcome) (ls' : List Float) (table' : List Hinge) : Type 0 where
  pub answered : r ≡ o
  pub lengths : ls' ≡ after r (set ls e x) ls
  pub records : table' ≡ after r (writes (anew F ls e x) (touched F e) table) table
