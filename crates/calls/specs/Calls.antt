-- What calls over a complex and its squared lengths share: when they are refused, a count as their answer, and a list that they fill. Definitions only.
use Rattle.refusals.specs.declared.Refusal.{Refusal}
use Rattle.std.specs.Prelude.{ℕ, Bool, true, not, cond, ◌||◌, List, ◌≡◌, eqb, ltb, Float, Err, Ok, Result}
use Rattle.refusals.specs.Refusals.{Done, Outcome}
use Rattle.refusals.specs.declared.Refusal.TheVariants.{ShortRoom, NotBuilt, LengthCount, EdgeTooLarge, RepeatedEdge, BadIndex}
use Rattle.complex.specs.declared.Counts.{Counts}
use Rattle.complex.specs.Builder.{Lists, too_large, repeats}
use Rattle.complex.specs.Check.{pents_in, is_built, written_after}
use Rattle.comparison.specs.Parts.{Noted}

-- ---- what a core asks

-- a complex is built, and its two incidence lists begin with the edge numbers and triangle numbers of its pentachorons
pub record BuiltWith (c : Counts) (l : Lists) (pe pt : List ℕ) : Type 0 where
  pub built : is_built c l ≡ true
  pub noted : Noted (pents_in c l.pents) pe pt

-- ---- refusals

-- what a check says that hands out a value
abbrev pub outcome_of : {A : Type 0} → Result A Refusal → Outcome
outcome_of (Ok a) = Done
outcome_of (Err r) = Err r

-- 7 where the complex is not built, then what the other checks say
unfoldable pub built_check_of : Counts → Lists → Outcome → Outcome
built_check_of c l others = cond (not (is_built c l)) (Err NotBuilt) others

-- 8 where there are not as many lengths as edges, then what the other checks say
unfoldable pub lengths_check_of : Counts → ℕ → Outcome → Outcome
lengths_check_of c lengths others = cond (not (eqb lengths c.edges)) (Err LengthCount) others

-- 9 where a free edge is not below the number of edges, then 10 where one stands twice, then what the other checks say
unfoldable pub free_check_of : Counts → List ℕ → Outcome → Outcome
free_check_of c free others = cond (too_large c.edges free) (Err EdgeTooLarge) (cond (repeats free) (Err RepeatedEdge) others)

-- 5 where an output is short
unfoldable pub room_check_of : Bool → Outcome
room_check_of short = cond short (Err ShortRoom) Done

-- 11 where there is no triangle of that number
unfoldable pub triangle_check_of : Counts → ℕ → Outcome
triangle_check_of c t = cond (ltb t c.triangles) Done (Err BadIndex)

-- a list has fewer places than there are triangles
abbrev pub short_table : Counts → ℕ → ℕ → Bool
short_table c deficits kinds = ltb deficits c.triangles || ltb kinds c.triangles

-- ---- lent lists

-- a list of numbers: the answer r of checks that say o, and the list after the call, its beginning filled where there is an answer
pub record Filled (o : Outcome) (content old : List Float) (r : Outcome) (new : List Float) : Type 0 where
  pub answered : r ≡ o
  pub entries : new ≡ written_after r content old
