-- The calls on hinges as they are exported: refusals, counts and records in plain numbers. Definitions only.
use Rattle.refusals.specs.declared.Refusal.{Refusal}
use Rattle.refusals.specs.Refusals.{Done, Outcome, answer_by, number_in, value_or}
use Rattle.std.specs.Prelude.{ℕ, ◌≡◌, List, length, Float, Result}
use Rattle.complex.specs.Builder.{Lists}
use Rattle.hinges.specs.declared.hinge.Hinge.{Hinge}
use Rattle.hinges.specs.Hinges.{FaceLists, faces_in, hinges, hinge_in}
use Rattle.hinges.specs.Action as Action
use Rattle.calls.specs.Calls.{lengths_check_of, built_check_of, room_check_of, triangle_check_of, short_table}
use Rattle.lorentzian_regge.specs.Answers as Answers
use Rattle.lorentzian_regge.specs.Answers.{short_gradient, deficit_or, kind_byte_or}
use Rattle.boundary.specs.Counts.{counts_of_list}

-- the face lists of a complex with its counts in plain numbers
abbrev pub faces_lent : List ℕ → Lists → FaceLists
faces_lent counts l = faces_in (counts_of_list counts) l.pents l.edges l.triangles

-- what a call says of its complex, before what its other checks say
abbrev pub Before : Type 0
Before = List ℕ → Lists → Outcome → Outcome

-- a call that checks its complex: 7 where it is not built
abbrev pub checking : Before
checking counts l others = built_check_of (counts_of_list counts) l others

-- a call that asks for a built complex: nothing
abbrev pub trusting : Before
trusting counts l others = others

-- what the checks say: that of the complex, then 8, then the others
abbrev pub call_check_of : Before → List ℕ → Lists → List Float → Outcome → Outcome
call_check_of first counts l ls others = first counts l (lengths_check_of (counts_of_list counts) (length ls) others)

-- all hinges: the answer as a number, and both lists after the call
pub record Tabled (first : Before) (counts : List ℕ) (l : Lists) (ls ds : List Float) (ks : List ℕ) (r : ℕ) (ds' : List Float) (ks' : List ℕ) : Type 0 where
  pub answer : Outcome
  pub tabled : Answers.Tabled (call_check_of first counts l ls (room_check_of (short_table (counts_of_list counts) (length ds) (length ks)))) (faces_lent counts l) ls ds ks answer ds' ks'
  pub numbered : r ≡ number_in answer

-- one hinge: the answer as a number, and the deficit and the kind's byte after the call
pub record HingeCall (first : Before) (counts : List ℕ) (l : Lists) (ls : List Float) (t : ℕ) (deficit : Float) (kind r : ℕ) (deficit' : Float) (kind' : ℕ) : Type 0 where
  pub answer : Result Hinge Refusal
  pub answered : answer ≡ answer_by (call_check_of first counts l ls (triangle_check_of (counts_of_list counts) t)) (hinge_in (hinges (faces_lent counts l) ls) t)
  pub numbered : r ≡ number_in answer
  pub deficit_left : deficit' ≡ deficit_or answer deficit
  pub kind_left : kind' ≡ kind_byte_or answer kind

-- the action: the answer as a number, and the action after the call
pub record ActionCall (first : Before) (counts : List ℕ) (l : Lists) (ls : List Float) (action : Float) (r : ℕ) (action' : Float) : Type 0 where
  pub answer : Result Float Refusal
  pub answered : answer ≡ answer_by (call_check_of first counts l ls Done) (Action.action (faces_lent counts l) ls)
  pub numbered : r ≡ number_in answer
  pub valued : action' ≡ value_or answer action

-- the gradient: the answer as a number, and the list after the call
pub record Graded (first : Before) (counts : List ℕ) (l : Lists) (ls grad : List Float) (r : ℕ) (grad' : List Float) : Type 0 where
  pub answer : Outcome
  pub graded : Answers.Graded (call_check_of first counts l ls (room_check_of (short_gradient (counts_of_list counts) (length grad)))) (faces_lent counts l) ls grad answer grad'
  pub numbered : r ≡ number_in answer
