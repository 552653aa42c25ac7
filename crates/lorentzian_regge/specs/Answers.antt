-- Deficits, action and gradient over a complex: what the calls answer, and what they leave in the lent lists. Definitions only.
use Rattle.refusals.specs.declared.Refusal.{Refusal}
use Rattle.std.specs.Prelude.{ℕ, Bool, List, ◌≡◌, ltb, Float, Err, Ok, Result}
use Rattle.refusals.specs.Refusals.{Outcome}
use Rattle.complex.specs.declared.Counts.{Counts}
use Rattle.complex.specs.Check.{written_after}
use Rattle.lorentzian.specs.Dihedral.{kind_number}
use Rattle.hinges.specs.declared.hinge.Hinge.{Hinge}
use Rattle.hinges.specs.Hinges.{FaceLists, hinges, deficits_of, kinds_of}
use Rattle.hinges.specs.Action.{gradient}
use Rattle.calls.specs.Calls.{Filled}

-- ---- refusals

-- a list has fewer places than there are edges
abbrev pub short_gradient : Counts → ℕ → Bool
short_gradient c grad = ltb grad c.edges

-- ---- answers

-- its deficit, or another for a refusal
abbrev pub deficit_or : Result Hinge Refusal → Float → Float
deficit_or (Ok h) other = h.deficit
deficit_or (Err r) other = other

-- the byte of its kind, or another for a refusal
abbrev pub kind_byte_or : Result Hinge Refusal → ℕ → ℕ
kind_byte_or (Ok h) other = kind_number h.kind
kind_byte_or (Err r) other = other

-- ---- lent lists

-- all hinges: the answer r of checks that say o, and the lists of deficits and kinds after the call
pub record Tabled (o : Outcome) (F : FaceLists) (ls ds : List Float) (ks : List ℕ) (r : Outcome) (ds' : List Float) (ks' : List ℕ) : Type 0 where
  pub answered : r ≡ o
  pub deficits : ds' ≡ written_after r (deficits_of (hinges F ls)) ds
  pub kinds : ks' ≡ written_after r (kinds_of (hinges F ls)) ks

-- the gradient
abbrev pub Graded : Outcome → FaceLists → List Float → List Float → Outcome → List Float → Type 0
Graded o F ls old r new = Filled o (gradient F ls) old r new
