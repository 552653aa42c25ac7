-- The loops of the local Hessian: the turns at marked numbers, and what one pentachoron and one triangle put into the matrix. Assumes nothing.
use Prim.Native.Nat.{ℕ, ◌+◌, ◌<◌}
use mathlib.Core.Bool.{Bool}
use mathlib.Core.List.{List, [], ◌∷◌, map}
use mathlib.Core.Path.{◌≡◌, refl, ap, ◌∙◌}
use lib.Ieee.{Float, nan}
use lib.ListN.{length, get_or}
use Rattle.lists.specs.Lists.{gather}
use Rattle.complex.specs.Complex.{row_numbers}
use Rattle.marks.specs.Marks.{marked_below, next_marked}
use Rattle.marks.proofs.Marking.{AtMark, next-first, scatter-marked}
use Rattle.hinges.specs.declared.hinge.Hinge.{Hinge}
use Rattle.hinges.specs.Hinges.{FaceLists, lengths_at, pent_lengths, hinges, hinge_in}
use Rattle.hinges.specs.Action.{edges_at, tri_lengths}
use Rattle.second_derivatives.specs.declared.matrix.SquareMatrix.{SquareMatrix}
use Rattle.second_derivatives.specs.SecondDerivatives.{first_adds, second_adds}
use Rattle.second_derivatives.specs.Parts.{places_in, placed, on_diagonal, off_diagonal}
use Rattle.second_derivatives.specs.Matrix.{Scattered}
use Rattle.second_derivatives.proofs.Scattering.{scattered-none}
use Rattle.hessian.specs.Parts.{diagonal_at, first_at, second_at}

-- ---- marks

-- a loop over marked numbers has not begun
pub scattered-unmarked : (f : Float → Float → Float) (event : ℕ → List (ℕ × Float)) (marks : List Bool) (t : ℕ) → t ≡ next_marked 0 marks → (m : SquareMatrix) → Scattered f (gather event (marked_below t marks)) m m
unfolding gather
scattered-unmarked f event marks t e m = rw (next-first marks t e) (scattered-none f m)

module _ (f : Float → Float → Float) (event : ℕ → List (ℕ × Float)) (marks : List Bool) (t : ℕ) (at : AtMark marks t) (h : t < length marks) (old now : SquareMatrix) (was : Scattered f (gather event (marked_below t marks)) old now) where
  -- the turn of a marked number
  pub scattered-marked : (es : List (ℕ × Float)) → es ≡ event t → (new : SquareMatrix) → Scattered f es now new → (next : ℕ) → next ≡ next_marked (t + 1) marks → Scattered f (gather event (marked_below next marks)) old new
  scattered-marked es e new is next n =
      record {
        size = is.size ∙ was.size;
        lent = is.lent ∙ was.lent;
        entries = scatter-marked nan f event marks t at h old.entries.now now.entries.now was.entries es e new.entries.now is.entries next n;
      }

-- ---- single addends

-- one of each
pub gather-ones : {A B : Type 0} (f : A → B) (xs : List A) → gather (λ x. f x ∷ []) xs ≡ map f xs
unfolding gather
gather-ones f [] = refl
gather-ones f (x ∷ xs) = ap (λ l. f x ∷ l) (gather-ones f xs)

-- ---- a pentachoron and a triangle

module _ (F : FaceLists) (ls : List Float) (free own at : List ℕ) (n : ℕ) (ne : n ≡ length free) (s : List Float) (t : ℕ) (ae : at ≡ places_in free own) (se : s ≡ lengths_at ls own) where
  -- what the program adds for a pentachoron is what the definition does
  pub second-event : (eps : Float) → own ≡ row_numbers F.edges 2 (get_or F.pents t []) → placed n at (second_adds s eps) ≡ second_at F ls free eps t
  unfolding second_at pent_lengths
  second-event eps oe = rw (ne, ae, se, oe) refl

  module _ (hinge : Hinge) (oe : own ≡ edges_at F t) (he : hinge ≡ hinge_in (hinges F ls) t) where
    -- what it adds on the diagonal for a triangle
    pub diagonal-event : on_diagonal own (first_adds s hinge.deficit) ≡ diagonal_at F ls t
    unfolding diagonal_at tri_lengths
    diagonal-event = rw (se, oe, he) refl

    -- and off the diagonal
    pub first-event : placed n at (off_diagonal (first_adds s hinge.deficit)) ≡ first_at F ls free t
    unfolding first_at tri_lengths
    first-event = rw (ne, ae, se, oe, he) refl
