-- What a caller of the cores holds: a complex that `check_built` has accepted, with the numbers that it wrote, is what a core asks for. Assumes nothing.
use Rattle.refusals.specs.Refusals.{Done}
use Prim.Native.Nat.{ℕ}
use mathlib.Core.Path.{◌≡◌, sym}
use mathlib.Core.Bool.{true, not}
use mathlib.Core.List.{List}
use borrow.Author.Tests.{not-false}
use Rattle.refusals.specs.declared.Refusal.TheVariants.{NotBuilt}
use Rattle.lists.proofs.Rows.{begins-over}
use Rattle.complex.specs.declared.Counts.{Counts}
use Rattle.complex.specs.Builder.{Lists}
use Rattle.complex.specs.Check.{is_built, checked_of, Checked}
use Rattle.complex.proofs.Offences.{cond-done}
use Rattle.calls.specs.Calls.{BuiltWith}

module _ (c : Counts) (l : Lists) (pe pt pe' pt' : List ℕ) (checked : Checked c l pe pt Done pe' pt') where
  accepted : is_built c l ≡ true
  unfolding checked_of
  accepted = not-false (is_built c l) (cond-done (not (is_built c l)) NotBuilt _ (sym checked.answered)).0

  -- so that a core may be called with it
  pub checked-built_with : BuiltWith c l pe' pt'
  checked-built_with =
      record {
        built = accepted;
        noted = record { edges = begins-over _ pe pe' checked.edges; triangles = begins-over _ pt pt' checked.triangles };
      }
