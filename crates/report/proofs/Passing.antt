-- The calls over a built complex with its lengths, given room, answer. Assumes nothing.
use Rattle.refusals.specs.Refusals.{Done}
use Prim.Native.Nat.{ℕ}
use mathlib.Core.Path.{◌≡◌, refl, ◌∙◌}
use borrow.Author.Tests.{eq-eqb, le-ltb}
use Rattle.complex.specs.declared.Counts.{Counts}
use Rattle.complex.specs.Builder.{Lists}
use Rattle.calls.specs.Calls.{built_check_of, lengths_check_of, room_check_of, short_table}
use Rattle.calls.proofs.BuiltCalls.{others-decide}
use Rattle.lorentzian_regge.specs.Answers.{short_gradient}
use Rattle.report.specs.Report.{Evaluable}

module _ (c : Counts) (l : Lists) (lengths deficits kinds grad : ℕ) (ok : Evaluable c l lengths deficits kinds grad) where
  -- the checks of the hinges pass
  pub table-passes : built_check_of c l (lengths_check_of c lengths (room_check_of (short_table c deficits kinds))) ≡ Done
  unfolding lengths_check_of room_check_of
  table-passes =
      others-decide c l _ ok.built
      ∙ rw (eq-eqb lengths c.edges ok.counted, le-ltb deficits c.triangles ok.deficits_room, le-ltb kinds c.triangles ok.kinds_room) refl

  -- the checks of the gradient pass
  pub gradient-passes : built_check_of c l (lengths_check_of c lengths (room_check_of (short_gradient c grad))) ≡ Done
  unfolding lengths_check_of room_check_of
  gradient-passes = others-decide c l _ ok.built ∙ rw (eq-eqb lengths c.edges ok.counted, le-ltb grad c.edges ok.grad_room) refl
