-- The lists of deficits and kinds after a call: what its checks say of them. Assumes nothing.
use Prim.Native.Nat.{ℕ}
use mathlib.Core.List.{List}
use mathlib.Core.Path.{◌≡◌, refl, sym, ◌∙◌}
use lib.Ieee.{Float}
use Rattle.std.specs.Prelude.{Err}
use Rattle.refusals.specs.Refusals.{Outcome}
use Rattle.refusals.specs.declared.Refusal.{Refusal}
use Rattle.hinges.specs.Hinges.{FaceLists}
use Rattle.lorentzian_regge.specs.Answers.{Tabled}

module _ {o : Outcome} {F : FaceLists} {ls ds : List Float} {ks : List ℕ} where
  -- a refused call leaves them as they were
  pub table-refused : {r : Outcome} {e : Refusal} → o ≡ Err e → r ≡ Err e → Tabled o F ls ds ks r ds ks
  table-refused f e = record { answered = e ∙ sym f; deficits = rw e refl; kinds = rw e refl }

  -- what holds of checks holds of others that say the same
  pub table-same : {u r : Outcome} {ds' : List Float} {ks' : List ℕ} → o ≡ u → Tabled o F ls ds ks r ds' ks' → Tabled u F ls ds ks r ds' ks'
  table-same e t = record { answered = t.answered ∙ e; deficits = t.deficits; kinds = t.kinds }
