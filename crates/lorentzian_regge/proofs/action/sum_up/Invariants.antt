-- `lorentzian_regge::action::sum_up` meets its contract. Assumes nothing.
use Prim.Native.Nat.{ℕ}
use mathlib.Core.Path.{◌≡◌}
use mathlib.Core.List.{List, foldl}
use lib.ListN.{get_or}
use lib.Ieee.{Float, nan}
use Rattle.floats.specs.Ops.{◌⊕◌, ◌⊗◌, zero}
use Rattle.lists.specs.Lists.{upto}
use Rattle.hinges.specs.Hinges.{FaceLists, faces_of}
use Rattle.hinges.specs.Action.{tri_lengths, abs_area}
use Rattle.lorentzian_regge.proofs.action.sum_up.Given as goal

-- a sum with one triangle more
abbrev pub adds : FaceLists → List Float → List Float → Float → ℕ → Float
adds F ls deficits sum t = sum ⊕ abs_area (tri_lengths F ls t) ⊗ get_or deficits t nan

abbrev pub invariant-loop-t : goal.invariant-loop-t
invariant-loop-t l = l.action ≡ foldl (adds (faces_of l.built.complex) l.sq_lengths l.deficits) zero (upto l.t)
