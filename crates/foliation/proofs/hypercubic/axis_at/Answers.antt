-- `foliation::hypercubic::axis_at` meets its contract: the table is what `permute` yields. Assumes nothing.
use Prim.Native.Nat.{ℕ, ◌<◌}
use mathlib.Core.Path.{◌≡◌, refl, sym, ap, ◌∙◌}
use mathlib.Core.List.{List, [], map}
use native.Mathlib.Omega.{arith}
use lib.ListN.{length, get_or}
use Rattle.lists.specs.Lists.{gather, upto}
use Rattle.lists.proofs.Elements.{get_or-map, get_or-mem, map_at}
use Rattle.foliation.specs.declared.hypercubic.Axis.{Axis}
use Rattle.foliation.specs.declared.hypercubic.TheConstants.{ORDERS}
use Rattle.foliation.specs.Lattice.{swap, permute, orders}
use Rattle.foliation.specs.Parts.{axis_number}
use Rattle.foliation.proofs.hypercubic.axis_at.Goals as goal

-- the number of an axis in a table of four columns
number-at : (t : List (List Axis)) (d : List Axis) (e : Axis) (i j : ℕ) → i < length t → j < 4 → map length t ≡ map (λ o. 4) t
    → axis_number (get_or (get_or t i d) j e) ≡ get_or (get_or (map (map axis_number) t) i []) j 0
number-at t d e i j h k w =
    let four : length (get_or t i d) ≡ 4 = map_at length (λ o. 4) d t w (get_or-mem t i d h) in
    sym (ap (λ (r : List ℕ). get_or r j 0) (get_or-map (map axis_number) t i d [] h) ∙ get_or-map axis_number (get_or t i d) j e 0 (omega arith))

pub returns : goal.returns
unfolding orders permute swap gather upto
returns c = number-at ORDERS _ _ _ _ c.requires.0 c.requires.1 refl
