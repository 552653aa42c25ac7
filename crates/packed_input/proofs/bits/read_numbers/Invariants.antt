-- `packed_input::bits::read_numbers` meets its contract: after i turns the first i entries are written. Assumes nothing.
use Prim.Native.Nat.{ℕ}
use mathlib.Core.Path.{◌≡◌}
use mathlib.Core.List.{◌++◌, map}
use lib.ListN.{length, drop}
use Rattle.lists.specs.Lists.{upto}
use Rattle.packed_input.specs.Numbers.{entry_in}
use Rattle.packed_input.proofs.bits.read_numbers.Given as goal

abbrev pub invariant-loop-i : goal.invariant-loop-i
invariant-loop-i g l =
    (length l.list ≡ length l.initial.list)
    × ((h : ℕ → g.row.T.Denot) → ((n : ℕ) (v : g.row.T.Denot) → goal.F-post g l.entry n v → v ≡ h n) → l.list ≡ map (entry_in h l.input l.at l.width) (upto l.i) ++ drop l.i l.initial.list)
