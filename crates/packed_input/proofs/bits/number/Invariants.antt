-- `packed_input::bits::number` meets its contract: after i turns n is what the first i bits spell. Assumes nothing.
use Prim.Native.Nat.{◌-◌, ◌≤◌}
use mathlib.Core.Path.{◌≡◌}
use Rattle.packed_input.specs.Format.{field}
use Rattle.packed_input.proofs.bits.number.Given as goal

abbrev pub invariant-loop-i : goal.invariant-loop-i
invariant-loop-i l = (l.i ≤ l.width) × (l.n ≡ field l.input l.at l.i)

abbrev pub decreases-loop-i : goal.decreases-loop-i
decreases-loop-i l = l.width - l.i
