-- `replay::print_lines` ends: each line starts after the one before. Assumes nothing.
use Rattle.std.proofs.Common.{◌-◌}
use Rattle.replay.proofs.print_lines.Given as goal

abbrev pub decreases-loop-at : goal.decreases-loop-at
decreases-loop-at g l = l.len - l.at
