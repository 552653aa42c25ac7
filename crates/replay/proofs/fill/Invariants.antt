-- The loop of `replay::fill`: the places below i are filled. Assumes nothing.
use Rattle.std.proofs.Common.{ℕ, ◌<◌, get_or}
use Rattle.replay.proofs.fill.Given as goal

abbrev pub invariant-loop-i : goal.invariant-loop-i
invariant-loop-i g l = (k : ℕ) (d : g.row.T.Denot) → k < l.i → goal.F-post g l.f k (get_or l.list k d)
