-- `replay::fill_pattern` meets its contract. Assumes nothing.
use Rattle.std.proofs.Common.{rules}
use Rattle.replay.proofs.Filling.{filled_by}
use Rattle.replay.proofs.fill_pattern.Goals as goal

pub returns : goal.returns
returns g c = filled_by _ _ _ c.fill.ensures.len (λ k d l. search (rules, c.fill.ensures.entries k d l))
