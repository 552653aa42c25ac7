-- `calls::check_free` meets its contract. Assumes nothing.
use mathlib.Core.Path.{sym, ◌∙◌}
use Rattle.calls.proofs.BuiltCalls.{not-large-below}
use Rattle.calls.proofs.check_free.Goals as goal

pub stands_twice-requires : goal.stands_twice-requires
stands_twice-requires c = not-large-below c.args.counts.edges c.args.free_edges.now (sym c.too_large.ensures ∙ c.if-too_large.false) 81920 c.requires
