-- `second_derivatives::places::places_in` meets its contract. Assumes nothing.
use Rattle.std.proofs.Common.{rules}
use mathlib.Core.Path.{◌∙◌}
use lib.ListN.{get_or}
use Rattle.geometry.proofs.Tables.{table-calls, table-map}
use Rattle.second_derivatives.specs.Parts.{index_of}
use Rattle.second_derivatives.proofs.places.places_in.Goals as goal

pub returns : goal.returns
returns g c =
    let es = c.args.edges.now in
    let free = c.args.free_edges.now in
    table-calls _ _ _ (λ k. index_of (get_or es k 0) free) (λ k y t h q. search rules) 0 _ c.from_fn.ensures.items ∙ table-map (λ e. index_of e free) 0 _ es c.requires
