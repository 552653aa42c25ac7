-- `hinges::pentachoron::sq_lengths_at` meets its contract. Assumes nothing.
use Rattle.std.proofs.Common.{◌∙◌, get_or, rules}
use lib.Ieee.{nan}
use Rattle.geometry.proofs.Tables.{table-map, table-calls}
use Rattle.hinges.proofs.pentachoron.sq_lengths_at.Goals as goal

pub returns : goal.returns
returns g c =
    let es = c.args.edges.now in
    let ls = c.args.sq_lengths.now in
    table-calls _ _ g.row.N (λ k. get_or ls (get_or es k 0) nan) (λ k y t h q. search rules) nan _ c.from_fn.ensures.items ∙ table-map (λ e. get_or ls e nan) 0 g.row.N es c.requires.0
