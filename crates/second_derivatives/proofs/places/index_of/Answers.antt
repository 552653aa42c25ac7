-- `second_derivatives::places::index_of` meets its contract. Assumes nothing.
use Rattle.std.proofs.Common.{rules, tests}
use lib.Dec.{eqb}
use Rattle.std.proofs.lemmas.Iterator.{YieldsList-from_slice}
use Rattle.std.proofs.lemmas.Iterator.Search.{position_from_yields_List}
use Rattle.second_derivatives.proofs.Placing.{index-found}
use Rattle.second_derivatives.proofs.places.index_of.Goals as goal

pub returns : goal.returns
returns c =
    let a = c.args in
    let found = position_from_yields_List (λ x. eqb x a.edge) _ _ c.position.result c.position.ensures.ran (YieldsList-from_slice a.free_edges.now cc) (λ x b q k. search (rules, tests)) in
    index-found a.edge a.free_edges.now c.position.result c.unwrap_or.result found c.unwrap_or.ensures
