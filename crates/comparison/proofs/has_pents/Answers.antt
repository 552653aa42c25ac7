-- `comparison::has_pents` meets its contract. Assumes nothing.
use borrow.Author.Tests.{ne_eqb, le-leb}
use Rattle.complex.specs.Lent.{lists_of}
use Rattle.comparison.specs.CheckParts.{has_pents}
use Rattle.comparison.proofs.BuiltComplex.{given-rows}
use Rattle.comparison.proofs.has_pents.Goals as goal

pub returns-then-len-complex : goal.returns-then-len-complex
unfolding has_pents
returns-then-len-complex c =
    let x = c.args.complex.now in
    let long = c.if-len-complex.true in
    let rows = given-rows x.counts (lists_of x) long in
    rw (ne_eqb _ _ c.if-counts-eq0.false, le-leb _ _ c.if-counts-gt4096.false, le-leb _ _ c.if-counts-gt8192.false, le-leb _ _ long) (rw rows at c.all_rise.ensures)
