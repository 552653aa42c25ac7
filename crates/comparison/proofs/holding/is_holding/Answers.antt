-- `comparison::holding::is_holding` meets its contract. Assumes nothing.
use mathlib.Core.Path.{sym, ◌∙◌}
use mathlib.Core.Bool.{true≢false}
use native.Mathlib.Omega.{arith}
use lib.ListN.{get_or}
use Rattle.lists.proofs.Tests.{fails, says_same, eqb-says}
use Rattle.comparison.proofs.Holdings.{holds-says}
use Rattle.comparison.proofs.holding.is_holding.Goals as goal
use Rattle.comparison.proofs.holding.is_holding.Goals.{then-starts-keys-via-then-starts-keys, then-starts-keys-via-else-starts-keys+then-starts-ne0}

pub returns-then-starts-keys : goal.returns-then-starts-keys
returns-then-starts-keys c =
    let a = c.args.adjacency.now in
    let says = holds-says c.requires a.items.now a.starts.now in
    elim c.then-starts-keys.branch [
      | then-starts-keys-via-then-starts-keys w ↦ sym (fails says (λ p. omega (arith, p.long)))
      | then-starts-keys-via-else-starts-keys+then-starts-ne0 w ↦ sym (fails says (λ p. omega (arith, p.first)))
    ]

pub returns-then-not-part_lies : goal.returns-then-not-part_lies
returns-then-not-part_lies c =
    let a = c.args.adjacency.now in
    let says = holds-says c.requires a.items.now a.starts.now in
    let is = rw c.row.ensures at c.part_lies.ensures in
    sym (fails says (λ p. true≢false (sym (p.parts c.loop-j.j (omega arith)) ∙ sym is ∙ c.if-not-part_lies.true)))

pub returns : goal.returns
returns c =
    let a = c.args.adjacency.now in
    let says = holds-says c.requires a.items.now a.starts.now in
    says_same (λ e. record { long = omega arith; first = c.if-starts-ne0.false; parts = λ i h. c.loop-j.invariant i (omega arith); last = e }) (λ p. p.last)
    (eqb-says (get_or a.starts.now c.args.keys.now.count 0) c.args.total) says
