-- `lists::matching::match_row` meets its contract. Assumes nothing.
use mathlib.Core.Path.{◌≡◌, refl, sym, ◌∙◌}
use native.Mathlib.Omega.{arith}
use lib.ListN.{length}
use Rattle.lists.specs.Chains.{hash}
use Rattle.lists.proofs.Chains.{head-fits, number-le}
use Rattle.lists.proofs.Matches.{compared-old, compared-full, compared-other, compared-new}
use Rattle.lists.proofs.matching.match_row.Goals as goal

pub overflow_cast-numbers : goal.overflow_cast-numbers
overflow_cast-numbers c =
    let a = c.args in
    let p = c.requires in
    omega (arith, c.find_row-k.ensures, number-le (length a.row.now) a.list.now a.n a.row.now, p.known, p.few)

pub returns-then-k-n : goal.returns-then-k-n
returns-then-k-n c =
    let a = c.args in
    compared-old (length a.row.now) a.list.now a.head.now a.next.now a.numbers.now a.n a.most a.at c.find_row-k.result a.row.now c.requires c.find_row-k.ensures c.if-k-n.true

pub returns-then-n-most : goal.returns-then-n-most
returns-then-n-most c =
    let a = c.args in
    compared-full (length a.row.now) a.list.now a.head.now a.next.now a.numbers.now a.n a.most a.at c.find_row-k.result a.row.now c.requires c.find_row-k.ensures c.if-k-n.false c.if-n-most.true

pub returns-then-not-same_row : goal.returns-then-not-same_row
returns-then-not-same_row c =
    let a = c.args in
    compared-other (length a.row.now) a.list.now a.head.now a.next.now a.numbers.now a.n a.most a.at c.find_row-k.result a.row.now c.requires c.find_row-k.ensures c.if-k-n.false refl c.if-n-most.false (sym c.same_row.ensures ∙ c.if-not-same_row.true)

pub link_row-requires : goal.link_row-requires
link_row-requires c =
    let p = c.requires in
    (head-fits c.args.row.now c.chain_of-chain.result p.indexed c.chain_of-chain.ensures, omega (arith, p.links, p.known), omega (arith, p.few, p.known))

pub returns : goal.returns
returns c =
    let a = c.args in
    let chain : c.chain_of-chain.result ≡ hash a.row.now = c.chain_of-chain.ensures in
    rw (c.link_row.ensures.head, c.link_row.ensures.next, chain)
    (compared-new (length a.row.now) a.list.now a.head.now a.next.now a.numbers.now a.n a.most a.at c.find_row-k.result a.row.now c.requires c.find_row-k.ensures c.if-k-n.false refl c.if-n-most.false (sym c.same_row.ensures ∙ c.if-not-same_row.false))
