-- `lists::numbering::meet_row` meets its contract. Assumes nothing.
use Prim.Native.Nat.{ℕ, ◌+◌, ◌*◌, ◌≤◌}
use mathlib.Core.Path.{◌≡◌, refl, ap}
use native.Mathlib.Nat.{mul-suc}
use native.Mathlib.Numerals.{add-one}
use native.Mathlib.Omega.{arith}
use lib.ListN.{length}
use Rattle.lists.specs.Chains.{hash}
use Rattle.lists.proofs.Chains.{head-fits, number-le, met-old, met-new}
use Rattle.lists.proofs.numbering.meet_row.Goals as goal

pub overflow_cast-numbers : goal.overflow_cast-numbers
overflow_cast-numbers c =
    let a = c.args in omega (arith, c.find_row-k.ensures, number-le (length a.row.now) a.list.now a.n a.row.now, c.requires.few)

pub returns-then-k-n : goal.returns-then-k-n
returns-then-k-n c =
    let a = c.args in
    let f = c.find_row-k in
    met-old (length a.row.now) a.list.now a.head.now a.next.now a.numbers.now a.n a.at f.result a.row.now c.requires.indexed (omega (arith, c.requires.numbers)) f.ensures c.if-k-n.true

pub link_row-requires : goal.link_row-requires
link_row-requires c =
    let p = c.requires in
    (head-fits c.args.row.now c.chain_of-chain.result p.indexed c.chain_of-chain.ensures, omega (arith, p.links), omega (arith, p.few))

pub returns : goal.returns
returns c =
    let a = c.args in
    let p = c.requires in
    let f = c.find_row-k in
    let chain : c.chain_of-chain.result ≡ hash a.row.now = c.chain_of-chain.ensures in
    let r : length a.row.now * a.n + length a.row.now ≤ length a.list.now = omega (arith, p.room, ap (λ (m : ℕ). length a.row.now * m) (add-one a.n), mul-suc (length a.row.now) a.n) in
    rw (c.link_row.ensures.head, c.link_row.ensures.next, chain)
    (met-new (length a.row.now) a.list.now a.head.now a.next.now a.numbers.now a.n a.at f.result a.row.now p.indexed (omega (arith, p.numbers)) f.ensures
    c.copy_row.new.list refl c.copy_row.ensures c.if-k-n.false r (omega (arith, p.links)))
