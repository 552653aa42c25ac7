-- `packed_input::bits::read_numbers` meets its contract: after i turns the first i entries are written. Assumes nothing.
use mathlib.Core.Path.{◌≡◌, refl, ◌∙◌}
use mathlib.Core.List.{append-nil}
use native.Mathlib.Numerals.{add-one}
use native.Mathlib.Omega.{arith}
use lib.ListN.{length, length-set}
use lib.Seq.{drop-length}
use Rattle.lists.specs.Lists.{upto}
use Rattle.lists.proofs.Rows.{map-turn}
use Rattle.packed_input.specs.Numbers.{entry_in}
use Rattle.packed_input.proofs.bits.read_numbers.Goals as goal

pub loop-i-init : goal.loop-i-init
unfolding upto
loop-i-init g c = (refl, λ h gives. refl)

pub loop-i-preserved : goal.loop-i-preserved
loop-i-preserved g c =
    let a = c.args in
    let l = c.loop-i in (
      length-set l.list l.i c.entry.result ∙ l.invariant.0,
      λ h gives.
          rw (gives _ _ c.entry.ensures, c.number.ensures.0, add-one l.i)
          (map-turn (entry_in h a.input.now a.at a.width) a.list.now l.list l.i (omega (arith, c.loop-i-test.true, l.auto.i-end)) l.invariant.0 (l.invariant.1 h gives)),
    )

pub returns : goal.returns
returns g c h gives =
    let a = c.args in
    let l = c.loop-i in
    let e : l.i ≡ length a.list.now = omega (arith, c.loop-i-test.false, l.auto.i-end) in
    rw e at l.invariant.1 h gives ∙ rw (drop-length a.list.now, append-nil) refl
