-- `packed_input::bits::number` meets its contract: after i turns n is what the first i bits spell. Assumes nothing.
use Prim.Native.Nat.{◌+◌}
use mathlib.Core.Path.{◌≡◌, refl}
use native.Mathlib.Omega.{arith}
use Rattle.packed_input.specs.Format.{field}
use Rattle.packed_input.proofs.Spelling.{bit-small, field-small, field-half, field_next}
use Rattle.packed_input.proofs.bits.number.Goals as goal

pub loop-i-init : goal.loop-i-init
unfolding field
loop-i-init c = (omega arith, refl)

pub overflow_mul-n : goal.overflow_mul-n
overflow_mul-n c =
    let a = c.args in
    let l = c.loop-i in
    omega (arith, field-half a.input.now a.at l.i (omega arith))

pub overflow_add-n : goal.overflow_add-n
overflow_add-n c =
    let a = c.args in
    let l = c.loop-i in
    omega (arith, field-half a.input.now a.at l.i (omega arith), bit-small a.input.now (a.at + l.i))

pub loop-i-preserved : goal.loop-i-preserved
loop-i-preserved c =
    let a = c.args in
    let l = c.loop-i in
    (omega arith, field_next a.input.now a.at l.i l.n _ l.invariant.1 c.bit.ensures)

pub returns : goal.returns
returns c =
    let a = c.args in
    let l = c.loop-i in
    let e : l.i ≡ a.width = omega arith in
    let n : l.n ≡ field a.input.now a.at a.width = rw e at l.invariant.1 in
    (n, rw n (field-small a.input.now a.at a.width))
