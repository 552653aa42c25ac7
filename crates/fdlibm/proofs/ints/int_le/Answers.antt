-- `fdlibm::ints::int_le` meets its contract. Assumes nothing.
use Rattle.std.proofs.Common.{◌^◌, ◌<◌, arith, w32}
use Rattle.std.proofs.lemmas.Int.{of_z-to_z}
use Rattle.fdlibm.proofs.Order.{signed_le}
use Rattle.fdlibm.proofs.ints.int_le.Goals as goal

pub returns : goal.returns
returns c =
    let a = c.args.a in
    let b = c.args.b in
    let h : a < 2 ^ 32 = omega arith in
    let k : b < 2 ^ 32 = omega arith in
    rw (c.cast_signed.ensures, c.cast_signed-2.ensures, of_z-to_z w32 a h, of_z-to_z w32 b k) (signed_le a b h k)
