-- `length_signs::length_signs` meets its contract. Assumes nothing.
use Prim.Native.Nat.{ℕ}
use mathlib.Core.Path.{◌≡◌, sym, ap, ◌∙◌}
use native.Mathlib.Omega.{arith}
use lib.ListN.{get_or}
use lib.Ieee.{nan}
use Rattle.lists.specs.Lists.{keep}
use Rattle.length_signs.specs.declared.LengthSigns.{LengthSigns}
use Rattle.length_signs.specs.LengthSigns.{signs_of}
use Rattle.length_signs.specs.Parts.{with_length}
use Rattle.length_signs.proofs.OneSign.{signs-next, signs-most}
use Rattle.length_signs.proofs.length_signs.Goals as goal

zeros : (r : LengthSigns) → r.timelike ≡ 0 → r.null ≡ 0 → r.spacelike ≡ 0 → r ≡ record { timelike = 0; null = 0; spacelike = 0 }
zeros r t n s =
    ap {A = ℕ} {B = LengthSigns} (λ k. record { timelike = k; null = r.null; spacelike = r.spacelike }) t
    ∙ ap {A = ℕ} {B = LengthSigns} (λ k. record { timelike = 0; null = k; spacelike = r.spacelike }) n
    ∙ ap {A = ℕ} {B = LengthSigns} (λ k. record { timelike = 0; null = 0; spacelike = k }) s

pub loop-s-init : goal.loop-s-init
unfolding signs_of keep
loop-s-init c = let e = c.default-signs.ensures in zeros c.default-signs.result e.0 e.1.0 e.1.1

pub with_length-signs-requires : goal.with_length-signs-requires
with_length-signs-requires c =
    let l = c.loop-s in
    let m = signs-most c.args.sq_lengths.now l.s-index (omega arith) in
    rw l.invariant (omega (arith, m.0), omega (arith, m.1), omega (arith, m.2))

pub loop-s-preserved : goal.loop-s-preserved
loop-s-preserved c =
    let l = c.loop-s in
    let s = c.args.sq_lengths.now in
    c.with_length-signs.ensures ∙ ap (λ u. with_length u (get_or s l.s-index nan)) l.invariant ∙ sym (signs-next s l.s-index (omega arith))
