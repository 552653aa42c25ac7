-- `Bits` is displayed as its text. Assumes nothing.
use Rattle.std.proofs.Common.{rules, ◌≡◌, true, false, sym, ◌∙◌}
use Rattle.std.specs.Float.Ieee.{is_nan}
use Rattle.printing.specs.Text.{text_of}
use Rattle.printing.proofs.Digits.{sixteen_digits}
use Rattle.printing.proofs.BitsDisplay.fmt.Goals as goal

pub returns-then-is_nan-clause-writes : goal.returns-then-is_nan-clause-writes
unfolding text_of
returns-then-is_nan-clause-writes g c =
    let nan : is_nan c.args.self.now.0 ≡ true = sym c.is_nan.ensures ∙ c.if-is_nan.true in
    rw nan (search rules)

pub returns-clause-writes : goal.returns-clause-writes
unfolding text_of
returns-clause-writes g c =
    let number : is_nan c.args.self.now.0 ≡ false = sym c.is_nan.ensures ∙ c.if-is_nan.false in
    rw (number, sym c.bits_of-bits.ensures, sym (sixteen_digits c.bits_of-bits.result (search rules))) (search rules)
