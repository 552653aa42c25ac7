-- `packed_input::fields::Packed::read` meets its contract. Assumes nothing.
use mathlib.Core.Path.{sym}
use native.Mathlib.Omega.{arith}
use Rattle.packed_input.proofs.Refusing.{header-short, header-many, header-cut}
use Rattle.packed_input.proofs.fields.Packed.read.Goals as goal

pub returns-then-bytes-lt-HEADER_BYTES : goal.returns-then-bytes-lt-HEADER_BYTES
returns-then-bytes-lt-HEADER_BYTES c = sym (header-short c.args.bytes.now (omega arith))

pub returns-then-n_pents-gt-MOST_PENTS : goal.returns-then-n_pents-gt-MOST_PENTS
returns-then-n_pents-gt-MOST_PENTS c = sym (header-many c.args.bytes.now (omega arith) _ c.number-n_pents.ensures.0 (omega arith))

pub returns-then-bytes-lengths_start : goal.returns-then-bytes-lengths_start
returns-then-bytes-lengths_start c = sym (header-cut c.args.bytes.now (omega arith) _ c.number-n_pents.ensures.0 (omega arith) (omega arith))
