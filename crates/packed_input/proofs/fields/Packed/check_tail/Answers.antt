-- `packed_input::fields::Packed::check_tail` meets its contract. Assumes nothing.
use mathlib.Core.Path.{◌≡◌}
use native.Mathlib.Omega.{arith}
use Rattle.packed_input.specs.Format.{padding}
use Rattle.packed_input.proofs.Refusing.{tail-long, tail-set, tail-done}
use Rattle.packed_input.proofs.fields.Packed.check_tail.Goals.{then-input-start-via-then-input-start, then-input-start-via-else-input-start+then-number-ne0}
use Rattle.packed_input.proofs.fields.Packed.check_tail.Goals as goal

pub returns-then-input-start : goal.returns-then-input-start
returns-then-input-start c =
    let a = c.args in
    elim c.then-input-start.branch [
      | then-input-start-via-then-input-start w ↦ tail-long a.self.now.bytes.now a.self.now.layout.n_pents a.n_edges (λ e. omega arith)
      | then-input-start-via-else-input-start+then-number-ne0 w ↦
          let n : w.number.result ≡ padding a.self.now.bytes.now a.self.now.layout.n_pents = rw (c.lengths_start-start.ensures, c.vertices_end-end.ensures) at w.number.ensures.0 in
          tail-set a.self.now.bytes.now a.self.now.layout.n_pents a.n_edges (omega arith) (λ e. omega arith)
    ]

pub returns : goal.returns
returns c =
    let a = c.args in
    let n : c.number.result ≡ padding a.self.now.bytes.now a.self.now.layout.n_pents = rw (c.lengths_start-start.ensures, c.vertices_end-end.ensures) at c.number.ensures.0 in
    tail-done a.self.now.bytes.now a.self.now.layout.n_pents a.n_edges (omega arith) (omega arith)
