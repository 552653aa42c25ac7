-- `local_regge::local_gradient::write_entries` meets its contract. Assumes nothing.
use mathlib.Core.List.{map}
use mathlib.Core.Path.{refl, ap, ◌∙◌}
use native.Mathlib.Omega.{arith}
use lib.Ieee.{nan}
use lib.ListN.{get_or}
use lib.Seq.{take_all}
use Rattle.lists.specs.Rows.{over}
use Rattle.lists.proofs.Rows.{written_next, written_all}
use Rattle.local_regge.proofs.local_gradient.write_entries.Goals as goal

pub loop-k-init : goal.loop-k-init
loop-k-init c = refl

pub loop-k-preserved : goal.loop-k-preserved
loop-k-preserved c =
    let a = c.args in
    let l = c.loop-k in
    written_next (λ e. get_or a.entries.now e nan) a.free_edges.now l.k a.grad.now l.grad (omega arith) (omega (arith, c.requires.1)) l.auto.grad l.invariant

pub returns : goal.returns
returns c =
    let a = c.args in
    let l = c.loop-k in
    written_all (λ e. get_or a.entries.now e nan) a.free_edges.now l.k a.grad.now l.grad (omega arith) l.invariant ∙ ap (λ xs. over (map (λ e. get_or a.entries.now e nan) xs) a.grad.now) (take_all l.k a.free_edges.now (omega arith))
