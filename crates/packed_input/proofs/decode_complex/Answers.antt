-- `packed_input::decode_complex` meets its contract. Assumes nothing.
use Prim.Native.Nat.{ℕ, ◌*◌}
use mathlib.Core.Path.{sym, ap, ◌∙◌}
use lib.ListN.{length}
use Rattle.packed_input.proofs.Complexes.{length-vertices, vertices-front, header-passes, builder-answers}
use Rattle.packed_input.proofs.decode_complex.Goals as goal

pub slice_bounds-from_pentachorons-end : goal.slice_bounds-from_pentachorons-end
slice_bounds-from_pentachorons-end c =
    let p = c.args.packed.now in
    let e = p.pents_read in
    sym (ap length (vertices-front p.bytes.now _ _ _ e c.read_vertices.ensures) ∙ length-vertices p.bytes.now _ ∙ ap (λ (P : ℕ). 5 * P) (sym e))

pub returns : goal.returns
returns c =
    let p = c.args.packed.now in
    let g = vertices-front p.bytes.now _ _ _ p.pents_read c.read_vertices.ensures in
    let b = builder-answers p.bytes.now _ _ _ _ _ (header-passes p) p.vertices_read g c.requires c.from_pentachorons.ensures.built in
    record { same = c.from_pentachorons.ensures.same; value = b.0; lists_after = b.1 }
