-- `packed_input::fields::Packed::read_vertices` meets its contract. Assumes nothing.
use Prim.Native.Nat.{ℕ, ◌*◌}
use mathlib.Core.Path.{◌≡◌, ap}
use mathlib.Core.List.{List, ◌++◌, map}
use lib.ListN.{length, take, drop}
use lib.Seq.{length-take-le}
use Rattle.std.proofs.Common.{rules}
use Rattle.lists.specs.Lists.{upto}
use Rattle.lists.proofs.Rows.{map-done}
use Rattle.packed_input.specs.Format.{vertex_at, vertices}
use Rattle.packed_input.proofs.fields.Packed.read_vertices.Goals as goal

pub returns : goal.returns
unfolding vertices
returns c =
    let old = c.args.given.now in
    let p = c.args.self.now in
    let n = 5 * p.layout.n_pents in
    let long : length (take n old) ≡ n = length-take-le _ _ c.requires in
    let e : c.read_numbers.new.list ≡ map (vertex_at p.bytes.now) (upto n) = rw long at c.read_numbers.ensures (λ k. k) (λ k v h. search (rules, h)) in
    map-done (vertex_at p.bytes.now) old _ n (ap (λ (xs : List ℕ). xs ++ drop n old) e)
