-- `builder::build::build` meets its contract. Assumes nothing.
use Prim.Native.Nat.{ℕ, ◌≤◌}
use mathlib.Core.Path.{refl, sym, ap, ◌∙◌}
use native.Mathlib.Omega.{arith}
use lib.ListN.{length, replicate}
use Rattle.complex.specs.Lent.{lists_in}
use Rattle.complex.specs.declared.numbering.Face.TheVariants.{Edge, Triangle}
use Rattle.builder.proofs.Whole.{zeros-room, part-long, on-sorted, all-faces-room, numbers-part, numbers-long, adjacent_as, counts-are, lists-are}
use Rattle.builder.proofs.build.build.Goals as goal

pub number_all-faces-requires : goal.number_all-faces-requires
number_all-faces-requires c =
    let a = c.args in
    let ok = c.requires in
    let l = a.lists.now in
    let s = c.sort_all.new.pents in
    let left = c.sort_all.ensures in
    all-faces-room a.given.now l ok s left (length (replicate {A = ℕ} 245760 0)) (length (replicate {A = ℕ} 81920 0)) (length (replicate {A = ℕ} 81920 0)) (zeros-room 245760 81920 (omega arith)) (zeros-room 81920 81920 (omega arith)) (zeros-room 81920 81920 (omega arith))

pub adjacency-requires : goal.adjacency-requires
adjacency-requires c =
    let a = c.args in
    let ok = c.requires in
    let l = a.lists.now in
    let s = c.sort_all.new.pents in
    let left = c.sort_all.ensures in
    let f = c.number_all-faces in
    let faces = on-sorted a.given.now l ok s left f.ensures in
    let pe = numbers-part a.given.now l ok Edge refl _ _ faces.on_edges.noted in
    let pt = numbers-part a.given.now l ok Triangle refl _ _ faces.on_triangles.noted in
    let w : 245760 ≤ length (replicate {A = ℕ} 245760 0) = zeros-room 245760 245760 (omega arith) in
    let work : 245760 ≤ length f.new.next = omega (arith, f.auto.next) in
    adjacent_as a.given.now l ok _ _ _ _ _ pe pt faces.on_edges.count faces.on_triangles.count work

pub returns : goal.returns
returns c =
    let a = c.args in
    let ok = c.requires in
    let l = a.lists.now in
    let s = c.sort_all.new.pents in
    let left = c.sort_all.ensures in
    let f = c.number_all-faces in
    let faces = on-sorted a.given.now l ok s left f.ensures in
    let pe = numbers-part a.given.now l ok Edge refl _ _ faces.on_edges.noted in
    let pt = numbers-part a.given.now l ok Triangle refl _ _ faces.on_triangles.noted in
    let w : 245760 ≤ length (replicate {A = ℕ} 245760 0) = zeros-room 245760 245760 (omega arith) in
    let work : 245760 ≤ length f.new.next = omega (arith, f.auto.next) in
    let j = c.adjacency in record {
      same = record {
        pents = j.ensures.same.pents;
        edges = j.ensures.same.edges;
        triangles = j.ensures.same.triangles;
        tets = j.ensures.same.tets;
        tri_to_pents_items = j.ensures.same.tri_to_pents_items;
        tri_to_pents_starts = j.ensures.same.tri_to_pents_starts;
        edge_to_tris_items = j.ensures.same.edge_to_tris_items;
        edge_to_tris_starts = j.ensures.same.edge_to_tris_starts;
        edge_to_pents_items = j.ensures.same.edge_to_pents_items;
        edge_to_pents_starts = j.ensures.same.edge_to_pents_starts;
      };
      value = counts-are a.given.now l ok a.n_vertices _ _ _ _ s _ _ _ _ _ _ _ _ _ refl left faces.on_tets faces.on_edges faces.on_triangles;
      lists_after = lists-are a.given.now l ok a.n_vertices _ _ _ _ s _ _ _ _ _ _ _ _ _ refl left faces.on_tets faces.on_edges faces.on_triangles _ _ _ _ _ pe pt (omega (arith, j.auto.tri_edges)) j.ensures.edges j.ensures.lists_after refl;
    }
