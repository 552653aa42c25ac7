-- `comparison::has_adjacency` meets its contract. Assumes nothing.
use mathlib.Core.Path.{refl, sym, ◌∙◌}
use Rattle.complex.specs.Lent.{lists_of}
use Rattle.lists.proofs.Tests.{not-both}
use Rattle.comparison.proofs.Comparisons.{edge-room, triangle-room, tri-to-pents-asks, edge-to-tris-asks, edge-to-pents-asks, adjacency-is}
use Rattle.comparison.proofs.has_adjacency.Goals as goal
use Rattle.comparison.proofs.has_adjacency.Goals.{then-is_holding, else-is_holding}

pub invariant_of-triangles : goal.invariant_of-triangles
invariant_of-triangles c = let x = c.args.complex.now in record { inside = triangle-room x.counts (lists_of x) c.requires }

pub is_holding-requires : goal.is_holding-requires
is_holding-requires c = let x = c.args.complex.now in tri-to-pents-asks x.counts (lists_of x) c.requires _ _ refl refl

pub invariant_of-edges : goal.invariant_of-edges
invariant_of-edges c = let x = c.args.complex.now in record { inside = edge-room x.counts (lists_of x) c.requires }

pub is_holding-requires-then-is_holding : goal.is_holding-requires-then-is_holding
is_holding-requires-then-is_holding c = let x = c.args.complex.now in edge-to-tris-asks x.counts (lists_of x) c.requires _ _ refl refl

pub is_holding-requires-then-is_holding-2 : goal.is_holding-requires-then-is_holding-2
is_holding-requires-then-is_holding-2 c =
    let x = c.args.complex.now in
    elim c.if-is_holding.branch [
      | then-is_holding w ↦ edge-to-pents-asks x.counts (lists_of x) c.requires _ _ (rw w.edges-is refl) refl
      | else-is_holding w ↦ absurd (not-both (sym w.value-is ∙ c.if-is_holding-2.true) w.if-is_holding.false)
    ]

pub returns-then-is_holding-2 : goal.returns-then-is_holding-2
returns-then-is_holding-2 c =
    let x = c.args.complex.now in
    let is = adjacency-is x.counts (lists_of x) c.requires in
    let yes = c.if-is_holding-2.true in
    elim c.if-is_holding.branch [
      | then-is_holding w ↦
          let third = rw w.edges-is at c.is_holding-then-is_holding-2.ensures in
          third ∙ sym (is ∙ rw (sym c.is_holding.ensures ∙ w.if-is_holding.true, sym w.is_holding-then-is_holding.ensures ∙ sym w.value-is ∙ yes) refl)
      | else-is_holding w ↦ absurd (not-both (sym w.value-is ∙ yes) w.if-is_holding.false)
    ]

pub returns-else-is_holding-2 : goal.returns-else-is_holding-2
returns-else-is_holding-2 c =
    let x = c.args.complex.now in
    let is = adjacency-is x.counts (lists_of x) c.requires in
    let off = c.if-is_holding-2.false in
    elim c.if-is_holding.branch [
      | then-is_holding w ↦
          off ∙ sym (is ∙ rw (sym c.is_holding.ensures ∙ w.if-is_holding.true, sym w.is_holding-then-is_holding.ensures ∙ sym w.value-is ∙ off) refl)
      | else-is_holding w ↦ off ∙ sym (is ∙ rw (sym c.is_holding.ensures ∙ w.if-is_holding.false) refl)
    ]
