-- `comparison::is_built_noting` meets its contract. Assumes nothing.
use mathlib.Core.Bool.{true, false}
use mathlib.Core.Path.{◌≡◌, refl, sym, ◌∙◌}
use native.Mathlib.Omega.{arith}
use Rattle.complex.specs.Lent.{lists_of}
use Rattle.comparison.specs.CheckParts.{has_pents, has_all_faces}
use Rattle.comparison.proofs.Comparisons.{pents_pass, faced, built-parts}
use Rattle.lists.proofs.Tests.{not-both}
use Rattle.comparison.proofs.is_built_noting.Goals as goal
use Rattle.comparison.proofs.is_built_noting.Goals.{then-has_pents, else-has_pents}

pub has_all_faces-requires : goal.has_all_faces-requires
has_all_faces-requires c =
    let x = c.args.complex.now in
    let v = pents_pass x.counts (lists_of x) (sym c.has_pents.ensures ∙ c.if-has_pents.true) in record {
      long = v.3;
      scratch = record { whole = omega arith; few = omega (arith, v.2); edges_room = omega (arith, v.2, c.requires.0); tris_room = omega (arith, v.2, c.requires.1) };
    }

pub has_adjacency-requires : goal.has_adjacency-requires
has_adjacency-requires c =
    let x = c.args.complex.now in
    let yes = c.if-has_all_faces.true in
    elim c.if-has_pents.branch [
      | then-has_pents w ↦ faced x.counts (lists_of x) (sym c.has_pents.ensures ∙ w.if-has_pents.true) (sym w.has_all_faces.ensures.value ∙ sym w.value-is ∙ yes)
      | else-has_pents w ↦ absurd (not-both (sym w.value-is ∙ yes) w.if-has_pents.false)
    ]

pub returns-then-has_all_faces-clause-value : goal.returns-then-has_all_faces-clause-value
returns-then-has_all_faces-clause-value c =
    let x = c.args.complex.now in
    let yes = c.if-has_all_faces.true in
    elim c.if-has_pents.branch [
      | then-has_pents w ↦
          let h : has_pents x.counts (lists_of x) ≡ true = sym c.has_pents.ensures ∙ w.if-has_pents.true in
          let g : has_all_faces x.counts (lists_of x) ≡ true = sym w.has_all_faces.ensures.value ∙ sym w.value-is ∙ yes in
          c.has_adjacency.ensures ∙ sym (built-parts x.counts (lists_of x) ∙ rw (h, g) refl)
      | else-has_pents w ↦ absurd (not-both (sym w.value-is ∙ yes) w.if-has_pents.false)
    ]

pub returns-else-has_all_faces-clause-value : goal.returns-else-has_all_faces-clause-value
returns-else-has_all_faces-clause-value c =
    let x = c.args.complex.now in
    let off = c.if-has_all_faces.false in
    elim c.if-has_pents.branch [
      | then-has_pents w ↦
          let h : has_pents x.counts (lists_of x) ≡ true = sym c.has_pents.ensures ∙ w.if-has_pents.true in
          let g : has_all_faces x.counts (lists_of x) ≡ false = sym w.has_all_faces.ensures.value ∙ sym w.value-is ∙ off in
          off ∙ sym (built-parts x.counts (lists_of x) ∙ rw (h, g) refl)
      | else-has_pents w ↦
          let h : has_pents x.counts (lists_of x) ≡ false = sym c.has_pents.ensures ∙ w.if-has_pents.false in
          off ∙ sym (built-parts x.counts (lists_of x) ∙ rw h refl)
    ]
