-- `one_pass::add_ten` meets its contract. Assumes nothing.
use mathlib.Core.List.{[], ◌∷◌, reverse, reverse-append, zip, zip_with}
use mathlib.Core.Logic.{⊎_elim, inl, inr}
use mathlib.Core.Path.{◌≡◌, refl, ap, ◌∙◌}
use native.Mathlib.Omega.{arith}
use lib.ListN.{length-set}
use lib.Ieee.{nan}
use Rattle.std.proofs.lemmas.List.{length-reverse}
use Rattle.lists.specs.Loops.{scatter}
use Rattle.lorentzian.specs.declared.dihedral.Dihedral.TheVariants.{Angle}
use Rattle.hinges.proofs.Zipped.{zip-ended}
use Rattle.one_pass.proofs.BothEnds.{ten-both_ends, below-pushed}
use Rattle.one_pass.proofs.add_ten.Goals as goal

pub loop-tri-init : goal.loop-tri-init
loop-tri-init c =
    let all : c.into_iter-tri-iterator.result.a.iter.rest.now ≡ c.args.tris.now =
    ap (λ z. z.a.iter.rest.now) c.into_iter-tri-iterator.ensures.into_iter_gives ∙ ap (λ i. i.iter.rest.now) c.zip-tri-items.ensures.first ∙ ap (λ i. i.rest.now) c.rev.ensures.source ∙ c.iter.ensures.rest in
    (rw all c.requires.1, rw all c.requires.2, refl, refl)

pub add_dihedral-requires : goal.add_dihedral-requires
add_dihedral-requires c =
    let i = rw c.in-Some.ensures.steps.0 at c.loop-tri.invariant in
    ((below-pushed _ _ _ i.0).1, (below-pushed _ _ _ i.1).1)

pub loop-tri-preserved : goal.loop-tri-preserved
unfolding scatter zip zip_with
loop-tri-preserved c =
    let s = c.in-Some.ensures.steps in
    let rest = c.next.new.self.a.iter.rest.now in
    let f = c.add_dihedral.ensures in
    let i = rw (s.0, s.1) at c.loop-tri.invariant in
    let turned = reverse-append rest (c.in-Some.tri.now ∷ []) in
    let sums = rw turned at i.2 in
    let kinds = rw turned at i.3 in
    (rw (f.0, length-set c.loop-tri.sums) (below-pushed _ _ _ i.0).0, rw (f.1, length-set c.loop-tri.kinds) (below-pushed _ _ _ i.1).0, rw f.0 sums, rw f.1 kinds)

pub returns : goal.returns
unfolding scatter
returns c =
    let l = c.loop-tri in
    let tris : c.into_iter-tri-iterator.result.a.iter.rest.now ≡ c.args.tris.now =
    ap (λ z. z.a.iter.rest.now) c.into_iter-tri-iterator.ensures.into_iter_gives ∙ ap (λ i. i.iter.rest.now) c.zip-tri-items.ensures.first ∙ ap (λ i. i.rest.now) c.rev.ensures.source ∙ c.iter.ensures.rest in
    let ds : c.into_iter-tri-iterator.result.b.rest.now ≡ c.args.dihedrals =
    ap (λ z. z.b.rest.now) c.into_iter-tri-iterator.ensures.into_iter_gives ∙ ap (λ i. i.rest.now) c.zip-tri-items.ensures.second ∙ c.iter-2.ensures.rest in
    let ended : zip (reverse l.tri-iterator.a.iter.rest.now) l.tri-iterator.b.rest.now ≡ [] =
    zip-ended _ _ (⊎_elim (λ w. inl (length-reverse _ ∙ w.1.0)) (λ w. inr w.1.0) c.in-None.ensures.steps) in
    let i = rw ended at l.invariant in
    let ten = ten-both_ends c.args.tris.now c.args.dihedrals 0 (Angle nan) c.requires.0 (omega arith) in
    (i.2 ∙ rw (tris, ds, ten) refl, i.3 ∙ rw (tris, ds, ten) refl)
