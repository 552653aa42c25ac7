-- `hinges::contributions::add_contributions` meets its contract. Assumes nothing.
use Prim.Native.Nat.{suc}
use mathlib.Core.List.{[], zip, zip_with}
use mathlib.Core.Logic.{⊎_elim, inl, inr}
use mathlib.Core.Path.{◌≡◌, refl, ap, ◌∙◌}
use native.Mathlib.Omega.{arith}
use lib.ListN.{length-set}
use Rattle.lists.specs.Loops.{scatter}
use Rattle.lorentzian.specs.Triangle.{area_sq_grad}
use Rattle.incidence.specs.Incidence.{edge_list}
use Rattle.hinges.specs.Action.{contribution_of, contributions_of}
use Rattle.hinges.proofs.Zipped.{zip-ended}
use Rattle.hinges.proofs.contributions.add_contributions.Goals as goal

pub returns-then-area : goal.returns-then-area
unfolding contributions_of scatter
returns-then-area c = rw (← c.abs_area-area.ensures, c.if-area.true) refl

pub loop-edge-init : goal.loop-edge-init
loop-edge-init c =
    let all : c.into_iter-edge-iterator.result.a.rest.now ≡ edge_list c.args.edges =
    ap (λ z. z.a.rest.now) c.into_iter-edge-iterator.ensures.into_iter_gives ∙ ap (λ i. i.rest.now) c.zip-edge-items.ensures.first ∙ c.iter.ensures.rest ∙ c.numbers.ensures in
    (rw all c.requires, refl)

pub loop-edge-preserved : goal.loop-edge-preserved
unfolding scatter zip zip_with
loop-edge-preserved c =
    let s = c.in-Some.ensures.steps in
    let below = rw s.0 at c.loop-edge.invariant.0 in (
      λ k h. rw (length-set c.loop-edge.grad _ _) (below (suc k) (omega (arith, h))),
      rw (s.0, s.1) at c.loop-edge.invariant.1,
    )

pub returns : goal.returns
unfolding scatter zip zip_with contributions_of contribution_of area_sq_grad
returns c =
    let l = c.loop-edge in
    let edges : c.into_iter-edge-iterator.result.a.rest.now ≡ edge_list c.args.edges =
    ap (λ z. z.a.rest.now) c.into_iter-edge-iterator.ensures.into_iter_gives ∙ ap (λ i. i.rest.now) c.zip-edge-items.ensures.first ∙ c.iter.ensures.rest ∙ c.numbers.ensures in
    let added : c.into_iter-edge-iterator.result.b.rest.now ≡ contribution_of c.args.s c.abs_area-area.result c.args.deficit =
    ap (λ z. z.b.rest.now) c.into_iter-edge-iterator.ensures.into_iter_gives ∙ ap (λ i. i.rest.now) c.zip-edge-items.ensures.second ∙ c.iter-2.ensures.rest ∙ c.contribution_of-added.ensures in
    let ended : zip l.edge-iterator.a.rest.now l.edge-iterator.b.rest.now ≡ [] =
    zip-ended _ _ (⊎_elim (λ w. inl w.1.0) (λ w. inr w.1.0) c.in-None.ensures.steps) in
    let done = rw ended at l.invariant.1 in
    done ∙ rw (edges, added, ← c.abs_area-area.ensures, c.if-area.false) refl
