-- `local_regge::local_deficits::write_hinges` meets its contract. Assumes nothing.
use Prim.Native.Nat.{◌≤◌, ◌<◌}
use mathlib.Core.List.{map, map-map}
use mathlib.Core.Path.{◌≡◌, refl, sym, ap, ◌∙◌}
use native.Mathlib.Omega.{arith}
use lib.ListN.{length, set, take}
use lib.Seq.{take_all}
use Rattle.lists.specs.Rows.{over}
use Rattle.lists.proofs.Rows.{written_next, written_all}
use Rattle.lorentzian.specs.Dihedral.{kind_number}
use Rattle.hinges.specs.declared.hinge.Hinge.{Hinge}
use Rattle.hinges.specs.Hinges.{hinges, hinge_in, faces_of}
use Rattle.calls.proofs.BuiltCalls.{measured}
use Rattle.local_regge.proofs.local_deficits.write_hinges.Goals as goal

pub loop-k-init : goal.loop-k-init
loop-k-init c = (refl, refl)

pub hinge_at-hinge-requires : goal.hinge_at-hinge-requires
hinge_at-hinge-requires c = (measured c.args.built.now (length c.args.sq_lengths.now) c.requires.0, c.requires.1 c.loop-k.k (omega arith))

pub loop-k-preserved : goal.loop-k-preserved
loop-k-preserved c =
    let a = c.args in
    let l = c.loop-k in
    let h = c.hinge_at-hinge.ensures in
    let T = hinges (faces_of a.built.now.complex) a.sq_lengths.now in
    let k : l.k < length a.tris.now = omega arith in (
      ap (λ (u : Hinge). set l.deficits l.k u.deficit) h ∙ written_next (λ t. (hinge_in T t).deficit) a.tris.now l.k a.deficits.now l.deficits k (omega (arith, c.requires.2)) l.auto.deficits l.invariant.0,
      ap (set l.kinds l.k) (c.number.ensures ∙ ap (λ (u : Hinge). kind_number u.kind) h) ∙ written_next (λ t. kind_number (hinge_in T t).kind) a.tris.now l.k a.kinds.now l.kinds k (omega (arith, c.requires.3)) l.auto.kinds l.invariant.1,
    )

pub returns : goal.returns
returns c =
    let a = c.args in
    let l = c.loop-k in
    let T = hinges (faces_of a.built.now.complex) a.sq_lengths.now in
    let n : l.k ≤ length a.tris.now = omega arith in
    let all : take l.k a.tris.now ≡ a.tris.now = take_all l.k a.tris.now (omega arith) in (
      written_all (λ t. (hinge_in T t).deficit) a.tris.now l.k a.deficits.now l.deficits n l.invariant.0
          ∙ ap (λ xs. over xs a.deficits.now) (ap (map (λ t. (hinge_in T t).deficit)) all ∙ sym (map-map (λ h. h.deficit) (hinge_in T) a.tris.now)),
      written_all (λ t. kind_number (hinge_in T t).kind) a.tris.now l.k a.kinds.now l.kinds n l.invariant.1
          ∙ ap (λ xs. over xs a.kinds.now) (ap (map (λ t. kind_number (hinge_in T t).kind)) all ∙ sym (map-map (λ h. kind_number h.kind) (hinge_in T) a.tris.now)),
    )
