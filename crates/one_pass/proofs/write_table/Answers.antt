-- `one_pass::write_table` meets its contract. Assumes nothing.
use Rattle.std.proofs.Common.{rules}
use Prim.Native.Nat.{ℕ}
use mathlib.Core.Path.{◌≡◌, sym, ap, ◌∙◌}
use mathlib.Core.List.{List, ◌++◌}
use native.Mathlib.Omega.{arith}
use lib.ListN.{length, take, drop, replicate}
use lib.Seq.{length-take-le}
use Rattle.floats.specs.Ops.{zero}
use Rattle.lists.specs.Rows.{over}
use Rattle.lists.proofs.Rows.{length-rows}
use Rattle.complex.specs.Lent.{triangles_of}
use Rattle.lorentzian.specs.Dihedral.{kind_number}
use Rattle.hinges.specs.Hinges.{FaceLists, faces_of}
use Rattle.hinges.proofs.PentachoronSteps.{pents-wide}
use Rattle.hinges.proofs.OnePass.{length-hinges}
use Rattle.one_pass.proofs.PassSteps.{closed-all}
use Rattle.one_pass.proofs.write_table.Goals as goal

-- a table of n entries in the place of the first n
in_place : {A : Type 0} (table new old : List A) (n : ℕ) → new ≡ table → length table ≡ n → new ++ drop n old ≡ over table old
unfolding over
in_place {A} table new old n e l = ap (λ (xs : List A). xs ++ drop n old) e ∙ ap (λ (m : ℕ). table ++ drop m old) (sym l)

pub returns : goal.returns
returns c =
    let a = c.args in
    let r = c.requires in
    let x = a.complex.now in
    let F : FaceLists = faces_of x in
    let ls = a.sq_lengths.now in
    let n = x.counts.triangles in
    let p = c.add_all_dihedrals in
    let e = c.close_all in
    let T : length (triangles_of x) ≡ n = length-rows 3 n x.triangles.now in
    let long-sums : length (take n a.deficits.now) ≡ n = length-take-le n a.deficits.now r.1 in
    let long-firsts : length (take n a.kinds.now) ≡ n = length-take-le n a.kinds.now r.2 in
    let zeros : c.fill.new.self ≡ replicate (length (take n a.deficits.now)) zero = search rules in
    let none : c.fill-2.new.self ≡ replicate (length (take n a.kinds.now)) c.byte_of.result = search rules in
    let own-zeros : c.fill.new.self ≡ replicate (length F.triangles) zero = rw (long-sums, ← T) at zeros in
    let own-none : c.fill-2.new.self ≡ replicate (length F.triangles) 2 = rw (long-firsts, ← T, c.byte_of.ensures) at none in
    let long : length p.new.sums ≡ length F.triangles = omega (arith, p.auto.sums, c.fill.auto.self, long-sums, T) in
    let deficits = closed-all F ls (pents-wide r.0) r.0.triangles_found c.fill.new.self p.new.sums c.fill-2.new.self p.new.kinds own-zeros own-none p.ensures.0 p.ensures.1 (λ h. h.deficit) in
    let kinds = closed-all F ls (pents-wide r.0) r.0.triangles_found c.fill.new.self p.new.sums c.fill-2.new.self p.new.kinds own-zeros own-none p.ensures.0 p.ensures.1 (λ h. kind_number h.kind) in (
      in_place _ e.new.sums a.deficits.now n (rw (← deficits, ← long) e.ensures.0) (length-hinges F ls (λ h. h.deficit) ∙ T),
      in_place _ e.new.kinds a.kinds.now n (rw (← kinds, ← long) e.ensures.1) (length-hinges F ls (λ h. kind_number h.kind) ∙ T),
    )
