-- `one_pass::close_all` meets its contract. Assumes nothing.
use Prim.Native.Nat.{ℕ}
use mathlib.Core.Path.{◌≡◌, refl, sym, ap, ◌∙◌}
use mathlib.Core.List.{List, ◌++◌, append-nil, map}
use native.Mathlib.Numerals.{add-one}
use native.Mathlib.Omega.{arith}
use lib.ListN.{length, get_or, drop}
use lib.Seq.{drop-length}
use lib.Ieee.{nan}
use Rattle.lists.specs.Lists.{upto}
use Rattle.lists.proofs.Rows.{map-turn, read_next}
use Rattle.lorentzian.specs.Dihedral.{kind_number}
use Rattle.hinges.specs.declared.hinge.Hinge.{Hinge}
use Rattle.one_pass.proofs.close_all.Invariants.{closed_at}
use Rattle.one_pass.proofs.close_all.Goals as goal

pub loop-k-preserved : goal.loop-k-preserved
loop-k-preserved c =
    let a = c.args in
    let l = c.loop-k in
    let f : ℕ → Hinge = closed_at a.sums.now a.kinds.now in
    let b : get_or l.kinds l.k 0 ≡ get_or a.kinds.now l.k 0 = rw l.invariant.1 (read_next (λ t. kind_number (f t).kind) a.kinds.now l.k 0) in
    let s : get_or l.sums l.k nan ≡ get_or a.sums.now l.k nan = rw l.invariant.0 (read_next (λ t. (f t).deficit) a.sums.now l.k nan) in
    let h : c.closed-hinge.result ≡ f l.k = c.closed-hinge.ensures ∙ rw (c.kind_in.ensures, b, s) refl in (
      rw (h, add-one l.k) (map-turn (λ t. (f t).deficit) a.sums.now l.sums l.k (omega arith) l.auto.sums l.invariant.0),
      rw (c.byte_of.ensures, h, add-one l.k) (map-turn (λ t. kind_number (f t).kind) a.kinds.now l.kinds l.k (omega arith) l.auto.kinds l.invariant.1),
    )

-- all are written
written : {A : Type 0} (g : ℕ → A) (old new : List A) (k n : ℕ) → k ≡ n → length old ≡ n → new ≡ map g (upto k) ++ drop k old → new ≡ map g (upto n)
written {A} g old new k n e l is =
    is
    ∙ ap (λ (i : ℕ). map g (upto i) ++ drop i old) (e ∙ sym l)
    ∙ ap (λ (r : List A). map g (upto (length old)) ++ r) (drop-length old)
    ∙ append-nil (map g (upto (length old)))
    ∙ ap (λ (i : ℕ). map g (upto i)) l

pub returns : goal.returns
returns c =
    let a = c.args in
    let l = c.loop-k in
    let f : ℕ → Hinge = closed_at a.sums.now a.kinds.now in
    let e : l.k ≡ length a.sums.now = omega arith in
    (written (λ t. (f t).deficit) a.sums.now l.sums l.k _ e refl l.invariant.0, written (λ t. kind_number (f t).kind) a.kinds.now l.kinds l.k _ e c.requires l.invariant.1)
