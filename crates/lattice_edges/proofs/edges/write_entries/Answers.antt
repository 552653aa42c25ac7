-- `lattice_edges::edges::write_entries` meets its contract. Assumes nothing.
use Prim.Native.Nat.{ℕ, ◌/◌, ◌≤◌}
use mathlib.Core.List.{List, [], ◌++◌, map, append-nil}
use mathlib.Core.Path.{◌≡◌, refl, sym, ap, ◌∙◌}
use native.Mathlib.Numerals.{add-one}
use native.Mathlib.Omega.{arith}
use lib.ListN.{length, take, drop}
use lib.Seq.{drop-length}
use Rattle.std.proofs.lemmas.List.{length-take-le}
use Rattle.lists.specs.Lists.{upto}
use Rattle.lists.specs.Rows.{over}
use Rattle.lists.proofs.Rows.{map-turn, map-done, map-pairs}
use Rattle.lattice_edges.proofs.edges.write_entries.Invariants.{entry_at}
use Rattle.lattice_edges.proofs.edges.write_entries.Goals as goal

-- entries that fill the front of a list stand over its beginning
front_written : {A : Type 0} (f : ℕ → A) (old out : List A) (n : ℕ) → n ≤ length old → out ≡ map f (upto n) ++ drop n (take n old) → out ++ drop n old ≡ over (map f (upto n)) old
front_written {A} f old out n h e =
    let none : drop n (take n old) ≡ [] = ap (λ (k : ℕ). drop k (take n old)) (sym (length-take-le n old h)) ∙ drop-length (take n old) in
    map-done f old (out ++ drop n old) n (ap (λ (xs : List A). xs ++ drop n old) (e ∙ ap (λ (xs : List A). map f (upto n) ++ xs) none ∙ append-nil (map f (upto n))))

pub loop-k-init : goal.loop-k-init
unfolding upto
loop-k-init g c h gives = refl

pub loop-k-preserved : goal.loop-k-preserved
loop-k-preserved g c h gives =
    let a = c.args in
    let l = c.loop-k in
    let front = take (length a.edges.now / 2) a.list.now in
    rw (gives _ _ _ _ c.entry.ensures, add-one l.k)
    (map-turn (entry_at (h a.lawful.lattice) a.edges.now) front l.slot-items l.k c.loop-k-test.true l.auto.slot-items (l.invariant h gives))

pub returns : goal.returns
returns g c h gives =
    let a = c.args in
    let l = c.loop-k in
    let n = length a.edges.now / 2 in
    let e : l.k ≡ n = omega (arith, c.loop-k-test.false, l.auto.k-end, length-take-le n a.list.now c.requires.room) in
    rw (map-pairs (h a.lawful.lattice) n a.edges.now)
    (front_written (entry_at (h a.lawful.lattice) a.edges.now) a.list.now l.slot-items n c.requires.room (rw e at l.invariant h gives))
