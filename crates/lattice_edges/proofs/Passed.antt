-- What a call over a lattice's complex is like where its checks let it pass. Assumes nothing.
use Rattle.refusals.specs.Refusals.{Done}
use Rattle.refusals.specs.declared.Refusal.{Refusal}
use Rattle.std.specs.Prelude.{Err, Ok, Result}
use Prim.Native.Nat.{ℕ, ◌*◌, ◌/◌, ◌≤◌, ◌<◌}
use mathlib.Core.Path.{◌≡◌, refl, subst}
use mathlib.Core.Bool.{Bool, true, false, not, ◌&&◌}
use lib.Dec.{ltb}
use mathlib.Core.List.{List}
use native.Mathlib.Omega.{arith}
use lib.ListN.{length, take}
use lib.Seq.{length-take-le}
use Rattle.lists.specs.Rows.{rows}
use Rattle.lists.proofs.Rows.{rows_take}
use borrow.Author.Tests.{lt-ltb, le-ltb, ltb-false, not-false}
use Rattle.refusals.specs.declared.Refusal.TheVariants.{ShortRoom, LatticeSize, NotBuilt}
use Rattle.lists.proofs.Tests.{and-true, said}
use Rattle.complex.specs.declared.Counts.{Counts}
use Rattle.complex.specs.Builder.{Lists}
use Rattle.complex.specs.declared.numbering.Face.TheVariants.{Edge}
use Rattle.complex.specs.Check.{pents_in, is_built}
use Rattle.complex.proofs.Offences.{cond-done}
use Rattle.comparison.proofs.FaceLists.{has_room}
use Rattle.comparison.proofs.BuiltComplex.{built-says}
use Rattle.foliation.specs.declared.Lattice.{Lattice}
use Rattle.foliation.specs.declared.coords.LawfulLattice.{LawfulLattice}
use Rattle.foliation.specs.Lattice.{is_lawful}
use Rattle.lattice_edges.specs.OnLattice.{has_lattice_pents, lattice_check_of, Checked}

-- the size is lawful, and each edge has its two vertices and a place in the lent list
pub record Passed (l : Lattice) (c : Counts) (ls : Lists) (room : ℕ) : Type 0 where
  pub lawful : is_lawful l ≡ true
  pub ends : 2 * c.edges ≤ length ls.edges
  pub places : c.edges ≤ room

pub passed : (l : Lattice) (c : Counts) (ls : Lists) (room : ℕ) → lattice_check_of l c ls room ≡ Done → Passed l c ls room
unfolding lattice_check_of
passed l c ls room h =
    let p = has_lattice_pents l c ls.pents in
    let s = cond-done (not (is_lawful l)) LatticeSize _ h in
    let b = cond-done (not (p && is_built c ls)) NotBuilt _ s.1 in
    let r = cond-done (ltb room c.edges) ShortRoom Done b.1 in
    let built = said (built-says c ls) (and-true p (is_built c ls) (not-false (p && is_built c ls) b.0)).1 in
    record {
      lawful = not-false (is_lawful l) s.0;
      ends = has_room Edge (pents_in c ls.pents) c.edges ls.edges built.has_edges;
      places = ltb-false room c.edges r.0;
    }

-- what is checked of a lattice of a lawful size
module _ (s : LawfulLattice) (l : Lattice) (same : s.lattice ≡ l) (c : Counts) (ls : Lists) (room : ℕ) where
  abbrev own : Bool
  own = has_lattice_pents s.lattice c ls.pents && is_built c ls

  pub not-own : own ≡ false → Err NotBuilt ≡ lattice_check_of l c ls room
  unfolding lattice_check_of
  not-own h = rw (← same, s.lawful, h) refl

  pub short-room : own ≡ true → room < c.edges → Err ShortRoom ≡ lattice_check_of l c ls room
  unfolding lattice_check_of
  short-room h k = rw (← same, s.lawful, h, lt-ltb room c.edges k) refl

  pub all-fine : own ≡ true → c.edges ≤ room → Done ≡ lattice_check_of l c ls room
  unfolding lattice_check_of
  all-fine h k = rw (← same, s.lawful, h, le-ltb room c.edges k) refl

-- the lattice that a check hands on
pub record LetPass (l : Lattice) (c : Counts) (ls : Lists) (room : ℕ) (s : LawfulLattice) : Type 0 where
  pub lattice : s.lattice ≡ l
  pub done : lattice_check_of l c ls room ≡ Done
  pub passed : Passed l c ls room

module _ (l : Lattice) (c : Counts) (ls : Lists) (room : ℕ) {o : Result LawfulLattice Refusal} (h : Checked l c ls room o) where
  pub let_pass : {s : LawfulLattice} → o ≡ Ok s → LetPass l c ls room s
  let_pass e =
      let p = subst (Checked l c ls room) e h in
      record { lattice = p.0; done = p.1; passed = passed l c ls room p.1 }

  -- the refusal that it hands on
  pub refused : {r : Refusal} → o ≡ Err r → lattice_check_of l c ls room ≡ Err r
  refused e = subst (Checked l c ls room) e h

-- the edges at the front of a list, taken alone
pub front-rows : (n : ℕ) (xs : List ℕ) → 2 * n ≤ length xs → rows 2 (length (take (2 * n) xs) / 2) (take (2 * n) xs) ≡ rows 2 n xs
front-rows n xs h =
    let long : length (take (2 * n) xs) ≡ 2 * n = length-take-le _ _ h in
    let half : length (take (2 * n) xs) / 2 ≡ n = omega (arith, long) in
    rw half (rows_take 2 n (2 * n) xs (omega arith) h)
