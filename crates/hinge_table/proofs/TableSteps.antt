-- The steps of calls on a table of records: all records are written, and what the checks let pass and what they refuse. Assumes nothing.
use Rattle.std.specs.Prelude.{Err, Ok}
use Rattle.refusals.specs.Refusals.{Done, Outcome}
use Prim.Native.Nat.{ℕ, ◌≤◌}
use mathlib.Core.List.{List, [], ◌++◌, map, map-id}
use mathlib.Core.Path.{◌≡◌, refl, sym, ap, ◌∙◌}
use lib.Ieee.{Float, nan}
use native.Mathlib.Omega.{arith}
use lib.ListN.{length, set, take, drop}
use lib.Seq.{drop-length}
use Rattle.std.proofs.lemmas.List.{append-nil, length-take-le}
use borrow.Author.Tests.{ltb-false}
use Rattle.refusals.specs.declared.Refusal.{Refusal}
use Rattle.lists.specs.Lists.{upto}
use Rattle.lists.specs.Rows.{over}
use Rattle.lists.specs.Writes.{writes}
use Rattle.lists.proofs.Elements.{map-upto}
use Rattle.lists.proofs.Writes.{writes-upto}
use Rattle.complex.specs.declared.Counts.{Counts}
use Rattle.lorentzian.specs.declared.dihedral.HingeType.TheVariants.{Spacelike}
use Rattle.hinges.specs.declared.hinge.Hinge.{Hinge}
use Rattle.hinges.specs.Hinges.{FaceLists, hinge_of, hinges, hinge_in}
use Rattle.hinges.proofs.OnePass.{length-hinges}
use Rattle.calls.specs.Calls.{room_check_of}
use Rattle.calls.proofs.BuiltCalls.{room-passed}
use Rattle.retouch.specs.Retouch.{touched, anew, after}
use Rattle.hinge_table.specs.Table.{short_records, TableWorked, TableRetouched}

-- ---- all records

-- there are as many as triangles
all-many : (F : FaceLists) (ls : List Float) → length (hinges F ls) ≡ length F.triangles
all-many F ls = ap length (sym (map-id (hinges F ls))) ∙ length-hinges F ls (λ h. h)

-- all hinges, each at its own place
pub writes-hinges : (F : FaceLists) (ls : List Float) (n : ℕ) (table : List Hinge) → n ≡ length F.triangles → n ≤ length table → writes (hinge_in (hinges F ls)) (upto n) table ≡ over (hinges F ls) table
writes-hinges F ls n table e h =
    let all : List Hinge = hinges F ls in
    let many : length all ≡ n = all-many F ls ∙ sym e in
    writes-upto (hinge_in all) n table h
    ∙ ap (λ (xs : List Hinge). over xs table) (ap (λ (k : ℕ). map (hinge_in all) (upto k)) (sym many) ∙ sym (map-upto (λ h. h) all (hinge_of Spacelike nan) (hinge_of Spacelike nan)) ∙ map-id all)

-- written over the first places of a table, they are written over the table
pub front-written : (F : FaceLists) (ls : List Float) (n : ℕ) (table : List Hinge) → n ≡ length F.triangles → n ≤ length table
    → writes (hinge_in (hinges F ls)) (upto n) (take n table) ++ drop n table ≡ over (hinges F ls) table
unfolding over
front-written F ls n table e h =
    let all : List Hinge = hinges F ls in
    let front : List Hinge = take n table in
    let long : length front ≡ n = length-take-le n table h in
    let many : length all ≡ n = all-many F ls ∙ sym e in
    let none : drop (length all) front ≡ [] = ap (λ (k : ℕ). drop k front) (many ∙ sym long) ∙ drop-length front in
    ap (λ (xs : List Hinge). xs ++ drop n table) (writes-hinges F ls n front e (omega (arith, long)) ∙ ap (λ (xs : List Hinge). all ++ xs) none ∙ append-nil all)
    ∙ ap (λ (k : ℕ). all ++ drop k table) (sym many)

-- ---- the checks

-- where the check of room lets a call pass there is a place for each triangle
pub records-room : (c : Counts) (records : ℕ) → room_check_of (short_records c records) ≡ Done → c.triangles ≤ records
records-room c records h = ltb-false records c.triangles (room-passed (short_records c records) h)

-- what is left where all hinges are refused
pub worked-refused : {o : Outcome} {F : FaceLists} {ls : List Float} {table : List Hinge} {r : Outcome} {q : Refusal} → o ≡ Err q → r ≡ Err q → TableWorked o F ls table r table
worked-refused says is = rw is (record { answered = sym says; records = refl })

-- and where a retouch is
pub retouched-refused : {o : Outcome} {F : FaceLists} {ls : List Float} {e : ℕ} {x : Float} {table : List Hinge} {r : Outcome} {q : Refusal} → o ≡ Err q → r ≡ Err q → TableRetouched o F ls e x table r ls table
retouched-refused says is = rw is (record { answered = sym says; lengths = refl; records = refl })

-- the records of the touched triangles of the changed lengths are written where the checks let the call pass, and none else
table-written : (o : Outcome) (F : FaceLists) (ls : List Float) (e : ℕ) (x : Float) (table : List Hinge)
    → writes (hinge_in (hinges F (after o (set ls e x) ls))) (after o (touched F e) []) table ≡ after o (writes (anew F ls e x) (touched F e) table) table
unfolding writes
table-written (Ok u) F ls e x table = refl
table-written (Err q) F ls e x table = refl

-- where the records of the touched triangles are written from the changed lengths, a retouch was done
pub table-retouched : {o : Outcome} (F : FaceLists) (ls : List Float) (e : ℕ) (x : Float) (table : List Hinge) (r : Outcome) (ls' : List Float) (tris : List ℕ) (table' : List Hinge)
    → r ≡ o → ls' ≡ after o (set ls e x) ls → tris ≡ after o (touched F e) [] → table' ≡ writes (hinge_in (hinges F ls')) tris table
    → TableRetouched o F ls e x table r ls' table'
table-retouched {o} F ls e x table r ls' tris table' says stored places written =
    record {
      answered = says;
      lengths = rw says stored;
      records = rw says (written
          ∙ ap (λ (is : List ℕ). writes (hinge_in (hinges F ls')) is table) places
          ∙ ap (λ (m : List Float). writes (hinge_in (hinges F m)) (after o (touched F e) []) table) stored
          ∙ table-written o F ls e x table);
    }

-- what holds of checks holds of others that say the same
pub worked-same : {o u : Outcome} {F : FaceLists} {ls : List Float} {table : List Hinge} {r : Outcome} {table' : List Hinge} → o ≡ u → TableWorked o F ls table r table' → TableWorked u F ls table r table'
worked-same s t = record { answered = t.answered ∙ s; records = t.records }

pub retouched-same : {o u : Outcome} {F : FaceLists} {ls : List Float} {e : ℕ} {x : Float} {table : List Hinge} {r : Outcome} {ls' : List Float} {table' : List Hinge} → o ≡ u → TableRetouched o F ls e x table r ls' table' → TableRetouched u F ls e x table r ls' table'
retouched-same s t = record { answered = t.answered ∙ s; lengths = t.lengths; records = t.records }
