-- What a retouch leaves in a table that is a list of records, from the contract of the retouch on such a table. Assumes nothing.
use Rattle.refusals.specs.Refusals.{Done, Outcome}
use Rattle.std.specs.Prelude.{Err}
use Prim.Native.Nat.{ℕ, ◌<◌}
use mathlib.Core.List.{List}
use mathlib.Core.Path.{◌≡◌, refl, sym, ◌∙◌, subst}
use native.Mathlib.Omega.{arith}
use lib.Ieee.{Float, nan}
use lib.ListN.{length, set}
use Rattle.refusals.specs.declared.Refusal.{Refusal}
use Rattle.lists.specs.Writes.{writes}
use Rattle.lists.proofs.Tests.{said}
use Rattle.lists.proofs.Rows.{length-rows}
use Rattle.lists.proofs.Writes.{writes-other, writes_at}
use Rattle.complex.specs.declared.Counts.{Counts}
use Rattle.complex.specs.Builder.{Lists}
use Rattle.comparison.proofs.BuiltComplex.{built-says, built-wide, built-simplices}
use Rattle.lorentzian.specs.declared.dihedral.HingeType.TheVariants.{Spacelike}
use Rattle.hinges.specs.declared.hinge.Hinge.{Hinge}
use Rattle.hinges.specs.Hinges.{FaceLists, faces_in, hinge_of, hinge_in}
use Rattle.calls.specs.Calls.{built_check_of, lengths_check_of, room_check_of}
use Rattle.calls.proofs.BuiltCalls.{others-decide}
use Rattle.retouch.specs.Retouch.{touched, anew, edge_check_of}
use Rattle.retouch.specs.Demand3.{entry_of, Agree, Demand3}
use Rattle.retouch.proofs.Locality.{touched-shares}
use Rattle.retouch.proofs.Demand3.{demand3-of, record-agrees, rows-passed, built-passed}
use Rattle.hinge_table.specs.Table.{short_records, TableRetouched}
use Rattle.hinge_table.proofs.TableSteps.{records-room}

-- a refused call changes nothing
pub table-refused : {o : Outcome} {F : FaceLists} {ls : List Float} {e : ℕ} {x : Float} {table : List Hinge} {r : Outcome} {ls' : List Float} {table' : List Hinge} {q : Refusal}
    → TableRetouched o F ls e x table r ls' table' → r ≡ Err q → (ls' ≡ ls) × (table' ≡ table)
table-refused left h = (left.lengths ∙ (rw h refl), left.records ∙ (rw h refl))

module _ (c : Counts) (l : Lists) (ls : List Float) (e : ℕ) (x : Float) (table : List Hinge) (r : Outcome) (ls' : List Float) (table' : List Hinge) where
  abbrev F : FaceLists
  F = faces_in c l.pents l.edges l.triangles

  -- what the checks after that of the complex say
  abbrev checks : Outcome
  checks = lengths_check_of c (length ls) (edge_check_of c e (room_check_of (short_records c (length table))))

  -- a call that answers leaves what `Demand3` says
  pub table_demand3 : TableRetouched (built_check_of c l checks) F ls e x table r ls' table' → r ≡ Done → Demand3 entry_of F ls e x (hinge_in table) ls' (hinge_in table')
  table_demand3 left done =
      let el : ls' ≡ set ls e x = left.lengths ∙ (rw done refl) in
      let et : table' ≡ writes (anew F ls e x) (touched F e) table = left.records ∙ (rw done refl) in
      let h = built-passed c l checks (sym left.answered ∙ done) in
      let b = said (built-says c l) h in
      let p = rows-passed c l.edges (length ls) e (room_check_of (short_records c (length table))) (sym (others-decide c l checks h) ∙ sym left.answered ∙ done) in
      let room = records-room c (length table) p.2 in
      rw (el, et)
      (demand3-of entry_of F ls e x (hinge_in table) (hinge_in (writes (anew F ls e x) (touched F e) table)) (built-simplices c l b) (built-wide c l b) p.0 p.1
      (λ t n. writes-other (anew F ls e x) (hinge_of Spacelike nan) (touched F e) table t n)
      (λ t m.
      let k : t < length table = omega (arith, room, (touched-shares F e t m).0, length-rows 3 c.triangles l.triangles) in
      subst (λ (a : Hinge). Agree (entry_of a) (entry_of (anew F ls e x t))) (sym (writes_at (anew F ls e x) (hinge_of Spacelike nan) (touched F e) table t k m)) (record-agrees (anew F ls e x t))))
