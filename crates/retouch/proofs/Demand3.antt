-- What a retouch leaves. It is proved for tables of any form, and then for the two plain lists of `retouch::retouch` and of its core from their contract. Assumes nothing.
use Rattle.refusals.specs.Refusals.{Done, Outcome}
use Rattle.std.specs.Prelude.{Err, Some, None}
use Prim.Native.Nat.{ℕ, zero, suc, ◌≤◌, ◌<◌}
use mathlib.Core.Bool.{Bool, true, false}
use mathlib.Core.List.{List, Memᴰ}
use mathlib.Core.Path.{◌≡◌, refl, sym, ap, ◌∙◌, subst}
use native.Mathlib.Omega.{arith}
use lib.Ieee.{Float, nan}
use lib.ListN.{length, set, length-set}
use lib.Seq.{get_or-set_same, get_or-set_other}
use Rattle.refusals.specs.declared.Refusal.{Refusal}
use Rattle.lists.specs.Rows.{Wide}
use Rattle.lists.specs.Writes.{writes}
use Rattle.lists.proofs.Tests.{Says, pass, fail, said}
use Rattle.lists.proofs.Elements.{among-says}
use Rattle.lists.proofs.Rows.{length-rows}
use Rattle.lists.proofs.Writes.{writes-other, writes_at}
use Rattle.complex.specs.declared.Counts.{Counts}
use Rattle.complex.specs.Builder.{Lists}
use Rattle.complex.specs.Check.{edges_in, is_built}
use Rattle.incidence.specs.Incidence.{Simplices}
use Rattle.comparison.proofs.BuiltComplex.{built-says, built-wide, built-simplices}
use Rattle.lorentzian.specs.Dihedral.{kind_number}
use Rattle.hinges.specs.declared.hinge.Hinge.{Hinge}
use Rattle.hinges.specs.Hinges.{FaceLists, faces_in, kind_in}
use Rattle.hinges.proofs.HingeKinds.{kind-byte}
use Rattle.calls.specs.Calls.{BuiltWith, built_check_of, lengths_check_of, room_check_of, short_table}
use Rattle.calls.proofs.BuiltCalls.{done-not-refused, not-built, others-decide}
use Rattle.retouch.specs.Retouch.{touched, anew, edge_check_of, Retouched}
use Rattle.retouch.specs.Demand3.{Entry, entry_of, entry_in, both_at, Agree, worked_out, Matches, Shares, Demand3}
use Rattle.retouch.proofs.TouchedSteps.{edges-passed, table-room}
use Rattle.retouch.proofs.Locality.{touched-shares, shares-touched, record_same}

-- ---- tables of any form

-- a table that has the touched triangles' records worked out anew, and at other places what it had
pub demand3-of : {A : Type 0} (read : A → Entry) (F : FaceLists) (ls : List Float) (e : ℕ) (x : Float) (before after : ℕ → A)
    → Simplices F.pents F.triangles → Wide 5 F.pents → length ls ≡ length F.edges → e < length F.edges
    → ((t : ℕ) → (Memᴰ t (touched F e) → ⊥) → after t ≡ before t)
    → ((t : ℕ) → Memᴰ t (touched F e) → Agree (read (after t)) (entry_of (anew F ls e x t)))
    → Demand3 read F ls e x before (set ls e x) after
demand3-of {A} read F ls e x before after ok five many known others written =
    record {
      as_many = length-set ls e x;
      stored = get_or-set_same ls e x nan (omega arith);
      others = λ i n. get_or-set_other ls e i x nan n;
      exactly = ((λ all t h n. matched t h n (all t h)), (λ old t h. equal old t h (among-says t (touched F e))));
      unwritten = λ t h n m. n (touched-shares F e t m).1;
      kept = λ t h n. kept t n;
      fresh = λ t h s. written t (shares-touched F e ok t h s);
      beyond = λ t h. others t (λ m. omega (arith, (touched-shares F e t m).0));
    }
  where
    kept : (t : ℕ) → (Shares F e t → ⊥) → after t ≡ before t
    kept t n = others t (λ m. n (touched-shares F e t m).1)

    same : (t : ℕ) → t < length F.triangles → (Shares F e t → ⊥) → worked_out F (set ls e x) t ≡ worked_out F ls t
    same t h n = ap entry_of (record_same F ls e x known ok five t h n)

    -- where the table left agrees at a triangle apart from the edge, the one before matched there
    matched : (t : ℕ) → t < length F.triangles → (Shares F e t → ⊥) → Agree (read (after t)) (worked_out F (set ls e x) t) → Matches F ls (λ t. read (before t)) t
    matched t h n w = subst (λ (b : Entry). Agree (read (before t)) b) (same t h n) (subst (λ (a : A). Agree (read a) (worked_out F (set ls e x) t)) (kept t n) w)

    -- and where it matched at all those, the table left agrees everywhere
    equal : ((t : ℕ) → t < length F.triangles → (Shares F e t → ⊥) → Matches F ls (λ t. read (before t)) t) → (t : ℕ) → t < length F.triangles
        → {b : Bool} → Says (Memᴰ t (touched F e)) b → Agree (read (after t)) (worked_out F (set ls e x) t)
    equal old t h (pass m) = written t m
    equal old t h (fail f) =
        let n : Shares F e t → ⊥ = λ s. f (shares-touched F e ok t h s) in
        subst (λ (b : Entry). Agree (read (after t)) b) (sym (same t h n)) (subst (λ (a : A). Agree (read a) (worked_out F ls t)) (sym (kept t n)) (old t h n))

-- ---- what is read

-- a record as a deficit and a byte is read as the record
pub both_agree : (d : Float) (b : ℕ) (h : Hinge) → d ≡ h.deficit → b ≡ kind_number h.kind → Agree (entry_in (d, b)) (entry_of h)
both_agree d b h ed eb = record { deficits = ed; kinds = (h.kind, ap kind_in eb ∙ kind-byte (Some h.kind), refl) }

-- a record agrees with itself
pub record-agrees : (h : Hinge) → Agree (entry_of h) (entry_of h)
record-agrees h = record { deficits = refl; kinds = (h.kind, refl, refl) }

-- where a byte is neither 0 nor 1 nothing agrees
pub no-kind-agrees : (d : Float) (b : ℕ) → (b ≡ 0 → ⊥) → (b ≡ 1 → ⊥) → (a : Entry) → Agree (entry_in (d, b)) a → ⊥
no-kind-agrees d zero f g a w = f refl
no-kind-agrees d (suc zero) f g a w = g refl
no-kind-agrees d (suc (suc n)) f g a w = let e : None ≡ Some w.kinds.0 = w.kinds.1 in let z : ◌≡◌ {A = ℕ} 0 1 = cc in omega arith

-- ---- the checks

-- where the checks of lengths and edge let a call pass there is a length for each row of the edges, and the edge is one of them
pub rows-passed : (c : Counts) (edges : List ℕ) (n e : ℕ) (others : Outcome) → lengths_check_of c n (edge_check_of c e others) ≡ Done → (n ≡ length (edges_in c edges)) × (e < length (edges_in c edges)) × (others ≡ Done)
rows-passed c edges n e others h =
    let p = edges-passed c n e others h in
    let E : length (edges_in c edges) ≡ c.edges = length-rows 2 c.edges edges in
    (p.0 ∙ sym E, rw E p.1, p.2)

-- where the check of the complex lets a call pass it is built
pub built-passed : (c : Counts) (l : Lists) (others : Outcome) → built_check_of c l others ≡ Done → is_built c l ≡ true
built-passed c l others h = go (is_built c l) refl
  where
    go : (b : Bool) → is_built c l ≡ b → is_built c l ≡ true
    go true q = q
    go false q = absurd (done-not-refused (sym h ∙ not-built c l others q))

-- ---- two plain lists

module _ {o : Outcome} {F : FaceLists} {ls : List Float} {e : ℕ} {x : Float} {ds : List Float} {ks : List ℕ} {r : Outcome} {ls' ds' : List Float} {ks' : List ℕ} (left : Retouched o F ls e x ds ks r ls' ds' ks') where
  -- a refused call changes nothing
  pub retouch-refused : {q : Refusal} → r ≡ Err q → (ls' ≡ ls) × (ds' ≡ ds) × (ks' ≡ ks)
  retouch-refused h = (left.lengths ∙ (rw h refl), left.deficits ∙ (rw h refl), left.kinds ∙ (rw h refl))

  -- the deficit that is written
  abbrev deficit : ℕ → Float
  deficit t = (anew F ls e x t).deficit

  -- the byte that is written
  abbrev byte : ℕ → ℕ
  byte t = kind_number (anew F ls e x t).kind

  -- a call that answers leaves what `Demand3` says, where its checks saw to lengths, edge and room
  lists_demand3 : Simplices F.pents F.triangles → Wide 5 F.pents → length ls ≡ length F.edges → e < length F.edges
      → length F.triangles ≤ length ds → length F.triangles ≤ length ks → r ≡ Done → Demand3 entry_in F ls e x (both_at ds ks) ls' (both_at ds' ks')
  lists_demand3 ok five many known room-d room-k done =
      let el : ls' ≡ set ls e x = left.lengths ∙ (rw done refl) in
      let ed : ds' ≡ writes deficit (touched F e) ds = left.deficits ∙ (rw done refl) in
      let ek : ks' ≡ writes byte (touched F e) ks = left.kinds ∙ (rw done refl) in
      rw (el, ed, ek)
      (demand3-of entry_in F ls e x (both_at ds ks) (both_at (writes deficit (touched F e) ds) (writes byte (touched F e) ks)) ok five many known
      (λ t n. λ i. (writes-other deficit nan (touched F e) ds t n i, writes-other byte 0 (touched F e) ks t n i))
      (λ t m.
      let h : t < length F.triangles = (touched-shares F e t m).0 in
      both_agree _ _ (anew F ls e x t) (writes_at deficit nan (touched F e) ds t (omega arith) m) (writes_at byte 0 (touched F e) ks t (omega arith) m)))

-- ---- the calls

module _ (c : Counts) (l : Lists) (ls : List Float) (e : ℕ) (x : Float) (ds : List Float) (ks : List ℕ) (r : Outcome) (ls' ds' : List Float) (ks' : List ℕ) where
  abbrev F : FaceLists
  F = faces_in c l.pents l.edges l.triangles

  -- what the checks after that of the complex say
  abbrev checks : Outcome
  checks = lengths_check_of c (length ls) (edge_check_of c e (room_check_of (short_table c (length ds) (length ks))))

  -- either call over a built complex
  answered_demand3 : is_built c l ≡ true → Retouched checks F ls e x ds ks r ls' ds' ks' → r ≡ Done → Demand3 entry_in F ls e x (both_at ds ks) ls' (both_at ds' ks')
  answered_demand3 h left done =
      let b = said (built-says c l) h in
      let p = rows-passed c l.edges (length ls) e (room_check_of (short_table c (length ds) (length ks))) (sym left.answered ∙ done) in
      let s = table-room c (length ds) (length ks) p.2 in
      let T : length F.triangles ≡ c.triangles = length-rows 3 c.triangles l.triangles in
      lists_demand3 left (built-simplices c l b) (built-wide c l b) p.0 p.1 (rw T s.0) (rw T s.1) done

  -- `retouch::retouch_built`: from what it asks and its contract
  pub retouch-built_demand3 : (pe pt : List ℕ) → BuiltWith c l pe pt → Retouched checks F ls e x ds ks r ls' ds' ks' → r ≡ Done → Demand3 entry_in F ls e x (both_at ds ks) ls' (both_at ds' ks')
  retouch-built_demand3 pe pt w left done = answered_demand3 w.built left done

  -- `retouch::retouch`: from its contract alone
  pub retouch_demand3 : Retouched (built_check_of c l checks) F ls e x ds ks r ls' ds' ks' → r ≡ Done → Demand3 entry_in F ls e x (both_at ds ks) ls' (both_at ds' ks')
  retouch_demand3 left done =
      let h : is_built c l ≡ true = built-passed c l checks (sym left.answered ∙ done) in
      answered_demand3 h (subst (λ (o : Outcome). Retouched o F ls e x ds ks r ls' ds' ks') (others-decide c l checks h) left) done
