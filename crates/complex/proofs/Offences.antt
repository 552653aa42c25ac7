-- The checks of the builder: their turns, and what a list that passed them is like. Assumes nothing.
use Rattle.refusals.specs.Refusals.{Done, Outcome}
use Rattle.std.specs.Prelude.{Err}
use Prim.Native.Nat.{ℕ, zero, suc, ◌+◌, ◌*◌, ◌-◌, ◌/◌, ◌%◌, ◌<◌, ◌≤◌}
use mathlib.Core.Path.{◌≡◌, refl, ap, ◌∙◌}
use mathlib.Core.Bool.{Bool, true, false, not, cond, ◌||◌}
use mathlib.Core.List.Memᴰ
use mathlib.Core.List.{List, [], ◌∷◌, Memᴰ}
use mathlib.Core.Logic.{⊎_elim}
use native.Mathlib.Omega.{arith}
use native.Mathlib.Numerals.{add-one}
use lib.Dec.{eqb, ltb}
use lib.ListN.{length, get_or, take, drop}
use lib.Seq.{drop-drop}
use borrow.Author.Tests.{eqb-true, ltb-false, not-false}
use Rattle.refusals.specs.declared.Refusal.{Refusal}
use Rattle.refusals.specs.declared.Refusal.TheVariants.{VertexCount, ListLength, ShortRoom, VertexTooLarge, RepeatedVertex}
use Rattle.lists.specs.Lists.{among, Once}
use Rattle.lists.specs.Rows.{rows}
use Rattle.lists.proofs.Tests.{denied}
use Rattle.lists.proofs.Elements.{among-says}
use Rattle.complex.specs.declared.checks.Rooms.{Rooms}
use Rattle.complex.specs.Builder.{pentachorons, too_large, repeats, offence, is_short, check_of, Lists, rooms_of}
use Rattle.complex.specs.Parts.{Buildable}

-- the turn at the pentachoron k of c
pub offence-turn : (n k c : ℕ) (ps : List ℕ) → k < c
    → offence n k (rows 5 (c - k) (drop (5 * k) ps))
    ≡ cond (too_large n (take 5 (drop (5 * k) ps))) (Err (VertexTooLarge k))
    (cond (repeats (take 5 (drop (5 * k) ps))) (Err (RepeatedVertex k)) (offence n (k + 1) (rows 5 (c - (k + 1)) (drop (5 * (k + 1)) ps))))
unfolding offence rows
offence-turn n k c ps h =
    let a : c - k ≡ suc (c - (k + 1)) = omega arith in
    let e : 5 * k + 5 ≡ 5 * (k + 1) = omega arith in
    let b : drop 5 (drop (5 * k) ps) ≡ drop (5 * (k + 1)) ps = drop-drop 5 (5 * k) ps ∙ ap (λ (m : ℕ). drop m ps) e in
    rw (a, ← b) refl

or_right : (a b : Bool) → b ≡ true → (a || b) ≡ true
or_right true b h = refl
or_right false b h = h

-- a vertex stands twice where it stands again after one of its places, and no vertex does where none stands again
pub repeats-at : (p : List ℕ) (i : ℕ) → i < length p → among (get_or p i 0) (drop (i + 1) p) ≡ true → repeats p ≡ true
unfolding repeats
repeats-at [] i h e = absurd (omega arith)
repeats-at (v ∷ p) zero h e = rw e refl
repeats-at (v ∷ p) (suc i) h e = or_right (among v p) (repeats p) (repeats-at p i (omega arith) (rw (add-one i) (rw (add-one (suc i)) at e)))

pub repeats-none : (p : List ℕ) → ((i : ℕ) → i < length p → among (get_or p i 0) (drop (i + 1) p) ≡ false) → repeats p ≡ false
unfolding repeats
repeats-none [] h = refl
repeats-none (v ∷ p) h = rw (h 0 (omega arith)) (repeats-none p (λ i l. rw (add-one i) (rw (add-one (suc i)) at (h (suc i) (omega arith)))))

-- ---- what passed

-- a test that refuses was not met where the call is done
pub cond-done : (b : Bool) (r : Refusal) (x : Outcome) → cond b (Err r) x ≡ Done → (b ≡ false) × (x ≡ Done)
cond-done true r x h = absurd (let z : ◌≡◌ {A = ℕ} 0 1 = cc in omega arith)
cond-done false r x h = (refl, h)

pub or-false : (a b : Bool) → (a || b) ≡ false → (a ≡ false) × (b ≡ false)
or-false true b h = absurd (let z : ◌≡◌ {A = ℕ} 0 1 = cc in omega arith)
or-false false b h = (refl, h)

-- no pentachoron offends
pub offence-done : (n k : ℕ) (ps : List (List ℕ)) → offence n k ps ≡ Done → (p : List ℕ) → Memᴰ p ps → (too_large n p ≡ false) × (repeats p ≡ false)
unfolding offence
offence-done n k [] h p m = absurd (Memᴰ.not-nil m)
offence-done n k (q ∷ ps) h p m =
    let a = cond-done (too_large n q) (VertexTooLarge k) _ h in
    let b = cond-done (repeats q) (RepeatedVertex k) _ a.1 in
    ⊎_elim (λ e. rw e (a.0, b.0)) (offence-done n (k + 1) ps b.1 p) (Memᴰ.cases_cons m)

-- no vertex stands twice
pub once-of : (p : List ℕ) → repeats p ≡ false → Once p
unfolding repeats
once-of [] h = tt
once-of (v ∷ p) h = let a = or-false (among v p) (repeats p) h in (denied (among-says v p) a.0, once-of p a.1)

-- the checks let a call pass where each of them does
pub check_done : (n : ℕ) (given : List ℕ) (r : Rooms) → check_of n given r ≡ Done
    → ((eqb n 0 || ltb 4096 n) ≡ false) × ((not (eqb (length given % 5) 0) || ltb 40960 (length given)) ≡ false) × (is_short (length given / 5) r ≡ false) × (offence n 0 (pentachorons given) ≡ Done)
unfolding check_of
check_done n given r h =
    let a = cond-done (eqb n 0 || ltb 4096 n) VertexCount _ h in
    let b = cond-done (not (eqb (length given % 5) 0) || ltb 40960 (length given)) ListLength _ a.1 in
    let c = cond-done (is_short (length given / 5) r) ShortRoom _ b.1 in
    (a.0, b.0, c.0, c.1)

pub done_check : (n : ℕ) (given : List ℕ) (r : Rooms) → (eqb n 0 || ltb 4096 n) ≡ false → (not (eqb (length given % 5) 0) || ltb 40960 (length given)) ≡ false
    → is_short (length given / 5) r ≡ false → offence n 0 (pentachorons given) ≡ Done → check_of n given r ≡ Done
unfolding check_of
done_check n given r a b c d = rw (a, b, c) d

-- a list is whole and short enough where its length passes
pub length-passed : (m : ℕ) → (not (eqb (m % 5) 0) || ltb 40960 m) ≡ false → (m % 5 ≡ 0) × (m ≤ 40960)
length-passed m h =
    let d = or-false (not (eqb (m % 5) 0)) (ltb 40960 m) h in
    (eqb-true (m % 5) 0 (not-false (eqb (m % 5) 0) d.0), ltb-false 40960 m d.1)

pub passed : (n : ℕ) (given : List ℕ) (l : Lists) → check_of n given (rooms_of l) ≡ Done → Buildable given l
unfolding is_short rooms_of
passed n given l h =
    let P = length given / 5 in
    let c = check_done n given (rooms_of l) h in
    let d = length-passed (length given) c.1 in
    let s9 = or-false _ (ltb (length l.edge_to_pents_starts) (10 * P + 1)) c.2 in
    let s8 = or-false _ (ltb (length l.edge_to_pents) (10 * P)) s9.0 in
    let s7 = or-false _ (ltb (length l.edge_to_tris_starts) (10 * P + 1)) s8.0 in
    let s6 = or-false _ (ltb (length l.edge_to_tris) (30 * P)) s7.0 in
    let s5 = or-false _ (ltb (length l.tri_to_pents_starts) (10 * P + 1)) s6.0 in
    let s4 = or-false _ (ltb (length l.tri_to_pents) (10 * P)) s5.0 in
    let s3 = or-false _ (ltb (length l.tets) (20 * P)) s4.0 in
    let s2 = or-false _ (ltb (length l.triangles) (30 * P)) s3.0 in
    let s1 = or-false (ltb (length l.pents) (5 * P)) (ltb (length l.edges) (20 * P)) s2.0 in
    let whole = d.0 in
    record {
      whole = whole;
      few = d.1;
      once = λ p m. once-of p (offence-done n 0 (pentachorons given) c.3 p m).1;
      pents_room = omega (arith, whole, ltb-false (length l.pents) (5 * P) s1.0);
      edges_room = omega (arith, whole, ltb-false (length l.edges) (20 * P) s1.1);
      triangles_room = omega (arith, whole, ltb-false (length l.triangles) (30 * P) s2.1);
      tets_room = omega (arith, whole, ltb-false (length l.tets) (20 * P) s3.1);
      tp_room = omega (arith, whole, ltb-false (length l.tri_to_pents) (10 * P) s4.1);
      tp_starts_room = omega (arith, whole, ltb-false (length l.tri_to_pents_starts) (10 * P + 1) s5.1);
      et_room = omega (arith, whole, ltb-false (length l.edge_to_tris) (30 * P) s6.1);
      et_starts_room = omega (arith, whole, ltb-false (length l.edge_to_tris_starts) (10 * P + 1) s7.1);
      ep_room = omega (arith, whole, ltb-false (length l.edge_to_pents) (10 * P) s8.1);
      ep_starts_room = omega (arith, whole, ltb-false (length l.edge_to_pents_starts) (10 * P + 1) s9.1);
    }

-- a list of the same length passes too, where its pentachorons do
pub check-same : (n : ℕ) (given xs : List ℕ) (r : Rooms) → length xs ≡ length given → check_of n given r ≡ Done
    → (offence n 0 (pentachorons given) ≡ Done → offence n 0 (pentachorons xs) ≡ Done) → check_of n xs r ≡ Done
check-same n given xs r e h f =
    let c = check_done n given r h in
    done_check n xs r c.0 (rw e c.1) (rw e c.2) (f c.3)
