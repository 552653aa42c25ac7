-- The steps of the retouch: the triangles of the pentachorons that contain an edge are marked and listed, and its checks let it pass. Assumes nothing.
use Rattle.refusals.specs.Refusals.{Done, Outcome}
use Rattle.std.specs.Prelude.{Err}
use Prim.Native.Nat.{ℕ, ◌+◌, ◌≤◌, ◌<◌}
use mathlib.Core.Bool.{Bool, true, false, cond}
use mathlib.Core.List.{List, [], ◌++◌}
use mathlib.Core.Path.{◌≡◌, refl, sym, ap, ◌∙◌, subst}
use native.Mathlib.Numerals.{add-one}
use native.Mathlib.Omega.{arith}
use lib.Dec.{ltb}
use lib.Ieee.{Float}
use lib.ListN.{length, get_or, take, replicate}
use lib.Seq.{take-suc}
use Rattle.std.proofs.lemmas.List.{length-take-le, get_or-take}
use borrow.Author.Tests.{ltb-true, ltb-false}
use Rattle.refusals.specs.declared.Refusal.{Refusal}
use Rattle.refusals.specs.declared.Refusal.TheVariants.{EdgeTooLarge}
use Rattle.lists.specs.Lists.{gather, upto, among}
use Rattle.lists.specs.Rows.{over}
use Rattle.lists.specs.Groups.{Below}
use Rattle.lists.proofs.Tests.{said}
use Rattle.lists.proofs.Elements.{get_or-mem, gather-snoc, keep-only, mem-upto}
use Rattle.lists.proofs.Rows.{length-rows, over-take}
use Rattle.complex.specs.declared.Complex.{Complex}
use Rattle.complex.specs.declared.Counts.{Counts}
use Rattle.complex.specs.Complex.{row_numbers}
use Rattle.complex.specs.Check.{pents_in, triangles_in}
use Rattle.complex.specs.Lent.{lists_of, pents_of, edges_of, IsHolding}
use Rattle.complex.proofs.Offences.{or-false}
use Rattle.comparison.proofs.BuiltComplex.{built-says, built-edge-to-pents}
use Rattle.marks.specs.Marks.{listed, marked, marked_below}
use Rattle.marks.proofs.Marking.{marked-listed, marked-most}
use Rattle.hinges.specs.Hinges.{FaceLists, faces_of}
use Rattle.hinges.specs.Parts.{Found, IsMeasured}
use Rattle.hinges.proofs.PentachoronSteps.{numbers-below}
use Rattle.calls.specs.declared.built.BuiltComplex.{BuiltComplex}
use Rattle.calls.specs.Calls.{lengths_check_of, room_check_of, short_table}
use Rattle.calls.proofs.BuiltCalls.{measured, lengths-passed, lengths-decided, room-passed, done-not-refused}
use Rattle.retouch.specs.Retouch.{around, touched, edge_check_of, Retouched}

-- ---- the triangles of pentachorons

-- the triangles of the pentachorons of these numbers, one pentachoron after the other
abbrev pub triangles_of : FaceLists → List ℕ → List ℕ
triangles_of F is = gather (λ i. row_numbers F.triangles 3 (get_or F.pents i [])) is

-- those of one pentachoron more
pub triangles-next : (F : FaceLists) (is : List ℕ) (k : ℕ) → k < length is → triangles_of F (take (k + 1) is) ≡ triangles_of F (take k is) ++ row_numbers F.triangles 3 (get_or F.pents (get_or is k 0) [])
triangles-next F is k h =
    ap (triangles_of F) (ap (λ (n : ℕ). take n is) (add-one k) ∙ take-suc is k 0 h)
    ∙ gather-snoc (λ i. row_numbers F.triangles 3 (get_or F.pents i [])) (take k is) (get_or is k 0)

-- they have places in lists with one for each triangle
pub triangles-below : (c : Counts) (pents triangles : List ℕ) → Found (triangles_in c triangles) 3 (pents_in c pents) → (own : List ℕ) (p : ℕ) → own ≡ row_numbers (triangles_in c triangles) 3 (get_or (pents_in c pents) p [])
    → p < c.pentachorons → (m : ℕ) → c.triangles ≤ m → Below own m
triangles-below c pents triangles found own p e inside m h =
    let r = get_or (pents_in c pents) p [] in
    let at = get_or-mem (pents_in c pents) p [] (rw (length-rows 5 c.pentachorons pents) inside) in
    rw e (λ i l. omega (arith, numbers-below (triangles_in c triangles) 3 r (λ s q. found r s at q) i l, length-rows 3 c.triangles triangles))

-- ---- marks

-- the marked triangles are those of the pentachorons that contain the edge
pub marks-touched : (x : Complex) (e m : ℕ) → x.counts.triangles ≤ m → (marks : List Bool) → marks ≡ marked (around (faces_of x) e) (replicate m false)
    → marked_below x.counts.triangles marks ≡ touched (faces_of x) e
marks-touched x e m h marks is =
    let own = around (faces_of x) e in
    ap (marked_below x.counts.triangles) is
    ∙ marked-listed own x.counts.triangles m h
    ∙ ap (λ (k : ℕ). listed k own) (sym (length-rows 3 x.counts.triangles x.triangles.now))

-- there are no more than triangles
pub touched-most : (x : Complex) (e : ℕ) → length (touched (faces_of x) e) ≤ x.counts.triangles
touched-most x e =
    rw (← marks-touched x e x.counts.triangles (omega arith) _ refl) (marked-most (marked (around (faces_of x) e) (replicate x.counts.triangles false)) x.counts.triangles)

-- each is the number of a triangle
pub touched-below : (x : Complex) (e : ℕ) → Below (touched (faces_of x) e) x.counts.triangles
unfolding listed
touched-below x e k h =
    let n = length (triangles_in x.counts x.triangles.now) in
    omega (arith, mem-upto n _ (keep-only (λ t. among t (around (faces_of x) e)) (upto n) (get_or-mem (touched (faces_of x) e) k 0 h)), length-rows 3 x.counts.triangles x.triangles.now)

-- ---- checks

-- what the check of the edge refuses, it refuses before the other checks
pub edge-refused : (c : Counts) (e : ℕ) (others : Outcome) {r : Refusal} → edge_check_of c e Done ≡ Err r → edge_check_of c e others ≡ Err r
unfolding edge_check_of
edge-refused c e others h = go (ltb e c.edges) h
  where
    go : (b : Bool) {r : Refusal} → cond b Done (Err EdgeTooLarge) ≡ Err r → cond b others (Err EdgeTooLarge) ≡ Err r
    go true h = absurd (done-not-refused h)
    go false h = h

-- what it lets pass, the other checks decide
pub edge-decided : (c : Counts) (e : ℕ) (others : Outcome) → edge_check_of c e Done ≡ Done → edge_check_of c e others ≡ others
unfolding edge_check_of
edge-decided c e others h = go (ltb e c.edges) h
  where
    go : (b : Bool) → cond b Done (Err EdgeTooLarge) ≡ Done → cond b others (Err EdgeTooLarge) ≡ others
    go true h = refl
    go false h = absurd (done-not-refused (sym h))

-- where the check of the edge lets a call pass
edge-passed : (c : Counts) (e : ℕ) (others : Outcome) → edge_check_of c e others ≡ Done → (e < c.edges) × (others ≡ Done)
unfolding edge_check_of
edge-passed c e others h = let s = go (ltb e c.edges) h in (ltb-true e c.edges s.0, s.1)
  where
    go : (b : Bool) → cond b others (Err EdgeTooLarge) ≡ Done → (b ≡ true) × (others ≡ Done)
    go true h = (refl, h)
    go false h = absurd (done-not-refused (sym h))

-- where the checks of lengths and edge do: there are as many lengths as edges, and the edge is one of them
pub edges-passed : (c : Counts) (n e : ℕ) (others : Outcome) → lengths_check_of c n (edge_check_of c e others) ≡ Done → (n ≡ c.edges) × (e < c.edges) × (others ≡ Done)
edges-passed c n e others h =
    let p = lengths-passed c n (edge_check_of c e others) h in
    let q = edge-passed c e others p.1 in
    (p.0, q.0, q.1)

-- where the check of room does, a table of two lists has places for all triangles
pub table-room : (c : Counts) (ds ks : ℕ) → room_check_of (short_table c ds ks) ≡ Done → (c.triangles ≤ ds) × (c.triangles ≤ ks)
table-room c ds ks h =
    let s = or-false (ltb ds c.triangles) (ltb ks c.triangles) (room-passed (short_table c ds ks) h) in
    (ltb-false ds c.triangles s.0, ltb-false ks c.triangles s.1)

-- the checks of lengths, edge and room in turn answer what they say together
module _ (c : Counts) (n e : ℕ) (others : Outcome) (lengths : lengths_check_of c n Done ≡ Done) where
  pub edge-second : {r : Refusal} → edge_check_of c e Done ≡ Err r → lengths_check_of c n (edge_check_of c e others) ≡ Err r
  edge-second edge = lengths-decided c n (edge_check_of c e others) lengths ∙ edge-refused c e others edge

  pub others-third : edge_check_of c e Done ≡ Done → lengths_check_of c n (edge_check_of c e others) ≡ others
  others-third edge = lengths-decided c n (edge_check_of c e others) lengths ∙ edge-decided c e others edge

-- of a built complex the pentachorons on each edge are listed
pub on-pents : (b : BuiltComplex) → IsHolding (pents_of b.complex) (edges_of b.complex) b.complex.edge_to_pents
on-pents b =
    let x = b.complex in
    built-edge-to-pents x.counts (lists_of x) (said (built-says x.counts (lists_of x)) b.built_with.built)

-- what a retouch of a built complex with n lengths has where the checks of lengths and edge let it pass
pub record Passed (b : BuiltComplex) (n e : ℕ) : Type 0 where
  pub measured : IsMeasured b.complex b.incidence n
  pub on_pents : IsHolding (pents_of b.complex) (edges_of b.complex) b.complex.edge_to_pents
  pub counted : n ≡ b.complex.counts.edges
  pub inside : e < b.complex.counts.edges

-- it has them
pub retouch-passed : (b : BuiltComplex) (n e : ℕ) → lengths_check_of b.complex.counts n Done ≡ Done → edge_check_of b.complex.counts e Done ≡ Done → Passed b n e
retouch-passed b n e lengths edge =
    let x = b.complex in
    let counted = (lengths-passed x.counts n Done lengths).0 in
    record {
      measured = measured b n counted;
      on_pents = on-pents b;
      counted = counted;
      inside = (edge-passed x.counts e Done edge).0;
    }

-- ---- the lists that are lent

-- the scratch in which the touched triangles were listed: they are its beginning, there is room for them, and each of those first is a triangle
pub record Listed (x : Complex) (e count : ℕ) (tris : List ℕ) : Type 0 where
  pub own : take count tris ≡ touched (faces_of x) e
  pub room : count ≤ length tris
  pub below : (n : ℕ) → n ≤ count → Below (take n tris) x.counts.triangles

-- what holds of the first numbers of a list holds of fewer of them
below-take : (n count m : ℕ) (tris : List ℕ) → count ≤ length tris → n ≤ count → Below (take count tris) m → Below (take n tris) m
below-take n count m tris room h all k i =
    let few : k < n = omega (arith, i, length-take-le n tris (omega (arith, room, h))) in
    subst (λ (t : ℕ). t < m) (get_or-take count tris k 0 (omega (arith, few, h)) ∙ sym (get_or-take n tris k 0 few)) (all k (omega (arith, few, h, length-take-le count tris room)))

-- it is so after they were listed in scratch with a place for each triangle
pub listed-touched : (x : Complex) (e count : ℕ) (old tris : List ℕ) → x.counts.triangles ≤ length old → length tris ≡ length old → count ≡ length (touched (faces_of x) e) → tris ≡ over (touched (faces_of x) e) old
    → Listed x e count tris
listed-touched x e count old tris place same many is =
    let own : take count tris ≡ touched (faces_of x) e = ap (take count) is ∙ over-take (touched (faces_of x) e) old count (sym many) in
    let room : count ≤ length tris = omega (arith, touched-most x e) in
    let all : Below (take count tris) x.counts.triangles = rw own (touched-below x e) in
    record { own = own; room = room; below = λ n h. below-take n count x.counts.triangles tris room h all }

-- what a retouch leaves where it is refused
pub retouched-refused : {o : Outcome} {F : FaceLists} {ls : List Float} {e : ℕ} {x : Float} {ds : List Float} {ks : List ℕ} {r : Outcome} {q : Refusal} → o ≡ Err q → r ≡ Err q → Retouched o F ls e x ds ks r ls ds ks
retouched-refused says is = rw is (record { answered = sym says; lengths = refl; deficits = refl; kinds = refl })

-- what holds of checks holds of others that say the same
pub retouched-same : {o u : Outcome} {F : FaceLists} {ls : List Float} {e : ℕ} {x : Float} {ds : List Float} {ks : List ℕ} {r : Outcome} {ls' ds' : List Float} {ks' : List ℕ} → o ≡ u → Retouched o F ls e x ds ks r ls' ds' ks' → Retouched u F ls e x ds ks r ls' ds' ks'
retouched-same s t = record { answered = t.answered ∙ s; lengths = t.lengths; deficits = t.deficits; kinds = t.kinds }
