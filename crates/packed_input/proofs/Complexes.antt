-- The input's complex, by what its header and the builder say, and its size. Assumes nothing.
use Rattle.refusals.specs.Refusals.{Done, Outcome}
use Rattle.std.specs.Prelude.{Err, Ok}
use Prim.Native.Nat.{ℕ, ◌+◌, ◌*◌, ◌/◌, ◌%◌, ◌≤◌}
use mathlib.Core.Bool.{false, cond, ◌||◌}
use mathlib.Core.Path.{◌≡◌, refl, sym, ap, ◌∙◌}
use mathlib.Core.List.{List}
use native.Mathlib.Omega.{arith}
use lib.Dec.{eqb, ltb}
use lib.ListN.{length, take, length-map}
use borrow.Author.Tests.{eq-eqb, le-ltb}
use Rattle.refusals.specs.declared.Refusal.{Refusal}
use Rattle.refusals.specs.declared.Refusal.TheVariants.{VertexCount}
use Rattle.lists.specs.Lists.{upto}
use Rattle.lists.specs.Rows.{Wide, over}
use Rattle.lists.proofs.Elements.{length-upto}
use Rattle.lists.proofs.Keys.{firsts-room}
use Rattle.lists.proofs.Rows.{over-take}
use Rattle.complex.specs.Builder.{Built}
use Rattle.complex.specs.declared.numbering.Face.{Face}
use Rattle.complex.specs.declared.numbering.Face.TheVariants.{Edge, Triangle}
use Rattle.complex.specs.Complex.{count_of, met_faces, faces, edges, triangles}
use Rattle.complex.specs.Builder.{pentachorons, sorted_pents, offence, is_short, check_of, built_of, counts_of, Lists, lists_after, rooms_of, Builds}
use Rattle.complex.specs.Check.{room_for}
use Rattle.complex.proofs.Meetings.{length-met}
use Rattle.complex.proofs.SortedPents.{sorted-wide-all, length-sorted-all}
use Rattle.packed_input.specs.Format.{vertex_count, pent_count, vertex_at, vertices}
use Rattle.packed_input.specs.Decoding.{header_check_of, then_check, complex_check_of, given_in, complex_of, Few}
use Rattle.packed_input.specs.declared.fields.Packed.{Packed}
use Rattle.packed_input.proofs.Refusing.{header-says, header-done}

-- ---- the vertices

-- P pentachorons have 5P vertices
pub length-vertices : (input : List ℕ) (P : ℕ) → length (vertices input P) ≡ 5 * P
unfolding vertices
length-vertices input P = length-map (upto (5 * P)) (vertex_at input) ∙ length-upto (5 * P)

-- the front of a list over which they are written
pub vertices-front : (input given old : List ℕ) (P : ℕ) → P ≡ pent_count input → given ≡ over (vertices input P) old → take (5 * P) given ≡ given_in input
vertices-front input given old P e w =
    ap (take (5 * P)) w ∙ over-take (vertices input P) old (5 * P) (length-vertices input P) ∙ ap (vertices input) e

-- 64 pentachorons or fewer have room
room-enough : (P : ℕ) → P ≤ 64 → is_short P (room_for 64) ≡ false
unfolding is_short
room-enough P h =
    rw (le-ltb 320 (5 * P) (omega arith), le-ltb 1280 (20 * P) (omega arith), le-ltb 1920 (30 * P) (omega arith), le-ltb 640 (10 * P) (omega arith), le-ltb 641 (10 * P + 1) (omega arith)) refl

-- ---- the answer

-- an input that is read has a header that is not refused
pub header-passes : (p : Packed) → header_check_of p.bytes.now ≡ Done
header-passes p = sym (header-done p.bytes.now (omega (arith, p.whole)) p.layout.n_pents p.pents_read p.layout.few (omega (arith, p.whole)))

module _ (input : List ℕ) where
  -- a refused header decides
  pub header-decides : (r : Refusal) → header_check_of input ≡ Err r → complex_check_of input ≡ Err r
  unfolding complex_check_of
  header-decides r e = rw e refl

  -- else the builder does
  pub builder-decides : header_check_of input ≡ Done → complex_check_of input ≡ check_of (vertex_count input) (given_in input) (room_for 64)
  unfolding complex_check_of
  builder-decides e = rw e refl

  -- with room for 64 it refuses nothing but VertexCount, VertexTooLarge and RepeatedVertex
  pub builder_refuses : header_check_of input ≡ Done
      → complex_check_of input ≡ cond (eqb (vertex_count input) 0 || ltb 4096 (vertex_count input)) (Err VertexCount) (offence (vertex_count input) 0 (pentachorons (given_in input)))
  unfolding check_of
  builder_refuses e =
      let few = (header-says input e).1 in
      let n = length-vertices input (pent_count input) in
      builder-decides e
      ∙ rw (eq-eqb (length (given_in input) % 5) 0 (omega arith), le-ltb 40960 (length (given_in input)) (omega arith), room-enough (length (given_in input) / 5) (omega arith)) refl

  -- what the builder answers and leaves is the input's complex
  pub builder-answers : (n : ℕ) (given : List ℕ) (before after : Lists) (r : Built) → header_check_of input ≡ Done → n ≡ vertex_count input → given ≡ given_in input
      → rooms_of before ≡ room_for 64 → Builds n given before r after → (r ≡ complex_of input) × (after ≡ lists_after (complex_check_of input) (given_in input) before)
  builder-answers n given before after r h en eg er b =
      let o : check_of n given (rooms_of before) ≡ complex_check_of input = (λ i. check_of (en i) (eg i) (er i)) ∙ sym (builder-decides h) in
      (b.answered ∙ (λ i. built_of (o i) (en i) (eg i)), b.left ∙ (λ i. lists_after (o i) (eg i) before))

-- ---- its size

-- what is decoded to a complex has a header
pub header-passed : (input : List ℕ) → complex_check_of input ≡ Done → header_check_of input ≡ Done
unfolding complex_check_of
header-passed input = go (header_check_of input)
  where
    go : (o : Outcome) → then_check o (check_of (vertex_count input) (given_in input) (room_for 64)) ≡ Done → o ≡ Done
    go (Ok u) e = refl
    go (Err r) e = e

-- there are no more faces of a kind than are met
met-few : (f : Face) (ps : List (List ℕ)) → Wide 5 ps → length (faces f ps) ≤ count_of f * length ps
unfolding faces
met-few f ps five = omega (arith, firsts-room (met_faces f ps), length-met f ps five)

-- the input's complex has at most 64 pentachorons, and at most 640 edges and triangles
pub small-complex : (input : List ℕ) → complex_check_of input ≡ Done
    → (length (sorted_pents (given_in input)) ≤ 64) × (length (edges (sorted_pents (given_in input))) ≤ 640) × (length (triangles (sorted_pents (given_in input))) ≤ 640)
small-complex input e =
    let h = header-says input (header-passed input e) in
    let ps = sorted_pents (given_in input) in
    let n : length ps ≤ 64 = omega (arith, length-sorted-all (given_in input), length-vertices input (pent_count input)) in
    (n, omega (arith, met-few Edge ps (sorted-wide-all (given_in input))), omega (arith, met-few Triangle ps (sorted-wide-all (given_in input))))

-- so that there are places for its lengths
pub few-complex : (input : List ℕ) → Few (complex_of input) 640
unfolding counts_of
few-complex input = go (complex_check_of input) refl
  where
    go : (o : Outcome) → complex_check_of input ≡ o → Few (built_of o (vertex_count input) (given_in input)) 640
    go (Ok u) e = let s = small-complex input e in (s.0, s.1, s.1)
    go (Err r) e = tt

-- an answer with counts has so many pentachorons
abbrev pub AsMany : ℕ → Built → Type 0
AsMany P (Ok c) = c.pentachorons ≡ P
AsMany P (Err r) = Unit {0}

-- the complex has as many as the header says
pub as-many : (input : List ℕ) → AsMany (pent_count input) (complex_of input)
unfolding counts_of
as-many input = go (complex_check_of input)
  where
    go : (o : Outcome) → AsMany (pent_count input) (built_of o (vertex_count input) (given_in input))
    go (Ok u) = omega (arith, length-sorted-all (given_in input), length-vertices input (pent_count input))
    go (Err r) = tt
