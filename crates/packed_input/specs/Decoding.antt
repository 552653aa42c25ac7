-- Decoding the program's input: when it is refused, and the complex and the squared lengths that it decodes to. Definitions only.
use Rattle.refusals.specs.Refusals.{Done, Outcome}
use Rattle.std.specs.Prelude.{ℕ, ◌+◌, ◌*◌, ◌≤◌, ◌≡◌, not, cond, ◌||◌, List, eqb, ltb, Float, length, replicate, Err, Ok}
use Rattle.refusals.specs.declared.Refusal.TheVariants.{BadInput, TooManyPentachorons}
use Rattle.floats.specs.Ops.{zero}
use Rattle.lists.specs.Rows.{over}
use Rattle.complex.specs.declared.Counts.{Counts}
use Rattle.complex.specs.Builder.{Built}
use Rattle.complex.specs.Builder.{check_of, built_of, Lists, lists, lists_after}
use Rattle.complex.specs.Check.{room_for}
use Rattle.packed_input.specs.declared.DecodedLists.{DecodedLists}
use Rattle.packed_input.specs.Format.{vertex_count, pent_count, vertices_end, vertices, lengths_start, padding, sq_lengths_in}

-- ---- refusals

-- BadInput where the header is short, then TooManyPentachorons where there are more than 64, then BadInput where the vertices are cut short
unfoldable pub header_check_of : List ℕ → Outcome
header_check_of input =
    cond (ltb (8 * length input) 27) (Err BadInput)
    (cond (ltb 64 (pent_count input)) (Err TooManyPentachorons)
    (cond (ltb (8 * length input) (vertices_end (pent_count input))) (Err BadInput) Done))

-- a first check's refusal, then what a second check says
abbrev pub then_check : Outcome → Outcome → Outcome
then_check (Ok u) second = second
then_check (Err r) second = Err r

-- the vertices of the input's pentachorons
abbrev pub given_in : List ℕ → List ℕ
given_in input = vertices input (pent_count input)

-- the header's refusals, then those of the builder with room for 64 pentachorons: VertexCount, VertexTooLarge and RepeatedVertex
unfoldable pub complex_check_of : List ℕ → Outcome
complex_check_of input = then_check (header_check_of input) (check_of (vertex_count input) (given_in input) (room_for 64))

-- BadInput where a bit between the vertices and the lengths is set, or the lengths of E edges do not end the input exactly
unfoldable pub tail_check_of : List ℕ → ℕ → ℕ → Outcome
tail_check_of input P E = cond (not (eqb (length input) (lengths_start P + 8 * E)) || not (eqb (padding input P) 0)) (Err BadInput) Done

-- ---- the answer

-- the builder's counts or the refusal
abbrev pub complex_of : List ℕ → Built
complex_of input = built_of (complex_check_of input) (vertex_count input) (given_in input)

-- counts, or the refusal of a check
abbrev pub counts_by : Outcome → Counts → Built
counts_by (Ok u) c = Ok c
counts_by (Err r) c = Err r

-- counts whose lengths are checked too, or the refusal
abbrev pub with_lengths : List ℕ → Built → Built
with_lengths input (Ok c) = counts_by (tail_check_of input c.pentachorons c.edges) c
with_lengths input (Err r) = Err r

-- the answer: the counts of the complex, or the first refusal, in the order in which the parts are read
abbrev pub decoded_of : List ℕ → Built
decoded_of input = with_lengths input (complex_of input)

-- ---- what is decoded

-- a list of squared lengths after the call, by its answer: unchanged where it refuses
abbrev pub lengths_after : List ℕ → Built → List Float → List Float
lengths_after input (Ok c) old = over (sq_lengths_in input c.pentachorons c.edges) old
lengths_after input (Err r) old = old

-- a complex of at most 64 pentachorons, with at most 640 edges, for whose lengths a list has places
abbrev pub Few : Built → ℕ → Type 0
Few (Ok c) places = (c.pentachorons ≤ 64) × (c.edges ≤ 640) × (c.edges ≤ places)
Few (Err r) places = Unit {0}

-- the ten lists that a decoded complex holds
abbrev pub lists_held : DecodedLists → Lists
lists_held h =
    lists h.pents h.edges h.triangles h.tets h.tri_to_pents_items h.tri_to_pents_starts
    h.edge_to_tris_items h.edge_to_tris_starts h.edge_to_pents_items h.edge_to_pents_starts

-- ten lists of zeros, with the room for 64 pentachorons
unfoldable pub zero_lists : Lists
zero_lists =
    lists (replicate 320 0) (replicate 1280 0) (replicate 1920 0) (replicate 1280 0) (replicate 640 0) (replicate 641 0) (replicate 1920 0) (replicate 641 0) (replicate 640 0)
    (replicate 641 0)

-- the input decoded: the answer r, the ten lists of the complex, and its squared lengths, over zeros
pub record Decodes (input : List ℕ) (r : Built) (l : Lists) (ls : List Float) : Type 0 where
  pub answered : r ≡ decoded_of input
  pub complex : l ≡ lists_after (complex_check_of input) (given_in input) zero_lists
  pub lengths : ls ≡ lengths_after input r (replicate 640 zero)
