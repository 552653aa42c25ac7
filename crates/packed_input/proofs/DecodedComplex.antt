-- What an input that is not refused decodes to: a built complex of its pentachorons, with as many squared lengths as edges. Assumes nothing.
use Rattle.refusals.specs.Refusals.{Done, Outcome}
use Rattle.std.specs.Prelude.{Err, Ok, Result}
use Rattle.refusals.specs.declared.Refusal.{Refusal}
use Prim.Native.Nat.{ℕ, ◌≤◌}
use mathlib.Core.Path.{◌≡◌, refl, sym, ap, ◌∙◌, subst}
use mathlib.Core.Bool.{true}
use mathlib.Core.List.{List}
use native.Mathlib.Omega.{arith}
use lib.Ieee.{Float}
use lib.ListN.{length, take, drop, replicate, length-map}
use lib.Seq.{take_at}
use Rattle.floats.specs.Ops.{zero}
use Rattle.lists.specs.Lists.{upto}
use Rattle.lists.specs.Rows.{over}
use Rattle.lists.proofs.Elements.{length-upto}
use Rattle.lists.proofs.Rows.{rows-flat}
use Rattle.complex.specs.declared.Counts.{Counts}
use Rattle.complex.specs.Builder.{Built}
use Rattle.complex.specs.Builder.{sorted_pents, check_of, built_of, counts_of, Lists, written, over_all, lists_after, rooms_of}
use Rattle.complex.specs.Check.{pents_in, room_for, is_built}
use Rattle.complex.proofs.SortedPents.{sorted-wide-all}
use Rattle.comparison.proofs.BuiltAgain.{builder-built}
use Rattle.packed_input.specs.Format.{vertex_count, pent_count, sq_length_at, sq_lengths_in}
use Rattle.packed_input.specs.Decoding.{header_check_of, complex_check_of, given_in, complex_of, Few, tail_check_of, counts_by, with_lengths, decoded_of, zero_lists, Decodes}
use Rattle.packed_input.specs.declared.fields.Packed.{Packed}
use Rattle.packed_input.specs.Parts.{Reads}
use Rattle.packed_input.proofs.Complexes.{header-passed, builder-decides, small-complex, few-complex, AsMany, as-many}

-- ---- the parts that are read

-- what is read are the bytes of the input
pub read-is : (input : List ℕ) {o : Result Packed Refusal} {p : Packed} → Reads input o → o ≡ Ok p → p.bytes.now ≡ input
read-is input h e = subst (Reads input) e h

-- and its header is refused where nothing is read
pub read-refused : (input : List ℕ) {o : Result Packed Refusal} {r : Refusal} → Reads input o → o ≡ Err r → header_check_of input ≡ Err r
read-refused input h e = subst (Reads input) e h

module _ (p : Packed) (c : Counts) (e : complex_of p.bytes.now ≡ Ok c) where
  -- the complex of an input that is read has as many pentachorons, and at most 640 edges
  pub parts-few : (c.pentachorons ≡ p.layout.n_pents) × (c.edges ≤ 640)
  parts-few = (subst (AsMany (pent_count p.bytes.now)) e (as-many p.bytes.now) ∙ sym p.pents_read, (subst (λ (b : Built). Few b 640) e (few-complex p.bytes.now)).1)

  -- the check of the tail decides
  pub tail-decides : decoded_of p.bytes.now ≡ counts_by (tail_check_of p.bytes.now p.layout.n_pents c.edges) c
  tail-decides = ap (with_lengths p.bytes.now) e ∙ ap (λ (P : ℕ). counts_by (tail_check_of p.bytes.now P c.edges) c) parts-few.0

-- ---- an answer

tail-counts : (o : Outcome) (c d : Counts) → Ok c ≡ counts_by o d → c ≡ d
tail-counts (Ok u) c d e = cc
tail-counts (Err r) c d e = absurd (let z : ◌≡◌ {A = ℕ} 0 1 = cc in omega arith)

answer-counts : (input : List ℕ) (o : Outcome) (n : ℕ) (given : List ℕ) (c : Counts) → Ok c ≡ with_lengths input (built_of o n given) → (o ≡ Done) × (c ≡ counts_of n (sorted_pents given))
answer-counts input (Ok u) n given c e = (refl, tail-counts (tail_check_of input (counts_of n (sorted_pents given)).pentachorons (counts_of n (sorted_pents given)).edges) c (counts_of n (sorted_pents given)) e)
answer-counts input (Err r) n given c e = absurd (let z : ◌≡◌ {A = ℕ} 0 1 = cc in omega arith)

-- an input that decodes to counts passes all checks, and the counts are those of its pentachorons
pub decoded-counts : (input : List ℕ) (c : Counts) → Ok c ≡ decoded_of input → (complex_check_of input ≡ Done) × (c ≡ counts_of (vertex_count input) (sorted_pents (given_in input)))
decoded-counts input c e = answer-counts input (complex_check_of input) (vertex_count input) (given_in input) c e

-- it has at most 640 edges and 640 triangles
pub decoded-few : (input : List ℕ) (c : Counts) → Ok c ≡ decoded_of input → (c.edges ≤ 640) × (c.triangles ≤ 640)
unfolding counts_of
decoded-few input c e =
    let d = decoded-counts input c e in
    let s = small-complex input d.0 in
    (rw d.1 s.1, rw d.1 s.2)

-- ---- the complex and the lengths

zero_rooms : rooms_of zero_lists ≡ room_for 64
unfolding rooms_of zero_lists
zero_rooms = refl

module _ (input : List ℕ) (c : Counts) (l : Lists) (ls : List Float) (d : Decodes input (Ok c) l ls) where
  counts : (complex_check_of input ≡ Done) × (c ≡ counts_of (vertex_count input) (sorted_pents (given_in input)))
  counts = decoded-counts input c d.answered

  lists-are : l ≡ over_all (written (sorted_pents (given_in input))) zero_lists
  lists-are = d.complex ∙ ap (λ (o : Outcome). lists_after o (given_in input) zero_lists) counts.0

  checked : check_of (vertex_count input) (given_in input) (rooms_of zero_lists) ≡ Done
  checked = ap (check_of (vertex_count input) (given_in input)) zero_rooms ∙ sym (builder-decides input (header-passed input counts.0)) ∙ counts.0

  -- the complex is built
  pub decoded-built : is_built c l ≡ true
  decoded-built =
      builder-built (vertex_count input) (given_in input) zero_lists l c
      (record {
        answered = rw checked (ap Ok counts.1);
        left = rw checked lists-are;
      })

  -- its pentachorons are those of the input, sorted
  pub decoded-pents : pents_in c l.pents ≡ sorted_pents (given_in input)
  unfolding counts_of over_all written over
  decoded-pents = rw (counts.1, lists-are) (rows-flat 5 (sorted_pents (given_in input)) _ (sorted-wide-all (given_in input)))

  length-lengths : length (sq_lengths_in input c.pentachorons c.edges) ≡ c.edges
  unfolding sq_lengths_in
  length-lengths = length-map (upto c.edges) (sq_length_at input c.pentachorons) ∙ length-upto c.edges

  -- the list of squared lengths begins with one for each edge
  pub decoded-lengths : take c.edges ls ≡ sq_lengths_in input c.pentachorons c.edges
  unfolding over
  decoded-lengths =
      ap (take c.edges) d.lengths
      ∙ take_at (sq_lengths_in input c.pentachorons c.edges) (drop (length (sq_lengths_in input c.pentachorons c.edges)) (replicate 640 zero)) c.edges length-lengths

  -- and has as many there
  pub length_decoded : length (take c.edges ls) ≡ c.edges
  length_decoded = ap length decoded-lengths ∙ length-lengths
