-- An input that is longer than any lawful one is refused by its beginning: the program may stop reading there. Assumes nothing.
use Rattle.refusals.specs.Refusals.{Outcome}
use Rattle.std.specs.Prelude.{Err, Ok}
use Prim.Native.Nat.{ℕ, zero, suc, ◌+◌, ◌*◌, ◌/◌, ◌≤◌, ◌<◌}
use mathlib.Core.Path.{◌≡◌, refl, sym, ap, ◌∙◌}
use mathlib.Core.List.{List}
use mathlib.Core.Logic.{⊎_elim}
use native.Mathlib.Omega.{arith}
use lib.ListN.{length, take}
use lib.Seq.{get_or-take, length-take-le}
use Rattle.lists.specs.Lists.{upto}
use Rattle.lists.proofs.Elements.{map_same, mem-upto}
use Rattle.lists.proofs.Tests.{lt-or-ge}
use Rattle.complex.specs.Builder.{Built}
use Rattle.complex.specs.Builder.{check_of, built_of}
use Rattle.complex.specs.Check.{room_for}
use Rattle.packed_input.specs.Format.{bit_at, field, vertex_count, pent_count, vertex_at, vertices}
use Rattle.packed_input.specs.Decoding.{complex_check_of, given_in, complex_of, counts_by, with_lengths, decoded_of, Few}
use Rattle.packed_input.proofs.Refusing.{header-many, header-done, tail-long}
use Rattle.packed_input.proofs.Complexes.{header-decides, builder-decides, few-complex}

module _ (input : List ℕ) (n : ℕ) (long : 5605 ≤ n) (fits : n ≤ length input) where
  abbrev front : List ℕ
  front = take n input

  front_long : length front ≡ n
  front_long = length-take-le n input fits

  -- ---- what stands in the beginning

  bit-same : (k : ℕ) → k < 8 * n → bit_at front k ≡ bit_at input k
  unfolding bit_at
  bit-same k h = let b : k / 8 < n = omega arith in rw (get_or-take n input (k / 8) 0 b) refl

  field-same : (at w : ℕ) → at + w ≤ 8 * n → field front at w ≡ field input at w
  unfolding field
  field-same at zero h = refl
  field-same at (suc w) h = rw (field-same at w (omega arith), bit-same (at + w) (omega arith)) refl

  pents-same : pent_count front ≡ pent_count input
  pents-same = field-same 13 14 (omega arith)

  vertices-same : (P : ℕ) → P ≤ 64 → vertices front P ≡ vertices input P
  unfolding vertices
  vertices-same P h =
      map_same (vertex_at front) (vertex_at input) (upto (5 * P)) (λ i m. let b : i < 5 * P = mem-upto (5 * P) i m in field-same (27 + 12 * i) 12 (omega arith))

  -- ---- the checks

  given-same : pent_count input ≤ 64 → given_in front ≡ given_in input
  given-same h = ap (vertices front) pents-same ∙ vertices-same (pent_count input) h

  -- more than 64 pentachorons are refused at once
  many-same : 64 < pent_count input → complex_of front ≡ complex_of input
  many-same h =
      ap (λ (o : Outcome). built_of o (vertex_count front) (given_in front)) (header-decides front _ (sym (header-many front (omega (arith, front_long)) (pent_count input) (sym pents-same) h)))
      ∙ ap (λ (o : Outcome). built_of o (vertex_count input) (given_in input)) (sym (header-decides input _ (sym (header-many input (omega arith) (pent_count input) refl h))))

  -- fewer stand in the beginning
  few-same : pent_count input ≤ 64 → complex_of front ≡ complex_of input
  few-same h =
      let n : vertex_count front ≡ vertex_count input = field-same 0 13 (omega arith) in
      let g = given-same h in
      let o : complex_check_of front ≡ complex_check_of input =
      builder-decides front (sym (header-done front (omega (arith, front_long)) (pent_count input) (sym pents-same) h (omega (arith, front_long))))
      ∙ (λ i. check_of (n i) (g i) (room_for 64))
      ∙ sym (builder-decides input (sym (header-done input (omega arith) (pent_count input) refl h (omega arith)))) in
      λ i. built_of (o i) (n i) (g i)

  -- no lawful lengths are as long
  tail-same : (b : Built) → Few b 640 → with_lengths front b ≡ with_lengths input b
  tail-same (Ok c) few =
      ap (λ (o : Outcome). counts_by o c)
      (sym (tail-long front c.pentachorons c.edges (λ e. omega (arith, front_long))) ∙ tail-long input c.pentachorons c.edges (λ e. omega arith))
  tail-same (Err r) few = refl

  -- the answer is that of the beginning
  pub beginning-decides : decoded_of front ≡ decoded_of input
  beginning-decides = ap (with_lengths front) (⊎_elim many-same few-same (lt-or-ge 64 (pent_count input))) ∙ tail-same (complex_of input) (few-complex input)
