-- The refusals of the program's input, by what is counted in bytes. Assumes nothing.
use Rattle.refusals.specs.Refusals.{Done}
use Rattle.std.specs.Prelude.{Err}
use Prim.Native.Nat.{ℕ, ◌+◌, ◌*◌, ◌<◌, ◌≤◌}
use mathlib.Core.Path.{◌≡◌, refl}
use mathlib.Core.List.{List}
use native.Mathlib.Omega.{arith}
use lib.ListN.{length}
use borrow.Author.Tests.{lt-ltb, le-ltb, eq-eqb, ne_eqb, ltb-false, eqb-true, not-false}
use Rattle.refusals.specs.declared.Refusal.TheVariants.{BadInput, TooManyPentachorons}
use Rattle.complex.proofs.Offences.{cond-done, or-false}
use Rattle.packed_input.specs.Format.{pent_count, vertices_end, lengths_start, padding}
use Rattle.packed_input.specs.Decoding.{header_check_of, tail_check_of}

-- ---- the header

module _ (input : List ℕ) where
  -- fewer than four bytes hold no header
  pub header-short : length input < 4 → Err BadInput ≡ header_check_of input
  unfolding header_check_of
  header-short h = rw (lt-ltb (8 * length input) 27 (omega arith)) refl

  module _ (some : 4 ≤ length input) where
    -- more than 64 pentachorons
    pub header-many : (P : ℕ) → P ≡ pent_count input → 64 < P → Err TooManyPentachorons ≡ header_check_of input
    unfolding header_check_of
    header-many P e h = rw (le-ltb (8 * length input) 27 (omega arith), ← e, lt-ltb 64 P h) refl

    -- the bytes end before the vertices do
    pub header-cut : (P : ℕ) → P ≡ pent_count input → P ≤ 64 → length input < lengths_start P → Err BadInput ≡ header_check_of input
    unfolding header_check_of
    header-cut P e few h = rw (le-ltb (8 * length input) 27 (omega arith), ← e, le-ltb 64 P few, lt-ltb (8 * length input) (vertices_end P) (omega arith)) refl

    -- the header and the vertices are there
    pub header-done : (P : ℕ) → P ≡ pent_count input → P ≤ 64 → lengths_start P ≤ length input → Done ≡ header_check_of input
    unfolding header_check_of
    header-done P e few h = rw (le-ltb (8 * length input) 27 (omega arith), ← e, le-ltb 64 P few, le-ltb (8 * length input) (vertices_end P) (omega arith)) refl

  -- what a header says that is not refused
  pub header-says : header_check_of input ≡ Done → (4 ≤ length input) × (pent_count input ≤ 64) × (vertices_end (pent_count input) ≤ 8 * length input)
  unfolding header_check_of
  header-says h =
      let s = cond-done _ BadInput _ h in
      let m = cond-done _ TooManyPentachorons _ s.1 in
      let v = cond-done _ BadInput Done m.1 in
      (omega (arith, ltb-false (8 * length input) 27 s.0), ltb-false 64 (pent_count input) m.0, ltb-false (8 * length input) (vertices_end (pent_count input)) v.0)

-- ---- after the vertices

module _ (input : List ℕ) (P E : ℕ) where
  -- the lengths do not end the input
  pub tail-long : (length input ≡ lengths_start P + 8 * E → ⊥) → Err BadInput ≡ tail_check_of input P E
  unfolding tail_check_of
  tail-long h = rw (ne_eqb (length input) (lengths_start P + 8 * E) h) refl

  module _ (ends : length input ≡ lengths_start P + 8 * E) where
    -- a bit between vertices and lengths is set
    pub tail-set : (padding input P ≡ 0 → ⊥) → Err BadInput ≡ tail_check_of input P E
    unfolding tail_check_of
    tail-set h = rw (eq-eqb (length input) (lengths_start P + 8 * E) ends, ne_eqb (padding input P) 0 h) refl

    -- all is in order
    pub tail-done : padding input P ≡ 0 → Done ≡ tail_check_of input P E
    unfolding tail_check_of
    tail-done h = rw (eq-eqb (length input) (lengths_start P + 8 * E) ends, eq-eqb (padding input P) 0 h) refl

  -- what a tail says that is not refused
  pub tail-says : tail_check_of input P E ≡ Done → length input ≡ lengths_start P + 8 * E
  unfolding tail_check_of
  tail-says h = eqb-true _ _ (not-false _ (or-false _ _ (cond-done _ BadInput Done h).0).0)
