-- The steps of the one-pass table: the events of a pentachoron, and the lists of sums and bytes that become deficits and kinds. Assumes nothing.
use Rattle.std.specs.Prelude.{Option, None}
use Rattle.lorentzian.specs.declared.dihedral.HingeType.{HingeType}
use Prim.Native.Nat.{ℕ, ◌+◌, ◌-◌, ◌<◌}
use mathlib.Core.Path.{◌≡◌, refl, sym, ap, ◌∙◌, subst}
use mathlib.Core.List.{List, [], ◌++◌, map, map-map, Memᴰ}
use native.Mathlib.Numerals.{add-one}
use native.Mathlib.Omega.{arith}
use lib.ListN.{length, get_or, take, replicate, length-replicate, length-map}
use lib.Seq.{take-suc}
use lib.Ieee.{Float, nan}
use Rattle.floats.specs.Ops.{zero}
use Rattle.lists.specs.Lists.{gather, upto, combos, keep, among}
use Rattle.lists.specs.Keys.{find}
use Rattle.lists.specs.Rows.{Wide}
use Rattle.lists.specs.Loops.{scatter}
use Rattle.lists.proofs.Elements.{get_or-map, map_same, mem-gather, gather-snoc, mem-upto, map-replicate}
use Rattle.lists.proofs.Loops.{length-scatter, scatter-append, scatter-map}
use Rattle.complex.specs.declared.numbering.Face.TheVariants.{Triangle}
use Rattle.complex.specs.Complex.{row_numbers}
use Rattle.complex.proofs.SortedPents.{five-of}
use Rattle.complex.proofs.Meetings.{count-faces}
use Rattle.lorentzian.specs.declared.dihedral.Dihedral.{Dihedral}
use Rattle.lorentzian.specs.declared.dihedral.Dihedral.TheVariants.{Angle}
use Rattle.lorentzian.specs.Dihedral.{pairs}
use Rattle.hinges.specs.declared.hinge.Hinge.{Hinge}
use Rattle.hinges.specs.Hinges.{FaceLists, byte_of, kind_in, plus, first, closed, pent_lengths, lengths_at, dihedral_at, dihedral_of, local_pairs, without, dihedrals, pass_dihedrals, sums, first_kinds, hinges}
use Rattle.hinges.specs.Parts.{Found}
use Rattle.hinges.proofs.HingeKinds.{kind-byte}
use Rattle.hinges.proofs.PentachoronSteps.{numbers-below}
use Rattle.one_pass.specs.Pass.{byte_of_first, ten_events}

-- ---- the events of a pentachoron

-- ten dihedrals and ten triangle numbers, paired off from both ends, are the pentachoron's
five_events : (ts : List (List ℕ)) (s : List Float) (p : List ℕ) → length p ≡ 5
    → ten_events (row_numbers ts 3 p) (pairs (dihedral_at s)) ≡ map (λ lm. (find (without p lm) ts, dihedral_of s lm)) local_pairs
unfolding upto combos without keep among
five_events ts s p h = rw (five-of p h) refl

pub ten_events_lem : (F : FaceLists) (ls s : List Float) (p tris : List ℕ) (ds : List Dihedral) → length p ≡ 5 → tris ≡ row_numbers F.triangles 3 p
    → s ≡ lengths_at ls (row_numbers F.edges 2 p) → ds ≡ pairs (dihedral_at s) → ten_events tris ds ≡ dihedrals F ls p
unfolding dihedrals pent_lengths upto combos
ten_events_lem F ls s p tris ds five et es ed = rw (ed, et, es) (five_events F.triangles (lengths_at ls (row_numbers F.edges 2 p)) p five)

-- ---- the pass

-- the dihedrals of one pentachoron more
pub pass-turn : {S : Type 0} (d : S) (f : S → Dihedral → S) (F : FaceLists) (ls : List Float) (p : ℕ) (es : List (ℕ × Dihedral)) (old now new : List S) → p < length F.pents
    → es ≡ dihedrals F ls (get_or F.pents p []) → now ≡ scatter d f (gather (dihedrals F ls) (take p F.pents)) old → new ≡ scatter d f es now
    → new ≡ scatter d f (gather (dihedrals F ls) (take (p + 1) F.pents)) old
pass-turn {S} d f F ls p es old now new h e was is =
    let r = get_or F.pents p [] in
    is
    ∙ rw (e, was) (sym (scatter-append d f (gather (dihedrals F ls) (take p F.pents)) (dihedrals F ls r) old))
    ∙ ap (λ (l : List (ℕ × Dihedral)). scatter d f l old) (sym (gather-snoc (dihedrals F ls) (take p F.pents) r))
    ∙ ap (λ (l : List (List ℕ)). scatter d f (gather (dihedrals F ls) l) old) (sym (ap (λ (k : ℕ). take k F.pents) (add-one p) ∙ take-suc F.pents p [] h))

module _ (F : FaceLists) (ls : List Float) (five : Wide 5 F.pents) (found : Found F.triangles 3 F.pents) where
  -- each dihedral goes to a triangle
  event-below : (p : List ℕ) → Memᴰ p F.pents → (a : ℕ × Dihedral) → Memᴰ a (dihedrals F ls p) → a.0 < length F.triangles
  unfolding dihedrals
  event-below p mp a m =
      let s = pent_lengths F ls p in
      let n : Memᴰ a (ten_events (row_numbers F.triangles 3 p) (pairs (dihedral_at s))) = subst (λ (l : List (ℕ × Dihedral)). Memᴰ a l) (sym (five_events F.triangles s p (five p mp))) m in
      let w = mathlib.Core.List.Memᴰ.of_map (λ k. (get_or (row_numbers F.triangles 3 p) (9 - k) 0, get_or (pairs (dihedral_at s)) k (Angle nan))) (upto 10) n in
      let l : length (row_numbers F.triangles 3 p) ≡ 10 = length-map (combos p 3) (λ s. find s F.triangles) ∙ count-faces Triangle p (five p mp) in
      subst (λ (i : ℕ). i < length F.triangles) (ap (λ (b : ℕ × Dihedral). b.0) w.2)
      (numbers-below F.triangles 3 p (λ s ms. found p s mp ms) (9 - w.0) (omega (arith, l, mem-upto 10 w.0 w.1)))

  all-below : (a : ℕ × Dihedral) → Memᴰ a (pass_dihedrals F ls) → a.0 < length F.triangles
  unfolding pass_dihedrals
  all-below a m = let w = mem-gather (dihedrals F ls) F.pents m in event-below w.0 w.1 a w.2

  first_byte : (k : (Option HingeType)) (d : Dihedral) → byte_of (first k d) ≡ byte_of_first (byte_of k) d
  unfolding byte_of_first
  first_byte k d = ap (λ (u : (Option HingeType)). byte_of (first u d)) (sym (kind-byte k))

  -- the bytes after the pass are those of the first kinds
  bytes-first : scatter 0 byte_of_first (pass_dihedrals F ls) (replicate (length F.triangles) 2) ≡ map byte_of (first_kinds F ls)
  unfolding first_kinds
  bytes-first =
      let n = length F.triangles in
      ap (scatter 0 byte_of_first (pass_dihedrals F ls)) (sym (map-replicate byte_of n None))
      ∙ scatter-map None first byte_of 0 byte_of_first first_byte (pass_dihedrals F ls) (replicate n None) (λ a m. subst (λ (k : ℕ). a.0 < k) (sym (length-replicate n None)) (all-below a m))

  module _ (d1 d2 : List Float) (k1 k2 : List ℕ)
      (zeros : d1 ≡ replicate (length F.triangles) zero) (none : k1 ≡ replicate (length F.triangles) 2)
      (summed : d2 ≡ scatter nan plus (pass_dihedrals F ls) d1) (seen : k2 ≡ scatter 0 byte_of_first (pass_dihedrals F ls) k1) where
    sums-are : d2 ≡ sums F ls
    unfolding sums
    sums-are = summed ∙ ap (scatter nan plus (pass_dihedrals F ls)) zeros

    bytes-are : k2 ≡ map byte_of (first_kinds F ls)
    bytes-are = seen ∙ ap (scatter 0 byte_of_first (pass_dihedrals F ls)) none ∙ bytes-first

    length-firsts : length (first_kinds F ls) ≡ length F.triangles
    unfolding first_kinds
    length-firsts = length-scatter None first (pass_dihedrals F ls) (replicate (length F.triangles) None) ∙ length-replicate (length F.triangles) None

    -- the sum and the byte of a triangle
    read_at : (t : ℕ) → t < length F.triangles → closed (kind_in (get_or k2 t 0)) (get_or d2 t nan) ≡ closed (get_or (first_kinds F ls) t None) (get_or (sums F ls) t nan)
    read_at t h =
        let b : get_or k2 t 0 ≡ byte_of (get_or (first_kinds F ls) t None) = ap (λ (l : List ℕ). get_or l t 0) bytes-are ∙ get_or-map byte_of (first_kinds F ls) t None 0 (omega (arith, length-firsts)) in
        rw (sums-are, b, kind-byte (get_or (first_kinds F ls) t None)) refl

    -- the table of a reading of hinges
    pub closed-all : {S : Type 0} (g : Hinge → S) → map (λ t. g (closed (kind_in (get_or k2 t 0)) (get_or d2 t nan))) (upto (length F.triangles)) ≡ map g (hinges F ls)
    unfolding hinges
    closed-all {S} g =
        map_same (λ t. g (closed (kind_in (get_or k2 t 0)) (get_or d2 t nan))) (λ t. g (closed (get_or (first_kinds F ls) t None) (get_or (sums F ls) t nan))) (upto (length F.triangles))
        (λ t m. ap g (read_at t (mem-upto (length F.triangles) t m)))
        ∙ sym (map-map g (λ t. closed (get_or (first_kinds F ls) t None) (get_or (sums F ls) t nan)) (upto (length F.triangles)))
