-- The triangles that a retouch works out anew are just those that lie in a pentachoron with the edge, and the record of any other triangle does not depend on that edge's length. Assumes nothing.
use Prim.Native.Nat.{ℕ, ◌<◌}
use mathlib.Core.List.{List, [], Memᴰ}
use mathlib.Core.Path.{◌≡◌, sym, ap, ◌∙◌, subst}
use lib.Ieee.{Float, nan}
use lib.ListN.{length, get_or, set}
use lib.Seq.{get_or-set_other}
use Rattle.lists.specs.Lists.{upto, combos, among, Within, Rising}
use Rattle.lists.specs.Keys.{find}
use Rattle.lists.specs.Rows.{Wide}
use Rattle.lists.proofs.Elements.{get_or-mem, mem-get_or, keep-mem, mem-keep, keep-rising, gather-mem, mem-gather, map_same, upto-mem, mem-upto, upto-rising, among-says}
use Rattle.lists.proofs.Keys.{find-get}
use Rattle.lists.proofs.Choices.{combos-within, combos_has}
use Rattle.complex.specs.Complex.{holding, row_numbers}
use Rattle.complex.proofs.Lying.{mem-holding, holding-mem}
use Rattle.incidence.specs.Incidence.{Simplices, opposite_indices}
use Rattle.marks.specs.Marks.{listed}
use Rattle.hinges.specs.Hinges.{FaceLists, hinge, pent_lengths, dihedral_of, hinges, hinge_in, dihedral_in}
use Rattle.hinges.proofs.OnePass.{hinge-in}
use Rattle.retouch.specs.Retouch.{around, touched}
use Rattle.retouch.specs.Demand3.{Shares}

-- ---- the triangles that are worked out anew

-- the row that is found at a place stands there
found-there : (s : List ℕ) (rs : List (List ℕ)) (i : ℕ) → i < length rs → find s rs ≡ i → get_or rs i [] ≡ s
found-there s rs i h e = ap (λ (k : ℕ). get_or rs k []) (sym e) ∙ find-get s rs (rw e h)

module _ (F : FaceLists) (e : ℕ) where
  -- each stands once, ascending
  pub touched-rising : Rising (touched F e)
  unfolding listed
  touched-rising = keep-rising (λ t. among t (around F e)) (upto (length F.triangles)) (upto-rising (length F.triangles))

  -- a number around the edge is that of a triangle of some pentachoron with the edge
  around-faces : (t : ℕ) → Memᴰ t (around F e) → (i : ℕ) × Memᴰ i (holding F.pents (get_or F.edges e [])) × Memᴰ t (row_numbers F.triangles 3 (get_or F.pents i []))
  unfolding around
  around-faces t m = mem-gather (λ i. row_numbers F.triangles 3 (get_or F.pents i [])) (holding F.pents (get_or F.edges e [])) m

  faces-around : (t i : ℕ) → Memᴰ i (holding F.pents (get_or F.edges e [])) → Memᴰ t (row_numbers F.triangles 3 (get_or F.pents i [])) → Memᴰ t (around F e)
  unfolding around
  faces-around t i m n = gather-mem (λ i. row_numbers F.triangles 3 (get_or F.pents i [])) m n

  -- each lies in a pentachoron with the edge
  pub touched-shares : (t : ℕ) → Memᴰ t (touched F e) → (t < length F.triangles) × Shares F e t
  unfolding listed
  touched-shares t m =
      let w = mem-keep (λ t. among-says t (around F e)) (upto (length F.triangles)) m in
      let h : t < length F.triangles = mem-upto (length F.triangles) t w.0 in
      let a = around-faces t w.1 in
      let p : List ℕ = get_or F.pents a.0 [] in
      let b = mem-holding F.pents (get_or F.edges e []) a.1 in
      let u : (s : List ℕ) × Memᴰ s (combos p 3) × (find s F.triangles ≡ t) = mathlib.Core.List.Memᴰ.of_map (λ (s : List ℕ). find s F.triangles) (combos p 3) a.2 in (
        h,
        (p, get_or-mem F.pents a.0 [] b.0, subst (λ (s : List ℕ). Within s p) (sym (found-there u.0 F.triangles t h u.2)) (combos-within p 3 u.1), b.1),
      )

  -- and each that does is among them
  pub shares-touched : Simplices F.pents F.triangles → (t : ℕ) → t < length F.triangles → Shares F e t → Memᴰ t (touched F e)
  unfolding listed
  shares-touched ok t h s =
      let i : (i : ℕ) × (i < length F.pents) × (get_or F.pents i [] ≡ s.0) = mem-get_or [] s.1 in
      let p : List ℕ = get_or F.pents i.0 [] in
      let row : List ℕ = get_or F.triangles t [] in
      let g : Rising row × (length row ≡ 3) = ok.triangle row (get_or-mem F.triangles t [] h) in
      let c : Memᴰ row (combos p 3) = combos_has p 3 row (ok.pentachoron p (get_or-mem F.pents i.0 [] i.1)) g.0 g.1 (rw i.2 s.2) in
      keep-mem (λ t. among-says t (around F e)) (upto (length F.triangles)) (upto-mem (length F.triangles) t h)
      (faces-around t i.0 (holding-mem F.pents (get_or F.edges e []) i.1 (rw i.2 s.3)) (mathlib.Core.List.Memᴰ.cast (sym (ok.distinct t h)) (mathlib.Core.List.Memᴰ.map (λ (u : List ℕ). find u F.triangles) c)))

-- ---- the others

module _ (F : FaceLists) (ls : List Float) (e : ℕ) (x : Float) (known : e < length F.edges) where
  -- a pentachoron without the edge has the ten lengths that it had
  lengths-same : (p : List ℕ) → (Within (get_or F.edges e []) p → ⊥) → pent_lengths F (set ls e x) p ≡ pent_lengths F ls p
  unfolding pent_lengths
  lengths-same p without =
      map_same (λ i. get_or (set ls e x) i nan) (λ i. get_or ls i nan) (row_numbers F.edges 2 p)
      (λ i m.
      let u : (s : List ℕ) × Memᴰ s (combos p 2) × (find s F.edges ≡ i) = mathlib.Core.List.Memᴰ.of_map (λ (s : List ℕ). find s F.edges) (combos p 2) m in
      get_or-set_other ls e i x nan (λ q. without (subst (λ (s : List ℕ). Within s p) (sym (found-there u.0 F.edges e known (u.2 ∙ q))) (combos-within p 2 u.1))))

  -- the record of a triangle that lies in no pentachoron with the edge is what it was
  pub record_same : Simplices F.pents F.triangles → Wide 5 F.pents → (t : ℕ) → t < length F.triangles → (Shares F e t → ⊥) → hinge_in (hinges F (set ls e x)) t ≡ hinge_in (hinges F ls) t
  unfolding dihedral_in
  record_same ok five t h apart =
      let row : List ℕ = get_or F.triangles t [] in
      hinge-in F (set ls e x) ok five t h
      ∙ ap hinge
      (map_same (dihedral_in F (set ls e x) row) (dihedral_in F ls row) (holding F.pents row)
      (λ i m.
      let p : List ℕ = get_or F.pents i [] in
      let w = mem-holding F.pents row m in
      ap (λ (s : List Float). dihedral_of s (opposite_indices p row)) (lengths-same p (λ v. apart (p, get_or-mem F.pents i [] w.0, w.1, v)))))
      ∙ sym (hinge-in F ls ok five t h)
