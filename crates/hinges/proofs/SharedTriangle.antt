-- The numbers of a row's faces: a face lies in the row that has its number, no number stands twice, and two edges lie in at most one triangle. Assumes nothing.
use Prim.Native.Nat.{ℕ, suc, ◌<◌}
use mathlib.Core.Path.{◌≡◌, sym, ap, ◌∙◌, subst}
use mathlib.Core.Logic.{⊎_elim}
use mathlib.Core.List.{List, [], Memᴰ}
use native.Mathlib.Omega.{arith}
use lib.ListN.{length, get_or, length-map}
use Rattle.lists.specs.Lists.{keep, combos, among, Rising, Once}
use Rattle.lists.specs.Keys.{find}
use Rattle.lists.proofs.Tests.{lt-or-ge}
use Rattle.lists.proofs.Elements.{get_or-mem, keep-mem, mem-keep, keep-only, keep-rising, once-map, among-says, Sub, rising-sub}
use Rattle.lists.proofs.Keys.{find-get, find-mem}
use Rattle.lists.proofs.Choices.{combos-within, combos-rising, combos-once}
use Rattle.complex.specs.Complex.{holding, row_numbers}
use Rattle.complex.proofs.Lying.{holding-mem}
use Rattle.complex.proofs.FaceNumbers.{three-edges}
use Rattle.incidence.specs.Incidence.{Simplices}
use Rattle.hinges.specs.Hinges.{FaceLists}
use Rattle.hinges.specs.Action.{edges_at}
use Rattle.hinges.specs.Parts.{Found}

-- ---- rows whose faces are among the keys

module _ (keys : List (List ℕ)) (k : ℕ) (rs : List (List ℕ)) (found : Found keys k rs) where
  -- a face stands where it is found
  stands : (r s : List ℕ) → Memᴰ r rs → Memᴰ s (combos r k) → get_or keys (find s keys) [] ≡ s
  stands r s m n = find-get s keys (find-mem s keys (found r s m n))

  -- the key of a row's number is a face of the row
  key-is_face : (r : List ℕ) (e : ℕ) → Memᴰ r rs → Memᴰ e (row_numbers keys k r) → Memᴰ (get_or keys e []) (combos r k)
  key-is_face r e m n =
      let q : (s : List ℕ) × Memᴰ s (combos r k) × (find s keys ≡ e) = mathlib.Core.List.Memᴰ.of_map (λ s. find s keys) (combos r k) n in
      subst (λ (s : List ℕ). Memᴰ s (combos r k)) (sym (stands r q.0 m q.1) ∙ ap (λ (i : ℕ). get_or keys i []) q.2) q.1

  -- the key of a row's number has that number
  key-number : (r : List ℕ) (e : ℕ) → Memᴰ r rs → Memᴰ e (row_numbers keys k r) → find (get_or keys e []) keys ≡ e
  key-number r e m n =
      let q : (s : List ℕ) × Memᴰ s (combos r k) × (find s keys ≡ e) = mathlib.Core.List.Memᴰ.of_map (λ s. find s keys) (combos r k) n in
      ap (λ (i : ℕ). find (get_or keys i []) keys) (sym q.2) ∙ ap (λ (s : List ℕ). find s keys) (stands r q.0 m q.1) ∙ q.2

  -- a row is among those in which the key of each of its numbers lies
  pub face-lies : (i e : ℕ) → i < length rs → Memᴰ e (row_numbers keys k (get_or rs i [])) → Memᴰ i (holding rs (get_or keys e []))
  face-lies i e h n = holding-mem rs (get_or keys e []) h (combos-within (get_or rs i []) k (key-is_face (get_or rs i []) e (get_or-mem rs i [] h) n))

  -- no number of a rising row stands twice
  pub numbers-once : (r : List ℕ) → Memᴰ r rs → Rising r → Once (row_numbers keys k r)
  numbers-once r m up =
      once-map (λ s. find s keys) (combos r k) (combos-once r k up)
      (λ a b ma mb e. sym (stands r a m ma) ∙ ap (λ (i : ℕ). get_or keys i []) e ∙ stands r b m mb)

-- ---- two faces that lack one vertex each

-- two rising rows that share two different faces of one vertex less are the same row
pub two-faces-join : (k : ℕ) (p q s t : List ℕ) → Rising p → Rising q → length p ≡ suc k → length q ≡ suc k
    → Memᴰ s (combos p k) → Memᴰ s (combos q k) → Memᴰ t (combos p k) → Memᴰ t (combos q k) → (s ≡ t → ⊥) → p ≡ q
two-faces-join k p q s t up uq lp lq sp sq tp tq ne =
    let both : List ℕ = keep (λ v. among v q) p in
    let rises : Rising both = keep-rising (λ v. among v q) p up in
    let in_p : Sub both p = rising-sub both p rises up (λ v m. keep-only (λ v. among v q) p m) in
    let in-q : Sub both q = rising-sub both q rises uq (λ v m. (mem-keep (λ v. among-says v q) p m).1) in
    let s-in : Sub s both =
    rising-sub s both (combos-rising p k up sp).0 rises (λ v m. keep-mem (λ v. among-says v q) p (combos-within p k sp v m) (combos-within q k sq v m)) in
    let t-in : Sub t both =
    rising-sub t both (combos-rising p k up tp).0 rises (λ v m. keep-mem (λ v. among-says v q) p (combos-within p k tp v m) (combos-within q k tq v m)) in
    let s-long : length s ≡ k = (combos-rising p k up sp).1 in
    let t-long : length t ≡ k = (combos-rising p k up tp).1 in
    ⊎_elim
    (λ h. absurd (ne (s-in.1 (omega (arith, h, s-long)) ∙ sym (t-in.1 (omega (arith, h, t-long))))))
    (λ h. sym (in_p.1 (omega (arith, h, lp))) ∙ in-q.1 (omega (arith, h, lq)))
    (lt-or-ge (length both) (suc k))

-- ---- triangles

module _ (F : FaceLists) (ok : Simplices F.pents F.triangles) (found : Found F.edges 2 F.triangles) where
  -- a triangle has three edge numbers
  pub edges-three : (t : ℕ) → t < length F.triangles → length (edges_at F t) ≡ 3
  edges-three t h =
      let r = get_or F.triangles t [] in
      length-map (combos r 2) (λ s. find s F.edges) ∙ three-edges r (ok.triangle r (get_or-mem F.triangles t [] h)).1

  -- they are different
  pub edges-once : (t : ℕ) → t < length F.triangles → Once (edges_at F t)
  edges-once t h =
      let r = get_or F.triangles t [] in
      let m : Memᴰ r F.triangles = get_or-mem F.triangles t [] h in
      numbers-once F.edges 2 F.triangles found r m (ok.triangle r m).0

  -- two different edges lie in at most one triangle
  pub one-triangle : (t u e f : ℕ) → t < length F.triangles → u < length F.triangles → (e ≡ f → ⊥)
      → Memᴰ e (edges_at F t) → Memᴰ f (edges_at F t) → Memᴰ e (edges_at F u) → Memᴰ f (edges_at F u) → t ≡ u
  one-triangle t u e f ht hu ne et ft eu fu =
      let p = get_or F.triangles t [] in
      let q = get_or F.triangles u [] in
      let mp : Memᴰ p F.triangles = get_or-mem F.triangles t [] ht in
      let mq : Memᴰ q F.triangles = get_or-mem F.triangles u [] hu in
      let face = key-is_face F.edges 2 F.triangles found in
      let number = key-number F.edges 2 F.triangles found in
      let same : p ≡ q =
      two-faces-join 2 p q (get_or F.edges e []) (get_or F.edges f [])
      (ok.triangle p mp).0 (ok.triangle q mq).0 (ok.triangle p mp).1 (ok.triangle q mq).1
      (face p e mp et) (face q e mq eu) (face p f mp ft) (face q f mq fu)
      (λ (i : get_or F.edges e [] ≡ get_or F.edges f []). ne (sym (number p e mp et) ∙ ap (λ (s : List ℕ). find s F.edges) i ∙ number p f mp ft)) in
      sym (ok.distinct t ht) ∙ ap (λ (r : List ℕ). find r F.triangles) same ∙ ok.distinct u hu
