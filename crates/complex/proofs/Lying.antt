-- Faces and the rows in which they lie: each face of each row is found, and the numbers of a row's faces, grouped, are the rows in which each face lies. Assumes nothing.
use Prim.Native.Nat.{ℕ, ◌<◌}
use mathlib.Core.Path.{◌≡◌, sym, ap, ◌∙◌, subst}
use mathlib.Core.List.Memᴰ
use mathlib.Core.List.{List, [], map, Memᴰ}
use lib.ListN.{length, get_or, length-map}
use Rattle.lists.specs.Lists.{keep, gather, upto, combos, among, within, Within, Rising, Once}
use Rattle.lists.specs.Keys.{find, Distinct}
use Rattle.lists.specs.Rows.{Wide}
use Rattle.lists.specs.Groups.{holders, groups}
use Rattle.lists.proofs.Tests.{says_same}
use Rattle.lists.proofs.Elements.{get_or-mem, get_or-map, map-upto, map_same, keep_same, gather-mem, mem-gather, mem-upto, mem-reverse, reverse-mem, once-map, among-says, within-says}
use Rattle.lists.proofs.Keys.{find-get, find-mem, firsts-distinct, firsts_has, firsts-only}
use Rattle.lists.proofs.Choices.{combos-within, combos-rising, combos_has, combos-once}
use Rattle.lists.proofs.Rows.{flat_map}
use Rattle.lists.proofs.Grouped.{holders-rows}
use Rattle.complex.specs.declared.numbering.Face.{Face}
use Rattle.complex.specs.declared.numbering.Face.TheVariants.{Edge, Triangle, Tet}
use Rattle.complex.specs.Complex.{width_of, faces_of, met_faces, faces, edges, triangles, holding, row_numbers}

-- ---- the faces of pentachorons

-- every pentachoron is a rising list
abbrev pub Sorted : List (List ℕ) → Type 0
Sorted ps = (p : List ℕ) → Memᴰ p ps → Rising p

-- a face is a choice of vertices
pub choice-of : (f : Face) (p : List ℕ) {s : List ℕ} → Memᴰ s (faces_of f p) → Memᴰ s (combos p (width_of f))
choice-of Edge p m = m
choice-of Triangle p m = m
choice-of Tet p m = mem-reverse (combos p 4) m

of_choice : (f : Face) (p : List ℕ) {s : List ℕ} → Memᴰ s (combos p (width_of f)) → Memᴰ s (faces_of f p)
of_choice Edge p m = m
of_choice Triangle p m = m
of_choice Tet p m = reverse-mem (combos p 4) m

-- no face stands twice
pub faces-distinct : (f : Face) (ps : List (List ℕ)) → Distinct (faces f ps)
unfolding faces
faces-distinct f ps = firsts-distinct (met_faces f ps)

-- each face of each pentachoron is there
pub faces_has : (f : Face) (ps : List (List ℕ)) {p s : List ℕ} → Memᴰ p ps → Memᴰ s (faces_of f p) → Memᴰ s (faces f ps)
unfolding faces met_faces
faces_has f ps m n = firsts_has (met_faces f ps) (gather-mem (faces_of f) m n)

-- and is found at one index
pub faces-found : (f : Face) (ps : List (List ℕ)) {p : List ℕ} (s : List ℕ) → Memᴰ p ps → Memᴰ s (faces_of f p)
    → (find s (faces f ps) < length (faces f ps)) × (get_or (faces f ps) (find s (faces f ps)) [] ≡ s) × ((i : ℕ) → i < length (faces f ps) → get_or (faces f ps) i [] ≡ s → i ≡ find s (faces f ps))
faces-found f ps s m n =
    let h : find s (faces f ps) < length (faces f ps) = find-mem s (faces f ps) (faces_has f ps m n) in
    (h, find-get s (faces f ps) h, λ i l e. sym (faces-distinct f ps i l) ∙ ap (λ (r : List ℕ). find r (faces f ps)) e)

-- there are no others
pub faces-only : (f : Face) (ps : List (List ℕ)) {s : List ℕ} → Memᴰ s (faces f ps) → (p : List ℕ) × Memᴰ p ps × Memᴰ s (faces_of f p)
unfolding faces met_faces
faces-only f ps m = mem-gather (faces_of f) ps (firsts-only (met_faces f ps) m)

pub face-rising : (f : Face) (ps : List (List ℕ)) → Sorted ps → {s : List ℕ} → Memᴰ s (faces f ps) → Rising s × (length s ≡ width_of f)
face-rising f ps up {s} m =
    let w : (p : List ℕ) × Memᴰ p ps × Memᴰ s (faces_of f p) = faces-only f ps m in
    combos-rising w.0 (width_of f) (up w.0 w.1) (choice-of f w.0 w.2)

-- the faces are the rising lists of that width that lie in some pentachoron
pub faces-lying : (f : Face) (ps : List (List ℕ)) → Sorted ps → (p s : List ℕ) → Memᴰ p ps → Rising s → length s ≡ width_of f → Within s p → Memᴰ s (faces f ps)
faces-lying f ps up p s m rs l w = faces_has f ps m (of_choice f p (combos_has p (width_of f) s (up p m) rs l w))

-- an edge of a triangle is an edge
pub edge-of-triangle : (ps : List (List ℕ)) → Sorted ps → {t s : List ℕ} → Memᴰ t (triangles ps) → Memᴰ s (combos t 2) → Memᴰ s (edges ps)
edge-of-triangle ps up {t} {s} m n =
    let w : (p : List ℕ) × Memᴰ p ps × Memᴰ t (faces_of Triangle p) = faces-only Triangle ps m in
    let r : Rising s × (length s ≡ 2) = combos-rising t 2 (face-rising Triangle ps up m).0 n in
    faces-lying Edge ps up w.0 s w.1 r.0 r.1 (λ v k. combos-within w.0 3 w.2 v (combos-within t 2 n v k))

-- ---- the numbers of faces, grouped

-- a face's list holds exactly the rows in which it lies
pub mem-holding : (rs : List (List ℕ)) (s : List ℕ) {i : ℕ} → Memᴰ i (holding rs s) → (i < length rs) × Within s (get_or rs i [])
unfolding holding
mem-holding rs s {i} m =
    let w = Rattle.lists.proofs.Elements.mem-keep (λ i. within-says s (get_or rs i [])) (upto (length rs)) m in
    (mem-upto (length rs) i w.0, w.1)

pub holding-mem : (rs : List (List ℕ)) (s : List ℕ) {i : ℕ} → i < length rs → Within s (get_or rs i []) → Memᴰ i (holding rs s)
unfolding holding
holding-mem rs s {i} h w = Rattle.lists.proofs.Elements.keep-mem (λ i. within-says s (get_or rs i [])) (upto (length rs)) (Rattle.lists.proofs.Elements.upto-mem (length rs) i h) w

-- keys of k vertices, and rows of which each has w such faces, all of them keys
pub record Keyed (keys : List (List ℕ)) (k w : ℕ) (rs : List (List ℕ)) : Type 0 where
  pub distinct : Distinct keys
  pub rising : (s : List ℕ) → Memᴰ s keys → Rising s × (length s ≡ k)
  pub sorted : Sorted rs
  pub size : (r : List ℕ) → Memᴰ r rs → length (combos r k) ≡ w
  pub found : (r s : List ℕ) → Memᴰ r rs → Memᴰ s (combos r k) → Memᴰ s keys

module _ (keys : List (List ℕ)) (k w : ℕ) (rs : List (List ℕ)) (ok : Keyed keys k w rs) where
  numbers : List ℕ → List ℕ
  numbers r = row_numbers keys k r

  numbers-once : (r : List ℕ) → Memᴰ r rs → Once (numbers r)
  unfolding numbers
  numbers-once r m =
      once-map (λ s. find s keys) (combos r k) (combos-once r k (ok.sorted r m))
      (λ a b ma mb e.
      sym (find-get a keys (find-mem a keys (ok.found r a m ma))) ∙ ap (λ (i : ℕ). get_or keys i []) e ∙ find-get b keys (find-mem b keys (ok.found r b m mb)))

  -- a number is among a row's where its key lies in the row
  among-within : (t : ℕ) → t < length keys → (r : List ℕ) → Memᴰ r rs → among t (numbers r) ≡ within (get_or keys t []) r
  unfolding numbers
  among-within t h r m =
      says_same
      (λ n.
      let q : (s : List ℕ) × Memᴰ s (combos r k) × (find s keys ≡ t) = Memᴰ.of_map (λ s. find s keys) (combos r k) n in
      let e : get_or keys t [] ≡ q.0 = ap (λ (i : ℕ). get_or keys i []) (sym q.2) ∙ find-get q.0 keys (find-mem q.0 keys (ok.found r q.0 m q.1)) in
      subst (λ (s : List ℕ). Within s r) (sym e) (combos-within r k q.1))
      (λ v.
      let g : Rising (get_or keys t []) × (length (get_or keys t []) ≡ k) = ok.rising (get_or keys t []) (get_or-mem keys t [] h) in
      Memᴰ.cast (sym (ok.distinct t h)) (Memᴰ.map (λ s. find s keys) (combos_has r k (get_or keys t []) (ok.sorted r m) g.0 g.1 v)))
      (among-says t (numbers r))
      (within-says (get_or keys t []) r)

  pub holders-holding : 0 < w → (t : ℕ) → t < length keys → holders w (gather (row_numbers keys k) rs) t ≡ holding rs (get_or keys t [])
  unfolding holding numbers
  holders-holding pos t h =
      ap (λ (xs : List ℕ). holders w xs t) (sym (flat_map numbers rs))
      ∙ holders-rows w (map numbers rs) t pos wide once
      ∙ ap (λ (n : ℕ). keep (λ i. among t (get_or (map numbers rs) i [])) (upto n)) (length-map rs numbers)
      ∙ keep_same (λ i. among t (get_or (map numbers rs) i [])) (λ i. within (get_or keys t []) (get_or rs i [])) (upto (length rs))
      (λ i m.
      let l : i < length rs = mem-upto (length rs) i m in
      ap (among t) (get_or-map numbers rs i [] [] l) ∙ among-within t h (get_or rs i []) (get_or-mem rs i [] l))
    where
      wide : Wide w (map numbers rs)
      wide x m =
          let q : (r : List ℕ) × Memᴰ r rs × (numbers r ≡ x) = Memᴰ.of_map numbers rs m in
          ap length (sym q.2) ∙ long q.0 q.1
        where
          long : (r : List ℕ) → Memᴰ r rs → length (numbers r) ≡ w
          long r m = length-map (combos r k) (λ s. find s keys) ∙ ok.size r m

      once : (r : List ℕ) → Memᴰ r (map numbers rs) → Once r
      once x m =
          let q : (r : List ℕ) × Memᴰ r rs × (numbers r ≡ x) = Memᴰ.of_map numbers rs m in
          subst Once q.2 (numbers-once q.0 q.1)

  -- the groups are the lists of the rows in which each key lies
  pub groups-holding : 0 < w → groups w (length keys) (gather (row_numbers keys k) rs) ≡ map (holding rs) keys
  unfolding groups
  groups-holding pos =
      map_same (holders w (gather (row_numbers keys k) rs)) (λ t. holding rs (get_or keys t [])) (upto (length keys)) (λ t m. holders-holding pos t (mem-upto (length keys) t m))
      ∙ sym (map-upto (holding rs) keys [] [])
