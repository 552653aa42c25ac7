-- Adjacency lists that are checked and not built: parts of rising numbers of rows in which a key lies, as many as there are in all, are the lists of all such rows. Assumes nothing.
use Prim.Native.Nat.{ℕ, suc, ◌+◌, ◌*◌, ◌/◌, ◌≤◌, ◌<◌}
use mathlib.Core.Path.{◌≡◌, refl, sym, ap, ◌∙◌, subst}
use mathlib.Core.Bool.{true, ◌&&◌}
use mathlib.Core.Logic.{⊎_elim}
use mathlib.Core.List.Memᴰ
use mathlib.Core.List.{List, [], ◌∷◌, map, Memᴰ}
use native.Mathlib.Omega.{arith}
use native.Mathlib.Numerals.{add-one}
use lib.Dec.{leb, ltb}
use lib.ListN.{length, get_or, take, drop, length-map}
use lib.Seq.{drop-cons}
use Rattle.lists.specs.Lists.{gather, upto, combos, within, Within, Rising}
use Rattle.lists.specs.Keys.{find}
use Rattle.lists.specs.Rows.{flat, Wide, starts, begins}
use Rattle.lists.specs.Groups.{Below}
use Rattle.lists.specs.GroupSteps.{order}
use Rattle.lists.proofs.Tests.{Says, pass, leb-says, ltb-says, and-says, both-says, said, passes}
use Rattle.lists.proofs.Elements.{get_or-mem, mem-gather, length-gather, length-upto, mem-upto, get_or-table, map-upto, within-says, Sub, rising-sub}
use Rattle.lists.proofs.Keys.{find-mem}
use Rattle.lists.proofs.Rows.{length-rows, length-starts, starts_first, starts-last, begins-says, begins-long, part, Splits, flat-parts, length-parts, starts-parts, flat-sub, begun-start, begun-fits, begun-part}
use Rattle.lists.proofs.Grouped.{flat-groups, order-full}
use Rattle.lists.specs.declared.flat_rows.FlatRows.{FlatRows}
use Rattle.lists.specs.Lent.{rows_of}
use Rattle.complex.specs.Complex.{holding, edges, triangles, row_numbers}
use Rattle.complex.specs.Check.{holds}
use Rattle.comparison.specs.CheckParts.{lying, part_lies}
use Rattle.comparison.specs.Parts.{Holdable}
use Rattle.complex.proofs.Lying.{Sorted, Keyed, mem-holding, holding-mem, groups-holding}
use Rattle.complex.proofs.Laws.{holding-rising}
use Rattle.complex.proofs.FaceNumbers.{keyed-triangles, keyed-edges, keyed-triangle-edges}

-- ---- the turns of the loops

pub lying-turn : (rs : List (List ℕ)) (s : List ℕ) (lo : ℕ) (is : List ℕ) (k : ℕ) → k < length is
    → lying rs s lo (drop k is)
    ≡ (leb lo (get_or is k 0) && ltb (get_or is k 0) (length rs) && within s (get_or rs (get_or is k 0) []) && lying rs s (get_or is k 0 + 1) (drop (k + 1) is))
unfolding lying
lying-turn rs s lo is k h = rw (drop-cons is k 0 h, add-one k) refl

-- ---- numbers of rows in which a simplex lies

module _ (rs : List (List ℕ)) (s : List ℕ) where
  -- i is the number of a row in which s lies, and not below lo
  abbrev Lies : ℕ → ℕ → Type 0
  Lies lo i = (lo ≤ i) × (i < length rs) × Within s (get_or rs i [])

  -- rising items, each of which is so
  abbrev AllLie : ℕ → List ℕ → Type 0
  AllLie lo is = Rising is × ((i : ℕ) → Memᴰ i is → Lies lo i)

  lying-says : (lo : ℕ) (is : List ℕ) → Says (AllLie lo is) (lying rs s lo is)
  unfolding lying
  lying-says lo [] = pass (tt, λ i m. absurd (Memᴰ.not-nil m))
  lying-says lo (i ∷ is) =
      and-says
      (λ p q. (
        ((λ v m. omega (arith, (q.1 v m).0)), q.0),
        λ v m. ⊎_elim (λ e. subst (Lies lo) (sym e) p) (λ k. let w = q.1 v k in (omega (arith, w.0, p.0), w.1, w.2)) (Memᴰ.cases_cons m),
      ))
      (λ r. r.1 i (Memᴰ.head refl))
      (λ r. (r.0.1, λ v m. let w = r.1 v (Memᴰ.tail m) in (omega (arith, r.0.0 v m), w.1, w.2)))
      here
      (lying-says (i + 1) is)
    where
      here : Says (Lies lo i) (leb lo i && ltb i (length rs) && within s (get_or rs i []))
      here =
          and-says {P = (lo ≤ i) × (i < length rs)} (λ p w. (p.0, p.1, w)) (λ t. (t.0, t.1)) (λ t. t.2)
          (both-says (leb-says lo i) (ltb-says i (length rs)))
          (within-says s (get_or rs i []))

  -- they are among all such rows
  all-sub : (is : List ℕ) → AllLie 0 is → Sub is (holding rs s)
  all-sub is h = rising-sub is (holding rs s) h.0 (holding-rising rs s) (λ v m. let w = h.1 v m in holding-mem rs s w.1 w.2)

  holding-all : AllLie 0 (holding rs s)
  holding-all = (holding-rising rs s, λ i m. let w = mem-holding rs s m in (omega arith, w.0, w.1))

-- ---- the parts of the items

-- start j + 1 follows start j within the items, and the part between them lies
record PartLies (rs : List (List ℕ)) (s items ss : List ℕ) (j : ℕ) : Type 0 where
  pub rise : get_or ss j 0 ≤ get_or ss (j + 1) 0
  pub room : get_or ss (j + 1) 0 ≤ length items
  pub lie : AllLie rs s 0 (part ss items j)

part_says : (rs : List (List ℕ)) (s items ss : List ℕ) (j : ℕ) → Says (PartLies rs s items ss j) (part_lies rs s items ss j)
unfolding part_lies
part_says rs s items ss j =
    and-says {P = (get_or ss j 0 ≤ get_or ss (j + 1) 0) × (get_or ss (j + 1) 0 ≤ length items)}
    (λ p q. record { rise = p.0; room = p.1; lie = q })
    (λ r. (r.rise, r.room))
    (λ r. r.lie)
    (both-says (leb-says (get_or ss j 0) (get_or ss (j + 1) 0)) (leb-says (get_or ss (j + 1) 0) (length items)))
    (lying-says rs s 0 (part ss items j))

-- what the check tests of items and starts, at n keys: the parts lie, and have the total all together
pub record Tested (rs : List (List ℕ)) (key : ℕ → List ℕ) (n total : ℕ) (items ss : List ℕ) : Type 0 where
  pub long : n < length ss
  pub first : get_or ss 0 0 ≡ 0
  pub parts : (j : ℕ) → j < n → part_lies rs (key j) items ss j ≡ true
  pub last : get_or ss n 0 ≡ total

module _ (rs : List (List ℕ)) (key : ℕ → List ℕ) (n : ℕ) (items ss : List ℕ) where
  all : List (List ℕ)
  all = map (λ j. holding rs (key j)) (upto n)

  length-all : length all ≡ n
  unfolding all
  length-all = length-map (upto n) (λ j. holding rs (key j)) ∙ length-upto n

  -- ---- the parts are the lists of all rows
  module _ (p : Tested rs key n (length (flat all)) items ss) where
    lies : (j : ℕ) → j < n → PartLies rs (key j) items ss j
    lies j h = said (part_says rs (key j) items ss j) (p.parts j h)

    splits : Splits ss items n
    splits = record { long = p.long; first = p.first; rise = λ j h. (lies j h).rise; room = λ j h. (lies j h).room }

    parts_all : map (part ss items) (upto n) ≡ all
    unfolding all
    parts_all =
        (flat-sub (part ss items) (λ j. holding rs (key j)) (upto n) (λ j m. all-sub rs (key j) (part ss items j) (lies j (mem-upto n j m)).lie)).1
        (omega (arith, p.last, length-parts ss items n splits))

    items_begin : take (length (flat all)) items ≡ flat all
    items_begin = ap (λ (m : ℕ). take m items) (sym p.last) ∙ sym (flat-parts ss items n splits) ∙ ap flat parts_all

    starts_begin : take (length (starts all)) ss ≡ starts all
    starts_begin = ap (λ (m : ℕ). take m ss) (length-starts 0 all ∙ ap suc length-all) ∙ sym (starts-parts ss items n splits) ∙ ap starts parts_all

  -- ---- the lists of all rows pass
  module _ (b : take (length (flat all)) items ≡ flat all) (d : take (length (starts all)) ss ≡ starts all) where
    start-at : (t : ℕ) → t ≤ n → get_or ss t 0 ≡ get_or (starts all) t 0
    start-at t h = begun-start all items ss b d t (omega (arith, length-all))

    part-is : (j : ℕ) → j < n → PartLies rs (key j) items ss j
    unfolding all
    part-is j h =
        let l : j < length all = omega (arith, length-all) in
        let f = begun-fits all items ss b d j l in
        let e : part ss items j ≡ holding rs (key j) = begun-part all items ss b d j l ∙ get_or-table (λ i. holding rs (key i)) n j [] h in
        record { rise = f.1; room = f.2; lie = subst (AllLie rs (key j) 0) (sym e) (holding-all rs (key j)) }

    tested : Tested rs key n (length (flat all)) items ss
    tested =
        record {
          long = omega (arith, begins-long (starts all) ss d, length-starts 0 all, length-all);
          first = start-at 0 (omega arith) ∙ starts_first all;
          parts = λ j h. passes (part_says rs (key j) items ss j) (part-is j h);
          last = start-at n (omega arith) ∙ ap (λ (t : ℕ). get_or (starts all) t 0) (sym length-all) ∙ starts-last all;
        }

  parts_say : Says (Tested rs key n (length (flat all)) items ss) (begins (flat all) items && begins (starts all) ss)
  parts_say = and-says tested items_begin starts_begin (begins-says (flat all) items) (begins-says (starts all) ss)

-- the check of lists says that they are those of all rows
pub holds-says : {keys rs : FlatRows} {total : ℕ} → Holdable keys rs total → (items ss : List ℕ)
    → Says (Tested (rows_of rs) (λ j. get_or (rows_of keys) j []) keys.count total items ss) (holds (rows_of rs) (rows_of keys) items ss)
unfolding holds all
holds-says {keys} {rs} h items ss =
    let e : map (holding (rows_of rs)) (rows_of keys) ≡ map (λ j. holding (rows_of rs) (get_or (rows_of keys) j [])) (upto keys.count) =
    map-upto (holding (rows_of rs)) (rows_of keys) [] []
    ∙ ap (λ (n : ℕ). map (λ j. holding (rows_of rs) (get_or (rows_of keys) j [])) (upto n)) (length-rows keys.width keys.count keys.list.now) in
    rw (h.counted, e) (parts_say (rows_of rs) (λ j. get_or (rows_of keys) j []) keys.count items ss)

-- ---- how many rows the keys lie in

module _ (keys : List (List ℕ)) (k w : ℕ) (rs : List (List ℕ)) (ok : Keyed keys k w rs) where
  numbers-below : Below (gather (row_numbers keys k) rs) (length keys)
  numbers-below i h =
      let q = mem-gather (row_numbers keys k) rs (get_or-mem (gather (row_numbers keys k) rs) i 0 h) in
      let f = Memᴰ.of_map (λ s. find s keys) (combos q.0 k) q.2 in
      omega (arith, f.2, find-mem f.0 keys (ok.found q.0 f.0 q.1 f.1))

  pub length-holding : 0 < w → length (flat (map (holding rs) keys)) ≡ w * length rs
  length-holding pos =
      let xs = gather (row_numbers keys k) rs in
      ap (λ (r : List (List ℕ)). length (flat r)) (sym (groups-holding keys k w rs ok pos))
      ∙ ap length (flat-groups w (length keys) xs)
      ∙ length-map (order (length keys) xs) (λ i. i / w)
      ∙ order-full (length keys) xs numbers-below
      ∙ length-gather (row_numbers keys k) w rs (λ r m. length-map (combos r k) (λ s. find s keys) ∙ ok.size r m)

module _ (ps : List (List ℕ)) (five : Wide 5 ps) (up : Sorted ps) where
  pub tri-to-pents-total : length (flat (map (holding ps) (triangles ps))) ≡ 10 * length ps
  tri-to-pents-total = length-holding (triangles ps) 3 10 ps (keyed-triangles ps five up) (omega arith)

  pub edge-to-tris-total : length (flat (map (holding (triangles ps)) (edges ps))) ≡ 3 * length (triangles ps)
  edge-to-tris-total = length-holding (edges ps) 2 3 (triangles ps) (keyed-triangle-edges ps five up) (omega arith)

  pub edge-to-pents-total : length (flat (map (holding ps) (edges ps))) ≡ 10 * length ps
  edge-to-pents-total = length-holding (edges ps) 2 10 ps (keyed-edges ps five up) (omega arith)
