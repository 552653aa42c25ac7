-- The faces of pentachorons as they are met. Assumes nothing.
use Prim.Native.Nat.{ℕ, ◌+◌, ◌*◌, ◌≤◌, ◌<◌}
use mathlib.Core.Path.{◌≡◌, refl, sym, ap, ◌∙◌}
use mathlib.Core.List.Memᴰ
use mathlib.Core.List.{List, [], ◌∷◌, ◌++◌}
use native.Mathlib.Nat.{mul-suc, mul-zero, mul-le-mul_left}
use native.Mathlib.Numerals.{add-one}
use native.Mathlib.Omega.{arith}
use lib.ListN.{length, take, drop, length-append}
use Rattle.lists.specs.Lists.{gather, combos}
use Rattle.lists.specs.Rows.{rows, Wide}
use Rattle.lists.specs.Chains.{Ready, Met}
use Rattle.lists.proofs.Elements.{gather-snoc}
use Rattle.lists.proofs.Rows.{length-rows, rows_snoc, rows-wide, row_below, length_part}
use Rattle.lists.proofs.Chains.{indexed-none, met-count, met-rows, met-numbers}
use Rattle.complex.specs.declared.numbering.Face.{Face}
use Rattle.complex.specs.declared.numbering.Face.TheVariants.{Edge, Triangle, Tet}
use Rattle.complex.specs.Complex.{width_of, count_of, faces_of, met_faces, faces, numbers_of}
use Rattle.complex.proofs.SortedPents.{five-of}
use Rattle.complex.specs.Parts.{Faces, Numbered}

-- ---- how many there are

pub count-faces : (f : Face) (p : List ℕ) → length p ≡ 5 → length (faces_of f p) ≡ count_of f
unfolding combos
count-faces Edge p h = rw (five-of p h) refl
count-faces Triangle p h = rw (five-of p h) refl
count-faces Tet p h = rw (five-of p h) refl

pub length-met : (f : Face) (ps : List (List ℕ)) → Wide 5 ps → length (met_faces f ps) ≡ count_of f * length ps
unfolding met_faces gather
length-met f [] h = sym (mul-zero (count_of f))
length-met f (p ∷ ps) h =
    omega (arith, length-append (faces_of f p) (met_faces f ps), count-faces f p (h p (Memᴰ.head refl)), length-met f ps (λ q m. h q (Memᴰ.tail m)), mul-suc (count_of f) (length ps))

-- one pentachoron more
pub met_next : (f : Face) (k : ℕ) (xs : List ℕ) → met_faces f (rows 5 (k + 1) xs) ≡ met_faces f (rows 5 k xs) ++ faces_of f (take 5 (drop (5 * k) xs))
unfolding met_faces
met_next f k xs = rw (add-one k, rows_snoc 5 k xs) (gather-snoc (faces_of f) (rows 5 k xs) (take 5 (drop (5 * k) xs)))

pub length-met-rows : (f : Face) (k : ℕ) (xs : List ℕ) → 5 * k ≤ length xs → length (met_faces f (rows 5 k xs)) ≡ count_of f * k
length-met-rows f k xs h = length-met f (rows 5 k xs) (rows-wide 5 k xs h) ∙ ap (λ (n : ℕ). count_of f * n) (length-rows 5 k xs)

-- ---- the loop over the pentachorons

pub count-le : (f : Face) → count_of f ≤ 10
count-le Edge = omega arith
count-le Triangle = omega arith
count-le Tet = omega arith

pub width-le : (f : Face) → width_of f ≤ 4
width-le Edge = omega arith
width-le Triangle = omega arith
width-le Tet = omega arith

-- it begins with no face
pub ready-none : (f : Face) (P pents : ℕ) (e h x u : List ℕ) (m : ℕ) → m ≡ 32768 → h ≡ lib.ListN.replicate m 0 → Faces f P pents (length e) (length x) (length u)
    → Ready (width_of f) e h x u 0 0 (count_of f * P)
unfolding rows
ready-none f P pents e h x u m q r room =
    let b : count_of f * P ≤ count_of f * 8192 = mul-le-mul_left (count_of f) room.searched.few in
    let z : 0 + count_of f * P ≡ count_of f * P = omega arith in
    record {
      indexed = indexed-none h x m q r;
      room = rw z room.room;
      links = omega (arith, room.searched.links);
      numbers = omega (arith, room.searched.numbered);
      few = omega (arith, count-le f);
    }

-- it ends with all faces
pub numbered-all : (f : Face) (ps : List (List ℕ)) (e e' h x u u' : List ℕ) (r : ℕ) → Met (width_of f) e e' h x u u' 0 0 (met_faces f ps) r → width_of f * r ≤ length e'
    → Numbered f ps e e' u u' r
unfolding faces numbers_of
numbered-all f ps e e' h x u u' r p room =
    record {
      count = met-count (width_of f) e e' h x u u' (met_faces f ps) r p;
      rows = met-rows (width_of f) e e' h x u u' (met_faces f ps) r p room;
      noted = met-numbers (width_of f) e e' h x u u' (met_faces f ps) r p;
    }

pub faces-fit : (f : Face) → width_of f * count_of f ≤ 30
faces-fit Edge = omega arith
faces-fit Triangle = omega arith
faces-fit Tet = omega arith

-- the faces of pentachoron k start at place count_of f * k
pub face-below : (f : Face) (k P : ℕ) → k < P → count_of f * k + count_of f ≤ count_of f * P
face-below f k P h = row_below (count_of f) k P h

-- and end among those of all
pub faces-end : (f : Face) (k P : ℕ) (xs : List ℕ) → k < P → 5 * P ≤ length xs → count_of f * k + length (faces_of f (take 5 (drop (5 * k) xs))) ≤ count_of f * P
faces-end f k P xs h l = omega (arith, count-faces f (take 5 (drop (5 * k) xs)) (length_part 5 k P xs h l), face-below f k P h)
