-- Rows in flat lists: what is written flat is read back, and what a list with room holds. Assumes nothing.
use mathlib.Core.Path.{◌≡◌, refl, sym, ap, ◌∙◌}
use mathlib.Core.Bool.{true}
use mathlib.Core.List.Memᴰ
use mathlib.Core.List.{List, [], ◌∷◌, ◌++◌, map, append_assoc, append-nil, map-append, Memᴰ}
use mathlib.Core.Logic.{⊎_elim}
use Prim.Native.Nat.{ℕ, zero, suc, ◌+◌, ◌*◌, ◌-◌, ◌≤◌, ◌<◌, min}
use native.Mathlib.Nat.{le_of_suc-le-suc, not-suc-le-zero, add-zero, mul-suc, mul-zero, mul-le-mul_left}
use native.Mathlib.Omega.{arith}
use native.Mathlib.Numerals.{add-one}
use lib.ListN.{length, get_or, take, drop, set, length-append, length-take, length-drop, length-map, take-append-drop}
use lib.Seq.{drop-drop, get_or-take, get_or-drop, get_or-append-add, set_split, take-take, take-suc, take-add, take_at, drop_at, length-take-le, take_all, take-length, slice, take-append-add, take-append_seam, drop-append_seam}
use Rattle.lists.specs.Lists.{gather, upto}
use Rattle.lists.specs.Rows.{flat, rows, Wide, starts_from, starts, over, begins}
use Rattle.lists.proofs.Tests.{Says, pass, fail, eqb-says, and-says, passes}
use Rattle.lists.proofs.Elements.{map_same, map-upto, length-upto, mem-upto, Sub}

-- ---- `rows`

pub length-rows : (w n : ℕ) (xs : List ℕ) → length (rows w n xs) ≡ n
unfolding rows
length-rows w zero xs = refl
length-rows w (suc n) xs = ap suc (length-rows w n (drop w xs))

next_row : (w k : ℕ) → w + w * k ≡ w * suc k
next_row w k = omega (arith, mul-suc w k)

-- row k lies from w k on
pub rows_at : (w n : ℕ) (xs : List ℕ) (k : ℕ) → k < n → get_or (rows w n xs) k [] ≡ take w (drop (w * k) xs)
unfolding rows
rows_at w zero xs k h = absurd (not-suc-le-zero h)
rows_at w (suc n) xs zero h = rw (mul-zero w) refl
rows_at w (suc n) xs (suc k) h =
    rows_at w n (drop w xs) k (le_of_suc-le-suc h) ∙ ap (take w) (drop-drop (w * k) w xs ∙ ap (λ (i : ℕ). drop i xs) (next_row w k))

-- one row more
pub rows_snoc : (w n : ℕ) (xs : List ℕ) → rows w (suc n) xs ≡ rows w n xs ++ take w (drop (w * n) xs) ∷ []
unfolding rows
rows_snoc w zero xs = rw (mul-zero w) refl
rows_snoc w (suc n) xs =
    ap (λ (r : List (List ℕ)). take w xs ∷ r)
    (rows_snoc w n (drop w xs)
    ∙ ap (λ (r : List ℕ). rows w n (drop w xs) ++ take w r ∷ []) (drop-drop (w * n) w xs ∙ ap (λ (i : ℕ). drop i xs) (next_row w n)))

-- the first rows and the others
pub rows_split : (w n m : ℕ) (xs : List ℕ) → rows w (n + m) xs ≡ rows w n xs ++ rows w m (drop (w * n) xs)
unfolding rows
rows_split w zero m xs = let z : 0 + m ≡ m = omega arith in rw (mul-zero w, z) refl
rows_split w (suc n) m xs =
    let z : suc n + m ≡ suc (n + m) = omega arith in
    ap (λ (i : ℕ). rows w i xs) z
    ∙ ap (λ (r : List (List ℕ)). take w xs ∷ r)
    (rows_split w n m (drop w xs) ∙ ap (λ (l : List ℕ). rows w n (drop w xs) ++ rows w m l) (drop-drop (w * n) w xs ∙ ap (λ (i : ℕ). drop i xs) (next_row w n)))

-- the first of the rows
pub take-rows : (w k n : ℕ) (xs : List ℕ) → k ≤ n → take k (rows w n xs) ≡ rows w k xs
take-rows w k n xs h =
    let e : k + (n - k) ≡ n = omega arith in
    ap (take k) (ap (λ (i : ℕ). rows w i xs) (sym e) ∙ rows_split w k (n - k) xs) ∙ take_at (rows w k xs) (rows w (n - k) (drop (w * k) xs)) k (length-rows w k xs)

-- a row below another ends before it begins
pub row_below : (w k n : ℕ) → k < n → w * k + w ≤ w * n
row_below w k n h = let l : w * suc k ≤ w * n = mul-le-mul_left w h in omega (arith, l, mul-suc w k)

pub rows-wide : (w n : ℕ) (xs : List ℕ) → w * n ≤ length xs → Wide w (rows w n xs)
unfolding rows
rows-wide w zero xs h x m = absurd (Memᴰ.not-nil m)
rows-wide w (suc n) xs h x m =
    ⊎_elim
    (λ e. ap length e ∙ length-take-le w xs (omega (arith, mul-suc w n)))
    (rows-wide w n (drop w xs) (omega (arith, mul-suc w n, length-drop w xs)) x)
    (Memᴰ.cases_cons m)

-- the rows lie in what stands below w n
pub rows_take : (w n m : ℕ) (xs : List ℕ) → w * n ≤ m → m ≤ length xs → rows w n (take m xs) ≡ rows w n xs
unfolding rows
rows_take w zero m xs h l = refl
rows_take w (suc n) m xs h l =
    let a : w ≤ m = omega (arith, mul-suc w n) in
    let e : w + (m - w) ≡ m = omega arith in
    let c : take m xs ≡ take w xs ++ take (m - w) (drop w xs) = ap (λ (i : ℕ). take i xs) (sym e) ∙ take-add w (m - w) xs in
    let k : length (take w xs) ≡ w = length-take-le w xs (omega arith) in
    let f : take w (take m xs) ≡ take w xs = rw c (take_at (take w xs) (take (m - w) (drop w xs)) w k) in
    let g : drop w (take m xs) ≡ take (m - w) (drop w xs) = rw c (drop_at (take w xs) (take (m - w) (drop w xs)) w k) in
    rw (f, g) (ap (λ (r : List (List ℕ)). take w xs ∷ r) (rows_take w n (m - w) (drop w xs) (omega (arith, mul-suc w n)) (omega (arith, length-drop w xs))))

-- two lists that agree below w n have the same rows
pub rows_agree : (w n : ℕ) (xs ys : List ℕ) → w * n ≤ length xs → w * n ≤ length ys → take (w * n) xs ≡ take (w * n) ys → rows w n xs ≡ rows w n ys
rows_agree w n xs ys h l e =
    sym (rows_take w n (w * n) xs (omega arith) h) ∙ ap (rows w n) e ∙ rows_take w n (w * n) ys (omega arith) l

-- ---- `flat`

pub flat_append : (xs ys : List (List ℕ)) → flat (xs ++ ys) ≡ flat xs ++ flat ys
unfolding flat
flat_append [] ys = refl
flat_append (x ∷ xs) ys = ap (λ (r : List ℕ). x ++ r) (flat_append xs ys) ∙ sym (append_assoc x (flat xs) (flat ys))

pub flat-snoc : (xs : List (List ℕ)) (x : List ℕ) → flat (xs ++ x ∷ []) ≡ flat xs ++ x
unfolding flat
flat-snoc xs x = flat_append xs (x ∷ []) ∙ ap (λ (r : List ℕ). flat xs ++ r) (append-nil x)

pub length-flat : (w : ℕ) (xs : List (List ℕ)) → Wide w xs → length (flat xs) ≡ w * length xs
unfolding flat
length-flat w [] h = sym (mul-zero w)
length-flat w (x ∷ xs) h =
    omega (arith, length-append x (flat xs), length-flat w xs (λ y m. h y (Memᴰ.tail m)), h x (Memᴰ.head refl), mul-suc w (length xs))

-- the first n rows, flat, are the first w n numbers
pub flat_rows : (w n : ℕ) (xs : List ℕ) → w * n ≤ length xs → flat (rows w n xs) ≡ take (w * n) xs
unfolding rows flat
flat_rows w zero xs h = rw (mul-zero w) refl
flat_rows w (suc n) xs h =
    ap (λ (r : List ℕ). take w xs ++ r) (flat_rows w n (drop w xs) (omega (arith, mul-suc w n, length-drop w xs)))
    ∙ sym (take-add w (w * n) xs) ∙ ap (λ (i : ℕ). take i xs) (next_row w n)

-- a list begins with its rows, flat
pub rows-front : (w n : ℕ) (xs : List ℕ) → w * n ≤ length xs → take (length (flat (rows w n xs))) xs ≡ flat (rows w n xs)
rows-front w n xs h =
    let m : length (flat (rows w n xs)) ≡ w * n = length-flat w (rows w n xs) (rows-wide w n xs h) ∙ ap (λ (k : ℕ). w * k) (length-rows w n xs) in
    ap (λ (k : ℕ). take k xs) m ∙ sym (flat_rows w n xs h)

-- rows that were written flat are read back
pub rows-flat : (w : ℕ) (xs : List (List ℕ)) (rest : List ℕ) → Wide w xs → rows w (length xs) (flat xs ++ rest) ≡ xs
unfolding rows flat
rows-flat w [] rest h = refl
rows-flat w (x ∷ xs) rest h =
    let k : length x ≡ w = h x (Memᴰ.head refl) in
    rw (append_assoc x (flat xs) rest, take_at x (flat xs ++ rest) w k, drop_at x (flat xs ++ rest) w k)
    (ap (λ (r : List (List ℕ)). x ∷ r) (rows-flat w xs rest (λ y m. h y (Memᴰ.tail m))))

-- ---- `starts`

pub length-starts : (a : ℕ) (xs : List (List ℕ)) → length (starts_from a xs) ≡ suc (length xs)
unfolding starts_from
length-starts a [] = refl
length-starts a (x ∷ xs) = ap suc (length-starts (a + length x) xs)

-- row t starts after the rows before it
pub starts-at : (a t : ℕ) (xs : List (List ℕ)) → t ≤ length xs → get_or (starts_from a xs) t 0 ≡ a + length (flat (take t xs))
unfolding starts_from flat
starts-at a zero [] h = sym (add-zero a)
starts-at a zero (x ∷ xs) h = sym (add-zero a)
starts-at a (suc t) [] h = absurd (not-suc-le-zero h)
starts-at a (suc t) (x ∷ xs) h =
    starts-at (a + length x) t xs (le_of_suc-le-suc h) ∙ omega (arith, length-append x (flat (take t xs)))

-- the first start is 0, the last the total
pub starts_first : (xs : List (List ℕ)) → get_or (starts xs) zero 0 ≡ 0
unfolding flat
starts_first xs = starts-at 0 0 xs (omega arith)

pub starts-last : (xs : List (List ℕ)) → get_or (starts xs) (length xs) 0 ≡ length (flat xs)
starts-last xs = starts-at 0 (length xs) xs (omega arith) ∙ rw (take-length xs) (omega arith)

-- row i's items are those from start i up to start i + 1
rows-from : (xs : List (List ℕ)) (pre : List ℕ) (i : ℕ) → i < length xs
    → slice (get_or (starts_from (length pre) xs) i 0) (get_or (starts_from (length pre) xs) (suc i) 0) (pre ++ flat xs) ≡ get_or xs i []
unfolding starts_from flat
rows-from [] pre i h = absurd (not-suc-le-zero h)
rows-from (x ∷ xs) pre zero h =
    ap (λ (n : ℕ). slice (length pre) n (pre ++ (x ++ flat xs))) (starts-at (length pre + length x) zero xs (omega arith) ∙ add-zero (length pre + length x))
    ∙ ap (drop (length pre)) (take-append-add pre (x ++ flat xs) (length x)) ∙ drop-append_seam pre (take (length x) (x ++ flat xs)) ∙ take-append_seam x (flat xs)
rows-from (x ∷ xs) pre (suc i) h =
    rw (← length-append pre x, ← append_assoc pre x (flat xs)) (rows-from xs (pre ++ x) i (le_of_suc-le-suc h))

pub starts-row : (xs : List (List ℕ)) (i : ℕ) → i < length xs → slice (get_or (starts xs) i 0) (get_or (starts xs) (suc i) 0) (flat xs) ≡ get_or xs i []
starts-row xs i h = rows-from xs [] i h

-- one row more: the end of all
starts-snoc : (a : ℕ) (xs : List (List ℕ)) (x : List ℕ) → starts_from a (xs ++ x ∷ []) ≡ starts_from a xs ++ (a + length (flat (xs ++ x ∷ []))) ∷ []
unfolding starts_from flat
starts-snoc a [] x = rw (append-nil x) refl
starts-snoc a (y ∷ xs) x =
    ap (λ (r : List ℕ). a ∷ r)
    (starts-snoc (a + length y) xs x
    ∙ ap (λ (n : ℕ). starts_from (a + length y) xs ++ n ∷ []) (omega (arith, length-append y (flat (xs ++ x ∷ [])))))

-- a row starts before it ends, within the total
pub starts_fit : (xs : List (List ℕ)) (t : ℕ) → t < length xs
    → (get_or (starts xs) t 0 ≤ get_or (starts xs) (suc t) 0) × (get_or (starts xs) (suc t) 0 ≤ length (flat xs))
starts_fit xs t h =
    let a : get_or (starts xs) t 0 ≡ 0 + length (flat (take t xs)) = starts-at 0 t xs (omega arith) in
    let b : get_or (starts xs) (suc t) 0 ≡ 0 + length (flat (take (suc t) xs)) = starts-at 0 (suc t) xs h in
    let e : length (flat (take (suc t) xs)) ≡ length (flat (take t xs)) + length (get_or xs t []) =
    ap (λ (r : List (List ℕ)). length (flat r)) (take-suc xs t [] h) ∙ ap length (flat-snoc (take t xs) (get_or xs t [])) ∙ length-append (flat (take t xs)) (get_or xs t []) in
    let f : length (flat xs) ≡ length (flat (take (suc t) xs)) + length (flat (drop (suc t) xs)) =
    ap (λ (r : List (List ℕ)). length (flat r)) (sym (take-append-drop (suc t) xs)) ∙ ap length (flat_append (take (suc t) xs) (drop (suc t) xs))
    ∙ length-append (flat (take (suc t) xs)) (flat (drop (suc t) xs)) in
    (omega (arith, a, b, e), omega (arith, b, f))

-- ---- `over`

pub over-take : (new old : List ℕ) (n : ℕ) → length new ≡ n → take n (over new old) ≡ new
unfolding over
over-take new old n e = take_at new (drop (length new) old) n e

-- a list whose beginning and whose rest are known
pub over-of : {A : Type 0} (new old xs : List A) (n : ℕ) → take n xs ≡ new → length new ≡ n → drop n xs ≡ drop n old → xs ≡ over new old
unfolding over
over-of new old xs n a l b = sym (take-append-drop n xs) ∙ rw (l, a, b) refl

-- lists that agree from place n on agree from every later place on
pub drop-later : {A : Type 0} (xs ys : List A) (n m : ℕ) → n ≤ m → drop n xs ≡ drop n ys → drop m xs ≡ drop m ys
drop-later {A} xs ys n m h e =
    let z : n + (m - n) ≡ m = omega arith in
    ap (λ (k : ℕ). drop k xs) (sym z) ∙ sym (drop-drop (m - n) n xs) ∙ ap (drop (m - n)) e ∙ drop-drop (m - n) n ys ∙ ap (λ (k : ℕ). drop k ys) z

-- a turn of a loop that writes a list from its front: its places from n to m get a part
pub over-turn : {A : Type 0} (front part old out out' : List A) (n m : ℕ) → length front ≡ n → n ≤ m → out ≡ front ++ drop n old → out' ≡ take n out ++ part ++ drop m out → out' ≡ front ++ part ++ drop m old
over-turn {A} front part old out out' n m l h i e =
    let a : take n out ≡ front = ap (take n) i ∙ take_at front (drop n old) n l in
    let b : drop n out ≡ drop n old = ap (drop n) i ∙ drop_at front (drop n old) n l in
    e ∙ ap (λ (xs : List A). xs ++ part ++ drop m out) a ∙ ap (λ (xs : List A). front ++ part ++ xs) (drop-later out old n m h b)

-- a turn that writes one place, by a rule
pub map-turn : {A : Type 0} (f : ℕ → A) (old out : List A) (k : ℕ) → k < length old → length out ≡ length old → out ≡ map f (upto k) ++ drop k old → set out k (f k) ≡ map f (upto (suc k)) ++ drop (suc k) old
unfolding upto
map-turn {A} f old out k h l i =
    over-turn (map f (upto k)) (f k ∷ []) old out (set out k (f k)) k (suc k) (length-map (upto k) f ∙ length-upto k) (omega arith) i (set_split out k (f k) (omega arith) ∙ sym (append_assoc (take k out) (f k ∷ []) (drop (suc k) out)))
    ∙ ap (λ (xs : List A). xs ++ drop (suc k) old) (sym (map-append f (upto k) (k ∷ [])))

-- after the last turn
pub map-done : {A : Type 0} (f : ℕ → A) (old out : List A) (n : ℕ) → out ≡ map f (upto n) ++ drop n old → out ≡ over (map f (upto n)) old
unfolding over
map-done f old out n e = e ∙ rw (length-map (upto n) f ∙ length-upto n) refl

-- a turn that writes one place after a front
pub front-turn : {A : Type 0} (front : List A) (a : A) (old out : List A) (n : ℕ) → length front ≡ n → n < length old → length out ≡ length old → out ≡ front ++ drop n old → set out n a ≡ front ++ a ∷ [] ++ drop (n + 1) old
front-turn {A} front a old out n l h k i =
    over-turn front (a ∷ []) old out (set out n a) n (n + 1) l (omega arith) i
    (set_split out n a (omega arith) ∙ sym (append_assoc (take n out) (a ∷ []) (drop (suc n) out)) ∙ ap (λ (j : ℕ). take n out ++ a ∷ [] ++ drop j out) (sym (add-one n)))

-- a turn that writes what g makes of the next number
pub written_next : {A : Type 0} (g : ℕ → A) (xs : List ℕ) (k : ℕ) (old out : List A) → k < length xs → k < length old → length out ≡ length old → out ≡ map g (take k xs) ++ drop k old
    → set out k (g (get_or xs k 0)) ≡ map g (take (k + 1) xs) ++ drop (k + 1) old
written_next {A} g xs k old out h m l e =
    front-turn (map g (take k xs)) (g (get_or xs k 0)) old out k (length-map (take k xs) g ∙ front) m l e
    ∙ ap (λ (r : List A). r ++ drop (k + 1) old) (sym (ap (λ (n : ℕ). map g (take n xs)) (add-one k) ∙ ap (map g) (take-suc xs k 0 h) ∙ map-append g (take k xs) (get_or xs k 0 ∷ [])))
  where
    front : length (take k xs) ≡ k
    front = length-take k xs ∙ omega arith

-- all of those that g makes
pub written_all : {A : Type 0} (g : ℕ → A) (xs : List ℕ) (n : ℕ) (old out : List A) → n ≤ length xs → out ≡ map g (take n xs) ++ drop n old → out ≡ over (map g (take n xs)) old
unfolding over
written_all g xs n old out h e = e ∙ rw (length-map (take n xs) g ∙ length-take n xs ∙ front) refl
  where
    front : min n (length xs) ≡ n
    front = omega arith

-- the place after those that are written holds what it held
pub read_next : {A : Type 0} (f : ℕ → A) (old : List A) (k : ℕ) (d : A) → get_or (map f (upto k) ++ drop k old) k d ≡ get_or old k d
read_next {A} f old k d =
    let n : length (map f (upto k)) + 0 ≡ k = add-zero (length (map f (upto k))) ∙ length-map (upto k) f ∙ length-upto k in
    ap (λ (i : ℕ). get_or (map f (upto k) ++ drop k old) i d) (sym n)
    ∙ get_or-append-add (map f (upto k)) (drop k old) 0 d
    ∙ get_or-drop k old 0 d
    ∙ ap (λ (i : ℕ). get_or old i d) (add-zero k)

-- a rule for rows of two numbers, by their places
pub map-pairs : {A : Type 0} (h : ℕ → ℕ → A) (n : ℕ) (xs : List ℕ) → map (λ e. h (get_or e 0 0) (get_or e 1 0)) (rows 2 n xs) ≡ map (λ k. h (get_or xs (2 * k) 0) (get_or xs (2 * k + 1) 0)) (upto n)
map-pairs {A} h n xs =
    map-upto (λ e. h (get_or e 0 0) (get_or e 1 0)) (rows 2 n xs) [] (h 0 0)
    ∙ ap (λ (m : ℕ). map (λ k. h (get_or (get_or (rows 2 n xs) k []) 0 0) (get_or (get_or (rows 2 n xs) k []) 1 0)) (upto m)) (length-rows 2 n xs)
    ∙ map_same _ _ (upto n) (λ k m. rw (rows_at 2 n xs k (mem-upto n k m)) (place k))
  where
    place : (k : ℕ) → h (get_or (take 2 (drop (2 * k) xs)) 0 0) (get_or (take 2 (drop (2 * k) xs)) 1 0) ≡ h (get_or xs (2 * k) 0) (get_or xs (2 * k + 1) 0)
    place k =
        rw (get_or-take 2 (drop (2 * k) xs) 0 0 (omega arith), get_or-take 2 (drop (2 * k) xs) 1 0 (omega arith), get_or-drop (2 * k) xs 0 0, get_or-drop (2 * k) xs 1 0, add-zero (2 * k))
        refl

-- ---- `begins`

pub begins-says : (new xs : List ℕ) → Says (take (length new) xs ≡ new) (begins new xs)
unfolding begins
begins-says [] xs = pass refl
begins-says (v ∷ new) [] = fail (λ e. let z : ◌≡◌ {A = ℕ} 0 1 = cc in omega arith)
begins-says (v ∷ new) (x ∷ xs) = and-says (λ p q. cc) (λ e. cc) (λ e. cc) (eqb-says v x) (begins-says new xs)

-- a list is no shorter than its beginning
pub begins-long : (new xs : List ℕ) → take (length new) xs ≡ new → length new ≤ length xs
begins-long [] xs e = omega arith
begins-long (v ∷ new) [] e = absurd (let z : ◌≡◌ {A = ℕ} 0 1 = cc in omega arith)
begins-long (v ∷ new) (x ∷ xs) e = let l = begins-long new xs cc in omega arith

-- its beginning written over it changes nothing
pub over-begins : (new xs : List ℕ) → take (length new) xs ≡ new → over new xs ≡ xs
unfolding over
over-begins new xs e = ap (λ (l : List ℕ). l ++ drop (length new) xs) (sym e) ∙ take-append-drop (length new) xs

-- the rows of a list that begins with them
pub rows-begins : (w : ℕ) (xs : List (List ℕ)) (l : List ℕ) → Wide w xs → take (length (flat xs)) l ≡ flat xs → rows w (length xs) l ≡ xs
rows-begins w xs l wide e =
    let n = length (flat xs) in
    ap (rows w (length xs)) (sym (take-append-drop n l) ∙ ap (λ (k : List ℕ). k ++ drop n l) e) ∙ rows-flat w xs (drop n l) wide

-- what is written over a list begins it
pub begins-over : (new old xs : List ℕ) → xs ≡ over new old → begins new xs ≡ true
begins-over new old xs e = passes (begins-says new xs) (ap (take (length new)) e ∙ over-take new old (length new) refl)

-- ---- parts

-- a part up to the end is the rest
pub part-tail : (s : List ℕ) (k : ℕ) → take (length s - k) (drop k s) ≡ drop k s
part-tail s k = take_all (length s - k) (drop k s) (rw length-drop (omega arith))

-- the part of a list that is row q
pub part-row : (w q : ℕ) (xs : List ℕ) → take (w * q + w - w * q) (drop (w * q) xs) ≡ take w (drop (w * q) xs)
part-row w q xs = let e : w * q + w - w * q ≡ w = omega arith in rw e refl

-- row q as a part that code takes
abbrev pub row_part : ℕ → List ℕ → ℕ → List ℕ
row_part w xs q = take (w * q + w - w * q) (drop (w * q) xs)

pub row-part : (w n : ℕ) (xs : List ℕ) (q : ℕ) → q < n → get_or (rows w n xs) q [] ≡ row_part w xs q
row-part w n xs q h = rows_at w n xs q h ∙ sym (part-row w q xs)

pub length_part : (w q n : ℕ) (xs : List ℕ) → q < n → w * n ≤ length xs → length (take w (drop (w * q) xs)) ≡ w
length_part w q n xs h r = length-take-le w (drop (w * q) xs) (omega (arith, row_below w q n h, length-drop (w * q) xs))

pub slice-part : (f t : ℕ) (xs : List ℕ) → f ≤ t → f ≤ length xs → slice f t xs ≡ take (t - f) (drop f xs)
slice-part f t xs h l =
    let e : f + (t - f) ≡ t = omega arith in
    ap (λ (n : ℕ). drop f (take n xs)) (sym e) ∙ ap (drop f) (take-add f (t - f) xs) ∙ drop_at (take f xs) (take (t - f) (drop f xs)) f (length-take-le f xs l)

-- the part of a list from start j up to start j + 1
abbrev pub part : List ℕ → List ℕ → ℕ → List ℕ
part ss xs j = take (get_or ss (j + 1) 0 - get_or ss j 0) (drop (get_or ss j 0) xs)

-- n + 1 starts from 0 on that do not fall and lie within a list
pub record Splits (ss xs : List ℕ) (n : ℕ) : Type 0 where
  pub long : n < length ss
  pub first : get_or ss 0 0 ≡ 0
  pub rise : (j : ℕ) → j < n → get_or ss j 0 ≤ get_or ss (j + 1) 0
  pub room : (j : ℕ) → j < n → get_or ss (j + 1) 0 ≤ length xs

module _ (ss xs : List ℕ) where
  parts : ℕ → List (List ℕ)
  parts n = map (part ss xs) (upto n)

  parts_next : (n : ℕ) → parts (suc n) ≡ parts n ++ part ss xs n ∷ []
  unfolding parts upto
  parts_next n = map-append (part ss xs) (upto n) (n ∷ [])

  splits-less : {n : ℕ} → Splits ss xs (suc n) → Splits ss xs n
  splits-less s = record { long = omega (arith, s.long); first = s.first; rise = λ j h. s.rise j (omega arith); room = λ j h. s.room j (omega arith) }

  splits-room : (n : ℕ) → Splits ss xs n → get_or ss n 0 ≤ length xs
  splits-room zero s = omega (arith, s.first)
  splits-room (suc n) s = rw add-one at (s.room n (omega arith))

  -- the parts, one after the other
  pub flat-parts : (n : ℕ) → Splits ss xs n → flat (map (part ss xs) (upto n)) ≡ take (get_or ss n 0) xs
  unfolding flat upto parts
  flat-parts zero s = rw s.first refl
  flat-parts (suc n) s =
      let e : get_or ss n 0 + (get_or ss (n + 1) 0 - get_or ss n 0) ≡ get_or ss (suc n) 0 = omega (arith, s.rise n (omega arith), ap (λ (k : ℕ). get_or ss k 0) (add-one n)) in
      ap flat (parts_next n) ∙ flat-snoc (parts n) (part ss xs n) ∙ ap (λ (r : List ℕ). r ++ part ss xs n) (flat-parts n (splits-less s))
      ∙ sym (take-add (get_or ss n 0) (get_or ss (n + 1) 0 - get_or ss n 0) xs) ∙ ap (λ (k : ℕ). take k xs) e

  pub length-parts : (n : ℕ) → Splits ss xs n → length (flat (map (part ss xs) (upto n))) ≡ get_or ss n 0
  length-parts n s = ap length (flat-parts n s) ∙ length-take-le (get_or ss n 0) xs (splits-room n s)

  -- the starts of the parts
  pub starts-parts : (n : ℕ) → Splits ss xs n → starts (map (part ss xs) (upto n)) ≡ take (suc n) ss
  unfolding upto starts_from parts
  starts-parts zero s = sym (take-suc ss 0 0 s.long ∙ rw s.first refl)
  starts-parts (suc n) s =
      ap starts (parts_next n) ∙ starts-snoc 0 (parts n) (part ss xs n)
      ∙ (λ i. starts-parts n (splits-less s) i ++ end i ∷ [])
      ∙ sym (take-suc ss (suc n) 0 s.long)
    where
      end : 0 + length (flat (parts n ++ part ss xs n ∷ [])) ≡ get_or ss (suc n) 0
      end = omega (arith, ap (λ (r : List (List ℕ)). length (flat r)) (parts_next n), length-parts (suc n) s)

-- items and starts of gs at the beginning of two lists
module _ (gs : List (List ℕ)) (items ss : List ℕ) (b : take (length (flat gs)) items ≡ flat gs) (d : take (length (starts gs)) ss ≡ starts gs) where
  pub begun-start : (i : ℕ) → i ≤ length gs → get_or ss i 0 ≡ get_or (starts gs) i 0
  begun-start i h = sym (get_or-take (length (starts gs)) ss i 0 (omega (arith, length-starts 0 gs))) ∙ ap (λ (l : List ℕ). get_or l i 0) d

  begun-next : (i : ℕ) → i < length gs → get_or ss (i + 1) 0 ≡ get_or (starts gs) (suc i) 0
  begun-next i h = rw (add-one i) (begun-start (suc i) h)

  -- part i lies within the items
  pub begun-fits : (i : ℕ) → i < length gs → (i + 1 < length ss) × (get_or ss i 0 ≤ get_or ss (i + 1) 0) × (get_or ss (i + 1) 0 ≤ length items)
  begun-fits i h =
      let f = starts_fit gs i h in
      let x = begun-start i (omega arith) in
      let y = begun-next i h in
      (omega (arith, length-starts 0 gs, begins-long (starts gs) ss d), omega (arith, f.0), omega (arith, f.1, begins-long (flat gs) items b))

  -- and is row i
  pub begun-part : (i : ℕ) → i < length gs → part ss items i ≡ get_or gs i []
  begun-part i h =
      let f = starts_fit gs i h in
      let g = begun-fits i h in
      let x = begun-start i (omega arith) in
      let y = begun-next i h in
      sym (slice-part (get_or ss i 0) (get_or ss (i + 1) 0) items g.1 (omega (arith, g.1, g.2)))
      ∙ ap (drop (get_or ss i 0)) (sym (take-take (get_or ss (i + 1) 0) (length (flat gs)) items (omega (arith, f.1))) ∙ ap (take (get_or ss (i + 1) 0)) b)
      ∙ (λ j. drop (x j) (take (y j) (flat gs)))
      ∙ starts-row gs i h

-- ---- gathered rows

pub flat_map : {A : Type 0} (f : A → List ℕ) (xs : List A) → flat (map f xs) ≡ gather f xs
unfolding flat gather
flat_map f [] = refl
flat_map f (x ∷ xs) = ap (λ (r : List ℕ). f x ++ r) (flat_map f xs)

-- lists that are each no longer than another, and the same where they are as long, are so all together
pub flat-sub : {A : Type 0} (f g : A → List ℕ) (xs : List A) → ((a : A) → Memᴰ a xs → Sub (f a) (g a))
    → (length (flat (map f xs)) ≤ length (flat (map g xs))) × (length (flat (map g xs)) ≤ length (flat (map f xs)) → map f xs ≡ map g xs)
unfolding flat
flat-sub f g [] h = (omega arith, λ l. refl)
flat-sub f g (x ∷ xs) h =
    let s : Sub (f x) (g x) = h x (Memᴰ.head refl) in
    let r = flat-sub f g xs (λ a m. h a (Memᴰ.tail m)) in
    let a = length-append (f x) (flat (map f xs)) in
    let b = length-append (g x) (flat (map g xs)) in
    (omega (arith, a, b, s.0, r.0), λ l i. s.1 (omega (arith, a, b, s.0, r.0)) i ∷ r.1 (omega (arith, a, b, s.0, r.0)) i)
