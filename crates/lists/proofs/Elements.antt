-- The elements of lists that are kept, gathered or counted up. Assumes nothing.
use mathlib.Core.Path.{◌≡◌, refl, sym, ap, ◌∙◌, subst}
use mathlib.Core.Logic.{◌⊎◌, inl, inr, ⊎_elim}
use mathlib.Core.Bool.{Bool, true, false, not, cond}
use mathlib.Core.List.Memᴰ
use mathlib.Core.List.{List, [], ◌∷◌, ◌++◌, map, map-append, map-id, reverse, reverse_aux, append_assoc, append-nil, Memᴰ}
use Prim.Native.Nat.{ℕ, zero, suc, ◌+◌, ◌*◌, ◌/◌, ◌%◌, ◌≤◌, ◌<◌, suc-le-suc}
use native.Mathlib.Nat.{le_of_suc-le-suc, not-suc-le-zero, zero-lt-suc, add-zero, add-suc, mul-zero, mul-suc, mod-eq_of_lt, div-eq_of_lt, mul-add-div, mul-add-mod_self_left}
use native.Mathlib.Omega.{arith}
use lib.ListN.{length, get_or, replicate, length-append, length-map, get_or-append}
use lib.Seq.{get_or-append_seam, get_or-append-add, ext_get_or}
use Rattle.lists.specs.Lists.{keep, gather, upto, among, within, Within, Rising, Once}
use Rattle.lists.proofs.Tests.{Says, pass, fail, eqb-says, ltb-says, and-says, or-says}

module _ {A : Type 0} where
  -- ---- places

  pub get_or-mem : (xs : List A) (i : ℕ) (d : A) → i < length xs → Memᴰ (get_or xs i d) xs
  get_or-mem [] i d h = absurd (not-suc-le-zero h)
  get_or-mem (x ∷ xs) zero d h = Memᴰ.head refl
  get_or-mem (x ∷ xs) (suc i) d h = Memᴰ.tail (get_or-mem xs i d (le_of_suc-le-suc h))

  pub mem-get_or : (d : A) {a : A} {xs : List A} → Memᴰ a xs → (i : ℕ) × (i < length xs) × (get_or xs i d ≡ a)
  mem-get_or d (Memᴰ.head {xs = xs} e) = (zero, zero-lt-suc (length xs), sym e)
  mem-get_or d {a = a} (Memᴰ.tail {xs = xs} m) =
      let r : (i : ℕ) × (i < length xs) × (get_or xs i d ≡ a) = mem-get_or d m in (suc r.0, suc-le-suc r.1, r.2)

  -- what stands for a missing element does not matter where there is one
  pub get_or-any : (xs : List A) (i : ℕ) (d e : A) → i < length xs → get_or xs i d ≡ get_or xs i e
  get_or-any [] i d e h = absurd (not-suc-le-zero h)
  get_or-any (x ∷ xs) zero d e h = refl
  get_or-any (x ∷ xs) (suc i) d e h = get_or-any xs i d e (le_of_suc-le-suc h)

  -- ---- `keep`

  pub keep-mem : {P : A → Type 0} {q : A → Bool} → ((a : A) → Says (P a) (q a)) → (xs : List A) {a : A} → Memᴰ a xs → P a → Memᴰ a (keep q xs)
  unfolding keep
  keep-mem s [] m h = m
  keep-mem {P} {q} s (x ∷ xs) {a} m h = go (s x) (keep-mem s xs) (Memᴰ.cases_cons m)
    where
      go : {b : Bool} → Says (P x) b → (Memᴰ a xs → P a → Memᴰ a (keep q xs)) → (a ≡ x) ⊎ Memᴰ a xs → Memᴰ a (cond b (x ∷ keep q xs) (keep q xs))
      go (pass p) r (inl e) = Memᴰ.head e
      go (pass p) r (inr n) = Memᴰ.tail (r n h)
      go (fail f) r (inl e) = absurd (f (subst P e h))
      go (fail f) r (inr n) = r n h

  pub mem-keep : {P : A → Type 0} {q : A → Bool} → ((a : A) → Says (P a) (q a)) → (xs : List A) {a : A} → Memᴰ a (keep q xs) → Memᴰ a xs × P a
  unfolding keep
  mem-keep s [] m = absurd (Memᴰ.not-nil m)
  mem-keep {P} {q} s (x ∷ xs) {a} m = go (s x) (mem-keep s xs) m
    where
      go : {b : Bool} → Says (P x) b → (Memᴰ a (keep q xs) → Memᴰ a xs × P a) → Memᴰ a (cond b (x ∷ keep q xs) (keep q xs)) → Memᴰ a (x ∷ xs) × P a
      go (pass p) r n = ⊎_elim (λ e. (Memᴰ.head e, subst P (sym e) p)) (λ k. (Memᴰ.tail (r k).0, (r k).1)) (Memᴰ.cases_cons n)
      go (fail f) r n = (Memᴰ.tail (r n).0, (r n).1)

  pub keep_same : (p q : A → Bool) (xs : List A) → ((x : A) → Memᴰ x xs → p x ≡ q x) → keep p xs ≡ keep q xs
  unfolding keep
  keep_same p q [] h = refl
  keep_same p q (x ∷ xs) h = rw (h x (Memᴰ.head refl), keep_same p q xs (λ y m. h y (Memᴰ.tail m)))

  module _ {B : Type 0} where
    -- ---- `gather` and `map`

    pub gather-mem : (f : A → List B) {a : A} {b : B} {xs : List A} → Memᴰ a xs → Memᴰ b (f a) → Memᴰ b (gather f xs)
    unfolding gather
    gather-mem f {a} {b} (Memᴰ.head {xs = xs} e) n = Memᴰ.append_left (gather f xs) (subst (λ (y : A). Memᴰ b (f y)) e n)
    gather-mem f (Memᴰ.tail {x} m) n = Memᴰ.append_right (f x) (gather-mem f m n)

    pub mem-gather : (f : A → List B) (xs : List A) {b : B} → Memᴰ b (gather f xs) → (a : A) × Memᴰ a xs × Memᴰ b (f a)
    unfolding gather
    mem-gather f [] m = absurd (Memᴰ.not-nil m)
    mem-gather f (x ∷ xs) {b} m =
        ⊎_elim
        (λ n. (x, Memᴰ.head refl, n))
        (λ n. let r : (a : A) × Memᴰ a xs × Memᴰ b (f a) = mem-gather f xs n in (r.0, Memᴰ.tail r.1, r.2))
        (Memᴰ.append_cases (f x) m)

    pub gather_append : (f : A → List B) (xs ys : List A) → gather f (xs ++ ys) ≡ gather f xs ++ gather f ys
    unfolding gather
    gather_append f [] ys = refl
    gather_append f (x ∷ xs) ys = ap (λ r. f x ++ r) (gather_append f xs ys) ∙ sym (append_assoc (f x) (gather f xs) (gather f ys))

    pub gather-snoc : (f : A → List B) (xs : List A) (y : A) → gather f (xs ++ y ∷ []) ≡ gather f xs ++ f y
    unfolding gather
    gather-snoc f xs y = gather_append f xs (y ∷ []) ∙ ap (λ (r : List B). gather f xs ++ r) (append-nil (f y))

    pub length-gather : (f : A → List B) (w : ℕ) (xs : List A) → ((x : A) → Memᴰ x xs → length (f x) ≡ w) → length (gather f xs) ≡ w * length xs
    unfolding gather
    length-gather f w [] h = sym (mul-zero w)
    length-gather f w (x ∷ xs) h =
        omega (arith, length-append (f x) (gather f xs), h x (Memᴰ.head refl), length-gather f w xs (λ y m. h y (Memᴰ.tail m)), mul-suc w (length xs))

    -- where every list has w elements, the j-th of the k-th list stands at w k + j
    pub gather-at : (f : A → List B) (w : ℕ) (xs : List A) (d : A) (e : B) → ((x : A) → Memᴰ x xs → length (f x) ≡ w) → (k j : ℕ) → k < length xs → j < w
        → get_or (gather f xs) (w * k + j) e ≡ get_or (f (get_or xs k d)) j e
    unfolding gather
    gather-at f w [] d e h k j a b = absurd (not-suc-le-zero a)
    gather-at f w (x ∷ xs) d e h zero j a b =
        let z : w * 0 + j ≡ j = omega (arith, mul-zero w) in
        let l : length (f x) ≡ w = h x (Memᴰ.head refl) in
        rw z (get_or-append (f x) (gather f xs) e j (omega arith))
    gather-at f w (x ∷ xs) d e h (suc k) j a b =
        let z : w * suc k + j ≡ length (f x) + (w * k + j) = omega (arith, mul-suc w k, h x (Memᴰ.head refl)) in
        ap (λ (i : ℕ). get_or (f x ++ gather f xs) i e) z ∙ get_or-append-add (f x) (gather f xs) (w * k + j) e
        ∙ gather-at f w xs d e (λ y m. h y (Memᴰ.tail m)) k j (le_of_suc-le-suc a) b

    pub map-gather : {C : Type 0} (g : B → C) (f : A → List B) (xs : List A) → map g (gather f xs) ≡ gather (λ x. map g (f x)) xs
    unfolding gather
    map-gather g f [] = refl
    map-gather {C} g f (x ∷ xs) = map-append g (f x) (gather f xs) ∙ ap (λ (r : List C). map g (f x) ++ r) (map-gather g f xs)

    pub gather-map : {C : Type 0} (f : B → List C) (g : A → B) (xs : List A) → gather f (map g xs) ≡ gather (λ x. f (g x)) xs
    unfolding gather
    gather-map f g [] = refl
    gather-map {C} f g (x ∷ xs) = ap (λ (r : List C). f (g x) ++ r) (gather-map f g xs)

    -- one element for each is a map
    pub gather-one : (f : A → B) (xs : List A) → gather (λ x. f x ∷ []) xs ≡ map f xs
    unfolding gather
    gather-one f [] = refl
    gather-one f (x ∷ xs) = ap (λ (r : List B). f x ∷ r) (gather-one f xs)

    pub gather-same : (f g : A → List B) (xs : List A) → ((a : A) → Memᴰ a xs → f a ≡ g a) → gather f xs ≡ gather g xs
    unfolding gather
    gather-same f g [] h = refl
    gather-same f g (x ∷ xs) h = rw (h x (Memᴰ.head refl), gather-same f g xs (λ y m. h y (Memᴰ.tail m))) refl

    pub get_or-map : (f : A → B) (xs : List A) (i : ℕ) (d : A) (e : B) → i < length xs → get_or (map f xs) i e ≡ f (get_or xs i d)
    get_or-map f [] i d e h = absurd (not-suc-le-zero h)
    get_or-map f (x ∷ xs) zero d e h = refl
    get_or-map f (x ∷ xs) (suc i) d e h = get_or-map f xs i d e (le_of_suc-le-suc h)

    -- a function that tells a list's elements apart makes no element twice
    pub once-map : (f : A → B) (xs : List A) → Once xs → ((a b : A) → Memᴰ a xs → Memᴰ b xs → f a ≡ f b → a ≡ b) → Once (map f xs)
    once-map f [] o g = tt
    once-map f (x ∷ xs) o g = (
      (λ m.
          let w : (y : A) × Memᴰ y xs × (f y ≡ f x) = Memᴰ.of_map f xs m in
          o.0 (Memᴰ.cast (g x w.0 (Memᴰ.head refl) (Memᴰ.tail w.1) (sym w.2)) w.1)),
      once-map f xs o.1 (λ a b m n. g a b (Memᴰ.tail m) (Memᴰ.tail n)),
    )

    -- two functions that agree on a list's elements make the same list of it
    pub map_same : (f g : A → B) (xs : List A) → ((a : A) → Memᴰ a xs → f a ≡ g a) → map f xs ≡ map g xs
    map_same f g [] h = refl
    map_same f g (x ∷ xs) h = λ i. h x (Memᴰ.head refl) i ∷ map_same f g xs (λ a m. h a (Memᴰ.tail m)) i

-- two maps that make the same list take each element to the same
pub map_at : {A B : Type 0} (f g : A → B) (d : A) (xs : List A) {a : A} → map f xs ≡ map g xs → Memᴰ a xs → f a ≡ g a
map_at {A} {B} f g d xs e m =
    let w = mem-get_or d m in
    ap f (sym w.2) ∙ sym (get_or-map f xs w.0 d (f d) w.1) ∙ ap (λ (ys : List B). get_or ys w.0 (f d)) e ∙ get_or-map g xs w.0 d (f d) w.1 ∙ ap g w.2

-- ---- `upto`

pub length-upto : (n : ℕ) → length (upto n) ≡ n
unfolding upto
length-upto zero = refl
length-upto (suc n) = length-append (upto n) (n ∷ []) ∙ omega (arith, length-upto n)

pub upto-mem : (n i : ℕ) → i < n → Memᴰ i (upto n)
unfolding upto
upto-mem zero i h = absurd (not-suc-le-zero h)
upto-mem (suc n) i h = go (ltb-says i n) (upto-mem n i)
  where
    go : {b : Bool} → Says (i < n) b → (i < n → Memᴰ i (upto n)) → Memᴰ i (upto n ++ n ∷ [])
    go (pass l) r = Memᴰ.append_left (n ∷ []) (r l)
    go (fail f) r = Memᴰ.append_right (upto n) (Memᴰ.head (omega arith))

pub mem-upto : (n i : ℕ) → Memᴰ i (upto n) → i < n
unfolding upto
mem-upto zero i m = absurd (Memᴰ.not-nil m)
mem-upto (suc n) i m =
    ⊎_elim (λ k. let l : i < n = mem-upto n i k in omega arith) (λ k. let e : i ≡ n = Memᴰ.eq_of_singleton k in omega arith) (Memᴰ.append_cases (upto n) m)

pub get_or-upto : (n i d : ℕ) → i < n → get_or (upto n) i d ≡ i
unfolding upto
get_or-upto zero i d h = absurd (not-suc-le-zero h)
get_or-upto (suc n) i d h = go (ltb-says i n) (get_or-upto n i d)
  where
    go : {b : Bool} → Says (i < n) b → (i < n → get_or (upto n) i d ≡ i) → get_or (upto n ++ n ∷ []) i d ≡ i
    go (pass l) r = get_or-append (upto n) (n ∷ []) d i (rw length-upto l) ∙ r l
    go (fail f) r =
        let e : i ≡ n = omega arith in
        ap (λ (k : ℕ). get_or (upto n ++ n ∷ []) k d) (e ∙ sym (length-upto n)) ∙ get_or-append_seam (upto n) n [] d ∙ sym e

pub upto_add : (n m : ℕ) → upto (n + m) ≡ upto n ++ map (λ i. n + i) (upto m)
unfolding upto
upto_add n zero = rw add-zero (sym (append-nil (upto n)))
upto_add n (suc m) =
    rw (add-suc n m, upto_add n m, map-append (λ i. n + i) (upto m) (m ∷ []), append_assoc (upto n) (map (λ i. n + i) (upto m)) ((n + m) ∷ [])) refl

-- a table of a rule: its entries
pub get_or-table : {B : Type 0} (f : ℕ → B) (n i : ℕ) (d : B) → i < n → get_or (map f (upto n)) i d ≡ f i
get_or-table f n i d h = get_or-map f (upto n) i zero d (rw length-upto h) ∙ ap f (get_or-upto n i zero h)

-- the same value at every place
pub map-const : {A : Type 0} (a : A) (n : ℕ) → map (λ i. a) (upto n) ≡ replicate n a
unfolding upto
map-const a zero = refl
map-const a (suc n) = map-append (λ i. a) (upto n) (n ∷ []) ∙ ap (λ r. r ++ a ∷ []) (map-const a n) ∙ snoc n
  where
    snoc : (n : ℕ) → replicate n a ++ a ∷ [] ≡ a ∷ replicate n a
    snoc zero = refl
    snoc (suc n) = ap (λ r. a ∷ r) (snoc n)

pub map-replicate : {A B : Type 0} (g : A → B) (n : ℕ) (a : A) → map g (replicate n a) ≡ replicate n (g a)
map-replicate g zero a = refl
map-replicate g (suc n) a = ap (λ r. g a ∷ r) (map-replicate g n a)

-- a list by its places
pub map-upto : {A B : Type 0} (f : A → B) (xs : List A) (d : A) (e : B) → map f xs ≡ map (λ i. f (get_or xs i d)) (upto (length xs))
map-upto f xs d e =
    ext_get_or e (map f xs) (map (λ i. f (get_or xs i d)) (upto (length xs)))
    (length-map xs f ∙ sym (length-map (upto (length xs)) (λ i. f (get_or xs i d)) ∙ length-upto (length xs)))
    (λ i h.
    let l : i < length xs = rw (length-map xs f) at h in
    get_or-map f xs i d e l ∙ sym (get_or-table (λ i. f (get_or xs i d)) (length xs) i e l))

-- ---- loops in loops

-- elements from which nothing is gathered may be left out
pub gather-rest : {A B : Type 0} (f : A → List B) (q : A → Bool) → ((x : A) → q x ≡ true → f x ≡ []) → (xs : List A) → gather f xs ≡ gather f (keep (λ x. not (q x)) xs)
unfolding gather keep
gather-rest f q none [] = refl
gather-rest {A} {B} f q none (x ∷ xs) = go (q x) (none x) (gather-rest f q none xs)
  where
    go : (b : Bool) → (b ≡ true → f x ≡ []) → gather f xs ≡ gather f (keep (λ x. not (q x)) xs)
        → f x ++ gather f xs ≡ gather f (cond (not b) (x ∷ keep (λ x. not (q x)) xs) (keep (λ x. not (q x)) xs))
    go true n r = ap (λ (l : List B). l ++ gather f xs) (n refl) ∙ r
    go false n r = ap (λ (l : List B). f x ++ l) r

-- f of each element, by its place
pub gather-places : {A B : Type 0} (f : A → List B) (xs : List A) (d : A) → gather f xs ≡ gather (λ i. f (get_or xs i d)) (upto (length xs))
gather-places f xs d = ap (gather f) (sym (map-id xs) ∙ map-upto (λ x. x) xs d d) ∙ gather-map f (λ i. get_or xs i d) (upto (length xs))

-- two loops, one in the other, are one loop
pub gather_loops : {A : Type 0} (g : ℕ → ℕ → List A) (n m : ℕ) → 0 < n → gather (λ j. gather (λ i. g i j) (upto n)) (upto m) ≡ gather (λ k. g (k % n) (k / n)) (upto (n * m))
unfolding upto gather
gather_loops g n zero h = rw mul-zero refl
gather_loops {A} g n (suc m) h =
    let turn : (i : ℕ) → Memᴰ i (upto n) → g i m ≡ g ((n * m + i) % n) ((n * m + i) / n) =
    λ i k.
    let l : i < n = mem-upto n i k in
    let r : (n * m + i) % n ≡ i = mul-add-mod_self_left n m i ∙ mod-eq_of_lt l in
    let q : (n * m + i) / n ≡ m = mul-add-div h m i ∙ ap (λ (z : ℕ). m + z) (div-eq_of_lt l) ∙ add-zero m in
    rw (r, q) refl in
    gather-snoc (λ j. gather (λ i. g i j) (upto n)) (upto m) m
    ∙ ap (λ (xs : List A). xs ++ gather (λ i. g i m) (upto n)) (gather_loops g n m h)
    ∙ ap (λ (xs : List A). gather (λ k. g (k % n) (k / n)) (upto (n * m)) ++ xs) (gather-same (λ i. g i m) (λ i. g ((n * m + i) % n) ((n * m + i) / n)) (upto n) turn ∙ sym (gather-map (λ k. g (k % n) (k / n)) (λ i. n * m + i) (upto n)))
    ∙ sym (gather_append (λ k. g (k % n) (k / n)) (upto (n * m)) (map (λ i. n * m + i) (upto n)))
    ∙ ap (gather (λ k. g (k % n) (k / n))) (sym (upto_add (n * m) n) ∙ ap upto (sym (mul-suc n m)))

-- the same, with one element a turn
pub map_loops : {A : Type 0} (f : ℕ → ℕ → A) (n m : ℕ) → 0 < n → gather (λ j. map (λ i. f i j) (upto n)) (upto m) ≡ map (λ k. f (k % n) (k / n)) (upto (n * m))
map_loops f n m h =
    gather-same (λ j. map (λ i. f i j) (upto n)) (λ j. gather (λ i. f i j ∷ []) (upto n)) (upto m) (λ j k. sym (gather-one (λ i. f i j) (upto n)))
    ∙ gather_loops (λ i j. f i j ∷ []) n m h ∙ gather-one (λ k. f (k % n) (k / n)) (upto (n * m))

-- ---- `among` and `within`

pub among-says : (v : ℕ) (p : List ℕ) → Says (Memᴰ v p) (among v p)
unfolding among
among-says v [] = fail Memᴰ.not-nil
among-says v (x ∷ xs) = or-says Memᴰ.head Memᴰ.tail Memᴰ.cases_cons (eqb-says v x) (among-says v xs)

pub not-among : (v : ℕ) (xs : List ℕ) → Says (Memᴰ v xs → ⊥) (not (among v xs))
not-among v xs = go (among-says v xs)
  where
    go : {b : Bool} → Says (Memᴰ v xs) b → Says (Memᴰ v xs → ⊥) (not b)
    go (pass m) = fail (λ f. f m)
    go (fail f) = pass f

pub within-says : (s p : List ℕ) → Says (Within s p) (within s p)
unfolding within
within-says [] p = pass (λ v m. absurd (Memᴰ.not-nil m))
within-says (x ∷ s) p =
    and-says
    (λ h t v m. ⊎_elim (λ e. Memᴰ.cast e h) (t v) (Memᴰ.cases_cons m))
    (λ w. w x (Memᴰ.head refl))
    (λ w v m. w v (Memᴰ.tail m))
    (among-says x p)
    (within-says s p)

-- ---- `reverse`

pub mem-reverse : {A : Type 0} (xs : List A) {a : A} → Memᴰ a (reverse xs) → Memᴰ a xs
mem-reverse {A} xs {a} m = ⊎_elim (λ k. k) (λ k. absurd (Memᴰ.not-nil k)) (go xs [] m)
  where
    go : (xs ys : List A) → Memᴰ a (reverse_aux xs ys) → Memᴰ a xs ⊎ Memᴰ a ys
    go [] ys m = inr m
    go (x ∷ xs) ys m = ⊎_elim (λ k. inl (Memᴰ.tail k)) (λ k. ⊎_elim (λ e. inl (Memᴰ.head e)) inr (Memᴰ.cases_cons k)) (go xs (x ∷ ys) m)

pub reverse-mem : {A : Type 0} (xs : List A) {a : A} → Memᴰ a xs → Memᴰ a (reverse xs)
reverse-mem {A} xs {a} m = go xs [] (inl m)
  where
    go : (xs ys : List A) → Memᴰ a xs ⊎ Memᴰ a ys → Memᴰ a (reverse_aux xs ys)
    go [] ys (inl k) = absurd (Memᴰ.not-nil k)
    go [] ys (inr k) = k
    go (x ∷ xs) ys (inl k) = go xs (x ∷ ys) (⊎_elim (λ e. inr (Memᴰ.head e)) inl (Memᴰ.cases_cons k))
    go (x ∷ xs) ys (inr k) = go xs (x ∷ ys) (inr (Memᴰ.tail k))

-- ---- rising lists

pub keep-only : {A : Type 0} (q : A → Bool) (xs : List A) {a : A} → Memᴰ a (keep q xs) → Memᴰ a xs
unfolding keep
keep-only q [] m = m
keep-only {A} q (x ∷ xs) {a} m = go (q x) (keep-only q xs) m
  where
    go : (b : Bool) → (Memᴰ a (keep q xs) → Memᴰ a xs) → Memᴰ a (cond b (x ∷ keep q xs) (keep q xs)) → Memᴰ a (x ∷ xs)
    go true r n = ⊎_elim Memᴰ.head (λ k. Memᴰ.tail (r k)) (Memᴰ.cases_cons n)
    go false r n = Memᴰ.tail (r n)

-- one element more, kept or not
pub keep_snoc : {A : Type 0} (q : A → Bool) (xs : List A) (y : A) → keep q (xs ++ y ∷ []) ≡ keep q xs ++ cond (q y) (y ∷ []) []
unfolding keep
keep_snoc q [] y = go (q y)
  where
    go : (b : Bool) → cond b (y ∷ []) [] ≡ [] ++ cond b (y ∷ []) []
    go b = refl
keep_snoc {A} q (x ∷ xs) y = go (q x) (keep_snoc q xs y)
  where
    go : (b : Bool) → keep q (xs ++ y ∷ []) ≡ keep q xs ++ cond (q y) (y ∷ []) [] → cond b (x ∷ keep q (xs ++ y ∷ [])) (keep q (xs ++ y ∷ [])) ≡ cond b (x ∷ keep q xs) (keep q xs) ++ cond (q y) (y ∷ []) []
    go true r = ap (λ (l : List A). x ∷ l) r
    go false r = r

pub keep-rising : (q : ℕ → Bool) (xs : List ℕ) → Rising xs → Rising (keep q xs)
unfolding keep
keep-rising q [] r = tt
keep-rising q (x ∷ xs) r = go (q x) (keep-rising q xs r.1)
  where
    go : (b : Bool) → Rising (keep q xs) → Rising (cond b (x ∷ keep q xs) (keep q xs))
    go true h = ((λ v m. r.0 v (keep-only q xs m)), h)
    go false h = h

pub upto-rising : (n : ℕ) → Rising (upto n)
unfolding upto
upto-rising zero = tt
upto-rising (suc n) = snoc (upto n) (upto-rising n) (λ v m. mem-upto n v m)
  where
    snoc : (xs : List ℕ) → Rising xs → ((v : ℕ) → Memᴰ v xs → v < n) → Rising (xs ++ n ∷ [])
    snoc [] r h = ((λ v m. absurd (Memᴰ.not-nil m)), tt)
    snoc (x ∷ xs) r h = (
      (λ v m. ⊎_elim (r.0 v) (λ k. let e : v ≡ n = Memᴰ.eq_of_singleton k in omega (arith, h x (Memᴰ.head refl))) (Memᴰ.append_cases xs m)),
      snoc xs r.1 (λ v m. h v (Memᴰ.tail m)),
    )

-- a rising list has each element at one place
pub rising-place : (p : List ℕ) (i j : ℕ) → Rising p → i < length p → j < length p → get_or p i 0 ≡ get_or p j 0 → i ≡ j
rising-place [] i j r hi hj e = absurd (not-suc-le-zero hi)
rising-place (x ∷ xs) zero zero r hi hj e = refl
rising-place (x ∷ xs) zero (suc j) r hi hj e = absurd (omega (arith, r.0 (get_or xs j 0) (get_or-mem xs j 0 (le_of_suc-le-suc hj))))
rising-place (x ∷ xs) (suc i) zero r hi hj e = absurd (omega (arith, r.0 (get_or xs i 0) (get_or-mem xs i 0 (le_of_suc-le-suc hi))))
rising-place (x ∷ xs) (suc i) (suc j) r hi hj e = ap suc (rising-place xs i j r.1 (le_of_suc-le-suc hi) (le_of_suc-le-suc hj) e)

-- a rising list within another that has the same first element: the rest is within the rest
pub within-rest : (x : ℕ) (xs : List ℕ) (y : ℕ) (ys : List ℕ) → Rising (x ∷ xs) → x ≡ y → Within (x ∷ xs) (y ∷ ys) → Within xs ys
within-rest x xs y ys r e w v m = ⊎_elim (λ q. absurd (omega (arith, r.0 v m))) (λ n. n) (Memᴰ.cases_cons (w v (Memᴰ.tail m)))

-- one whose first element stands later is within the rest
pub within-later : (x : ℕ) (xs : List ℕ) (y : ℕ) (ys : List ℕ) → Rising (x ∷ xs) → Rising (y ∷ ys) → Memᴰ x ys → Within (x ∷ xs) (y ∷ ys) → Within (x ∷ xs) ys
within-later x xs y ys r q n w v m =
    ⊎_elim
    (λ e. absurd (⊎_elim (λ u. omega (arith, q.0 x n)) (λ u. omega (arith, q.0 x n, r.0 v u)) (Memᴰ.cases_cons m)))
    (λ k. k)
    (Memᴰ.cases_cons (w v m))

-- no longer than another list, and the same where it is as long
abbrev pub Sub : List ℕ → List ℕ → Type 0
Sub xs ys = (length xs ≤ length ys) × (length ys ≤ length xs → xs ≡ ys)

pub rising-sub : (xs ys : List ℕ) → Rising xs → Rising ys → Within xs ys → Sub xs ys
rising-sub [] [] r q w = (omega arith, λ h. refl)
rising-sub [] (y ∷ ys) r q w = (omega arith, λ h. absurd (omega arith))
rising-sub (x ∷ xs) [] r q w = absurd (Memᴰ.not-nil (w x (Memᴰ.head refl)))
rising-sub (x ∷ xs) (y ∷ ys) r q w =
    ⊎_elim
    (λ e.
    let s : Sub xs ys = rising-sub xs ys r.1 q.1 (within-rest x xs y ys r e w) in
    (omega (arith, s.0), λ h i. e i ∷ s.1 (omega arith) i))
    (λ n.
    let s : Sub (x ∷ xs) ys = rising-sub (x ∷ xs) ys r q.1 (within-later x xs y ys r q n w) in
    (omega (arith, s.0), λ h. absurd (omega (arith, s.0))))
    (Memᴰ.cases_cons (w x (Memᴰ.head refl)))
