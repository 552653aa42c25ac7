-- What loops of events leave: each place holds the fold of its own values. Assumes nothing.
use Prim.Native.Nat.{ℕ, zero, suc, ◌+◌, ◌<◌}
use mathlib.Core.Path.{◌≡◌, refl, sym, ap, ◌∙◌}
use mathlib.Core.Bool.{Bool, true, false, cond}
use mathlib.Core.Logic.{⊎_elim}
use mathlib.Core.List.Memᴰ
use mathlib.Core.List.{List, [], ◌∷◌, ◌++◌, map, map-append, foldl, Memᴰ}
use native.Mathlib.Nat.{le_of_suc-le-suc, not-suc-le-zero}
use native.Mathlib.Numerals.{add-one}
use lib.Dec.{eqb}
use lib.ListN.{length, get_or, set, length-set, get_or-append}
use lib.Seq.{get_or-set_same, get_or-set_other, lt-length-set}
use Rattle.lists.specs.Lists.{keep, gather, upto, Once}
use Rattle.lists.specs.Loops.{scatter, hits}
use Rattle.lists.proofs.Tests.{Says, pass, fail, eqb-says}
use Rattle.lists.proofs.Elements.{gather-snoc, get_or-map}

set-append : {A : Type 0} (xs ys : List A) (i : ℕ) (a : A) → i < length xs → set (xs ++ ys) i a ≡ set xs i a ++ ys
set-append [] ys i a h = absurd (not-suc-le-zero h)
set-append (x ∷ xs) ys zero a h = refl
set-append (x ∷ xs) ys (suc i) a h = ap (λ r. x ∷ r) (set-append xs ys i a (le_of_suc-le-suc h))

map-set : {A B : Type 0} (g : A → B) (xs : List A) (i : ℕ) (a : A) → map g (set xs i a) ≡ set (map g xs) i (g a)
map-set g [] i a = refl
map-set g (x ∷ xs) zero a = refl
map-set g (x ∷ xs) (suc i) a = ap (λ r. g x ∷ r) (map-set g xs i a)

-- what a scatter leaves at a place: the fold of that place's own values
module _ {S X : Type 0} (d : S) (f : S → X → S) where
  pub length-scatter : (es : List (ℕ × X)) (xs : List S) → length (scatter d f es xs) ≡ length xs
  unfolding scatter
  length-scatter [] xs = refl
  length-scatter (a ∷ es) xs = length-scatter es (set xs a.0 (f (get_or xs a.0 d) a.1)) ∙ length-set xs a.0 (f (get_or xs a.0 d) a.1)

  pub scatter-at : (es : List (ℕ × X)) (xs : List S) (j : ℕ) → j < length xs → get_or (scatter d f es xs) j d ≡ foldl f (get_or xs j d) (hits j es)
  unfolding scatter hits
  scatter-at [] xs j h = refl
  scatter-at (a ∷ es) xs j h =
      scatter-at es (set xs a.0 (f (get_or xs a.0 d) a.1)) j (lt-length-set xs a.0 (f (get_or xs a.0 d) a.1) h) ∙ go (eqb-says a.0 j)
    where
      go : {b : Bool} → Says (a.0 ≡ j) b → foldl f (get_or (set xs a.0 (f (get_or xs a.0 d) a.1)) j d) (hits j es) ≡ foldl f (get_or xs j d) (cond b (a.1 ∷ hits j es) (hits j es))
      go (pass e) = rw e (ap (λ (s : S). foldl f s (hits j es)) (get_or-set_same xs j (f (get_or xs j d) a.1) d h))
      go (fail n) = ap (λ (s : S). foldl f s (hits j es)) (get_or-set_other xs a.0 j (f (get_or xs a.0 d) a.1) d (λ e. n (sym e)))

  pub scatter-append : (es fs : List (ℕ × X)) (xs : List S) → scatter d f (es ++ fs) xs ≡ scatter d f fs (scatter d f es xs)
  unfolding scatter
  scatter-append [] fs xs = refl
  scatter-append (a ∷ es) fs xs = scatter-append es fs (set xs a.0 (f (get_or xs a.0 d) a.1))

  -- one event more of a table of events
  pub scatter-next : (event : ℕ → ℕ × X) (xs : List S) (k : ℕ)
      → scatter d f (map event (upto (suc k))) xs
      ≡ (let s = scatter d f (map event (upto k)) xs in set s (event k).0 (f (get_or s (event k).0 d) (event k).1))
  unfolding scatter upto
  scatter-next event xs k =
      ap (λ es. scatter d f es xs) (map-append event (upto k) (k ∷ [])) ∙ scatter-append (map event (upto k)) (event k ∷ []) xs

  -- events at a list's own places leave what follows it
  pub scatter-front : (es : List (ℕ × X)) (xs ys : List S) → ((a : ℕ × X) → Memᴰ a es → a.0 < length xs) → scatter d f es (xs ++ ys) ≡ scatter d f es xs ++ ys
  unfolding scatter
  scatter-front [] xs ys h = refl
  scatter-front (a ∷ es) xs ys h =
      let k : a.0 < length xs = h a (Memᴰ.head refl) in
      ap (λ s. scatter d f es (set (xs ++ ys) a.0 (f s a.1))) (get_or-append xs ys d a.0 k)
      ∙ ap (scatter d f es) (set-append xs ys a.0 (f (get_or xs a.0 d) a.1) k)
      ∙ scatter-front es (set xs a.0 (f (get_or xs a.0 d) a.1)) ys (λ b m. rw (length-set xs a.0 (f (get_or xs a.0 d) a.1)) (h b (Memᴰ.tail m)))

  -- values that g reads, brought up to date by what g makes of f
  pub scatter-map : {R : Type 0} (g : S → R) (e : R) (k : R → X → R) → ((s : S) (x : X) → g (f s x) ≡ k (g s) x) → (es : List (ℕ × X)) (xs : List S)
      → ((a : ℕ × X) → Memᴰ a es → a.0 < length xs) → scatter e k es (map g xs) ≡ map g (scatter d f es xs)
  unfolding scatter
  scatter-map g e k hom [] xs h = refl
  scatter-map g e k hom (a ∷ es) xs h =
      ap (λ s. scatter e k es (set (map g xs) a.0 s)) (ap (λ s. k s a.1) (get_or-map g xs a.0 d e (h a (Memᴰ.head refl))) ∙ sym (hom (get_or xs a.0 d) a.1))
      ∙ ap (scatter e k es) (sym (map-set g xs a.0 (f (get_or xs a.0 d) a.1)))
      ∙ scatter-map g e k hom es (set xs a.0 (f (get_or xs a.0 d) a.1)) (λ b m. rw (length-set xs a.0 (f (get_or xs a.0 d) a.1)) (h b (Memᴰ.tail m)))

-- the events of one number more
pub scatter-turn : {S X : Type 0} (d : S) (f : S → X → S) (event : ℕ → List (ℕ × X)) (k : ℕ) (es : List (ℕ × X)) (old now new : List S) → es ≡ event k
    → now ≡ scatter d f (gather event (upto k)) old → new ≡ scatter d f es now → new ≡ scatter d f (gather event (upto (k + 1))) old
unfolding upto
scatter-turn {S} {X} d f event k es old now new e was is =
    is
    ∙ rw (e, was) (sym (scatter-append d f (gather event (upto k)) (event k) old))
    ∙ ap (λ (l : List (ℕ × X)). scatter d f l old) (sym (gather-snoc event (upto k) k))
    ∙ ap (λ (n : ℕ). scatter d f (gather event (upto n)) old) (sym (add-one k))

-- ---- the events at a place

module _ {X : Type 0} where
  pub hits-append : (j : ℕ) (a b : List (ℕ × X)) → hits j (a ++ b) ≡ hits j a ++ hits j b
  unfolding hits
  hits-append j [] b = refl
  hits-append j (x ∷ a) b = go (eqb x.0 j) (hits-append j a b)
    where
      go : (c : Bool) → hits j (a ++ b) ≡ hits j a ++ hits j b → cond c (x.1 ∷ hits j (a ++ b)) (hits j (a ++ b)) ≡ cond c (x.1 ∷ hits j a) (hits j a) ++ hits j b
      go true r = ap (λ (l : List X). x.1 ∷ l) r
      go false r = r

  pub hits-none : (j : ℕ) (es : List (ℕ × X)) → ((a : ℕ × X) → Memᴰ a es → a.0 ≡ j → ⊥) → hits j es ≡ []
  unfolding hits
  hits-none j [] n = refl
  hits-none j (a ∷ es) n = go (eqb-says a.0 j) (hits-none j es (λ x m. n x (Memᴰ.tail m)))
    where
      go : {b : Bool} → Says (a.0 ≡ j) b → hits j es ≡ [] → cond b (a.1 ∷ hits j es) (hits j es) ≡ []
      go (pass e) r = absurd (n a (Memᴰ.head refl) e)
      go (fail f) r = r

  module _ {A : Type 0} where
    -- one event for each x that passes, and none for the others
    pub hits-keep : (j : ℕ) (f : A → List (ℕ × X)) (h : A → X) (q : A → Bool) (xs : List A) → ((x : A) → Memᴰ x xs → hits j (f x) ≡ cond (q x) (h x ∷ []) []) → hits j (gather f xs) ≡ map h (keep q xs)
    unfolding hits gather keep
    hits-keep j f h q [] g = refl
    hits-keep j f h q (x ∷ xs) g =
        hits-append j (f x) (gather f xs) ∙ ap (λ (l : List X). l ++ hits j (gather f xs)) (g x (Memᴰ.head refl)) ∙ go (q x) (hits-keep j f h q xs (λ y m. g y (Memᴰ.tail m)))
      where
        go : (c : Bool) → hits j (gather f xs) ≡ map h (keep q xs) → cond c (h x ∷ []) [] ++ hits j (gather f xs) ≡ map h (cond c (x ∷ keep q xs) (keep q xs))
        go true r = ap (λ (l : List X). h x ∷ l) r
        go false r = r

    pub hits-one : (j : ℕ) (g : A → ℕ) (h : A → X) (xs : List A) (y : A) → Once xs → Memᴰ y xs → g y ≡ j → ((x : A) → Memᴰ x xs → g x ≡ j → x ≡ y) → hits j (map (λ x. (g x, h x)) xs) ≡ h y ∷ []
    unfolding hits
    hits-one j g h [] y o m e u = absurd (Memᴰ.not-nil m)
    hits-one j g h (x ∷ xs) y o m e u = go (eqb-says (g x) j) (λ k. hits-one j g h xs y o.1 k e (λ z n. u z (Memᴰ.tail n)))
      where
        go : {b : Bool} → Says (g x ≡ j) b → (Memᴰ y xs → hits j (map (λ x. (g x, h x)) xs) ≡ h y ∷ []) → cond b (h x ∷ hits j (map (λ x. (g x, h x)) xs)) (hits j (map (λ x. (g x, h x)) xs)) ≡ h y ∷ []
        go (pass p) r =
            let q : x ≡ y = u x (Memᴰ.head refl) p in
            ap (λ (l : List X). h x ∷ l)
            (hits-none j (map (λ x. (g x, h x)) xs)
            (λ a n k.
            let w : (z : A) × Memᴰ z xs × ((g z, h z) ≡ a) = Memᴰ.of_map (λ x. (g x, h x)) xs n in
            o.0 (Memᴰ.cast (q ∙ sym (u w.0 (Memᴰ.tail w.1) (ap (λ (b : ℕ × X). b.0) w.2 ∙ k))) w.1)))
            ∙ ap (λ (z : A). h z ∷ []) q
        go (fail f) r = r (⊎_elim (λ q. absurd (f (ap g (sym q) ∙ e))) (λ k. k) (Memᴰ.cases_cons m))

-- an event's value is among those of its place
pub hits_has : {X : Type 0} (j : ℕ) (es : List (ℕ × X)) {x : X} → Memᴰ (j, x) es → Memᴰ x (hits j es)
unfolding hits
hits_has j [] m = absurd (Memᴰ.not-nil m)
hits_has {X} j (a ∷ es) {x} m = go (eqb-says a.0 j) (hits_has j es)
  where
    go : {b : Bool} → Says (a.0 ≡ j) b → (Memᴰ (j, x) es → Memᴰ x (hits j es)) → Memᴰ x (cond b (a.1 ∷ hits j es) (hits j es))
    go (pass p) r = ⊎_elim (λ e. Memᴰ.head (ap (λ (c : ℕ × X). c.1) e)) (λ k. Memᴰ.tail (r k)) (Memᴰ.cases_cons m)
    go (fail f) r = ⊎_elim (λ e. absurd (f (sym (ap (λ (c : ℕ × X). c.0) e)))) r (Memᴰ.cases_cons m)

-- ---- the events of several elements

module _ {A X : Type 0} where
  -- elements without events at a place may be left out
  pub hits-skip : (j : ℕ) (f : A → List (ℕ × X)) (q : A → Bool) (xs : List A) → ((x : A) → Memᴰ x xs → q x ≡ false → hits j (f x) ≡ []) → hits j (gather f (keep q xs)) ≡ hits j (gather f xs)
  unfolding hits gather keep
  hits-skip j f q [] none = refl
  hits-skip j f q (x ∷ xs) none = go (q x) (none x (Memᴰ.head refl)) (hits-skip j f q xs (λ y m. none y (Memᴰ.tail m))) ∙ sym (hits-append j (f x) (gather f xs))
    where
      go : (b : Bool) → (b ≡ false → hits j (f x) ≡ []) → hits j (gather f (keep q xs)) ≡ hits j (gather f xs) → hits j (gather f (cond b (x ∷ keep q xs) (keep q xs))) ≡ hits j (f x) ++ hits j (gather f xs)
      go true e r = hits-append j (f x) (gather f (keep q xs)) ∙ ap (λ (l : List X). hits j (f x) ++ l) r
      go false e r = r ∙ ap (λ (l : List X). l ++ hits j (gather f xs)) (sym (e refl))

  -- events that agree for each element, at one place and at another
  pub hits-same : (j k : ℕ) (f g : A → List (ℕ × X)) (xs : List A) → ((x : A) → Memᴰ x xs → hits j (f x) ≡ hits k (g x)) → hits j (gather f xs) ≡ hits k (gather g xs)
  unfolding hits gather
  hits-same j k f g [] same = refl
  hits-same j k f g (x ∷ xs) same =
      hits-append j (f x) (gather f xs)
      ∙ (λ i. same x (Memᴰ.head refl) i ++ hits-same j k f g xs (λ y m. same y (Memᴰ.tail m)) i)
      ∙ sym (hits-append k (g x) (gather g xs))
