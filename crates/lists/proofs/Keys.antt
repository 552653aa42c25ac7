-- Rows found by search and numbered by first meeting: each row that was met has one number, and keeps it. Assumes nothing.
use mathlib.Core.Path.{◌≡◌, refl, sym, ap, ◌∙◌}
use mathlib.Core.Logic.{◌⊎◌, inl, inr, ⊎_elim}
use mathlib.Core.Bool.{Bool, true, false, cond}
use mathlib.Core.List.Memᴰ
use mathlib.Core.List.{List, [], ◌∷◌, ◌++◌, map, foldl, Memᴰ, append_assoc, append-nil}
use Prim.Native.Nat.{ℕ, zero, suc, ◌+◌, ◌≤◌, ◌<◌, suc-le-suc}
use native.Mathlib.Nat.{le_of_suc-le-suc, not-suc-le-zero, zero-lt-suc}
use native.Mathlib.Omega.{arith}
use lib.ListN.{length, get_or, take, length-append, get_or-append}
use lib.Seq.{get_or-append_seam}
use Rattle.lists.specs.Keys.{eqs, find, meet, firsts, Distinct}
use Rattle.lists.specs.Rows.{begins}
use Rattle.lists.proofs.Tests.{Says, pass, fail, eqb-says, ltb-says, and-says, lt-or-ge, says_same}
use Rattle.lists.proofs.Elements.{get_or-mem, map_same}
use Rattle.lists.proofs.Rows.{begins-says}

-- ---- `find`

pub eqs-says : (x y : List ℕ) → Says (x ≡ y) (eqs x y)
unfolding eqs
eqs-says [] [] = pass refl
eqs-says [] (y ∷ ys) = fail (λ e. let z : ◌≡◌ {A = ℕ} 0 1 = cc in omega arith)
eqs-says (x ∷ xs) [] = fail (λ e. let z : ◌≡◌ {A = ℕ} 0 1 = cc in omega arith)
eqs-says (x ∷ xs) (y ∷ ys) = and-says (λ p q. cc) (λ e. cc) (λ e. cc) (eqb-says x y) (eqs-says xs ys)

-- a row at the front of a list begins it
pub eqs-begins : (new xs : List ℕ) → eqs new (take (length new) xs) ≡ begins new xs
eqs-begins new xs = says_same sym sym (eqs-says new (take (length new) xs)) (begins-says new xs)

pub find-le : (x : List ℕ) (ys : List (List ℕ)) → find x ys ≤ length ys
unfolding find
find-le x [] = omega arith
find-le x (y ∷ ys) = go (eqs x y) (find-le x ys)
  where
    go : (b : Bool) → find x ys ≤ length ys → cond b zero (suc (find x ys)) ≤ suc (length ys)
    go true h = omega arith
    go false h = omega (arith, h)

-- the row stands where it is found
pub find-get : (x : List ℕ) (ys : List (List ℕ)) → find x ys < length ys → get_or ys (find x ys) [] ≡ x
unfolding find
find-get x [] h = absurd (not-suc-le-zero h)
find-get x (y ∷ ys) h = go (eqs-says x y) (find-get x ys) h
  where
    go : {b : Bool} → Says (x ≡ y) b → (find x ys < length ys → get_or ys (find x ys) [] ≡ x) → cond b zero (suc (find x ys)) < suc (length ys) → get_or (y ∷ ys) (cond b zero (suc (find x ys))) [] ≡ x
    go (pass e) r h = sym e
    go (fail f) r h = r (le_of_suc-le-suc h)

pub find-mem : (x : List ℕ) (ys : List (List ℕ)) → Memᴰ x ys → find x ys < length ys
unfolding find
find-mem x [] m = absurd (Memᴰ.not-nil m)
find-mem x (y ∷ ys) m = go (eqs-says x y) (find-mem x ys) (Memᴰ.cases_cons m)
  where
    go : {b : Bool} → Says (x ≡ y) b → (Memᴰ x ys → find x ys < length ys) → (x ≡ y) ⊎ Memᴰ x ys → cond b zero (suc (find x ys)) < suc (length ys)
    go (pass e) r c = zero-lt-suc (length ys)
    go (fail f) r (inl e) = absurd (f e)
    go (fail f) r (inr k) = suc-le-suc (r k)

pub mem-find : (x : List ℕ) (ys : List (List ℕ)) → find x ys < length ys → Memᴰ x ys
mem-find x ys h = Memᴰ.cast (sym (find-get x ys h)) (get_or-mem ys (find x ys) [] h)

-- rows after it change nothing
pub find-left : (x : List ℕ) (ys zs : List (List ℕ)) → find x ys < length ys → find x (ys ++ zs) ≡ find x ys
unfolding find
find-left x [] zs h = absurd (not-suc-le-zero h)
find-left x (y ∷ ys) zs h = go (eqs-says x y) (find-left x ys zs) h
  where
    go : {b : Bool} → Says (x ≡ y) b → (find x ys < length ys → find x (ys ++ zs) ≡ find x ys) → cond b zero (suc (find x ys)) < suc (length ys) → cond b zero (suc (find x (ys ++ zs))) ≡ cond b zero (suc (find x ys))
    go (pass e) r h = refl
    go (fail f) r h = ap suc (r (le_of_suc-le-suc h))

-- a row that stands at no place
pub find_none : (x : List ℕ) (ys : List (List ℕ)) → ((j : ℕ) → j < length ys → get_or ys j [] ≡ x → ⊥) → find x ys ≡ length ys
unfolding find
find_none x [] n = refl
find_none x (y ∷ ys) n = go (eqs-says x y) (find_none x ys (λ j l q. n (suc j) (suc-le-suc l) q))
  where
    go : {b : Bool} → Says (x ≡ y) b → find x ys ≡ length ys → cond b zero (suc (find x ys)) ≡ suc (length ys)
    go (pass p) r = absurd (n zero (zero-lt-suc (length ys)) (sym p))
    go (fail f) r = ap suc r

pub find-new : (x : List ℕ) (ys : List (List ℕ)) → (find x ys < length ys → ⊥) → find x (ys ++ x ∷ []) ≡ length ys
unfolding find
find-new x [] h = go (eqs-says x x)
  where
    go : {b : Bool} → Says (x ≡ x) b → cond b zero 1 ≡ zero
    go (pass e) = refl
    go (fail f) = absurd (f refl)
find-new x (y ∷ ys) h = go (eqs-says x y) (find-new x ys) h
  where
    go : {b : Bool} → Says (x ≡ y) b → ((find x ys < length ys → ⊥) → find x (ys ++ x ∷ []) ≡ length ys) → (cond b zero (suc (find x ys)) < suc (length ys) → ⊥) → cond b zero (suc (find x (ys ++ x ∷ []))) ≡ suc (length ys)
    go (pass e) r h = absurd (h (zero-lt-suc (length ys)))
    go (fail f) r h = ap suc (r (λ k. h (suc-le-suc k)))

-- ---- `meet`

pub meet-old : (known : List (List ℕ)) (x : List ℕ) → find x known < length known → meet known x ≡ known
unfolding meet
meet-old known x h = go (ltb-says (find x known) (length known))
  where
    go : {b : Bool} → Says (find x known < length known) b → cond b known (known ++ x ∷ []) ≡ known
    go (pass p) = refl
    go (fail f) = absurd (f h)

pub meet-new : (known : List (List ℕ)) (x : List ℕ) → (find x known < length known → ⊥) → meet known x ≡ known ++ x ∷ []
unfolding meet
meet-new known x n = go (ltb-says (find x known) (length known))
  where
    go : {b : Bool} → Says (find x known < length known) b → cond b known (known ++ x ∷ []) ≡ known ++ x ∷ []
    go (pass p) = absurd (n p)
    go (fail f) = refl

-- the two cases of a meeting, for a property of the rows that are known
meet-cases : (known : List (List ℕ)) (x : List ℕ) (P : List (List ℕ) → Type 0) → (find x known < length known → P known) → ((find x known < length known → ⊥) → P (known ++ x ∷ [])) → P (meet known x)
unfolding meet
meet-cases known x P old new = go (ltb-says (find x known) (length known))
  where
    go : {b : Bool} → Says (find x known < length known) b → P (cond b known (known ++ x ∷ []))
    go (pass h) = old h
    go (fail f) = new f

pub meet-distinct : (known : List (List ℕ)) (x : List ℕ) → Distinct known → Distinct (meet known x)
meet-distinct known x d = meet-cases known x Distinct (λ h. d) (λ f i h. at i f h (lt-or-ge i (length known)))
  where
    at : (i : ℕ) → (find x known < length known → ⊥) → i < length (known ++ x ∷ []) → (i < length known) ⊎ (length known ≤ i) → find (get_or (known ++ x ∷ []) i []) (known ++ x ∷ []) ≡ i
    at i f h (inl l) = rw (get_or-append known (x ∷ []) [] i l, find-left (get_or known i []) known (x ∷ []) (rw (d i l) l)) (d i l)
    at i f h (inr l) =
        let e : i ≡ length known = omega (arith, length-append known (x ∷ [])) in
        rw (e, get_or-append_seam known x [] []) (find-new x known f)

meet_has : (known : List (List ℕ)) (x : List ℕ) → Memᴰ x (meet known x)
meet_has known x = meet-cases known x (λ ks. Memᴰ x ks) (mem-find x known) (λ f. Memᴰ.append_right known (Memᴰ.head refl))

meet-keeps : (known : List (List ℕ)) (x : List ℕ) {y : List ℕ} → Memᴰ y known → Memᴰ y (meet known x)
meet-keeps known x {y} m = meet-cases known x (λ ks. Memᴰ y ks) (λ h. m) (λ f. Memᴰ.append_left (x ∷ []) m)

meet-only : (known : List (List ℕ)) (x : List ℕ) {y : List ℕ} → Memᴰ y (meet known x) → (y ≡ x) ⊎ Memᴰ y known
meet-only known x {y} =
    meet-cases known x (λ ks. Memᴰ y ks → (y ≡ x) ⊎ Memᴰ y known) (λ h m. inr m)
    (λ f m. ⊎_elim inr (λ k. inl (Memᴰ.eq_of_singleton k)) (Memᴰ.append_cases known m))

-- a known row keeps its number
meet-find : (known : List (List ℕ)) (x : List ℕ) {y : List ℕ} → Memᴰ y known → find y (meet known x) ≡ find y known
meet-find known x {y} m = meet-cases known x (λ ks. find y ks ≡ find y known) (λ h. refl) (λ f. find-left y known (x ∷ []) (find-mem y known m))

-- ---- many meetings

pub fold-distinct : (xs known : List (List ℕ)) → Distinct known → Distinct (foldl meet known xs)
fold-distinct [] known d = d
fold-distinct (x ∷ xs) known d = fold-distinct xs (meet known x) (meet-distinct known x d)

pub fold-keeps : (xs known : List (List ℕ)) {y : List ℕ} → Memᴰ y known → Memᴰ y (foldl meet known xs)
fold-keeps [] known m = m
fold-keeps (x ∷ xs) known m = fold-keeps xs (meet known x) (meet-keeps known x m)

pub fold_has : (xs known : List (List ℕ)) {y : List ℕ} → Memᴰ y xs → Memᴰ y (foldl meet known xs)
fold_has [] known m = absurd (Memᴰ.not-nil m)
fold_has (x ∷ xs) known m =
    ⊎_elim (λ e. fold-keeps xs (meet known x) (Memᴰ.cast e (meet_has known x))) (fold_has xs (meet known x)) (Memᴰ.cases_cons m)

fold-only : (xs known : List (List ℕ)) {y : List ℕ} → Memᴰ y (foldl meet known xs) → Memᴰ y known ⊎ Memᴰ y xs
fold-only [] known m = inl m
fold-only (x ∷ xs) known m =
    ⊎_elim
    (λ k. ⊎_elim (λ e. inr (Memᴰ.head e)) inl (meet-only known x k))
    (λ k. inr (Memᴰ.tail k))
    (fold-only xs (meet known x) m)

-- the rows that are known stand before those that are met
pub fold-grows : (xs known : List (List ℕ)) → (zs : List (List ℕ)) × (foldl meet known xs ≡ known ++ zs)
fold-grows [] known = ([], sym (append-nil known))
fold-grows (x ∷ xs) known =
    let r : (zs : List (List ℕ)) × (foldl meet (meet known x) xs ≡ meet known x ++ zs) = fold-grows xs (meet known x) in
    let one : (ys : List (List ℕ)) × (meet known x ≡ known ++ ys) =
    meet-cases known x (λ ks. (ys : List (List ℕ)) × (ks ≡ known ++ ys)) (λ h. ([], sym (append-nil known))) (λ f. (x ∷ [], refl)) in
    (one.0 ++ r.0, r.1 ∙ ap (λ (l : List (List ℕ)). l ++ r.0) one.1 ∙ append_assoc known one.0 r.0)

-- known rows keep their numbers
pub fold-find : (xs known : List (List ℕ)) {y : List ℕ} → Memᴰ y known → find y (foldl meet known xs) ≡ find y known
fold-find [] known m = refl
fold-find (x ∷ xs) known m = fold-find xs (meet known x) (meet-keeps known x m) ∙ meet-find known x m

-- so do the numbers of rows that were met, while others are met
pub fold-numbers : (xs ys known : List (List ℕ)) → map (λ s. find s (foldl meet (foldl meet known xs) ys)) xs ≡ map (λ s. find s (foldl meet known xs)) xs
fold-numbers xs ys known =
    map_same (λ s. find s (foldl meet (foldl meet known xs) ys)) (λ s. find s (foldl meet known xs)) xs (λ s m. fold-find ys (foldl meet known xs) (fold_has xs known m))

-- ---- `firsts`

pub firsts-distinct : (xs : List (List ℕ)) → Distinct (firsts xs)
unfolding firsts
firsts-distinct xs = fold-distinct xs [] (λ i h. absurd (not-suc-le-zero h))

pub firsts_has : (xs : List (List ℕ)) {y : List ℕ} → Memᴰ y xs → Memᴰ y (firsts xs)
unfolding firsts
firsts_has xs m = fold_has xs [] m

pub firsts-only : (xs : List (List ℕ)) {y : List ℕ} → Memᴰ y (firsts xs) → Memᴰ y xs
unfolding firsts
firsts-only xs m = ⊎_elim (λ k. absurd (Memᴰ.not-nil k)) (λ k. k) (fold-only xs [] m)

-- there is room for as many rows as were met
pub firsts-room : (xs : List (List ℕ)) → length (firsts xs) ≤ length xs
unfolding firsts
firsts-room xs = omega (arith, go xs [])
  where
    more : (known : List (List ℕ)) (x : List ℕ) → length (meet known x) ≤ suc (length known)
    more known x = meet-cases known x (λ ks. length ks ≤ suc (length known)) (λ h. omega arith) (λ f. omega (arith, length-append known (x ∷ [])))

    go : (xs known : List (List ℕ)) → length (foldl meet known xs) ≤ length known + length xs
    go [] known = omega arith
    go (x ∷ xs) known = omega (arith, go xs (meet known x), more known x)
