-- What loops that write places leave: the value at each of those places, and what was there at the others. Assumes nothing.
use Prim.Native.Nat.{ℕ, zero, suc, ◌+◌, ◌<◌, ◌≤◌}
use mathlib.Core.Bool.{Bool}
use mathlib.Core.Logic.{◌⊎◌, inl, inr, ⊎_elim}
use mathlib.Core.List.Memᴰ
use mathlib.Core.List.{List, [], ◌∷◌, ◌++◌, map, Memᴰ}
use mathlib.Core.Path.{◌≡◌, refl, ap, ◌∙◌}
use native.Mathlib.Numerals.{add-one}
use native.Mathlib.Omega.{arith}
use lib.ListN.{length, get_or, set, take, drop, length-set}
use lib.Seq.{get_or-set_same, get_or-set_other, lt-length-set, take-suc}
use Rattle.lists.specs.Lists.{upto}
use Rattle.lists.specs.Rows.{over}
use Rattle.lists.specs.Writes.{writes}
use Rattle.lists.proofs.Tests.{Says, pass, fail, eqb-says}
use Rattle.lists.proofs.Rows.{map-turn, map-done}

module _ {A : Type 0} (f : ℕ → A) where
  -- writing keeps the length
  pub length-writes : (ts : List ℕ) (xs : List A) → length (writes f ts xs) ≡ length xs
  unfolding writes
  length-writes [] xs = refl
  length-writes (t ∷ ts) xs = length-writes ts (set xs t (f t)) ∙ length-set xs t (f t)

  -- other places hold what they held
  pub writes-other : (d : A) (ts : List ℕ) (xs : List A) (j : ℕ) → (Memᴰ j ts → ⊥) → get_or (writes f ts xs) j d ≡ get_or xs j d
  unfolding writes
  writes-other d [] xs j n = refl
  writes-other d (t ∷ ts) xs j n = writes-other d ts (set xs t (f t)) j (λ m. n (Memᴰ.tail m)) ∙ get_or-set_other xs t j (f t) d (λ e. n (Memᴰ.head e))

  writes-either : (d : A) (ts : List ℕ) (xs : List A) (j : ℕ) → j < length xs → (get_or xs j d ≡ f j) ⊎ Memᴰ j ts → get_or (writes f ts xs) j d ≡ f j
  unfolding writes
  writes-either d [] xs j h (inl e) = e
  writes-either d [] xs j h (inr m) = absurd (Memᴰ.not-nil m)
  writes-either d (t ∷ ts) xs j h c = writes-either d ts (set xs t (f t)) j (lt-length-set xs t (f t) h) (go (eqb-says j t) c)
    where
      go : {b : Bool} → Says (j ≡ t) b → (get_or xs j d ≡ f j) ⊎ Memᴰ j (t ∷ ts) → (get_or (set xs t (f t)) j d ≡ f j) ⊎ Memᴰ j ts
      go (pass e) c = inl (rw (← e) (get_or-set_same xs j (f j) d h))
      go (fail n) (inl e) = inl (get_or-set_other xs t j (f t) d n ∙ e)
      go (fail n) (inr m) = ⊎_elim (λ e. absurd (n e)) inr (Memᴰ.cases_cons m)

  -- a place that is written holds its value
  pub writes_at : (d : A) (ts : List ℕ) (xs : List A) (j : ℕ) → j < length xs → Memᴰ j ts → get_or (writes f ts xs) j d ≡ f j
  writes_at d ts xs j h m = writes-either d ts xs j h (inr m)

  -- places after others
  pub writes-append : (ts us : List ℕ) (xs : List A) → writes f (ts ++ us) xs ≡ writes f us (writes f ts xs)
  unfolding writes
  writes-append [] us xs = refl
  writes-append (t ∷ ts) us xs = writes-append ts us (set xs t (f t))

  -- one place more
  pub writes-next : (ts : List ℕ) (xs : List A) (k : ℕ) → k < length ts → writes f (take (k + 1) ts) xs ≡ set (writes f (take k ts) xs) (get_or ts k 0) (f (get_or ts k 0))
  unfolding writes
  writes-next ts xs k h = ap (λ (l : List ℕ). writes f l xs) (ap (λ (n : ℕ). take n ts) (add-one k) ∙ take-suc ts k 0 h) ∙ writes-append (take k ts) (get_or ts k 0 ∷ []) xs

-- a rule written at the first n places, and the others as they were
writes-front : {A : Type 0} (f : ℕ → A) (n : ℕ) (xs : List A) → n ≤ length xs → writes f (upto n) xs ≡ map f (upto n) ++ drop n xs
unfolding upto writes
writes-front f zero xs h = refl
writes-front f (suc n) xs h = writes-append f (upto n) (n ∷ []) xs ∙ map-turn f xs (writes f (upto n) xs) n h (length-writes f (upto n) xs) (writes-front f n xs (omega arith))

-- they stand over the beginning
pub writes-upto : {A : Type 0} (f : ℕ → A) (n : ℕ) (xs : List A) → n ≤ length xs → writes f (upto n) xs ≡ over (map f (upto n)) xs
writes-upto f n xs h = map-done f xs (writes f (upto n) xs) n (writes-front f n xs h)
