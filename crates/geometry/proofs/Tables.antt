-- The elements of `table`, a list that is filled with them from its start, and an array that a closure's calls made. Assumes nothing.
use Prim.Native.Nat.{ℕ, zero, suc, ◌+◌, ◌<◌, ◌≤◌}
use mathlib.Core.Path.{◌≡◌, refl, ap, ap₂, subst, ◌∙◌}
use mathlib.Core.List.{List, [], ◌∷◌, map}
use mathlib.Core.Logic.{inl, inr}
use native.Mathlib.Nat.{eq-or-lt_of_le}
use native.Mathlib.Omega.{arith}
use lib.ListN.{length, get_or, set, take}
use denote.Param.Members.{Mut}
use Rattle.std.specs.Fn.{Called}
use Rattle.std.specs.Array.{IsFromFnResult, IsFromFnResultFrom}
use Rattle.geometry.specs.Determinant.{table}

pub get_or-table : {A : Type 0} (n : ℕ) (f : ℕ → A) (d : A) (k : ℕ) → k < n → get_or (table n f) k d ≡ f k
unfolding table
get_or-table zero f d k h = absurd (omega arith)
get_or-table (suc n) f d zero h = refl
get_or-table (suc n) f d (suc k) h = get_or-table n (λ i. f (suc i)) d k (omega arith)

-- a list that starts with n of them, with the next one stored
pub table-next : {A : Type 0} (n : ℕ) (f : ℕ → A) (xs : List A) → n < length xs → take n xs ≡ table n f → take (suc n) (set xs n (f n)) ≡ table (suc n) f
unfolding table
table-next n f [] h e = absurd (omega arith)
table-next zero f (x ∷ xs) h e = refl
table-next (suc n) f (x ∷ xs) h e =
    let first : x ≡ f 0 = cc in
    let rest : take n xs ≡ table n (λ i. f (suc i)) = cc in
    ap₂ ◌∷◌ first (table-next n (λ i. f (suc i)) xs (omega arith) rest)

pub table-map : {A B : Type 0} (f : A → B) (d : A) (n : ℕ) (xs : List A) → length xs ≡ n → table n (λ k. f (get_or xs k d)) ≡ map f xs
unfolding table
table-map f d zero [] h = refl
table-map f d zero (x ∷ xs) h = absurd (omega arith)
table-map f d (suc n) [] h = absurd (omega arith)
table-map f d (suc n) (x ∷ xs) h = ap (λ l. f x ∷ l) (table-map f d n xs (omega arith))

-- n elements, each the table's, are the table
pub table-by : {A : Type 0} (n : ℕ) (f : ℕ → A) (d : A) (xs : List A) → length xs ≡ n → ((k : ℕ) → k < n → get_or xs k d ≡ f k) → xs ≡ table n f
unfolding table
table-by zero f d [] h e = refl
table-by zero f d (x ∷ xs) h e = absurd (omega arith)
table-by (suc n) f d [] h e = absurd (omega arith)
table-by (suc n) f d (x ∷ xs) h e = ap₂ ◌∷◌ (e 0 (omega arith)) (table-by n (λ i. f (suc i)) d xs (omega arith) (λ k l. e (suc k) (omega arith)))

-- what calls of a closure that stays as it is made, where each gives the table's element
module _ {F A : Type 0} (g : Mut F (ℕ × Unit {0}) A) (s : F) (n : ℕ) (f : ℕ → A) (gives : (k : ℕ) (y : A) (t : F) → k < n → Called g s (k, tt) y t → (y ≡ f k) × (t ≡ s)) where
  each-call : (m i : ℕ) (xs : List A) (d : A) → i + m ≡ n → IsFromFnResultFrom g s xs i m → (k : ℕ) → i ≤ k → k < n → get_or xs k d ≡ f k
  each-call zero i xs d e w k l h = absurd (omega arith)
  each-call (suc m) i xs d e (t, y, is, call, rest) k l h =
      let own = gives i y t (omega arith) call in
      elim (eq-or-lt_of_le l) [
        | inl same ↦ subst (λ j. get_or xs j d ≡ f j) same (is.1 d ∙ own.0)
        | inr later ↦ each-call m (i + 1) xs d (omega arith) (subst (λ u. IsFromFnResultFrom g u xs (i + 1) m) own.1 rest) k (omega arith) h
      ]

  pub table-calls : A → (xs : List A) → IsFromFnResult g s xs n → xs ≡ table n f
  table-calls d xs made = table-by n f d xs made.long (λ k h. each-call n 0 xs d (omega arith) made.each k (omega arith) h)

module _ (A B C : Type 0) (R : A → B → C → Type 0) (a : A) (b : B) (c : C) (out : R a b c) where
  pub table_related : (n : ℕ) (f : ℕ → A) (g : ℕ → B) (h : ℕ → C) → ((i : ℕ) → R (f i) (g i) (h i)) → (k : ℕ) → R (get_or (table n f) k a) (get_or (table n g) k b) (get_or (table n h) k c)
  unfolding table
  table_related zero f g h r k = out
  table_related (suc n) f g h r zero = r 0
  table_related (suc n) f g h r (suc k) = table_related n (λ i. f (suc i)) (λ i. g (suc i)) (λ i. h (suc i)) (λ i. r (suc i)) k
