-- What `map` made of an array, by a function that stays as it is. Assumes nothing.
use Prim.Native.Nat.{ℕ, zero, suc, ◌+◌, ◌<◌, ◌≤◌}
use mathlib.Core.Path.{◌≡◌, sym, ap, ◌∙◌, subst}
use mathlib.Core.List.{List, map}
use mathlib.Core.Logic.{inl, inr}
use native.Mathlib.Nat.{eq-or-lt_of_le}
use native.Mathlib.Omega.{arith}
use lib.ListN.{length, get_or}
use denote.Param.Members.{Mut}
use Rattle.std.specs.Fn.{Called}
use Rattle.std.specs.Array.{IsMapOf, MapsFrom}
use Rattle.geometry.proofs.Tables.{table-by, table-map}

module _ {F A B : Type 0} (g : Mut F (A × Unit {0}) B) (s : F) (f : A → B) (gives : (x : A) (y : B) (t : F) → Called g s (x, tt) y t → (y ≡ f x) × (t ≡ s)) (n : ℕ) (a : A) (b : B) (xs : List A) (ys : List B) where
  each-call : (m i : ℕ) → i + m ≡ n → MapsFrom g s xs ys i m → (k : ℕ) → i ≤ k → k < n → get_or ys k b ≡ f (get_or xs k a)
  each-call zero i e w k l h = absurd (omega arith)
  each-call (suc m) i e (t, x, y, from, is, call, rest) k l h =
      let own = gives x y t call in
      elim (eq-or-lt_of_le l) [
        | inl same ↦ subst (λ j. get_or ys j b ≡ f (get_or xs j a)) same (is.1 b ∙ own.0 ∙ ap f (sym (from.1 a)))
        | inr later ↦ each-call m (i + 1) (omega arith) (subst (λ u. MapsFrom g u xs ys (i + 1) m) own.1 rest) k (omega arith) h
      ]

  pub map-calls : length xs ≡ n → IsMapOf g s xs ys n → ys ≡ map f xs
  map-calls long made = table-by n (λ k. f (get_or xs k a)) b ys made.long (λ k h. each-call n 0 (omega arith) made.each k (omega arith) h) ∙ table-map f a n xs long
