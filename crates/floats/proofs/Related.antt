-- A relation between three algebras that their operations keep, and lists that are related element by element. Assumes nothing.
use Prim.Native.Nat.{ℕ, zero, suc}
use mathlib.Core.List.{List, [], ◌∷◌}
use lib.ListN.{get_or}
use Rattle.floats.specs.Algebra.{Algebra}

-- the operations of o, p and q keep R
pub record Closed (A B C : Type 0) (o : Algebra A) (p : Algebra B) (q : Algebra C) (R : A → B → C → Type 0) : Type 0 where
  pub out : R o.out p.out q.out
  pub zero : R o.zero p.zero q.zero
  pub one : R o.one p.one q.one
  pub minus_one : R o.minus_one p.minus_one q.minus_one
  pub add : {x x' : A} {y y' : B} {w w' : C} → R x y w → R x' y' w' → R (o.add x x') (p.add y y') (q.add w w')
  pub sub : {x x' : A} {y y' : B} {w w' : C} → R x y w → R x' y' w' → R (o.sub x x') (p.sub y y') (q.sub w w')
  pub mul : {x x' : A} {y y' : B} {w w' : C} → R x y w → R x' y' w' → R (o.mul x x') (p.mul y y') (q.mul w w')

-- three related elements
pub record Triple (A B C : Type 0) (R : A → B → C → Type 0) : Type 0 where
  pub x : A
  pub y : B
  pub w : C
  pub related : R x y w

-- lists that are related element by element
pub data Lists (A B C : Type 0) (R : A → B → C → Type 0) : List A → List B → List C → Type 0 where
  none : Lists A B C R [] [] []
  more : {x : A} {y : B} {w : C} {xs : List A} {ys : List B} {ws : List C} → R x y w → Lists A B C R xs ys ws → Lists A B C R (x ∷ xs) (y ∷ ys) (w ∷ ws)

module _ (A B C : Type 0) (R : A → B → C → Type 0) (a : A) (b : B) (c : C) (out : R a b c) where
  pub get_or_related : {xs : List A} {ys : List B} {ws : List C} → Lists A B C R xs ys ws → (n : ℕ) → R (get_or xs n a) (get_or ys n b) (get_or ws n c)
  get_or_related none n = out
  get_or_related (more h t) zero = h
  get_or_related (more h t) (suc n) = get_or_related t n
