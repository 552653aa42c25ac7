-- What a test says: a proposition where it passes, its negation where it fails. Assumes nothing.
use mathlib.Core.Path.{◌≡◌, refl, sym, ◌∙◌, subst}
use mathlib.Core.Logic.{◌⊎◌, inl, inr, ⊎_elim}
use mathlib.Core.Bool.{Bool, true, false, true≢false, not, ◌&&◌, ◌||◌}
use Prim.Native.Nat.{ℕ, ◌+◌, ◌≤◌, ◌<◌}
use native.Mathlib.Omega.{arith}
use lib.Dec.{T, eqb, ltb, leb, eqb→eq, eqb_refl, T_not, ltb→lt, lt→ltb, leb→le, le→leb}

-- P where the test passes, not P where it fails
pub data Says (P : Type 0) : Bool → Type 0 where
  pass : P → Says P true
  fail : (P → ⊥) → Says P false

says : {P : Type 0} (b : Bool) → (T b → P) → (T (not b) → P → ⊥) → Says P b
says true f g = pass (f tt)
says false f g = fail (g tt)

-- a test that passes just where P holds
pub says-by : {P : Type 0} (b : Bool) → (b ≡ true → P) → (P → b ≡ true) → Says P b
says-by true f g = pass (f refl)
says-by false f g = fail (λ p. let e = g p in let z : ◌≡◌ {A = ℕ} 0 1 = cc in omega arith)

-- ---- the tests of numbers

pub eqb-says : (m n : ℕ) → Says (m ≡ n) (eqb m n)
eqb-says m n = says (eqb m n) (eqb→eq m n) (λ t e. T_not (eqb m n) t (subst (λ (k : ℕ). T (eqb m k)) e (eqb_refl m)))

pub ltb-says : (m n : ℕ) → Says (m < n) (ltb m n)
ltb-says m n = says (ltb m n) (ltb→lt m n) (λ t h. T_not (ltb m n) t (lt→ltb m n h))

pub leb-says : (m n : ℕ) → Says (m ≤ n) (leb m n)
leb-says m n = says (leb m n) (leb→le m n) (λ t h. T_not (leb m n) t (le→leb m n h))

pub lt-or-ge : (m n : ℕ) → (m < n) ⊎ (n ≤ m)
lt-or-ge m n = go (ltb-says m n)
  where
    go : {b : Bool} → Says (m < n) b → (m < n) ⊎ (n ≤ m)
    go (pass h) = inl h
    go (fail f) = inr (omega arith)

pub eq-or-ne : (m n : ℕ) → (m ≡ n) ⊎ (m ≡ n → ⊥)
eq-or-ne m n = go (eqb-says m n)
  where
    go : {b : Bool} → Says (m ≡ n) b → (m ≡ n) ⊎ (m ≡ n → ⊥)
    go (pass e) = inl e
    go (fail f) = inr f

-- what holds below j and at j holds below j + 1
pub below_next : (P : ℕ → Type 0) (j : ℕ) → ((i : ℕ) → i < j → P i) → P j → (i : ℕ) → i < j + 1 → P i
below_next P j f p i h = ⊎_elim (f i) (λ g. let e : j ≡ i = omega arith in subst P e p) (lt-or-ge i j)

-- ---- tests made of tests

pub and-says : {P Q R : Type 0} {a b : Bool} → (P → Q → R) → (R → P) → (R → Q) → Says P a → Says Q b → Says R (a && b)
and-says f g h (pass p) (pass q) = pass (f p q)
and-says f g h (pass p) (fail n) = fail (λ r. n (h r))
and-says f g h (fail n) q = fail (λ r. n (g r))

pub both-says : {P Q : Type 0} {a b : Bool} → Says P a → Says Q b → Says (P × Q) (a && b)
both-says x y = and-says (λ p q. (p, q)) (λ h. h.0) (λ h. h.1) x y

pub or-says : {P Q R : Type 0} {a b : Bool} → (P → R) → (Q → R) → (R → P ⊎ Q) → Says P a → Says Q b → Says R (a || b)
or-says f g h (pass p) q = pass (f p)
or-says f g h (fail n) (pass q) = pass (g q)
or-says f g h (fail n) (fail m) = fail (λ r. ⊎_elim n m (h r))

-- both of two tests pass
pub and-true : (a b : Bool) → (a && b) ≡ true → (a ≡ true) × (b ≡ true)
and-true true b e = (refl, e)
and-true false b e = absurd (let z : ◌≡◌ {A = ℕ} 0 1 = cc in omega arith)

-- ---- what follows from a test

-- no test both passes and fails
pub not-both : {b : Bool} → b ≡ true → b ≡ false → ⊥
not-both p q = true≢false (sym p ∙ q)

pub said : {P : Type 0} {b : Bool} → Says P b → b ≡ true → P
said (pass p) e = p
said (fail f) e = absurd (let z : ◌≡◌ {A = ℕ} 0 1 = cc in omega arith)

pub denied : {P : Type 0} {b : Bool} → Says P b → b ≡ false → P → ⊥
denied (pass p) e q = let z : ◌≡◌ {A = ℕ} 0 1 = cc in omega arith
denied (fail f) e q = f q

pub passes : {P : Type 0} {b : Bool} → Says P b → P → b ≡ true
passes (pass p) q = refl
passes (fail f) q = absurd (f q)

pub fails : {P : Type 0} {b : Bool} → Says P b → (P → ⊥) → b ≡ false
fails (pass p) f = absurd (f p)
fails (fail g) f = refl

-- two tests of the same are equal
pub says_same : {P Q : Type 0} {a b : Bool} → (P → Q) → (Q → P) → Says P a → Says Q b → a ≡ b
says_same f g (pass p) (pass q) = refl
says_same f g (pass p) (fail n) = absurd (n (f p))
says_same f g (fail n) (pass q) = absurd (n (g q))
says_same f g (fail n) (fail m) = refl
