-- Numbers below a bound of which none stands twice are no more than the bound. Assumes nothing.
use Prim.Native.Nat.{ℕ, zero, suc, ◌≤◌, ◌<◌}
use mathlib.Core.Bool.{Bool, true, false, not, cond}
use mathlib.Core.List.Memᴰ
use mathlib.Core.List.{List, [], ◌∷◌, Memᴰ}
use mathlib.Core.Path.{◌≡◌, refl, sym, ap}
use native.Mathlib.Omega.{arith}
use lib.Dec.{eqb}
use lib.ListN.{length, get_or}
use Rattle.lists.specs.Lists.{keep, Once}
use Rattle.lists.specs.Groups.{Below}
use Rattle.lists.proofs.Tests.{Says, pass, fail, eqb-says, fails}
use Rattle.lists.proofs.Elements.{mem-get_or, keep-only, mem-keep}

-- what is not v
abbrev others : ℕ → List ℕ → List ℕ
others v xs = keep (λ x. not (eqb x v)) xs

others-all : (v : ℕ) (xs : List ℕ) → (Memᴰ v xs → ⊥) → others v xs ≡ xs
unfolding keep
others-all v [] n = refl
others-all v (x ∷ xs) n = rw (fails (eqb-says x v) (λ e. n (Memᴰ.head (sym e)))) (ap (λ (l : List ℕ). x ∷ l) (others-all v xs (λ m. n (Memᴰ.tail m))))

-- v stands there at most once
one_less : (v : ℕ) (xs : List ℕ) → Once xs → length xs ≤ suc (length (others v xs))
unfolding keep
one_less v [] o = omega arith
one_less v (x ∷ xs) o = go (eqb-says x v) (one_less v xs o.1)
  where
    go : {b : Bool} → Says (x ≡ v) b → length xs ≤ suc (length (others v xs)) → suc (length xs) ≤ suc (length (cond (not b) (x ∷ others v xs) (others v xs)))
    go (pass e) r = omega (arith, ap length (others-all v xs (λ m. o.0 (Memᴰ.cast e m))))
    go (fail n) r = omega arith

others-once : (v : ℕ) (xs : List ℕ) → Once xs → Once (others v xs)
unfolding keep
others-once v [] o = tt
others-once v (x ∷ xs) o = go (not (eqb x v)) (others-once v xs o.1)
  where
    go : (b : Bool) → Once (others v xs) → Once (cond b (x ∷ others v xs) (others v xs))
    go true r = (λ m. o.0 (keep-only (λ x. not (eqb x v)) xs m), r)
    go false r = r

not_eqb : (v x : ℕ) → Says (x ≡ v → ⊥) (not (eqb x v))
not_eqb v x = go (eqb-says x v)
  where
    go : {b : Bool} → Says (x ≡ v) b → Says (x ≡ v → ⊥) (not b)
    go (pass e) = fail (λ n. n e)
    go (fail n) = pass n

few-below : (n : ℕ) (xs : List ℕ) → Once xs → ((v : ℕ) → Memᴰ v xs → v < n) → length xs ≤ n
few-below zero [] o h = omega arith
few-below zero (x ∷ xs) o h = absurd (omega (arith, h x (Memᴰ.head refl)))
few-below (suc n) xs o h =
    omega (arith, one_less n xs o, few-below n (others n xs) (others-once n xs o) (λ v m. let w = mem-keep (not_eqb n) xs m in let l : v < suc n = h v w.0 in not_last v l w.1))
  where
    not_last : (v : ℕ) → v < suc n → (v ≡ n → ⊥) → v < n
    not_last v l ne = omega arith

pub few-free : (n : ℕ) (free : List ℕ) → Once free → Below free n → length free ≤ n
few-free n free o b = few-below n free o (λ v m. let w = mem-get_or 0 m in let k : get_or free w.0 0 < n = b w.0 w.1 in omega (arith, k, w.2))
