-- Pentachorons that rise: what the test of their vertices says. Assumes nothing.
use Prim.Native.Nat.{ℕ, zero, suc, ◌<◌}
use mathlib.Core.Path.{◌≡◌, refl, sym, ap, ◌∙◌}
use mathlib.Core.Bool.{Bool, true, false, ◌&&◌}
use Rattle.std.proofs.Common.{true≢false}
use Rattle.std.specs.List.{IsAllAdjacentAnswer}
use mathlib.Core.Logic.{⊎_elim}
use mathlib.Core.List.Memᴰ
use mathlib.Core.List.{List, [], ◌∷◌, Memᴰ}
use native.Mathlib.Omega.{arith}
use lib.Dec.{ltb}
use lib.ListN.{length, get_or}
use Rattle.lists.specs.Lists.{Rising}
use Rattle.lists.proofs.Tests.{Says, pass, fail, ltb-says, and-says}
use Rattle.complex.proofs.SortedPents.{five-of}
use Rattle.comparison.specs.CheckParts.{rises, all_rise}

-- a rising list of vertices below n
abbrev pub RisesBelow : ℕ → List ℕ → Type 0
RisesBelow n p = Rising p × ((v : ℕ) → Memᴰ v p → v < n)

pub rises-says : (n : ℕ) (p : List ℕ) → Says (RisesBelow n p) (rises n p)
unfolding rises
rises-says n [] = pass (tt, λ v m. absurd (Memᴰ.not-nil m))
rises-says n (v ∷ []) = one (ltb-says v n)
  where
    one : {b : Bool} → Says (v < n) b → Says (RisesBelow n (v ∷ [])) b
    one (pass l) = pass (((λ w m. absurd (Memᴰ.not-nil m)), tt), λ w m. ⊎_elim (λ e. omega arith) (λ k. absurd (Memᴰ.not-nil k)) (Memᴰ.cases_cons m))
    one (fail f) = fail (λ h. f (h.1 v (Memᴰ.head refl)))
rises-says n (v ∷ w ∷ p) =
    and-says
    (λ l r. (
      ((λ x m. ⊎_elim (λ e. omega arith) (λ k. omega (arith, r.0.0 x k)) (Memᴰ.cases_cons m)), r.0),
      λ x m. ⊎_elim (λ e. omega (arith, r.1 w (Memᴰ.head refl))) (r.1 x) (Memᴰ.cases_cons m),
    ))
    (λ h. h.0.0 w (Memᴰ.head refl))
    (λ h. (h.0.1, λ x m. h.1 x (Memᴰ.tail m)))
    (ltb-says v w)
    (rises-says n (w ∷ p))

-- the test at five vertices
pub rises_five : (n : ℕ) (p : List ℕ) → length p ≡ 5
    → rises n p
    ≡ (ltb (get_or p 0 0) (get_or p 1 0) && (ltb (get_or p 1 0) (get_or p 2 0) && (ltb (get_or p 2 0) (get_or p 3 0) && (ltb (get_or p 3 0) (get_or p 4 0) && ltb (get_or p 4 0) n))))
unfolding rises
rises_five n p h = rw (five-of p h) refl

-- where each vertex is below the next, the last one decides
pub adjacent-rise : (n : ℕ) (p : List ℕ) → length p ≡ 5 → IsAllAdjacentAnswer (λ x y b. b ≡ ltb x y) p true → ltb (get_or p 4 0) n ≡ rises n p
adjacent-rise n p h all =
    rw (rises_five n p h, ← all 0 0 (omega (arith, h)), ← all 1 0 (omega (arith, h)), ← all 2 0 (omega (arith, h)), ← all 3 0 (omega (arith, h))) refl

and-false : (b : Bool) → (b && false) ≡ false
and-false true = refl
and-false false = refl

-- where one is not, they don't rise
pub adjacent-fall : (n : ℕ) (p : List ℕ) → length p ≡ 5 → (r : Bool) → r ≡ false → IsAllAdjacentAnswer (λ x y b. b ≡ ltb x y) p r → r ≡ rises n p
adjacent-fall n p h true e some = absurd (true≢false e)
adjacent-fall n p h false e (zero, l, f) = rw (rises_five n p h, ← f 0) refl
adjacent-fall n p h false e (suc zero, l, f) = rw (rises_five n p h, ← f 0) (sym (and-false (ltb (get_or p 0 0) (get_or p 1 0))))
adjacent-fall n p h false e (suc (suc zero), l, f) =
    let first = ltb (get_or p 0 0) (get_or p 1 0) in
    rw (rises_five n p h, ← f 0) (sym (ap (λ b. first && b) (and-false (ltb (get_or p 1 0) (get_or p 2 0))) ∙ and-false first))
adjacent-fall n p h false e (suc (suc (suc zero)), l, f) =
    let first = ltb (get_or p 0 0) (get_or p 1 0) in
    let second = ltb (get_or p 1 0) (get_or p 2 0) in
    rw (rises_five n p h, ← f 0) (sym (ap (λ b. first && (second && b)) (and-false (ltb (get_or p 2 0) (get_or p 3 0))) ∙ ap (λ b. first && b) (and-false second) ∙ and-false first))
adjacent-fall n p h false e (suc (suc (suc (suc k))), l, f) = absurd (omega (arith, h, l))

-- every pentachoron does
abbrev pub AllRise : ℕ → List (List ℕ) → Type 0
AllRise n ps = (p : List ℕ) → Memᴰ p ps → RisesBelow n p

pub all-rise-says : (n : ℕ) (ps : List (List ℕ)) → Says (AllRise n ps) (all_rise n ps)
unfolding all_rise
all-rise-says n [] = pass (λ p m. absurd (Memᴰ.not-nil m))
all-rise-says n (p ∷ ps) =
    and-says
    (λ a r q m. ⊎_elim (λ e. rw e a) (r q) (Memᴰ.cases_cons m))
    (λ h. h p (Memᴰ.head refl))
    (λ h q m. h q (Memᴰ.tail m))
    (rises-says n p)
    (all-rise-says n ps)
