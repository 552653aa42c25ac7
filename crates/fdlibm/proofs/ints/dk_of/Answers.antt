-- `fdlibm::ints::dk_of` meets its contract. Assumes nothing.
use Rattle.std.proofs.Common.{◌≡◌, ℕ, suc, ◌-◌, ◌^◌, ◌<◌, ◌≤◌, Bool, true, false, not, cond, T, leb, ltb, ℤ, pos, negsuc, ◌-ℤ◌, refl, ap, ◌∙◌, arith, w64, to_z, of_z, lt-ltb, le-ltb, leb→le}
use Rattle.std.proofs.lemmas.Int.{to_z-of_z}
use lib.Dec.{nleb→lt}
use lib.Signed.{mag}
use lib.Ieee.{binary64, minus, of_int}
use Rattle.fdlibm.specs.Ints.{dk}
use Rattle.fdlibm.proofs.ints.dk_of.Goals as goal

-- the library's difference of integers, as `minus` has it
difference : (k : ℕ) → pos k -ℤ pos 1077 ≡ minus k 1077
difference k = go (leb 1077 k) (leb→le 1077 k) (nleb→lt 1077 k)
  where
    go : (s : Bool) → (T s → 1077 ≤ k) → (T (not s) → k < 1077) → cond (ltb k 1077) (negsuc (1077 - suc k)) (pos (k - 1077)) ≡ cond s (pos (k - 1077)) (negsuc (1077 - suc k))
    go true f g = rw (le-ltb k 1077 (f tt)) refl
    go false f g = rw (lt-ltb k 1077 (g tt)) refl

small : (k : ℕ) → k < 2 ^ 32 → mag (pos k -ℤ pos 1077) < 2 ^ 63
small k h = go (ltb k 1077)
  where
    go : (s : Bool) → mag (cond s (negsuc (1077 - suc k)) (pos (k - 1077))) < 2 ^ 63
    go true = omega arith
    go false = omega arith

pub returns : goal.returns
unfolding dk
returns c =
    let k = c.args.k in
    let h : k < 2 ^ 32 = omega arith in
    let whole : to_z w64 (of_z w64 c.from.result) ≡ pos k = ap (λ (z : ℤ). to_z w64 (of_z w64 z)) c.from.ensures ∙ to_z-of_z w64 (pos k) (record { sfits = omega arith }) in
    ap (of_int binary64)
    (ap (λ (z : ℤ). to_z w64 (of_z w64 (z -ℤ pos 1077))) whole
    ∙ to_z-of_z w64 (pos k -ℤ pos 1077) (record { sfits = small k h })
    ∙ difference k)
