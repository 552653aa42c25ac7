-- C's order on ints, by words moved up by 2 ^ 31, is the order of the signed numbers that the words are. Assumes nothing.
use Rattle.std.proofs.Common.{◌≡◌, ℕ, suc, ◌-◌, ◌^◌, ◌<◌, ◌≤◌, Bool, true, false, not, T, leb, ltb, pos, negsuc, refl, sym, arith, w32, to_z, lt-ltb, le-ltb}
use lib.Dec.{ltb→lt, lt→ltb, nltb→le, leb→le, le→leb}
use borrow.Author.Tests.{le-leb, lt-leb}
use lib.Signed.{lt_z, le_z}
use mir.Val.{sel}
use Rattle.fdlibm.specs.Ints.{biased, ◌<ˢ◌, ◌≤ˢ◌}

-- two tests that pass together
alike : (s t : Bool) → (T s → T t) → (T t → T s) → s ≡ t
alike true true f g = refl
alike true false f g = absurd (f tt)
alike false true f g = absurd (g tt)
alike false false f g = refl

same_lt : (a b c d : ℕ) → (a < b → c < d) → (c < d → a < b) → ltb a b ≡ ltb c d
same_lt a b c d f g = alike (ltb a b) (ltb c d) (λ t. lt→ltb c d (f (ltb→lt a b t))) (λ t. lt→ltb a b (g (ltb→lt c d t)))

same_le : (a b c d : ℕ) → (a ≤ b → c ≤ d) → (c ≤ d → a ≤ b) → leb a b ≡ leb c d
same_le a b c d f g = alike (leb a b) (leb c d) (λ t. le→leb c d (f (leb→le a b t))) (λ t. le→leb a b (g (leb→le c d t)))

pub signed_lt : (a b : ℕ) → a < 2 ^ 32 → b < 2 ^ 32 → lt_z (to_z w32 a) (to_z w32 b) ≡ (a <ˢ b)
unfolding ◌<ˢ◌
signed_lt a b h k = go (ltb a (2 ^ 31)) (ltb b (2 ^ 31)) (ltb→lt a (2 ^ 31)) (nltb→le a (2 ^ 31)) (ltb→lt b (2 ^ 31)) (nltb→le b (2 ^ 31))
  where
    go : (s t : Bool) → (T s → a < 2 ^ 31) → (T (not s) → 2 ^ 31 ≤ a) → (T t → b < 2 ^ 31) → (T (not t) → 2 ^ 31 ≤ b)
        → lt_z (sel s (pos a) (negsuc (2 ^ 32 - suc a))) (sel t (pos b) (negsuc (2 ^ 32 - suc b))) ≡ ltb (biased a) (biased b)
    go true true f _ g _ = let x = f tt in let y = g tt in same_lt a b (biased a) (biased b) (λ l. omega arith) (λ l. omega arith)
    go true false f _ _ g = let x = f tt in let y = g tt in sym (le-ltb (biased a) (biased b) (omega arith))
    go false true _ f g _ = let x = f tt in let y = g tt in sym (lt-ltb (biased a) (biased b) (omega arith))
    go false false _ f _ g = let x = f tt in let y = g tt in same_lt (2 ^ 32 - suc b) (2 ^ 32 - suc a) (biased a) (biased b) (λ l. omega arith) (λ l. omega arith)

pub signed_le : (a b : ℕ) → a < 2 ^ 32 → b < 2 ^ 32 → le_z (to_z w32 a) (to_z w32 b) ≡ (a ≤ˢ b)
unfolding ◌≤ˢ◌
signed_le a b h k = go (ltb a (2 ^ 31)) (ltb b (2 ^ 31)) (ltb→lt a (2 ^ 31)) (nltb→le a (2 ^ 31)) (ltb→lt b (2 ^ 31)) (nltb→le b (2 ^ 31))
  where
    go : (s t : Bool) → (T s → a < 2 ^ 31) → (T (not s) → 2 ^ 31 ≤ a) → (T t → b < 2 ^ 31) → (T (not t) → 2 ^ 31 ≤ b)
        → le_z (sel s (pos a) (negsuc (2 ^ 32 - suc a))) (sel t (pos b) (negsuc (2 ^ 32 - suc b))) ≡ leb (biased a) (biased b)
    go true true f _ g _ = let x = f tt in let y = g tt in same_le a b (biased a) (biased b) (λ l. omega arith) (λ l. omega arith)
    go true false f _ _ g = let x = f tt in let y = g tt in sym (lt-leb (biased a) (biased b) (omega arith))
    go false true _ f g _ = let x = f tt in let y = g tt in sym (le-leb (biased a) (biased b) (omega arith))
    go false false _ f _ g = let x = f tt in let y = g tt in same_le (2 ^ 32 - suc b) (2 ^ 32 - suc a) (biased a) (biased b) (λ l. omega arith) (λ l. omega arith)
