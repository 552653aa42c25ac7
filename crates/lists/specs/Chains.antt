-- Rows searched by chains, one chain for each value of a small hash, and numbered as they are met. Definitions only.
use Rattle.std.specs.Prelude.{ℕ, ◌+◌, ◌*◌, ◌-◌, ◌%◌, ◌≤◌, ◌<◌, ◌≡◌, Option, None, IfSome, length, get_or, take, drop}
use mathlib.Core.List.{List, [], ◌++◌, map, foldl}
use Rattle.lists.specs.Keys.{find, meet, Distinct}
use Rattle.lists.specs.Rows.{rows}

-- one number more in a hash
abbrev pub mix : ℕ → ℕ → ℕ
mix h v = (h * 3571 + v) % 32768

-- the chain that a row is in: a small hash of it
unfoldable pub hash : List ℕ → ℕ
hash s = foldl mix 0 s

-- the chain of row j
abbrev pub chain_at : List (List ℕ) → ℕ → ℕ
chain_at ks j = hash (get_or ks j [])

-- the rows ks, none of which stands twice, are chained by h and x: h has 1 + the last row of each chain, x has 1 + the row before each row in its chain, 0 for none
pub record Indexed (ks : List (List ℕ)) (h x : List ℕ) : Type 0 where
  pub distinct : Distinct ks
  pub chains : length h ≡ 32768
  pub links : length ks ≤ length x
  pub head_le : (a : ℕ) → get_or h a 0 ≤ length ks
  pub head_in : (a : ℕ) → 0 < get_or h a 0 → chain_at ks (get_or h a 0 - 1) ≡ a
  pub head_last : (a j : ℕ) → a < 32768 → get_or h a 0 ≤ j → j < length ks → chain_at ks j ≡ a → ⊥
  pub next_le : (k : ℕ) → k < length ks → get_or x k 0 ≤ k
  pub next_in : (k : ℕ) → k < length ks → 0 < get_or x k 0 → chain_at ks (get_or x k 0 - 1) ≡ chain_at ks k
  pub next_last : (k j : ℕ) → k < length ks → get_or x k 0 ≤ j → j < k → chain_at ks j ≡ chain_at ks k → ⊥

-- the first n rows of w numbers in e are chained by h and x, and there is room for c rows more, and for their numbers in u from place `at` on
pub record Ready (w : ℕ) (e h x u : List ℕ) (n at c : ℕ) : Type 0 where
  pub indexed : Indexed (rows w n e) h x
  pub room : w * (n + c) ≤ length e
  pub links : n + c ≤ length x
  pub numbers : at + c ≤ length u
  pub few : n + c < 1000000

-- the rows ts are met: the n rows of e have become the r rows of e', chained by h' and x', and u' has the numbers of ts from place `at` on; all other places are kept
pub record Met (w : ℕ) (e e' h' x' u u' : List ℕ) (n at : ℕ) (ts : List (List ℕ)) (r : ℕ) : Type 0 where
  pub known : rows w r e' ≡ foldl meet (rows w n e) ts
  pub tail : drop (w * r) e' ≡ drop (w * r) e
  pub from : n ≤ r
  pub to : r ≤ n + length ts
  pub numbered : u' ≡ take at u ++ map (λ s. find s (rows w r e')) ts ++ drop (at + length ts) u
  pub indexed : Indexed (rows w r e') h' x'

-- ---- rows compared with those of a list

-- the first n of the m rows of w numbers in e are chained by h and x, and there is room for the numbers of c rows in u from place `at` on
pub record Comparable (w : ℕ) (e h x u : List ℕ) (n m at c : ℕ) : Type 0 where
  pub indexed : Indexed (rows w n e) h x
  pub known : n ≤ m
  pub room : w * m ≤ length e
  pub links : m ≤ length x
  pub numbers : at + c ≤ length u
  pub few : m < 1000000

-- the m rows of w numbers in e begin with ks
pub record Stand (w : ℕ) (e : List ℕ) (m : ℕ) (ks : List (List ℕ)) : Type 0 where
  pub few : length ks ≤ m
  pub same : rows w (length ks) e ≡ ks

-- the rows ts are met in e as it is, n of whose m rows are known: they are met, with nothing written, and then r rows of e are known; or e has other rows, and r is nothing. In that case the chains, and the numbers before the end of those of ts, are left in some state
pub record Compared (w : ℕ) (e h' x' u u' : List ℕ) (n m at : ℕ) (ts : List (List ℕ)) (r : Option ℕ) : Type 0 where
  pub yes : IfSome r (λ k. Met w e e h' x' u u' n at ts k × (k ≤ m))
  pub no : r ≡ None → Stand w e m (foldl meet (rows w n e) ts) → ⊥
  pub kept : drop (at + length ts) u' ≡ drop (at + length ts) u
