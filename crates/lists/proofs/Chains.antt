-- Chains of rows: the walk down a chain finds a row or shows that it is not there, and one row more is entered. Assumes nothing.
use mathlib.Core.Path.{◌≡◌, refl, sym, ap, ◌∙◌, subst}
use mathlib.Core.Logic.{⊎_elim}
use mathlib.Core.List.{List, [], ◌∷◌, ◌++◌, map, foldl, foldl-append, map-append, append_assoc, append-nil}
use Prim.Native.Nat.{ℕ, zero, suc, ◌+◌, ◌*◌, ◌-◌, ◌≤◌, ◌<◌}
use native.Mathlib.Nat.{add-zero, mul-suc, mul-le-mul_left}
use native.Mathlib.Numerals.{add-one}
use native.Mathlib.Omega.{arith}
use lib.ListN.{length, get_or, take, drop, set, replicate, length-replicate, length-append, length-set, length-map, take-append-drop, get_or-append}
use lib.Seq.{append_snoc, take-suc, get_or-set_same, get_or-set_other, get_or_at, drop-drop, take_at, drop_at, length-take-le, set_split}
use Rattle.lists.specs.Keys.{find, meet, firsts, Distinct}
use Rattle.lists.specs.Rows.{flat, rows, over}
use Rattle.lists.specs.Chains.{mix, hash, chain_at, Indexed, Ready, Met}
use Rattle.lists.proofs.Tests.{lt-or-ge, eq-or-ne}
use Rattle.lists.proofs.Keys.{find-le, find_none, find-new, meet-old, meet-new, meet-distinct, fold-numbers}
use Rattle.lists.proofs.Rows.{length-rows, rows_snoc, rows_agree, flat_rows, over-of, drop-later}

-- ---- the hash

pub hash-below : (s : List ℕ) → hash s < 32768
unfolding hash
hash-below s = go s 0 (omega arith)
  where
    go : (s : List ℕ) (h : ℕ) → h < 32768 → foldl mix h s < 32768
    go [] h l = l
    go (v ∷ s) h l = go s (mix h v) (omega arith)

-- a row's chain has its head
pub head-fits : {ks : List (List ℕ)} {h x : List ℕ} (s : List ℕ) (chain : ℕ) → Indexed ks h x → chain ≡ hash s → chain < length h
head-fits s chain ix e = omega (arith, e, ix.chains, hash-below s)

-- one number more
pub hash-snoc : (s : List ℕ) (i : ℕ) → i < length s → mix (hash (take i s)) (get_or s i 0) ≡ hash (take (i + 1) s)
unfolding hash
hash-snoc s i h = sym (ap (foldl mix 0) (ap (λ (k : ℕ). take k s) (add-one i) ∙ take-suc s i 0 h) ∙ foldl-append mix 0 (take i s) (get_or s i 0 ∷ []))

-- ---- the walk down a chain

-- no row from `cur` on is s
abbrev pub NotFrom : List (List ℕ) → List ℕ → ℕ → Type 0
NotFrom ks s cur = (j : ℕ) → cur ≤ j → j < length ks → get_or ks j [] ≡ s → ⊥

module _ (ks : List (List ℕ)) (h x s : List ℕ) (ix : Indexed ks h x) where
  pub walk_top : NotFrom ks s (get_or h (hash s) 0)
  walk_top j lo hi q = ix.head_last (hash s) j (hash-below s) lo hi (ap hash q)

  module _ (cur : ℕ) (pos : 0 < cur) (le : cur ≤ length ks) (inv : NotFrom ks s cur) (here : chain_at ks (cur - 1) ≡ hash s) (other : get_or ks (cur - 1) [] ≡ s → ⊥) where
    pub walk-next : NotFrom ks s (get_or x (cur - 1) 0)
    walk-next j lo hi q =
        ⊎_elim
        (λ (a : j < cur - 1). ix.next_last (cur - 1) j (omega arith) lo a (ap hash q ∙ sym here))
        (λ (a : cur - 1 ≤ j). ⊎_elim
        (λ (e : j ≡ cur - 1). other (ap (λ (i : ℕ). get_or ks i []) (sym e) ∙ q))
        (λ (f : j ≡ cur - 1 → ⊥). inv j (beyond f a) hi q)
        (eq-or-ne j (cur - 1)))
        (lt-or-ge j (cur - 1))
      where
        beyond : {j : ℕ} → (j ≡ cur - 1 → ⊥) → cur - 1 ≤ j → cur ≤ j
        beyond {j} f a = ⊎_elim (λ (b : j < cur). absurd (f (omega arith))) (λ (b : cur ≤ j). b) (lt-or-ge j cur)

    -- the chain goes on with rows of the same hash
    pub walk-chain : 0 < get_or x (cur - 1) 0 → chain_at ks (get_or x (cur - 1) 0 - 1) ≡ hash s
    walk-chain p = ix.next_in (cur - 1) (omega arith) p ∙ here

  pub walk-found : (k : ℕ) → k < length ks → get_or ks k [] ≡ s → k ≡ find s ks
  walk-found k l q = sym (ix.distinct k l) ∙ ap (λ (r : List ℕ). find r ks) q

  pub walk_end : NotFrom ks s 0 → length ks ≡ find s ks
  walk_end inv = sym (find_none s ks (λ j l. inv j (omega arith) l))

-- ---- one row more

module _ (ks : List (List ℕ)) (h x s : List ℕ) (n : ℕ) (ix : Indexed ks h x) (many : length ks ≡ n) (room : n < length x) (new : find s ks < length ks → ⊥) where
  h' : List ℕ
  h' = set h (hash s) (n + 1)

  x' : List ℕ
  x' = set x n (get_or h (hash s) 0)

  all : List (List ℕ)
  all = ks ++ s ∷ []

  long : length all ≡ n + 1
  unfolding all
  long = length-append ks (s ∷ []) ∙ ap (λ (m : ℕ). m + 1) many

  low : (j : ℕ) → j < n → chain_at all j ≡ chain_at ks j
  unfolding all
  low j l = ap hash (get_or-append ks (s ∷ []) [] j (omega arith))

  last : chain_at all n ≡ hash s
  unfolding all
  last = ap hash (get_or_at ks s [] [] n many)

  head-here : get_or h' (hash s) 0 ≡ n + 1
  unfolding h'
  head-here = get_or-set_same h (hash s) (n + 1) 0 (omega (arith, ix.chains, hash-below s))

  head-other : (a : ℕ) → (a ≡ hash s → ⊥) → get_or h' a 0 ≡ get_or h a 0
  unfolding h'
  head-other a f = get_or-set_other h (hash s) a (n + 1) 0 f

  next_here : get_or x' n 0 ≡ get_or h (hash s) 0
  unfolding x'
  next_here = get_or-set_same x n (get_or h (hash s) 0) 0 room

  next-other : (k : ℕ) → k < n → get_or x' k 0 ≡ get_or x k 0
  unfolding x'
  next-other k l = get_or-set_other x n k (get_or h (hash s) 0) 0 (λ e. omega arith)

  grow-head-le : (a : ℕ) → get_or h' a 0 ≤ length all
  grow-head-le a =
      ⊎_elim
      (λ (e : a ≡ hash s). rw e (omega (arith, head-here, long)))
      (λ (f : a ≡ hash s → ⊥). omega (arith, head-other a f, ix.head_le a, long))
      (eq-or-ne a (hash s))

  grow-head-in : (a : ℕ) → 0 < get_or h' a 0 → chain_at all (get_or h' a 0 - 1) ≡ a
  grow-head-in a p =
      ⊎_elim
      (λ (e : a ≡ hash s).
      let q : get_or h' a 0 ≡ n + 1 = ap (λ (m : ℕ). get_or h' m 0) e ∙ head-here in
      let z : get_or h' a 0 - 1 ≡ n = omega arith in
      ap (chain_at all) z ∙ last ∙ sym e)
      (λ (f : a ≡ hash s → ⊥).
      let q = head-other a f in
      let z : get_or h' a 0 - 1 ≡ get_or h a 0 - 1 = omega arith in
      ap (chain_at all) z ∙ low (get_or h a 0 - 1) (omega (arith, ix.head_le a)) ∙ ix.head_in a (omega arith))
      (eq-or-ne a (hash s))

  grow-head-last : (a j : ℕ) → a < 32768 → get_or h' a 0 ≤ j → j < length all → chain_at all j ≡ a → ⊥
  grow-head-last a j b lo hi q =
      ⊎_elim
      (λ (e : a ≡ hash s).
      let g : get_or h' a 0 ≡ n + 1 = ap (λ (m : ℕ). get_or h' m 0) e ∙ head-here in
      omega (arith, long))
      (λ (f : a ≡ hash s → ⊥). ⊎_elim
      (λ (l : j < n). ix.head_last a j b (omega (arith, head-other a f)) (omega arith) (sym (low j l) ∙ q))
      (λ (l : n ≤ j). let z : j ≡ n = omega (arith, long) in f (sym q ∙ ap (chain_at all) z ∙ last))
      (lt-or-ge j n))
      (eq-or-ne a (hash s))

  grow-next-le : (k : ℕ) → k < length all → get_or x' k 0 ≤ k
  grow-next-le k hi =
      ⊎_elim
      (λ (l : k < n). omega (arith, next-other k l, ix.next_le k (omega arith)))
      (λ (l : n ≤ k).
      let z : k ≡ n = omega (arith, long) in
      omega (arith, ap (λ (m : ℕ). get_or x' m 0) z, next_here, ix.head_le (hash s)))
      (lt-or-ge k n)

  grow-next-in : (k : ℕ) → k < length all → 0 < get_or x' k 0 → chain_at all (get_or x' k 0 - 1) ≡ chain_at all k
  grow-next-in k hi p =
      ⊎_elim
      (λ (l : k < n).
      let q = next-other k l in
      let z : get_or x' k 0 - 1 ≡ get_or x k 0 - 1 = omega arith in
      ap (chain_at all) z ∙ low (get_or x k 0 - 1) (omega (arith, ix.next_le k (omega arith))) ∙ ix.next_in k (omega arith) (omega arith) ∙ sym (low k l))
      (λ (l : n ≤ k).
      let y : k ≡ n = omega (arith, long) in
      let q : get_or x' k 0 ≡ get_or h (hash s) 0 = ap (λ (m : ℕ). get_or x' m 0) y ∙ next_here in
      let z : get_or x' k 0 - 1 ≡ get_or h (hash s) 0 - 1 = omega arith in
      ap (chain_at all) z ∙ low (get_or h (hash s) 0 - 1) (omega (arith, ix.head_le (hash s))) ∙ ix.head_in (hash s) (omega arith) ∙ sym (ap (chain_at all) y ∙ last))
      (lt-or-ge k n)

  grow-next-last : (k j : ℕ) → k < length all → get_or x' k 0 ≤ j → j < k → chain_at all j ≡ chain_at all k → ⊥
  grow-next-last k j hi lo l q =
      let b : j < n = omega (arith, long) in
      ⊎_elim
      (λ (a : k < n). ix.next_last k j (omega arith) (omega (arith, next-other k a)) l (sym (low j b) ∙ q ∙ low k a))
      (λ (a : n ≤ k).
      let y : k ≡ n = omega (arith, long) in
      let g : get_or x' k 0 ≡ get_or h (hash s) 0 = ap (λ (m : ℕ). get_or x' m 0) y ∙ next_here in
      ix.head_last (hash s) j (hash-below s) (omega arith) (omega arith) (sym (low j b) ∙ q ∙ ap (chain_at all) y ∙ last))
      (lt-or-ge k n)

  pub grown : Indexed (ks ++ s ∷ []) (set h (hash s) (n + 1)) (set x n (get_or h (hash s) 0))
  unfolding h' x' all
  grown =
      record {
        distinct = subst Distinct (meet-new ks s new) (meet-distinct ks s ix.distinct);
        chains = length-set h (hash s) (n + 1) ∙ ix.chains;
        links = omega (arith, long, length-set x n (get_or h (hash s) 0));
        head_le = grow-head-le;
        head_in = grow-head-in;
        head_last = grow-head-last;
        next_le = grow-next-le;
        next_in = grow-next-in;
        next_last = grow-next-last;
      }

-- ---- a row that is met

-- a row's number is at most how many rows there are
pub number-le : (w : ℕ) (e : List ℕ) (n : ℕ) (s : List ℕ) → find s (rows w n e) ≤ n
number-le w e n s = omega (arith, find-le s (rows w n e), length-rows w n e)

module _ (w : ℕ) (e h x u : List ℕ) (n at k : ℕ) (s : List ℕ) (ix : Indexed (rows w n e) h x) (place : at < length u) (is : k ≡ find s (rows w n e)) where
  many : length (rows w n e) ≡ n
  many = length-rows w n e

  noted : set u at k ≡ take at u ++ k ∷ [] ++ drop (at + 1) u
  noted = set_split u at k place ∙ sym (append_snoc (take at u) k (drop (suc at) u)) ∙ ap (λ (m : ℕ). take at u ++ k ∷ [] ++ drop m u) (sym (add-one at))

  -- a row that is there already
  pub met-old : k < n → Met w e e h x u (set u at k) n at (s ∷ []) n
  met-old l =
      record {
        known = sym (meet-old (rows w n e) s (omega (arith, many, is)));
        tail = refl;
        from = omega arith;
        to = omega arith;
        numbered = noted ∙ ap (λ (m : ℕ). take at u ++ m ∷ [] ++ drop (at + 1) u) is;
        indexed = ix;
      }

  -- a new row
  module _ (e' : List ℕ) (size : length s ≡ w) (stored : e' ≡ take (w * n) e ++ s ++ drop (w * n + length s) e) (ge : n ≤ k) (room : w * n + w ≤ length e) (links : n < length x) where
    front : length (take (w * n) e) ≡ w * n
    front = length-take-le (w * n) e (omega (arith, room))

    fronts : length (take (w * n) e ++ s) ≡ w * n + w
    fronts = length-append (take (w * n) e) s ∙ omega (arith, front, size)

    whole : w * n + w ≤ length e'
    whole = omega (arith, ap length stored, length-append (take (w * n) e ++ s) (drop (w * n + length s) e), fronts)

    begins : take (w * n) e' ≡ take (w * n) e
    begins = rw (stored, append_assoc (take (w * n) e) s (drop (w * n + length s) e)) (take_at (take (w * n) e) (s ++ drop (w * n + length s) e) (w * n) front)

    here : take w (drop (w * n) e') ≡ s
    here =
        rw (stored, append_assoc (take (w * n) e) s (drop (w * n + length s) e), drop_at (take (w * n) e) (s ++ drop (w * n + length s) e) (w * n) front)
        (take_at s (drop (w * n + length s) e) w size)

    both : rows w (n + 1) e' ≡ rows w n e ++ s ∷ []
    both =
        ap (λ (m : ℕ). rows w m e') (add-one n) ∙ rows_snoc w n e'
        ∙ rw (here, rows_agree w n e' e (omega (arith, whole)) (omega (arith, room)) begins) refl

    absent : find s (rows w n e) < length (rows w n e) → ⊥
    absent l = omega (arith, many, is)

    step : w * (n + 1) ≡ w * n + length s
    step = omega (arith, ap (λ (m : ℕ). w * m) (add-one n), mul-suc w n, size)

    number : find s (rows w (n + 1) e') ≡ k
    number = ap (find s) both ∙ find-new s (rows w n e) absent ∙ omega (arith, many, is, find-le s (rows w n e))

    pub met-new : Met w e e' (set h (hash s) (n + 1)) (set x n (get_or h (hash s) 0)) u (set u at k) n at (s ∷ []) (n + 1)
    met-new =
        record {
          known = both ∙ sym (meet-new (rows w n e) s absent);
          tail = rw (step, stored) (drop_at (take (w * n) e ++ s) (drop (w * n + length s) e) (w * n + length s) (omega (arith, fronts, size)));
          from = omega arith;
          to = omega arith;
          numbered = noted ∙ ap (λ (m : ℕ). take at u ++ m ∷ [] ++ drop (at + 1) u) (sym number);
          indexed = subst (λ (ks : List (List ℕ)). Indexed ks (set h (hash s) (n + 1)) (set x n (get_or h (hash s) 0))) (sym both)
              (grown (rows w n e) h x s n ix many links absent);
        }

-- ---- rows that are met one after the other

pub met-none : (w : ℕ) (e h x u : List ℕ) (n at : ℕ) → Indexed (rows w n e) h x → Met w e e h x u u n at [] n
met-none w e h x u n at ix =
    record {
      known = refl;
      tail = refl;
      from = omega arith;
      to = omega arith;
      numbered = rw (append-nil (take at u), add-zero at) (sym (take-append-drop at u));
      indexed = ix;
    }

module _ (w : ℕ) (e e₁ h₁ x₁ e₂ h₂ x₂ u u₁ u₂ : List ℕ) (n m r at at₁ : ℕ) (ts vs : List (List ℕ)) (p : Met w e e₁ h₁ x₁ u u₁ n at ts m) (q : Met w e₁ e₂ h₂ x₂ u₁ u₂ m at₁ vs r) (place : at₁ ≡ at + length ts) (room : at₁ ≤ length u) where
  -- the numbers by the rows after the first meetings, and after all
  first : List (List ℕ) → List ℕ
  first ss = map (λ s. find s (rows w m e₁)) ss

  both-numbers : List (List ℕ) → List ℕ
  both-numbers ss = map (λ s. find s (rows w r e₂)) ss

  same_numbers : first ts ≡ both-numbers ts
  unfolding first both-numbers
  same_numbers = rw (q.known, p.known) (sym (fold-numbers ts vs (rows w n e)))

  ahead : length (take at u ++ first ts) ≡ at₁
  unfolding first
  ahead = length-append (take at u) (first ts) ∙ omega (arith, place, length-take-le at u (omega arith), length-map ts (λ s. find s (rows w m e₁)))

  before : u₁ ≡ take at u ++ first ts ++ drop at₁ u
  unfolding first
  before = p.numbered ∙ ap (λ (i : ℕ). take at u ++ first ts ++ drop i u) (sym place)

  taken : take at₁ u₁ ≡ take at u ++ first ts
  taken = ap (take at₁) before ∙ take_at (take at u ++ first ts) (drop at₁ u) at₁ ahead

  left : drop (at₁ + length vs) u₁ ≡ drop (at + length (ts ++ vs)) u
  left =
      let z : at₁ + length vs ≡ at + length (ts ++ vs) = omega (arith, place, length-append ts vs) in
      sym (drop-drop (length vs) at₁ u₁)
      ∙ ap (drop (length vs)) (ap (drop at₁) before ∙ drop_at (take at u ++ first ts) (drop at₁ u) at₁ ahead)
      ∙ drop-drop (length vs) at₁ u ∙ ap (λ (i : ℕ). drop i u) z

  numbers : u₂ ≡ take at u ++ both-numbers (ts ++ vs) ++ drop (at + length (ts ++ vs)) u
  unfolding both-numbers
  numbers =
      q.numbered
      ∙ ap (λ (l : List ℕ). l ++ both-numbers vs ++ drop (at₁ + length vs) u₁) (taken ∙ ap (λ (l : List ℕ). take at u ++ l) same_numbers)
      ∙ ap (λ (l : List ℕ). take at u ++ both-numbers ts ++ both-numbers vs ++ l) left
      ∙ ap (λ (l : List ℕ). l ++ drop (at + length (ts ++ vs)) u)
      (append_assoc (take at u) (both-numbers ts) (both-numbers vs) ∙ ap (λ (l : List ℕ). take at u ++ l) (sym (map-append (λ s. find s (rows w r e₂)) ts vs)))

  pub met-trans : Met w e e₂ h₂ x₂ u u₂ n at (ts ++ vs) r
  unfolding both-numbers
  met-trans =
      record {
        known = q.known ∙ ap (λ (l : List (List ℕ)). foldl meet l vs) p.known ∙ sym (foldl-append meet (rows w n e) ts vs);
        tail =
            let b : w * m ≤ w * r = mul-le-mul_left w q.from in
            let d : w * m + (w * r - w * m) ≡ w * r = omega arith in
            q.tail ∙ rw (← d, ← drop-drop (w * r - w * m) (w * m) e₁, ← drop-drop (w * r - w * m) (w * m) e) (ap (drop (w * r - w * m)) p.tail);
        from = omega (arith, p.from, q.from);
        to = omega (arith, p.to, q.to, length-append ts vs);
        numbered = numbers;
        indexed = q.indexed;
      }

-- the places after the numbers of the rows that are met are kept
pub met-kept : (w : ℕ) (e e' h x u u' : List ℕ) (n at : ℕ) (ts : List (List ℕ)) (r m : ℕ) → Met w e e' h x u u' n at ts r → at ≤ length u → at + length ts ≤ m → drop m u' ≡ drop m u
met-kept w e e' h x u u' n at ts r m p room l =
    let numbers = map (λ s. find s (rows w r e')) ts in
    let ahead : length (take at u ++ numbers) ≡ at + length ts =
    length-append (take at u) numbers ∙ omega (arith, length-take-le at u room, length-map ts (λ s. find s (rows w r e'))) in
    drop-later u' u (at + length ts) m l
    (ap (drop (at + length ts)) p.numbered ∙ drop_at (take at u ++ numbers) (drop (at + length ts) u) (at + length ts) ahead)

-- ---- from no rows on

zeros : (m a : ℕ) → ◌≡◌ {A = ℕ} (get_or (replicate m 0) a 0) 0
zeros zero a = refl
zeros (suc m) zero = refl
zeros (suc m) (suc a) = zeros m a

-- with no row, zeros chain
pub indexed-none : (h x : List ℕ) (m : ℕ) → m ≡ 32768 → h ≡ replicate m 0 → Indexed [] h x
indexed-none h x m many q =
    let none : (a : ℕ) → ◌≡◌ {A = ℕ} (get_or h a 0) 0 = λ a. ap (λ (l : List ℕ). get_or l a 0) q ∙ zeros m a in
    record {
      distinct = λ i l. absurd (omega arith);
      chains = ap length q ∙ length-replicate m 0 ∙ many;
      links = omega arith;
      head_le = λ a. omega (arith, none a);
      head_in = λ a p. absurd (omega (arith, none a));
      head_last = λ a j b lo hi. absurd (omega arith);
      next_le = λ k l. absurd (omega arith);
      next_in = λ k l. absurd (omega arith);
      next_last = λ k j l. absurd (omega arith);
    }

-- the rows are numbered by first meeting
module _ (w : ℕ) (e e' h x u u' : List ℕ) (ts : List (List ℕ)) (r : ℕ) (p : Met w e e' h x u u' 0 0 ts r) where
  pub met-firsts : rows w r e' ≡ firsts ts
  unfolding rows firsts
  met-firsts = p.known

  pub met-count : r ≡ length (firsts ts)
  met-count = sym (length-rows w r e') ∙ ap length met-firsts

  pub met-rows : w * r ≤ length e' → e' ≡ over (flat (firsts ts)) e
  met-rows room =
      let f : take (w * r) e' ≡ flat (firsts ts) = sym (flat_rows w r e' room) ∙ ap flat met-firsts in
      over-of (flat (firsts ts)) e e' (w * r) f (ap length (sym f) ∙ length-take-le (w * r) e' room) p.tail

  pub met-numbers : u' ≡ over (map (λ s. find s (firsts ts)) ts) u
  unfolding over
  met-numbers =
      let z : 0 + length ts ≡ length (map (λ s. find s (firsts ts)) ts) = omega (arith, length-map ts (λ s. find s (firsts ts))) in
      p.numbered ∙ rw met-firsts (ap (λ (i : ℕ). map (λ s. find s (firsts ts)) ts ++ drop i u) z)

-- ---- room for rows more, while rows are met

pub ready-next : (w : ℕ) (e e' h h' x x' u u' : List ℕ) (n m at at₁ c d : ℕ) (ts : List (List ℕ)) → Ready w e h x u n at c → Met w e e' h' x' u u' n at ts m
    → at₁ ≡ at + length ts → length ts + d ≤ c → length e' ≡ length e → length x' ≡ length x → length u' ≡ length u → Ready w e' h' x' u' m at₁ d
ready-next w e e' h h' x x' u u' n m at at₁ c d ts rd mt place l le lx lu =
    let k : m + d ≤ n + c = omega (arith, mt.to) in
    let b : w * (m + d) ≤ w * (n + c) = mul-le-mul_left w k in
    record {
      indexed = mt.indexed;
      room = omega (arith, rd.room);
      links = omega (arith, rd.links);
      numbers = omega (arith, rd.numbers);
      few = omega (arith, rd.few);
    }
