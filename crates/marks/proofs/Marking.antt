-- Marks: which numbers a list of marks has, and loops over them. Assumes nothing.
use Rattle.std.specs.List.{list_any}
use Rattle.std.proofs.lemmas.List.{get_or-drop}
use Rattle.std.proofs.lemmas.List.Folds.{list_any_more}
use Prim.Native.Nat.{ℕ, zero, suc, ◌+◌, ◌-◌, ◌≤◌, ◌<◌}
use mathlib.Core.Bool.{Bool, true, false, true≢false, cond, ◌||◌}
use mathlib.Core.List.Memᴰ
use mathlib.Core.List.{List, [], ◌∷◌, ◌++◌, append-nil, foldl, foldl-append, Memᴰ}
use mathlib.Core.Logic.{⊎_elim}
use mathlib.Core.Path.{◌≡◌, refl, sym, ap, ◌∙◌, subst}
use native.Mathlib.Nat.{add-zero}
use native.Mathlib.Numerals.{add-one}
use native.Mathlib.Omega.{arith}
use lib.ListN.{length, get_or, set, take, replicate, drop, length-drop, length-set, length-replicate, get_or-replicate, length-append, get_or-append}
use lib.Seq.{drop-cons, drop-length, get_or-set_same, get_or-set_other, get_or-take, length-take-le, lt-length-set, take-suc}
use Rattle.lists.specs.Lists.{keep, gather, upto, among, Once}
use Rattle.lists.specs.Rows.{over}
use Rattle.lists.specs.Groups.{Below}
use Rattle.lists.specs.Loops.{scatter}
use Rattle.lists.proofs.Tests.{Says, pass, fail, passes, denied, eqb-says}
use Rattle.lists.proofs.Elements.{get_or-mem, keep_same, keep_snoc, keep-only, mem-upto, gather-snoc, among-says}
use Rattle.lists.proofs.Loops.{scatter-append}
use Rattle.complex.specs.Complex.{holding}
use Rattle.complex.specs.Builder.{repeats}
use Rattle.complex.proofs.Lying.{mem-holding}
use Rattle.complex.proofs.Offences.{or-false, once-of}
use Rattle.complex.proofs.Laws.{no-repeat}
use Rattle.marks.specs.Marks.{met, listed, marked, marked_below, first_marked, next_marked}

-- ---- scratch

-- room for a number in a list of scratch
pub scratch-room : {A : Type 0} (m : ℕ) (large : m ≡ 81920) (x : A) (xs : List A) → xs ≡ replicate m x → (n : ℕ) → n ≤ 81920 → n ≤ length xs
scratch-room m large x xs e n h = omega (arith, ap length e, length-replicate m x)

-- ---- marks

-- marking keeps the length
pub length_marked : (xs : List ℕ) (ms : List Bool) → length (marked xs ms) ≡ length ms
unfolding marked
length_marked [] ms = refl
length_marked (x ∷ xs) ms = length_marked xs (set ms x true) ∙ length-set ms x true

-- what stands at a place after marking
pub marked-at : (xs : List ℕ) (ms : List Bool) (t : ℕ) → t < length ms → get_or (marked xs ms) t false ≡ (among t xs || get_or ms t false)
unfolding marked among
marked-at [] ms t h = refl
marked-at (x ∷ xs) ms t h = marked-at xs (set ms x true) t (lt-length-set ms x true h) ∙ go (eqb-says t x) (among t xs)
  where
    go : {b : Bool} → Says (t ≡ x) b → (c : Bool) → (c || get_or (set ms x true) t false) ≡ ((b || c) || get_or ms t false)
    go (pass e) true = refl
    go (pass e) false = ap (λ (i : ℕ). get_or (set ms i true) t false) (sym e) ∙ get_or-set_same ms t true false h
    go (fail n) true = refl
    go (fail n) false = get_or-set_other ms x t true false n

-- a number is marked in a list of no marks where it is among the numbers
pub mark-says : (xs : List ℕ) (m t : ℕ) → t < m → get_or (marked xs (replicate m false)) t false ≡ among t xs
mark-says xs m t h = marked-at xs (replicate m false) t (rw length-replicate h) ∙ ap (λ (b : Bool). among t xs || b) (get_or-replicate m t false false h) ∙ go (among t xs)
  where
    go : (b : Bool) → (b || false) ≡ b
    go true = refl
    go false = refl

module _ (m : ℕ) (ms : List Bool) (xs : List ℕ) (t : ℕ) (h : t < m) (e : ms ≡ marked xs (replicate m false)) where
  -- a mark that is found is that of a number of the list
  pub mark-found : get_or ms t false ≡ true → among t xs ≡ true
  mark-found g = sym (mark-says xs m t h) ∙ rw (← e) g

  -- a mark that is missing is that of none
  pub mark-missing : get_or ms t false ≡ false → among t xs ≡ false
  mark-missing g = sym (mark-says xs m t h) ∙ rw (← e) g

-- so the marked numbers are those of the list
pub marked-listed : (xs : List ℕ) (n m : ℕ) → n ≤ m → marked_below n (marked xs (replicate m false)) ≡ listed n xs
unfolding marked_below listed
marked-listed xs n m h = keep_same (λ t. get_or (marked xs (replicate m false)) t false) (λ t. among t xs) (upto n) (λ t k. mark-says xs m t (omega (arith, mem-upto n t k)))

-- the marks of the first n numbers alone have the marked numbers below n
pub marked-front : (marks : List Bool) (n : ℕ) → n ≤ length marks → marked_below (length (take n marks)) (take n marks) ≡ marked_below n marks
unfolding marked_below
marked-front marks n h =
    ap (λ k. keep (λ t. get_or (take n marks) t false) (upto k)) (length-take-le n marks h)
    ∙ keep_same (λ t. get_or (take n marks) t false) (λ t. get_or marks t false) (upto n) (λ t k. get_or-take n marks t false (mem-upto n t k))

-- ---- one number more

-- one number more is marked
pub marked_next : (xs : List ℕ) (ms : List Bool) (k : ℕ) → k < length xs → marked (take (k + 1) xs) ms ≡ set (marked (take k xs) ms) (get_or xs k 0) true
unfolding marked
marked_next xs ms k h =
    ap (λ (l : List ℕ). foldl (λ ms t. set ms t true) ms l) (ap (λ (n : ℕ). take n xs) (add-one k) ∙ take-suc xs k 0 h)
    ∙ foldl-append (λ ms t. set ms t true) ms (take k xs) (get_or xs k 0 ∷ [])

-- numbers after others
pub marked_append : (xs ys : List ℕ) (ms : List Bool) → marked (xs ++ ys) ms ≡ marked ys (marked xs ms)
unfolding marked
marked_append xs ys ms = foldl-append (λ ms t. set ms t true) ms xs ys

-- the rows that one edge more meets
pub met_next : (rs es : List (List ℕ)) (free : List ℕ) (k : ℕ) → k < length free → met rs es (take (k + 1) free) ≡ met rs es (take k free) ++ holding rs (get_or es (get_or free k 0) [])
unfolding met
met_next rs es free k h =
    ap (λ (l : List ℕ). gather (λ e. holding rs (get_or es e [])) l) (ap (λ (n : ℕ). take n free) (add-one k) ∙ take-suc free k 0 h)
    ∙ gather-snoc (λ e. holding rs (get_or es e [])) (take k free) (get_or free k 0)

-- they have places in lists with one for each row
pub holding-below : (rs : List (List ℕ)) (s own : List ℕ) → own ≡ holding rs s → (n : ℕ) → length rs ≤ n → Below own n
holding-below rs s own e n h k l = let m = mem-holding rs s (subst (λ (x : List ℕ). Memᴰ (get_or own k 0) x) e (get_or-mem own k 0 l)) in omega (arith, m.0)

module _ (marks : List Bool) (t : ℕ) where
  step : (b : Bool) → get_or marks t false ≡ b → marked_below (t + 1) marks ≡ marked_below t marks ++ cond b (t ∷ []) []
  unfolding marked_below upto
  step b e = ap (λ (n : ℕ). keep (λ t. get_or marks t false) (upto n)) (add-one t) ∙ keep_snoc (λ t. get_or marks t false) (upto t) t ∙ ap (λ (c : Bool). keep (λ t. get_or marks t false) (upto t) ++ cond c (t ∷ []) []) e

  -- a marked number is listed
  pub marked-here : get_or marks t false ≡ true → marked_below (t + 1) marks ≡ marked_below t marks ++ t ∷ []
  marked-here e = step true e

  -- another is passed over
  pub marked-past : get_or marks t false ≡ false → marked_below (t + 1) marks ≡ marked_below t marks
  marked-past e = step false e ∙ append-nil (marked_below t marks)

-- there are no fewer below a larger number
marked_more : (marks : List Bool) (n d : ℕ) → length (marked_below n marks) ≤ length (marked_below (n + d) marks)
marked_more marks n zero = ap≤ (add-zero n)
  where
    ap≤ : n + zero ≡ n → length (marked_below n marks) ≤ length (marked_below (n + zero) marks)
    ap≤ e = rw e (omega arith)
marked_more marks n (suc d) = go (get_or marks (n + d) false) refl (marked_more marks n d)
  where
    go : (b : Bool) → get_or marks (n + d) false ≡ b → length (marked_below n marks) ≤ length (marked_below (n + d) marks) → length (marked_below n marks) ≤ length (marked_below (n + suc d) marks)
    go b e r =
        let s : n + suc d ≡ n + d + 1 = omega arith in
        let l : length (marked_below (n + suc d) marks) ≡ length (marked_below (n + d) marks) + length (cond b ((n + d) ∷ []) []) = ap (λ (k : ℕ). length (marked_below k marks)) s ∙ ap length (step marks (n + d) b e) ∙ length-append (marked_below (n + d) marks) (cond b ((n + d) ∷ []) []) in
        omega arith

-- a marked number has its place among all
pub marked-room : (marks : List Bool) (t n : ℕ) → t < n → get_or marks t false ≡ true → length (marked_below t marks) < length (marked_below n marks)
marked-room marks t n h e =
    let s : t + 1 + (n - (t + 1)) ≡ n = omega arith in
    let l : length (marked_below (t + 1) marks) ≡ length (marked_below t marks) + 1 = ap length (marked-here marks t e) ∙ length-append (marked_below t marks) (t ∷ []) in
    let m : length (marked_below (t + 1) marks) ≤ length (marked_below n marks) = subst (λ (k : ℕ). length (marked_below (t + 1) marks) ≤ length (marked_below k marks)) s (marked_more marks (t + 1) (n - (t + 1))) in
    omega arith

none_below : (marks : List Bool) → marked_below zero marks ≡ []
unfolding marked_below upto keep
none_below marks = refl

-- there are at most n below n
pub marked-most : (marks : List Bool) (n : ℕ) → length (marked_below n marks) ≤ n
marked-most marks zero = rw (none_below marks) (omega arith)
marked-most marks (suc n) = go (get_or marks n false) refl (marked-most marks n)
  where
    go : (b : Bool) → get_or marks n false ≡ b → length (marked_below n marks) ≤ n → length (marked_below (suc n) marks) ≤ suc n
    go true e r = omega (arith, ap (λ (k : ℕ). length (marked_below k marks)) (sym (add-one n)), ap length (step marks n true e), length-append (marked_below n marks) (n ∷ []))
    go false e r = omega (arith, ap (λ (k : ℕ). length (marked_below k marks)) (sym (add-one n)), ap length (marked-past marks n e))

-- ---- the next mark

-- a walk over marks stands at one, or behind the last
pub record AtMark (marks : List Bool) (t : ℕ) : Type 0 where
  pub within : t ≤ length marks
  pub mark : t < length marks → get_or marks t false ≡ true

module _ (marks : List Bool) where
  -- from a mark on it is the next one
  pub next-here : (t : ℕ) → t < length marks → get_or marks t false ≡ true → next_marked t marks ≡ t
  unfolding next_marked first_marked
  next-here t h e =
      ap (λ (l : List Bool). t + first_marked l) (drop-cons marks t false h)
      ∙ ap (λ (b : Bool). t + cond b 0 (first_marked (drop (suc t) marks) + 1)) e
      ∙ add-zero t

  -- a number that is not marked is passed over
  pub next-past : (t : ℕ) → t < length marks → get_or marks t false ≡ false → next_marked t marks ≡ next_marked (t + 1) marks
  unfolding next_marked first_marked
  next-past t h e =
      let one : t + (first_marked (drop (t + 1) marks) + 1) ≡ t + 1 + first_marked (drop (t + 1) marks) = omega arith in
      ap (λ (l : List Bool). t + first_marked l) (drop-cons marks t false h)
      ∙ ap (λ (b : Bool). t + cond b 0 (first_marked (drop (suc t) marks) + 1)) e
      ∙ ap (λ (n : ℕ). t + (first_marked (drop n marks) + 1)) (sym (add-one t))
      ∙ one

  -- so are n of them
  pub next-far : (t n : ℕ) → t + n ≤ length marks → list_any (λ mark. mark) (take n (drop t marks)) ≡ false → next_marked t marks ≡ next_marked (t + n) marks
  next-far t zero h e = ap (λ (k : ℕ). next_marked k marks) (sym (add-zero t))
  next-far t (suc n) h e =
      let more = list_any_more (λ mark. mark) (drop t marks) n false (omega (arith, length-drop t marks)) in
      let both = or-false (list_any (λ mark. mark) (take n (drop t marks))) (get_or (drop t marks) n false) (sym more ∙ ap (λ (k : ℕ). list_any (λ mark. mark) (take k (drop t marks))) (add-one n) ∙ e) in
      let turn : t + n + 1 ≡ t + suc n = omega arith in
      next-far t n (omega arith) both.0
      ∙ next-past (t + n) (omega arith) (sym (get_or-drop t marks n false) ∙ both.1)
      ∙ ap (λ (k : ℕ). next_marked k marks) turn

  -- behind the last mark there is none
  pub next-end : (t : ℕ) → t ≡ length marks → next_marked t marks ≡ t
  unfolding next_marked first_marked
  next-end t e = ap (λ (l : List Bool). t + first_marked l) (ap (λ (n : ℕ). drop n marks) e ∙ drop-length marks) ∙ add-zero t

  -- none is passed over
  next-law : (d t : ℕ) → length marks ≡ t + d → AtMark marks (next_marked t marks) × (marked_below (next_marked t marks) marks ≡ marked_below t marks)
  next-law zero t e =
      subst (λ (k : ℕ). AtMark marks k × (marked_below k marks ≡ marked_below t marks)) (sym (next-end t (omega arith)))
      (record { within = omega arith; mark = λ h. absurd (omega arith) }, refl)
  next-law (suc d) t e = go (get_or marks t false) refl (next-law d (t + 1) (omega arith))
    where
      go : (b : Bool) → get_or marks t false ≡ b → AtMark marks (next_marked (t + 1) marks) × (marked_below (next_marked (t + 1) marks) marks ≡ marked_below (t + 1) marks)
          → AtMark marks (next_marked t marks) × (marked_below (next_marked t marks) marks ≡ marked_below t marks)
      go true m r = subst (λ (k : ℕ). AtMark marks k × (marked_below k marks ≡ marked_below t marks)) (sym (next-here t (omega arith) m)) (record { within = omega arith; mark = λ h. m }, refl)
      go false m r = subst (λ (k : ℕ). AtMark marks k × (marked_below k marks ≡ marked_below t marks)) (sym (next-past t (omega arith) m)) (r.0, r.1 ∙ marked-past marks t m)

  module _ (from t : ℕ) (h : from ≤ length marks) (e : t ≡ next_marked from marks) where
    -- it is marked, where it is below the length
    pub next-stands : AtMark marks t
    next-stands = subst (AtMark marks) (sym e) (next-law (length marks - from) from (omega arith)).0

    -- and nothing is marked between
    next-same : marked_below t marks ≡ marked_below from marks
    next-same = ap (λ (k : ℕ). marked_below k marks) e ∙ (next-law (length marks - from) from (omega arith)).1

    -- a walk goes on
    pub next-on : from ≤ t
    unfolding next_marked
    next-on = omega (arith, e)

  -- before the first mark there is none
  pub next-first : (t : ℕ) → t ≡ next_marked 0 marks → marked_below t marks ≡ []
  next-first t e = next-same 0 t (omega arith) e ∙ none_below marks

  module _ (t next : ℕ) (at : AtMark marks t) (h : t < length marks) (e : next ≡ next_marked (t + 1) marks) where
    -- one number more is below the next mark
    pub next-one : marked_below next marks ≡ marked_below t marks ++ t ∷ []
    next-one = next-same (t + 1) next (omega arith) e ∙ marked-here marks t (at.mark h)

-- a walk over the first n marks that stands behind the last has met what is marked below n
pub walk-ended : (marks : List Bool) (n t : ℕ) → n ≤ length marks → AtMark (take n marks) t → length (take n marks) ≤ t → marked_below t (take n marks) ≡ marked_below n marks
walk-ended marks n t h at e =
    let end : t ≡ length (take n marks) = omega (arith, at.within) in
    ap (λ (k : ℕ). marked_below k (take n marks)) end ∙ marked-front marks n h

-- ---- loops over marked numbers

module _ {S X : Type 0} (d : S) (f : S → X → S) (event : ℕ → List (ℕ × X)) (marks : List Bool) (t : ℕ) (at : AtMark marks t) (h : t < length marks) (old now : List S) (was : now ≡ scatter d f (gather event (marked_below t marks)) old) where
  -- the events of a marked number, as a walk leaves them where it goes on to the next one
  pub scatter-marked : (es : List (ℕ × X)) → es ≡ event t → (new : List S) → new ≡ scatter d f es now → (next : ℕ) → next ≡ next_marked (t + 1) marks → new ≡ scatter d f (gather event (marked_below next marks)) old
  scatter-marked es e new is next n =
      is
      ∙ rw (e, was) (sym (scatter-append d f (gather event (marked_below t marks)) (event t) old))
      ∙ ap (λ (l : List (ℕ × X)). scatter d f l old) (sym (gather-snoc event (marked_below t marks) t))
      ∙ ap (λ (l : List ℕ). scatter d f (gather event l) old) (sym (next-one marks t next at h n))

-- ---- numbers that stand twice

-- a number that stands among those before it
pub stands-again : (ys zs : List ℕ) (e : ℕ) → among e ys ≡ true → repeats (ys ++ e ∷ zs) ≡ true
unfolding among repeats
stands-again [] zs e h = absurd (true≢false (sym h))
stands-again (y ∷ ys) zs e h = go (eqb-says e y) h (stands-again ys zs e)
  where
    or-true : (c : Bool) → (c || true) ≡ true
    or-true true = refl
    or-true false = refl

    go : {b : Bool} → Says (e ≡ y) b → (b || among e ys) ≡ true → (among e ys ≡ true → repeats (ys ++ e ∷ zs) ≡ true) → (among y (ys ++ e ∷ zs) || repeats (ys ++ e ∷ zs)) ≡ true
    go (pass q) k r = ap (λ (c : Bool). c || repeats (ys ++ e ∷ zs)) (passes (among-says y (ys ++ e ∷ zs)) (Memᴰ.append_right ys (Memᴰ.head (sym q))))
    go (fail n) k r = ap (λ (c : Bool). among y (ys ++ e ∷ zs) || c) (r k) ∙ or-true (among y (ys ++ e ∷ zs))

-- one number more that is not among those before it
pub stands-once : (xs : List ℕ) (x : ℕ) → repeats xs ≡ false → among x xs ≡ false → repeats (xs ++ x ∷ []) ≡ false
stands-once xs x r a = no-repeat (xs ++ x ∷ []) (once-snoc xs x (once-of xs r) (denied (among-says x xs) a))
  where
    once-snoc : (xs : List ℕ) (x : ℕ) → Once xs → (Memᴰ x xs → ⊥) → Once (xs ++ x ∷ [])
    once-snoc [] x o n = (Memᴰ.not-nil, tt)
    once-snoc (y ∷ xs) x o n =
        ((λ m. ⊎_elim o.0 (λ k. ⊎_elim (λ e. n (Memᴰ.head (sym e))) Memᴰ.not-nil (Memᴰ.cases_cons k)) (Memᴰ.append_cases xs m)), once-snoc xs x o.1 (λ m. n (Memᴰ.tail m)))

-- a number that was listed is below the bound
pub listed_below : (n : ℕ) (marks : List Bool) (old new : List ℕ) → new ≡ over (marked_below n marks) old → (k : ℕ) → k < length (marked_below n marks) → get_or new k 0 < n
unfolding over marked_below
listed_below n marks old new e k h =
    let own = keep (λ t. get_or marks t false) (upto n) in
    mem-upto n (get_or new k 0) (keep-only (λ t. get_or marks t false) (upto n) (subst (λ (i : ℕ). Memᴰ i own) (sym (ap (λ (xs : List ℕ). get_or xs k 0) e ∙ get_or-append own (drop (length own) old) 0 k h)) (get_or-mem own k 0 h)))
