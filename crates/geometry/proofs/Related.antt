-- The cofactors of three algebras at once: a relation between their elements that the operations keep holds of the cofactors. Assumes nothing.
use Prim.Native.Nat.{ℕ, zero, suc, ◌+◌, ◌%◌, ◌<◌}
use mathlib.Core.Bool.{Bool, true, false, cond}
use mathlib.Core.List.{List, [], ◌∷◌}
use lib.Dec.{eqb, lit<}
use lib.ListN.{get_or}
use Rattle.floats.specs.Algebra.{Algebra}
use Rattle.floats.proofs.Related.{Closed, Lists, none, more, get_or_related}
use Rattle.geometry.specs.Determinant.{at, skip, minor, sign, det3, expand, det4, det5, cofactor}
use Rattle.geometry.specs.CayleyMenger.{cm}
use Rattle.geometry.proofs.Tables.{table_related}

-- three matrices whose entries are related
pub record Matrices (A B C : Type 0) (o : Algebra A) (p : Algebra B) (q : Algebra C) (R : A → B → C → Type 0) : Type 0 where
  pub x : List (List A)
  pub y : List (List B)
  pub w : List (List C)
  pub entry : (i j : ℕ) → R (at o x i j) (at p y i j) (at q w i j)

module _ (A B C : Type 0) (o : Algebra A) (p : Algebra B) (q : Algebra C) (R : A → B → C → Type 0) (κ : Closed A B C o p q R) where
  abbrev M : Type 0
  M = Matrices A B C o p q R

  -- rows whose entries are related
  abbrev Rows : List A → List B → List C → Type 0
  Rows x y w = (j : ℕ) → R (get_or x j o.out) (get_or y j p.out) (get_or w j q.out)

  minor-entry : (n row col : ℕ) (m : M) (i j : ℕ) → R (at o (minor o n m.x row col) i j) (at p (minor p n m.y row col) i j) (at q (minor q n m.w row col) i j)
  unfolding minor at
  minor-entry n row col m i j =
      table_related (List A) (List B) (List C) Rows [] [] [] (λ j. κ.out) n _ _ _
      (λ i. table_related A B C R o.out p.out q.out κ.out n _ _ _ (λ j. m.entry (skip row i) (skip col j)))
      i j

  minors : (n row col : ℕ) → M → M
  minors n row col m = record { x = minor o n m.x row col; y = minor p n m.y row col; w = minor q n m.w row col; entry = minor-entry n row col m }

  sign_related : (n : ℕ) → R (sign o n) (sign p n) (sign q n)
  unfolding sign
  sign_related n = go (eqb (n % 2) 0)
    where
      go : (u : Bool) → R (cond u o.one o.minus_one) (cond u p.one p.minus_one) (cond u q.one q.minus_one)
      go true = κ.one
      go false = κ.minus_one

  det3_related : (m : M) → R (det3 o m.x) (det3 p m.y) (det3 q m.w)
  unfolding det3
  det3_related m =
      let e = m.entry in
      κ.add
      (κ.sub
      (κ.mul (e 0 0) (κ.sub (κ.mul (e 1 1) (e 2 2)) (κ.mul (e 1 2) (e 2 1))))
      (κ.mul (e 0 1) (κ.sub (κ.mul (e 1 0) (e 2 2)) (κ.mul (e 1 2) (e 2 0)))))
      (κ.mul (e 0 2) (κ.sub (κ.mul (e 1 0) (e 2 1)) (κ.mul (e 1 1) (e 2 0))))

  module _ (d : List (List A) → A) (e : List (List B) → B) (f : List (List C) → C) (det-related : (m : M) → R (d m.x) (e m.y) (f m.w)) where
    expand_related : (n : ℕ) (m : M) (k : ℕ) → R (expand o d n m.x k) (expand p e n m.y k) (expand q f n m.w k)
    unfolding expand minors
    expand_related n m zero = κ.zero
    expand_related n m (suc k) = κ.add (expand_related n m k) (κ.mul (κ.mul (sign_related k) (m.entry 0 k)) (det-related (minors n 0 k m)))

  det4_related : (m : M) → R (det4 o m.x) (det4 p m.y) (det4 q m.w)
  unfolding det4
  det4_related m = expand_related (det3 o) (det3 p) (det3 q) det3_related 3 m 4

  det5_related : (m : M) → R (det5 o m.x) (det5 p m.y) (det5 q m.w)
  unfolding det5
  det5_related m = expand_related (det4 o) (det4 p) (det4 q) det4_related 4 m 5

  pub cofactor_related : (m : M) (row col : ℕ) → R (cofactor o m.x row col) (cofactor p m.y row col) (cofactor q m.w row col)
  unfolding cofactor minors
  cofactor_related m row col = κ.mul (sign_related (row + col)) (det5_related (minors 5 row col m))

  -- six related elements make related rows
  row : {a b c d e f : A} {a' b' c' d' e' f' : B} {a'' b'' c'' d'' e'' f'' : C}
      → R a a' a'' → R b b' b'' → R c c' c'' → R d d' d'' → R e e' e'' → R f f' f''
      → Lists A B C R (a ∷ b ∷ c ∷ d ∷ e ∷ f ∷ []) (a' ∷ b' ∷ c' ∷ d' ∷ e' ∷ f' ∷ []) (a'' ∷ b'' ∷ c'' ∷ d'' ∷ e'' ∷ f'' ∷ [])
  row a b c d e f = more a (more b (more c (more d (more e (more f none)))))

  module _ (x : List A) (y : List B) (w : List C) (s : (k : ℕ) → k < 10 → R (get_or x k o.out) (get_or y k p.out) (get_or w k q.out)) where
    cm-rows : Lists (List A) (List B) (List C) (Lists A B C R) (cm o x) (cm p y) (cm q w)
    unfolding cm
    cm-rows =
        let O = κ.zero in
        let I = κ.one in
        let s0 = s 0 (lit< tt) in
        let s1 = s 1 (lit< tt) in
        let s2 = s 2 (lit< tt) in
        let s3 = s 3 (lit< tt) in
        let s4 = s 4 (lit< tt) in
        let s5 = s 5 (lit< tt) in
        let s6 = s 6 (lit< tt) in
        let s7 = s 7 (lit< tt) in
        let s8 = s 8 (lit< tt) in
        let s9 = s 9 (lit< tt) in
        more (row O I I I I I)
        (more (row I O s0 s1 s2 s3)
        (more (row I s0 O s4 s5 s6)
        (more (row I s1 s4 O s7 s8)
        (more (row I s2 s5 s7 O s9)
        (more (row I s3 s6 s8 s9 O)
        none)))))

    cm-entry : (i j : ℕ) → R (at o (cm o x) i j) (at p (cm p y) i j) (at q (cm q w) i j)
    unfolding at
    cm-entry i j = get_or_related A B C R o.out p.out q.out κ.out (get_or_related (List A) (List B) (List C) (Lists A B C R) [] [] [] none cm-rows i) j

    -- the three matrices
    abbrev related-cm : M
    related-cm = record { x = cm o x; y = cm p y; w = cm q w; entry = cm-entry }

    pub cm-cofactor_related : (row col : ℕ) → R (cofactor o (cm o x) row col) (cofactor p (cm p y) row col) (cofactor q (cm q w) row col)
    cm-cofactor_related = cofactor_related related-cm

    -- the determinants of four rows that the border's 0 multiplies
    pub first-related : (row col : ℕ) → R (det4 o (minor o 4 (minor o 5 (cm o x) row col) 0 0)) (det4 p (minor p 4 (minor p 5 (cm p y) row col) 0 0)) (det4 q (minor q 4 (minor q 5 (cm q w) row col) 0 0))
    unfolding minors
    first-related i j = det4_related (minors 4 0 0 (minors 5 i j related-cm))
