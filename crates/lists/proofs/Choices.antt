-- The choices of a rising list are the rising lists within it, each once. Assumes nothing.
use mathlib.Core.Path.{◌≡◌, refl, sym, ap, ◌∙◌, subst}
use mathlib.Core.Logic.{⊎_elim}
use mathlib.Core.List.{List, [], ◌∷◌, ◌++◌, map, Memᴰ, tail-eq_of_cons-eq}
use Prim.Native.Nat.{ℕ, zero, suc, ◌<◌}
use native.Mathlib.Nat.{suc_inj}
use native.Mathlib.Omega.{arith}
use lib.ListN.{length}
use Rattle.lists.specs.Lists.{combos, Within, Rising, Once}
use Rattle.lists.proofs.Elements.{once-map, within-rest, within-later}

-- ---- their elements

pub combos-within : (p : List ℕ) (k : ℕ) {t : List ℕ} → Memᴰ t (combos p k) → Within t p
unfolding combos
combos-within [] zero m v n = absurd (mathlib.Core.List.Memᴰ.not-nil (subst (λ (s : List ℕ). Memᴰ v s) (mathlib.Core.List.Memᴰ.eq_of_singleton m) n))
combos-within [] (suc k) m v n = absurd (mathlib.Core.List.Memᴰ.not-nil m)
combos-within (x ∷ xs) zero m v n = absurd (mathlib.Core.List.Memᴰ.not-nil (subst (λ (s : List ℕ). Memᴰ v s) (mathlib.Core.List.Memᴰ.eq_of_singleton m) n))
combos-within (x ∷ xs) (suc k) {t} m v n =
    ⊎_elim
    (λ a.
    let r : (s : List ℕ) × Memᴰ s (combos xs k) × (x ∷ s ≡ t) = mathlib.Core.List.Memᴰ.of_map (λ (s : List ℕ). x ∷ s) (combos xs k) a in
    let n' : Memᴰ v (x ∷ r.0) = subst (λ (s : List ℕ). Memᴰ v s) (sym r.2) n in
    ⊎_elim mathlib.Core.List.Memᴰ.head (λ j. mathlib.Core.List.Memᴰ.tail (combos-within xs k r.1 v j)) (mathlib.Core.List.Memᴰ.cases_cons n'))
    (λ a. mathlib.Core.List.Memᴰ.tail (combos-within xs (suc k) a v n))
    (mathlib.Core.List.Memᴰ.append_cases (map (λ (s : List ℕ). x ∷ s) (combos xs k)) m)

pub combos-length : (p : List ℕ) (k : ℕ) {t : List ℕ} → Memᴰ t (combos p k) → length t ≡ k
unfolding combos
combos-length [] zero m = ap length (mathlib.Core.List.Memᴰ.eq_of_singleton m)
combos-length [] (suc k) m = absurd (mathlib.Core.List.Memᴰ.not-nil m)
combos-length (x ∷ xs) zero m = ap length (mathlib.Core.List.Memᴰ.eq_of_singleton m)
combos-length (x ∷ xs) (suc k) {t} m =
    ⊎_elim
    (λ a.
    let q : (s : List ℕ) × Memᴰ s (combos xs k) × (x ∷ s ≡ t) = mathlib.Core.List.Memᴰ.of_map (λ (s : List ℕ). x ∷ s) (combos xs k) a in
    ap length (sym q.2) ∙ ap suc (combos-length xs k q.1))
    (combos-length xs (suc k))
    (mathlib.Core.List.Memᴰ.append_cases (map (λ (s : List ℕ). x ∷ s) (combos xs k)) m)

rising_choice : (p : List ℕ) (k : ℕ) {t : List ℕ} → Rising p → Memᴰ t (combos p k) → Rising t
unfolding combos
rising_choice [] zero r m = rw (mathlib.Core.List.Memᴰ.eq_of_singleton m) tt
rising_choice [] (suc k) r m = absurd (mathlib.Core.List.Memᴰ.not-nil m)
rising_choice (x ∷ xs) zero r m = rw (mathlib.Core.List.Memᴰ.eq_of_singleton m) tt
rising_choice (x ∷ xs) (suc k) {t} r m =
    ⊎_elim
    (λ a.
    let q : (s : List ℕ) × Memᴰ s (combos xs k) × (x ∷ s ≡ t) = mathlib.Core.List.Memᴰ.of_map (λ (s : List ℕ). x ∷ s) (combos xs k) a in
    rw (← q.2) ((λ v n. r.0 v (combos-within xs k q.1 v n)), rising_choice xs k r.1 q.1))
    (rising_choice xs (suc k) r.1)
    (mathlib.Core.List.Memᴰ.append_cases (map (λ (s : List ℕ). x ∷ s) (combos xs k)) m)

pub combos-rising : (p : List ℕ) (k : ℕ) {t : List ℕ} → Rising p → Memᴰ t (combos p k) → Rising t × (length t ≡ k)
combos-rising p k r m = (rising_choice p k r m, combos-length p k m)

pub combos_has : (p : List ℕ) (k : ℕ) (t : List ℕ) → Rising p → Rising t → length t ≡ k → Within t p → Memᴰ t (combos p k)
unfolding combos
combos_has [] zero [] rp rt l w = mathlib.Core.List.Memᴰ.head refl
combos_has [] zero (a ∷ t) rp rt l w = absurd (omega arith)
combos_has [] (suc k) [] rp rt l w = absurd (omega arith)
combos_has [] (suc k) (a ∷ t) rp rt l w = absurd (mathlib.Core.List.Memᴰ.not-nil (w a (mathlib.Core.List.Memᴰ.head refl)))
combos_has (x ∷ xs) zero [] rp rt l w = mathlib.Core.List.Memᴰ.head refl
combos_has (x ∷ xs) zero (a ∷ t) rp rt l w = absurd (omega arith)
combos_has (x ∷ xs) (suc k) [] rp rt l w = absurd (omega arith)
combos_has (x ∷ xs) (suc k) (a ∷ t) rp rt l w =
    ⊎_elim
    (λ e. mathlib.Core.List.Memᴰ.append_left (combos xs (suc k)) (mathlib.Core.List.Memᴰ.cast (ap (λ (b : ℕ). b ∷ t) e) (mathlib.Core.List.Memᴰ.map (λ (s : List ℕ). x ∷ s) (combos_has xs k t rp.1 rt.1 (suc_inj l) (within-rest a t x xs rt e w)))))
    (λ n. mathlib.Core.List.Memᴰ.append_right (map (λ (s : List ℕ). x ∷ s) (combos xs k)) (combos_has xs (suc k) (a ∷ t) rp.1 rt l (within-later a t x xs rt rp n w)))
    (mathlib.Core.List.Memᴰ.cases_cons (w a (mathlib.Core.List.Memᴰ.head refl)))

-- ---- none stands twice

module _ {A : Type 0} where
  once-append : (xs ys : List A) → Once xs → Once ys → ((a : A) → Memᴰ a xs → Memᴰ a ys → ⊥) → Once (xs ++ ys)
  once-append [] ys o u n = u
  once-append (x ∷ xs) ys o u n =
      ((λ m. ⊎_elim o.0 (n x (mathlib.Core.List.Memᴰ.head refl)) (mathlib.Core.List.Memᴰ.append_cases xs m)), once-append xs ys o.1 u (λ a k. n a (mathlib.Core.List.Memᴰ.tail k)))

pub combos-once : (p : List ℕ) (k : ℕ) → Rising p → Once (combos p k)
unfolding combos
combos-once [] zero r = (mathlib.Core.List.Memᴰ.not-nil, tt)
combos-once [] (suc k) r = tt
combos-once (x ∷ xs) zero r = (mathlib.Core.List.Memᴰ.not-nil, tt)
combos-once (x ∷ xs) (suc k) r =
    once-append (map (λ (s : List ℕ). x ∷ s) (combos xs k)) (combos xs (suc k)) (once-map (λ (s : List ℕ). x ∷ s) (combos xs k) (combos-once xs k r.1) (λ a b m n e. tail-eq_of_cons-eq e)) (combos-once xs (suc k) r.1)
    (λ a m n.
    let w : (s : List ℕ) × Memᴰ s (combos xs k) × (x ∷ s ≡ a) = mathlib.Core.List.Memᴰ.of_map (λ (s : List ℕ). x ∷ s) (combos xs k) m in
    let c : x < x = r.0 x (combos-within xs (suc k) n x (subst (λ (l : List ℕ). Memᴰ x l) w.2 (mathlib.Core.List.Memᴰ.head refl))) in
    omega arith)
