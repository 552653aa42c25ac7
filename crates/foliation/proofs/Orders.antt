-- The 24 orders of the axes: each has four steps, and the corners that it meets are apart. Assumes nothing.
use Prim.Native.Nat.{ℕ, zero, suc, ◌+◌, ◌*◌, ◌/◌, ◌%◌, ◌^◌, ◌≤◌, ◌<◌}
use mathlib.Core.Path.{◌≡◌, refl, sym, ap, ◌∙◌}
use mathlib.Core.Logic.{⊎_elim}
use mathlib.Core.List.Memᴰ
use mathlib.Core.List.{List, [], ◌∷◌, map, map-map, Memᴰ}
use native.Mathlib.Nat.{zero-add, mod_self, mod-eq_of_lt, mod-add-mod, add-mul-mod_self_left, add-mul-div_left, div-eq_of_lt, div-div-eq-div-mul}
use native.Mathlib.Omega.{arith}
use lib.ListN.{length, get_or}
use Rattle.lists.specs.Lists.{gather, upto, Once}
use Rattle.lists.specs.Sorting.{sort}
use Rattle.lists.proofs.Tests.{said, lt-or-ge}
use Rattle.lists.proofs.Elements.{get_or-mem, map_at, once-map}
use Rattle.lists.proofs.Sorting.{length-sort, rising-once}
use Rattle.comparison.specs.CheckParts.{rises, all_rise}
use Rattle.comparison.proofs.Rises.{RisesBelow, AllRise, all-rise-says}
use Rattle.foliation.specs.declared.Lattice.{Lattice}
use Rattle.foliation.specs.declared.coords.Coords.{Coords}
use Rattle.foliation.specs.Lattice.{coords, vertex, swap, permute, orders, stepped, corners, path}
use Rattle.foliation.proofs.Sizes.{Lawful, remainder-below}

-- ---- four steps

-- the order of a number
pub order-at : (i : ℕ) → i < 24 → Memᴰ (get_or orders i []) orders
unfolding orders permute swap gather upto
order-at i h = get_or-mem orders i [] h

-- each order has four steps
order-four : {o : List ℕ} → Memᴰ o orders → length o ≡ 4
unfolding orders permute swap gather upto
order-four m = map_at length (λ o. 4) [] orders refl m

-- a list of four numbers
four-of : (o : List ℕ) → length o ≡ 4 → o ≡ get_or o 0 0 ∷ get_or o 1 0 ∷ get_or o 2 0 ∷ get_or o 3 0 ∷ []
four-of [] h = absurd (omega arith)
four-of (a ∷ []) h = absurd (omega arith)
four-of (a ∷ b ∷ []) h = absurd (omega arith)
four-of (a ∷ b ∷ c ∷ []) h = absurd (omega arith)
four-of (a ∷ b ∷ c ∷ d ∷ []) h = refl
four-of (a ∷ b ∷ c ∷ d ∷ e ∷ o) h = absurd (omega arith)

-- the pentachoron of four steps, one after the other
pub path-steps : (l : Lattice) (a : Coords) {o : List ℕ} → Memᴰ o orders
    → (let b = stepped a (get_or o 0 0) in let c = stepped b (get_or o 1 0) in let d = stepped c (get_or o 2 0) in let e = stepped d (get_or o 3 0) in
    path l a o ≡ sort (vertex l a ∷ vertex l b ∷ vertex l c ∷ vertex l d ∷ vertex l e ∷ []))
unfolding path corners
path-steps l a {o} m = ap (path l a) (four-of o (order-four m))

-- it has five vertices
pub path-five : (l : Lattice) (c : Coords) {o : List ℕ} → Memᴰ o orders → length (path l c o) ≡ 5
path-five l c m = ap length (path-steps l c m) ∙ length-sort _

-- ---- corners of a cell

-- n or the number after it
abbrev up : ℕ → ℕ → ℕ
up zero n = n
up (suc b) n = n + 1

-- the corner of a cell whose steps are the binary digits of m
abbrev corner : Coords → ℕ → Coords
corner c m = coords (up (m % 2) c.t) (up (m / 2 % 2) c.x) (up (m / 4 % 2) c.y) (up (m / 8 % 2) c.z)

-- the corners that are met in some order, by the numbers of their steps
marks : ℕ → List ℕ → List ℕ
marks m [] = m ∷ []
marks m (axis ∷ order) = m ∷ marks (m + 2 ^ axis) order

corners-marked : (c : Coords) {o : List ℕ} → Memᴰ o orders → corners c o ≡ map (corner c) (marks 0 o)
unfolding orders permute swap gather upto corners stepped marks
corners-marked c m = map_at (corners c) (λ o. map (corner c) (marks 0 o)) [] orders refl m

marks-rise : AllRise 16 (map (marks 0) orders)
unfolding orders permute swap gather upto marks rises all_rise
marks-rise = said (all-rise-says 16 (map (marks 0) orders)) refl

-- ---- corners are apart

-- digits are told by the number
digits_same : (n a b a' b' : ℕ) → a < n → a' < n → a + n * b ≡ a' + n * b' → (a ≡ a') × (b ≡ b')
digits_same n a b a' b' h h' e =
    let low : (a b : ℕ) → a < n → (a + n * b) % n ≡ a = λ a b h. add-mul-mod_self_left a n b ∙ mod-eq_of_lt h in
    let high : (a b : ℕ) → a < n → (a + n * b) / n ≡ b = λ a b h. add-mul-div_left a b (omega arith) ∙ ap (λ (q : ℕ). q + b) (div-eq_of_lt h) ∙ zero-add b in
    (sym (low a b h) ∙ ap (λ (v : ℕ). v % n) e ∙ low a' b' h', sym (high a b h) ∙ ap (λ (v : ℕ). v / n) e ∙ high a' b' h')

-- a periodic axis of two points or more takes a number and the next to different points
next-apart : (v n : ℕ) → 2 ≤ n → v % n ≡ (v + 1) % n → ⊥
next-apart v n h e =
    let r : v % n < n = remainder-below v n h in
    let f : v % n ≡ (v % n + 1) % n = e ∙ sym (mod-add-mod v n 1) in
    ⊎_elim
    (λ (k : v % n + 1 < n). let z : (v % n + 1) % n ≡ v % n + 1 = mod-eq_of_lt k in omega arith)
    (λ (k : n ≤ v % n + 1). let q : v % n + 1 ≡ n = omega arith in let z : (v % n + 1) % n ≡ 0 = ap (λ (m : ℕ). m % n) q ∙ mod_self n in omega arith)
    (lt-or-ge (v % n + 1) n)

-- so a step is told by the point
step_same : (v n b b' : ℕ) → 2 ≤ n → b < 2 → b' < 2 → up b v % n ≡ up b' v % n → b ≡ b'
step_same v n zero zero h l l' e = refl
step_same v n zero (suc b') h l l' e = absurd (next-apart v n h e)
step_same v n (suc b) zero h l l' e = absurd (next-apart v n h (sym e))
step_same v n (suc b) (suc b') h l l' e = omega arith

-- a number is told by its last binary digit and the others
bit-same : (m n : ℕ) → m % 2 ≡ n % 2 → m / 2 ≡ n / 2 → m ≡ n
bit-same m n e h = omega arith

-- so four digits tell a number below 16
bits-same : (m n : ℕ) → m < 16 → n < 16 → m % 2 ≡ n % 2 → m / 2 % 2 ≡ n / 2 % 2 → m / 4 % 2 ≡ n / 4 % 2 → m / 8 % 2 ≡ n / 8 % 2 → m ≡ n
bits-same m n hm hn a b c d =
    let next : (k : ℕ) → m / k % 2 ≡ n / k % 2 → m / (k * 2) ≡ n / (k * 2) → m / k ≡ n / k =
    λ k e h. bit-same (m / k) (n / k) e (div-div-eq-div-mul m k 2 ∙ h ∙ sym (div-div-eq-div-mul n k 2)) in
    bit-same m n a (next 2 b (next 4 c (next 8 d (div-eq_of_lt hm ∙ sym (div-eq_of_lt hn)))))

module _ (l : Lattice) (ok : Lawful l) (c : Coords) where
  corner-same : (m n : ℕ) → m < 16 → n < 16 → vertex l (corner c m) ≡ vertex l (corner c n) → m ≡ n
  unfolding vertex
  corner-same m n hm hn e =
      let nt = l.n_t in
      let ns = l.n_s in
      let in-t : (v : ℕ) → v % nt < nt = λ v. remainder-below v nt ok.t_least in
      let in-s : (v : ℕ) → v % ns < ns = λ v. remainder-below v ns ok.s_least in
      let t = digits_same nt _ _ _ _ (in-t _) (in-t _) e in
      let x = digits_same ns _ _ _ _ (in-s _) (in-s _) t.1 in
      let y = digits_same ns _ _ _ _ (in-s _) (in-s _) x.1 in
      let bt = step_same c.t nt (m % 2) (n % 2) ok.t_least (omega arith) (omega arith) t.0 in
      let bx = step_same c.x ns (m / 2 % 2) (n / 2 % 2) ok.s_least (omega arith) (omega arith) x.0 in
      let by = step_same c.y ns (m / 4 % 2) (n / 4 % 2) ok.s_least (omega arith) (omega arith) y.0 in
      let bz = step_same c.z ns (m / 8 % 2) (n / 8 % 2) ok.s_least (omega arith) (omega arith) y.1 in
      bits-same m n hm hn bt bx by bz

  -- no vertex stands twice
  pub corners-once : {o : List ℕ} → Memᴰ o orders → Once (map (vertex l) (corners c o))
  corners-once {o} m =
      let r : RisesBelow 16 (marks 0 o) = marks-rise (marks 0 o) (Memᴰ.map (marks 0) m) in
      let e : map (vertex l) (corners c o) ≡ map (λ k. vertex l (corner c k)) (marks 0 o) = ap (map (vertex l)) (corners-marked c m) ∙ map-map (vertex l) (corner c) (marks 0 o) in
      rw e (once-map (λ k. vertex l (corner c k)) (marks 0 o) (rising-once (marks 0 o) r.0) (λ a b p q. corner-same a b (r.1 a p) (r.1 b q)))
