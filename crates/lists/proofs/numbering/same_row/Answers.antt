-- `lists::numbering::same_row` meets its contract. Assumes nothing.
use mathlib.Core.Path.{◌≡◌, refl, sym, ap, ◌∙◌}
use mathlib.Core.Bool.{Bool, true, false, ◌&&◌}
use mathlib.Core.List.{List, [], ◌∷◌}
use Prim.Native.Nat.{ℕ, suc, ◌+◌, ◌-◌, ◌<◌}
use native.Mathlib.Omega.{arith}
use lib.Dec.{eqb}
use lib.ListN.{length, get_or, take, drop, length-drop}
use lib.Seq.{length-take-le}
use Rattle.std.proofs.Common.{rules}
use Rattle.lists.specs.Keys.{eqs}
use Rattle.lists.proofs.Tests.{fails, denied, eqb-says}
use Rattle.lists.proofs.Keys.{eqs-says}
use Rattle.lists.proofs.numbering.same_row.Goals as goal

-- rows of one length whose numbers are the same, place by place
eqs-all : (x y : List ℕ) → length x ≡ length y → ((i : ℕ) → i < length x → eqb (get_or x i 0) (get_or y i 0) ≡ true) → eqs x y ≡ true
unfolding eqs
eqs-all [] [] h same = refl
eqs-all [] (y ∷ ys) h same = absurd (omega arith)
eqs-all (x ∷ xs) [] h same = absurd (omega arith)
eqs-all (x ∷ xs) (y ∷ ys) h same = ap (λ (b : Bool). b && eqs xs ys) (same 0 (omega arith)) ∙ eqs-all xs ys (omega arith) (λ i l. same (suc i) (omega arith))

-- and two that differ at a place
eqs-not : (x y : List ℕ) (i : ℕ) → eqb (get_or x i 0) (get_or y i 0) ≡ false → eqs x y ≡ false
eqs-not x y i differ = fails (eqs-says x y) (λ e. denied (eqb-says (get_or x i 0) (get_or y i 0)) differ (ap (λ (l : List ℕ). get_or l i 0) e))

-- so a test of all places is the test of the rows
eqs-is : (x y : List ℕ) → length x ≡ length y → (r : Bool) → (r ≡ true → (i : ℕ) → i < length x → eqb (get_or x i 0) (get_or y i 0) ≡ true) → (r ≡ false → (i : ℕ) × (i < length x) × (eqb (get_or x i 0) (get_or y i 0) ≡ false)) → r ≡ eqs x y
eqs-is x y h true so not_so = sym (eqs-all x y h (so refl))
eqs-is x y h false so not_so = let at = not_so refl in sym (eqs-not x y at.0 at.2)

pub returns : goal.returns
returns c =
    let a = c.args in
    let w = length a.row.now in
    let y = take (a.at + w - a.at) (drop a.at a.list.now) in
    let n : a.at + w - a.at ≡ w = omega arith in
    let same_length : w ≡ length y = sym (length-take-le (a.at + w - a.at) (drop a.at a.list.now) (omega (arith, length-drop a.at a.list.now)) ∙ n) in
    eqs-is a.row.now y same_length c.all.result (search rules) (search rules) ∙ ap (λ (k : ℕ). eqs a.row.now (take k (drop a.at a.list.now))) n
