-- `complex::checks::repeats` meets its contract. Assumes nothing.
use Prim.Native.Nat.{ℕ, ◌+◌, ◌-◌, ◌<◌}
use mathlib.Core.Path.{◌≡◌, refl, sym, ap, ◌∙◌}
use mathlib.Core.Bool.{Bool, true, false}
use lib.ListN.{length, get_or, take, drop}
use Rattle.std.proofs.Common.{rules}
use Rattle.lists.specs.Lists.{among}
use Rattle.lists.proofs.Rows.{part-tail}
use Rattle.complex.proofs.Offences.{repeats-at, repeats-none}
use Rattle.complex.proofs.checks.repeats.Goals as goal

pub returns : goal.returns
returns c =
    let p = c.args.numbers.now in
    let some : c.any.result ≡ true → (i : ℕ) × (i < length p) × (among (get_or p i 0) (take (length p - (i + 1)) (drop (i + 1) p)) ≡ true) = search rules in
    let none : c.any.result ≡ false → (i : ℕ) → i < length p → among (get_or p i 0) (take (length p - (i + 1)) (drop (i + 1) p)) ≡ false = search rules in
    by c.any.result
    (λ e. let s = some e in repeats-at p s.0 s.1 (sym (ap (among _) (part-tail p (s.0 + 1))) ∙ s.2))
    (λ e. repeats-none p (λ i h. sym (ap (among _) (part-tail p (i + 1))) ∙ none e i h))
  where
    by : {q : Bool} (r : Bool) → (r ≡ true → q ≡ true) → (r ≡ false → q ≡ false) → r ≡ q
    by true f g = sym (f refl)
    by false f g = sym (g refl)
