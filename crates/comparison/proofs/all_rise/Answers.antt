-- `comparison::all_rise` meets its contract. Assumes nothing.
use Prim.Native.Nat.{ℕ, ◌*◌, ◌/◌, ◌<◌}
use mathlib.Core.Path.{◌≡◌, refl, ap, ◌∙◌}
use mathlib.Core.Bool.{true, false}
use native.Mathlib.Omega.{arith}
use lib.ListN.{length, get_or, take, drop}
use Rattle.std.proofs.Common.{rules, []}
use Rattle.std.proofs.lemmas.List.Recursion.{and_is}
use Rattle.lists.proofs.Rows.{length-rows, rows_at}
use Rattle.complex.specs.Builder.{pentachorons}
use Rattle.comparison.specs.CheckParts.{rises, all_rise}
use Rattle.comparison.proofs.all_rise.Goals as goal

pub returns : goal.returns
unfolding all_rise
returns c =
    let a = c.args in
    let ps = a.pents.now in
    let P = length ps / 5 in
    let many : length (pentachorons ps) ≡ P = length-rows 5 P ps in
    let pent : (i : ℕ) → i < P → get_or (pentachorons ps) i [] ≡ take 5 (drop (i * 5) ps) =
    λ i h. let z : 5 * i ≡ i * 5 = omega arith in rows_at 5 P ps i h ∙ ap (λ (m : ℕ). take 5 (drop m ps)) z in
    let rise : c.all.result ≡ true → (i : ℕ) → i < P → rises a.n (take 5 (drop (i * 5) ps)) ≡ true =
    λ e i h. let l : i < c.all.ensures.runs.0.len = search rules in let r = c.all.ensures.runs.0.reads i a.pents l in search (rules, r) in
    let fall : c.all.result ≡ false → (i : ℕ) × (i < P) × (rises a.n (take 5 (drop (i * 5) ps)) ≡ false) = search rules in
    and_is (all_rise a.n) (rises a.n) refl (λ _ _. refl) (pentachorons ps) [] _
    (λ e i h. let l : i < P = omega (arith, many) in rw (pent i l) (rise e i l))
    (λ e. let x = fall e in (x.0, omega (arith, many, x.1), rw (pent x.0 x.1) x.2))
