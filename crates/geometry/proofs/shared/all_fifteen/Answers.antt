-- `geometry::shared::all_fifteen` meets its contract. Assumes nothing.
use Prim.Native.Nat.{ℕ}
use mathlib.Core.List.{List, [], ◌∷◌}
use mathlib.Core.Path.{◌≡◌, refl, sym, ap, ap₂, ◌∙◌}
use native.Mathlib.Omega.{arith}
use lib.Ieee.{Float, nan}
use lib.ListN.{get_or, drop}
use Rattle.geometry.proofs.Bordered.{of_rows, fifteen-of}
use Rattle.geometry.proofs.shared.all_fifteen.Goals as goal

pub returns : goal.returns
returns c =
    let m = c.cm_matrix_signed-m.result in
    let row : ℕ → List Float = λ n. get_or m n [] in
    let of_45 = c.minors_2x2-of_45.ensures in
    let of_345 = c.minors_3x3-of_345.ensures (row 4) (row 5) of_45 in
    let but_1 : c.minors_4x4-but_1.result ≡ of_rows m 2 3 4 5 = c.minors_4x4-but_1.ensures (row 3) (row 4) (row 5) of_345 in
    let but_2 : c.minors_4x4-but_2.result ≡ of_rows m 1 3 4 5 = c.minors_4x4-but_2.ensures (row 3) (row 4) (row 5) of_345 in
    let but_3 : c.minors_4x4-but_3.result ≡ of_rows m 1 2 4 5 = c.minors_4x4-but_3.ensures (row 2) (row 4) (row 5) (c.minors_3x3-of_245.ensures (row 4) (row 5) of_45) in
    let whole = fifteen-of c.args.s.now (omega arith) c.requires.small m _ _ _ (of_rows m 1 2 3 5) (of_rows m 1 2 3 4) c.cm_matrix_signed-m.ensures but_1 but_2 but_3 refl refl in
    let last = c.requires.rest ∙ ap (drop 12) (sym whole) in
    ap₂ ◌∷◌ c.bordered_cofactor.ensures
    (ap₂ ◌∷◌ c.bordered_cofactor-2.ensures
    (ap₂ ◌∷◌ c.bordered_cofactor-3.ensures
    (ap₂ ◌∷◌ c.bordered_cofactor-4.ensures
    (ap₂ ◌∷◌ c.bordered_cofactor-5.ensures
    (ap₂ ◌∷◌ c.bordered_cofactor-6.ensures
    (ap₂ ◌∷◌ c.bordered_cofactor-7.ensures
    (ap₂ ◌∷◌ c.bordered_cofactor-8.ensures
    (ap₂ ◌∷◌ c.bordered_cofactor-9.ensures
    (ap₂ ◌∷◌ c.bordered_cofactor-10.ensures
    (ap₂ ◌∷◌ c.bordered_cofactor-11.ensures
    (ap₂ ◌∷◌ c.bordered_cofactor-12.ensures
    (ap₂ ◌∷◌ (ap (λ l. get_or l 0 nan) last)
    (ap₂ ◌∷◌ (ap (λ l. get_or l 1 nan) last)
    (ap₂ ◌∷◌ (ap (λ l. get_or l 2 nan) last)
    refl))))))))))))))
    ∙ whole
