-- `geometry::shared::last_three` meets its contract. Assumes nothing.
use Prim.Native.Nat.{ℕ}
use mathlib.Core.List.{List, [], ◌∷◌}
use mathlib.Core.Path.{◌≡◌, refl, ap, ap₂, ◌∙◌}
use native.Mathlib.Omega.{arith}
use lib.Ieee.{Float}
use lib.ListN.{get_or, drop}
use Rattle.geometry.proofs.Bordered.{of_rows, fifteen-of}
use Rattle.geometry.proofs.shared.last_three.Goals as goal

pub returns : goal.returns
returns c =
    let m = c.cm_matrix_signed-m.result in
    let row : ℕ → List Float = λ n. get_or m n [] in
    let of_34 = c.minors_2x2-of_34.ensures in
    let of_35 = c.minors_2x2-of_35.ensures in
    let but_4 : c.minors_4x4-but_4.result ≡ of_rows m 1 2 3 5 = c.minors_4x4-but_4.ensures (row 2) (row 3) (row 5) (c.minors_3x3-of_235.ensures (row 3) (row 5) of_35) in
    let but_5 : c.minors_4x4-but_5.result ≡ of_rows m 1 2 3 4 = c.minors_4x4-but_5.ensures (row 2) (row 3) (row 4) (c.minors_3x3-of_234.ensures (row 3) (row 4) of_34) in
    ap₂ ◌∷◌ c.bordered_cofactor.ensures
    (ap₂ ◌∷◌ c.bordered_cofactor-2.ensures
    (ap₂ ◌∷◌ c.bordered_cofactor-3.ensures
    refl))
    ∙ ap (drop 12) (fifteen-of c.args.s.now (omega arith) c.requires m _ _ _ _ _ c.cm_matrix_signed-m.ensures refl refl refl but_4 but_5)
