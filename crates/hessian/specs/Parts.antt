-- What a triangle and a pentachoron of a complex add, at places of the flat matrix. Definitions only.
use Rattle.std.specs.Prelude.{ℕ, List, [], Float, length, get_or}
use Rattle.complex.specs.Complex.{row_numbers}
use Rattle.hinges.specs.Hinges.{FaceLists, pent_lengths, hinges, hinge_in}
use Rattle.hinges.specs.Action.{edges_at, tri_lengths}
use Rattle.second_derivatives.specs.SecondDerivatives.{first_adds, second_adds}
use Rattle.second_derivatives.specs.Parts.{places_in, placed, on_diagonal, off_diagonal}

-- what triangle t adds by the places of its edges
abbrev pub first_placed : FaceLists → List Float → ℕ → List ((ℕ × ℕ) × Float)
first_placed F ls t = first_adds (tri_lengths F ls t) (hinge_in (hinges F ls) t).deficit

-- what triangle t adds on the diagonal
unfoldable pub diagonal_at : FaceLists → List Float → ℕ → List (ℕ × Float)
diagonal_at F ls t = on_diagonal (edges_at F t) (first_placed F ls t)

-- what triangle t adds off the diagonal
unfoldable pub first_at : FaceLists → List Float → List ℕ → ℕ → List (ℕ × Float)
first_at F ls free t = placed (length free) (places_in free (edges_at F t)) (off_diagonal (first_placed F ls t))

-- what pentachoron i adds
unfoldable pub second_at : FaceLists → List Float → List ℕ → Float → ℕ → List (ℕ × Float)
second_at F ls free eps i =
    let p = get_or F.pents i [] in
    placed (length free) (places_in free (row_numbers F.edges 2 p)) (second_adds (pent_lengths F ls p) eps)
