-- Numbers listed by their marks: the faces in which edges lie, those of the first n numbers that are among some, marks of them, and the next mark from a number on. Definitions only.
use Rattle.std.specs.Prelude.{ℕ, ◌+◌, ◌≤◌, Bool, true, false, cond, length, get_or, set, drop}
use mathlib.Core.List.{List, [], ◌∷◌, foldl}
use Rattle.lists.specs.Lists.{keep, gather, upto, among}
use Rattle.lists.specs.Groups.{Below}
use Rattle.complex.specs.declared.AdjacencyList.{AdjacencyList}
use Rattle.complex.specs.Complex.{holding}
use Rattle.complex.specs.Lent.{IsHolding}

-- the rows in which the edges of these numbers lie, one edge after the other
unfoldable pub met : List (List ℕ) → List (List ℕ) → List ℕ → List ℕ
met rs edges free = gather (λ e. holding rs (get_or edges e [])) free

-- an adjacency list has the rows in which each edge lies, these numbers are of edges, and there is room for a mark of each row
pub record IsMeeting (rs edges : List (List ℕ)) (adjacency : AdjacencyList) (free : List ℕ) (room : ℕ) : Type 0 where
  pub holders : IsHolding rs edges adjacency
  pub below : Below free (length edges)
  pub marks : length rs ≤ room

-- those of 0, 1, .. n - 1 that are among the numbers, ascending
unfoldable pub listed : ℕ → List ℕ → List ℕ
listed n numbers = keep (λ t. among t numbers) (upto n)

-- a list of marks with these numbers marked
unfoldable pub marked : List ℕ → List Bool → List Bool
marked numbers marks = foldl (λ ms t. set ms t true) marks numbers

-- the marked numbers below n, ascending
unfoldable pub marked_below : ℕ → List Bool → List ℕ
marked_below n marks = keep (λ t. get_or marks t false) (upto n)

-- the number of the first mark, or how many marks there are where none is set
unfoldable pub first_marked : List Bool → ℕ
first_marked [] = 0
first_marked (m ∷ ms) = cond m 0 (first_marked ms + 1)

-- the same of those from a number on
unfoldable pub next_marked : ℕ → List Bool → ℕ
next_marked from marks = from + first_marked (drop from marks)
