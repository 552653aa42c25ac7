-- The periodic lattice: its lawful sizes, its vertices, and its pentachorons in the order of the Rust's loops. Definitions only.
use Rattle.std.specs.Prelude.{ℕ, zero, suc, ◌+◌, ◌*◌, ◌/◌, ◌%◌, Bool, cond, ◌&&◌, List, [], ◌∷◌, map, eqb, leb, get_or, set}
use Rattle.lists.specs.Lists.{gather, upto}
use Rattle.lists.specs.Keys.{firsts}
use Rattle.lists.specs.Sorting.{sort}
use Rattle.foliation.specs.declared.Lattice.{Lattice}
use Rattle.foliation.specs.declared.coords.Coords.{Coords}

-- ---- sizes

-- how many vertices there are, and as many cells
abbrev pub vertex_count : Lattice → ℕ
vertex_count l = l.n_t * (l.n_s * (l.n_s * l.n_s))

-- n_t and n_s are in 2..8, and there are at most 341 cells
unfoldable pub is_lawful : Lattice → Bool
is_lawful l = leb 2 l.n_t && leb l.n_t 8 && leb 2 l.n_s && leb l.n_s 8 && leb (vertex_count l) 341

-- ---- vertices

-- four coordinates
abbrev pub coords : ℕ → ℕ → ℕ → ℕ → Coords
coords t x y z = record { t = t; x = x; y = y; z = z }

-- the vertex at some coordinates: the Rust's `vidx`
unfoldable pub vertex : Lattice → Coords → ℕ
vertex l c = c.t % l.n_t + l.n_t * (c.x % l.n_s + l.n_s * (c.y % l.n_s + l.n_s * (c.z % l.n_s)))

-- the coordinates of a vertex: the Rust's `vertex_coords_4d`
unfoldable pub coords_of : Lattice → ℕ → Coords
coords_of l v = let rest = v / l.n_t in coords (v % l.n_t) (rest % l.n_s) (rest / l.n_s % l.n_s) (rest / (l.n_s * l.n_s))

-- ---- orders of the axes

-- two entries exchanged
unfoldable pub swap : ℕ → ℕ → List ℕ → List ℕ
swap i j xs = set (set xs i (get_or xs j 0)) j (get_or xs i 0)

-- the Rust's `permute`, with `left` entries from `start` on
unfoldable pub permute : ℕ → ℕ → List ℕ → List (List ℕ)
permute zero start current = current ∷ []
permute (suc left) start current = gather (λ i. permute left (suc start) (swap start (start + i) current)) (upto (suc left))

-- the 24 orders of the axes t, x, y, z, which have the numbers 0 to 3
unfoldable pub orders : List (List ℕ)
orders = permute 4 0 (0 ∷ 1 ∷ 2 ∷ 3 ∷ [])

-- ---- pentachorons

-- one step along an axis
unfoldable pub stepped : Coords → ℕ → Coords
stepped c axis =
    cond (eqb axis 0) (coords (c.t + 1) c.x c.y c.z)
    (cond (eqb axis 1) (coords c.t (c.x + 1) c.y c.z)
    (cond (eqb axis 2) (coords c.t c.x (c.y + 1) c.z) (coords c.t c.x c.y (c.z + 1))))

-- the corners of a cell that are met in some order of steps
unfoldable pub corners : Coords → List ℕ → List Coords
corners c [] = c ∷ []
corners c (axis ∷ order) = c ∷ corners (stepped c axis) order

-- the pentachoron of an order of steps, its vertices sorted
unfoldable pub path : Lattice → Coords → List ℕ → List ℕ
path l c order = sort (map (vertex l) (corners c order))

-- the cells in the order of the loops z, y, x, t
unfoldable pub cells : Lattice → List Coords
cells l =
    gather (λ z. gather (λ y. gather (λ x. map (λ t. coords t x y z) (upto l.n_t)) (upto l.n_s)) (upto l.n_s)) (upto l.n_s)

-- the pentachorons of all cells, repeated ones too
unfoldable pub paths : Lattice → List (List ℕ)
paths l = gather (λ c. map (path l c) orders) (cells l)

-- the pentachorons, the first of equals kept
unfoldable pub lattice_pents : Lattice → List (List ℕ)
lattice_pents l = firsts (paths l)
