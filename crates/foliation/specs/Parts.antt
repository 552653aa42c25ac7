-- What the parts of the listing ask and leave. Definitions only.
use Rattle.std.specs.Prelude.{ℕ, ◌/◌, ◌%◌, ◌≤◌, List, [], get_or}
use Rattle.foliation.specs.declared.Lattice.{Lattice}
use Rattle.foliation.specs.declared.coords.Coords.{Coords}
use Rattle.foliation.specs.declared.hypercubic.Axis.{Axis}
use Rattle.foliation.specs.declared.hypercubic.Axis.TheVariants.{T, X, Y, Z}
use Rattle.foliation.specs.Lattice.{coords_of, orders, path}

-- the number of an axis in an order
abbrev pub axis_number : Axis → ℕ
axis_number T = 0
axis_number X = 1
axis_number Y = 2
axis_number Z = 3

-- no coordinate is above m
pub record Near (m : ℕ) (c : Coords) : Type 0 where
  pub t : c.t ≤ m
  pub x : c.x ≤ m
  pub y : c.y ≤ m
  pub z : c.z ≤ m

-- pentachoron k, repeated ones counted: the cell of the vertex k / 24, and the order k % 24
unfoldable pub path_at : Lattice → ℕ → List ℕ
path_at l k = path l (coords_of l (k / 24)) (get_or orders (k % 24) [])
