-- The program's input: bits of bytes, most significant first. Vertex count 13 bits, pentachoron count 14, each vertex 12, zero bits to the next byte, then 64 bits for each squared length in edge order. Definitions only.
use Rattle.std.specs.Prelude.{ℕ, zero, suc, ◌+◌, ◌*◌, ◌-◌, ◌/◌, ◌%◌, ◌^◌, List, map, Float, get_or}
use Rattle.std.specs.Float.{binary64}
use Rattle.std.specs.Float.Ieee.{of_bits}
use Rattle.lists.specs.Lists.{upto}

-- ---- numbers

-- bit k; the most significant bit of the first byte is bit 0
unfoldable pub bit_at : List ℕ → ℕ → ℕ
bit_at input k = get_or input (k / 8) 0 / 2 ^ (7 - k % 8) % 2

-- the number that w bits from bit `at` on spell, the first of them the most significant
unfoldable pub field : List ℕ → ℕ → ℕ → ℕ
field input at zero = 0
field input at (suc w) = 2 * field input at w + bit_at input (at + w)

-- ---- the parts of the input

-- the vertex count
abbrev pub vertex_count : List ℕ → ℕ
vertex_count input = field input 0 13

-- the pentachoron count P
abbrev pub pent_count : List ℕ → ℕ
pent_count input = field input 13 14

-- the bit after the last vertex
abbrev pub vertices_end : ℕ → ℕ
vertices_end P = 27 + 60 * P

-- the i-th vertex of the pentachorons, one after the other
abbrev pub vertex_at : List ℕ → ℕ → ℕ
vertex_at input i = field input (27 + 12 * i) 12

-- the vertices of P pentachorons
unfoldable pub vertices : List ℕ → ℕ → List ℕ
vertices input P = map (vertex_at input) (upto (5 * P))

-- the byte at which the lengths start
abbrev pub lengths_start : ℕ → ℕ
lengths_start P = (vertices_end P + 7) / 8

-- the number that the bits between the vertices and the lengths spell
abbrev pub padding : List ℕ → ℕ → ℕ
padding input P = field input (vertices_end P) (8 * lengths_start P - vertices_end P)

-- the i-th squared length after P pentachorons
abbrev pub sq_length_at : List ℕ → ℕ → ℕ → Float
sq_length_at input P i = of_bits binary64 (field input (8 * lengths_start P + 64 * i) 64)

-- the squared lengths of E edges
unfoldable pub sq_lengths_in : List ℕ → ℕ → ℕ → List Float
sq_lengths_in input P E = map (sq_length_at input P) (upto E)
