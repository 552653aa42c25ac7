-- What the parts of the check ask and leave. Definitions only.
use Rattle.std.specs.Prelude.{ℕ, ◌*◌, ◌%◌, ◌≤◌, ◌≡◌, Bool, true, length, drop}
use mathlib.Core.List.{List, map, Memᴰ}
use Rattle.lists.specs.Lists.{Rising}
use Rattle.lists.specs.declared.flat_rows.FlatRows.{FlatRows}
use Rattle.lists.specs.Lent.{rows_of}
use Rattle.lists.specs.Rows.{flat, over, begins}
use Rattle.complex.specs.declared.Counts.{Counts}
use Rattle.complex.specs.declared.numbering.Face.TheVariants.{Edge, Triangle}
use Rattle.complex.specs.Complex.{numbers_of, holding}
use Rattle.complex.specs.Builder.{Lists}
use Rattle.complex.specs.Check.{pents_in}
use Rattle.comparison.specs.CheckParts.{has_faces}

-- whole pentachorons, and room for ten numbers of each
pub record Scratch (pents edges tris : ℕ) : Type 0 where
  pub whole : pents % 5 ≡ 0
  pub few : pents ≤ 40960
  pub edges_room : 2 * pents ≤ edges
  pub tris_room : 2 * pents ≤ tris

-- two lists begin with the edge numbers and the triangle numbers of pentachorons
pub record Noted (ps : List (List ℕ)) (pe pt : List ℕ) : Type 0 where
  pub edges : begins (numbers_of Edge ps) pe ≡ true
  pub triangles : begins (numbers_of Triangle ps) pt ≡ true

-- two lent lists pe and pt after a comparison that answers r: where it is true they have the edge numbers and the triangle numbers of ps over their beginnings, and all other places are kept;
-- where it is false the first ten places for each of ps are left in some state, and all others are kept
pub record Noting (ps : List (List ℕ)) (r : Bool) (pe pt pe' pt' : List ℕ) : Type 0 where
  pub edges : r ≡ true → pe' ≡ over (numbers_of Edge ps) pe
  pub triangles : r ≡ true → pt' ≡ over (numbers_of Triangle ps) pt
  pub edges_kept : drop (10 * length ps) pe' ≡ drop (10 * length ps) pe
  pub triangles_kept : drop (10 * length ps) pt' ≡ drop (10 * length ps) pt

-- the total is how many rows the keys lie in, one key after the other
pub record Holdable (keys rs : FlatRows) (total : ℕ) : Type 0 where
  pub counted : total ≡ length (flat (map (holding (rows_of rs)) (rows_of keys)))

-- the lists of faces are those of sorted pentachorons
pub record Faced (c : Counts) (l : Lists) : Type 0 where
  pub long : 5 * c.pentachorons ≤ length l.pents
  pub few : c.pentachorons ≤ 8192
  pub rise : (p : List ℕ) → Memᴰ p (pents_in c l.pents) → Rising p
  pub edges : has_faces Edge (pents_in c l.pents) c.edges l.edges ≡ true
  pub triangles : has_faces Triangle (pents_in c l.pents) c.triangles l.triangles ≡ true
