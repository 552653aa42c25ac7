-- What the program answers for its input: signs, hinges and gradient of the complex and the lengths that it decodes to. Definitions only.
use Rattle.std.specs.Prelude.{ℕ, ◌≤◌, ◌≡◌, true, List, [], Float, replicate, Err, Ok}
use Rattle.floats.specs.Ops.{zero}
use Rattle.lists.specs.Rows.{over}
use Rattle.length_signs.specs.declared.LengthSigns.{LengthSigns}
use Rattle.length_signs.specs.LengthSigns.{signs_of}
use Rattle.complex.specs.declared.Counts.{Counts}
use Rattle.complex.specs.Builder.{Built}
use Rattle.complex.specs.Builder.{Lists, sorted_pents}
use Rattle.complex.specs.Check.{is_built}
use Rattle.hinges.specs.declared.hinge.Hinge.{Hinge}
use Rattle.hinges.specs.Hinges.{FaceLists, built_faces, hinges, deficits_of, kinds_of}
use Rattle.hinges.specs.Action as Action
use Rattle.packed_input.specs.Format.{sq_lengths_in}
use Rattle.packed_input.specs.Decoding.{given_in, decoded_of}

-- ---- a built complex

-- a complex is built, there are as many lengths as edges, and the outputs have room
pub record Evaluable (c : Counts) (l : Lists) (lengths deficits kinds grad : ℕ) : Type 0 where
  pub built : is_built c l ≡ true
  pub counted : lengths ≡ c.edges
  pub deficits_room : c.triangles ≤ deficits
  pub kinds_room : c.triangles ≤ kinds
  pub grad_room : c.edges ≤ grad

-- the signs r of its lengths, and the lists of deficits, kinds and gradient entries after the call
pub record Evaluates (F : FaceLists) (ls ds : List Float) (ks : List ℕ) (gs : List Float) (r : LengthSigns) (ds' : List Float) (ks' : List ℕ) (gs' : List Float) : Type 0 where
  pub signs : r ≡ signs_of ls
  pub deficits : ds' ≡ over (deficits_of (hinges F ls)) ds
  pub kinds : ks' ≡ over (kinds_of (hinges F ls)) ks
  pub gradient : gs' ≡ over (Action.gradient F ls) gs

-- ---- the input

-- the face lists of the complex that an input decodes to
abbrev pub faces_of : List ℕ → FaceLists
faces_of input = built_faces (sorted_pents (given_in input))

-- its squared lengths, by the answer; none where it is refused
abbrev pub lengths_by : List ℕ → Built → List Float
lengths_by input (Ok c) = sq_lengths_in input c.pentachorons c.edges
lengths_by input (Err r) = []

-- its hinges
abbrev pub hinges_by : List ℕ → Built → List Hinge
hinges_by input (Ok c) = hinges (faces_of input) (lengths_by input (Ok c))
hinges_by input (Err r) = []

-- its gradient
abbrev pub gradient_by : List ℕ → Built → List Float
gradient_by input (Ok c) = Action.gradient (faces_of input) (lengths_by input (Ok c))
gradient_by input (Err r) = []

-- the answer r, the signs s, and the lists of deficits, kinds and gradient entries, over zeros
pub record Reports (input : List ℕ) (r : Built) (s : LengthSigns) (ds : List Float) (ks : List ℕ) (gs : List Float) : Type 0 where
  pub answered : r ≡ decoded_of input
  pub signs : s ≡ signs_of (lengths_by input r)
  pub deficits : ds ≡ over (deficits_of (hinges_by input r)) (replicate 640 zero)
  pub kinds : ks ≡ over (kinds_of (hinges_by input r)) (replicate 640 0)
  pub gradient : gs ≡ over (gradient_by input r) (replicate 640 zero)
