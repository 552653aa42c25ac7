-- Deficits and gradient at free edges: when the calls are refused for room, and what they leave in the lent lists. Definitions only.
use Rattle.refusals.specs.declared.Refusal.{Refusal}
use Rattle.refusals.specs.Refusals.{Outcome, answer_by}
use Rattle.std.specs.Prelude.{ℕ, Bool, ◌||◌, List, ◌≡◌, ltb, Float, length, Result}
use Rattle.complex.specs.Check.{written_after}
use Rattle.hinges.specs.Hinges.{FaceLists, deficits_of, kinds_of}
use Rattle.hinges.specs.Local.{local_triangles, local_hinges, local_gradient}
use Rattle.calls.specs.Calls.{Filled}

-- a list has fewer places than there are triangles on free edges
abbrev pub short_local : FaceLists → List ℕ → ℕ → ℕ → ℕ → Bool
short_local F free tris deficits kinds = let n = length (local_triangles F free) in ltb tris n || ltb deficits n || ltb kinds n

-- hinges on free edges: the answer r of checks that say o, and the lists of triangles, deficits and kinds after the call
pub record LocallyTabled (o : Outcome) (F : FaceLists) (ls : List Float) (free ts : List ℕ) (ds : List Float) (ks : List ℕ) (r : Result ℕ Refusal) (ts' : List ℕ) (ds' : List Float) (ks' : List ℕ) : Type 0 where
  pub answered : r ≡ answer_by o (length (local_triangles F free))
  pub triangles : ts' ≡ written_after o (local_triangles F free) ts
  pub deficits : ds' ≡ written_after o (deficits_of (local_hinges F ls free)) ds
  pub kinds : ks' ≡ written_after o (kinds_of (local_hinges F ls free)) ks

-- the gradient's entries at free edges
abbrev pub LocallyGraded : Outcome → FaceLists → List Float → List ℕ → List Float → Outcome → List Float → Type 0
LocallyGraded o F ls free old r new = Filled o (local_gradient F ls free) old r new
