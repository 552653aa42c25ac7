-- The retouch: one squared length is changed and the table of hinges brought up to date. When it is refused, what it answers, and what it leaves in the lent lists. Definitions only.
use Rattle.refusals.specs.Refusals.{Outcome}
use Rattle.std.specs.Prelude.{ℕ, cond, List, [], ◌≡◌, ltb, Float, length, get_or, set, Err, Ok}
use Rattle.refusals.specs.declared.Refusal.TheVariants.{EdgeTooLarge}
use Rattle.lists.specs.Lists.{gather}
use Rattle.lists.specs.Writes.{writes}
use Rattle.complex.specs.declared.Counts.{Counts}
use Rattle.complex.specs.Complex.{holding, row_numbers}
use Rattle.lorentzian.specs.Dihedral.{kind_number}
use Rattle.marks.specs.Marks.{listed}
use Rattle.hinges.specs.declared.hinge.Hinge.{Hinge}
use Rattle.hinges.specs.Hinges.{FaceLists, hinges, hinge_in}

-- ---- what is worked out anew

-- the triangles of the pentachorons that contain an edge, one pentachoron after the other
unfoldable pub around : FaceLists → ℕ → List ℕ
around F e = gather (λ i. row_numbers F.triangles 3 (get_or F.pents i [])) (holding F.pents (get_or F.edges e []))

-- the same triangles, each once, ascending
abbrev pub touched : FaceLists → ℕ → List ℕ
touched F e = listed (length F.triangles) (around F e)

-- the record of a triangle in the table worked out anew from the changed lengths
abbrev pub anew : FaceLists → List Float → ℕ → Float → ℕ → Hinge
anew F ls e x t = hinge_in (hinges F (set ls e x)) t

-- ---- refusals

-- 9 where there is no edge of that number, then what the other checks say
unfoldable pub edge_check_of : Counts → ℕ → Outcome → Outcome
edge_check_of c e others = cond (ltb e c.edges) others (Err EdgeTooLarge)

-- ---- lent lists

-- a list after a call, by its outcome: as it was where the call is refused
abbrev pub after : {A : Type 0} → Outcome → List A → List A → List A
after (Ok u) new old = new
after (Err r) new old = old

-- Retouch: the new length stands at its edge, and each triangle of each pentachoron that contains the edge is worked out anew.
-- The answer r of checks that say o, and the lists of lengths, deficits and kinds after the call
pub record Retouched (o : Outcome) (F : FaceLists) (ls : List Float) (e : ℕ) (x : Float) (ds : List Float) (ks : List ℕ) (r : Outcome) (ls' ds' : List Float) (ks' : List ℕ) : Type 0 where
  pub answered : r ≡ o
  pub lengths : ls' ≡ after r (set ls e x) ls
  pub deficits : ds' ≡ after r (writes (λ t. (anew F ls e x t).deficit) (touched F e) ds) ds
  pub kinds : ks' ≡ after r (writes (λ t. kind_number (anew F ls e x t).kind) (touched F e) ks) ks
