-- The words for tables of hinges, and what holds of a retouch that answers. Definitions only.
use Rattle.std.specs.Prelude.{ℕ, ◌≤◌, ◌<◌, ◌≢◌, ◌↔◌, ◌≡◌, Float, length, get_or, Option, Some}
use mathlib.Core.List.{List, [], Memᴰ}
use Rattle.std.specs.Float.{nan}
use Rattle.lists.specs.Lists.{Within}
use Rattle.lorentzian.specs.declared.dihedral.HingeType.{HingeType}
use Rattle.hinges.specs.declared.hinge.Hinge.{Hinge}
use Rattle.hinges.specs.Hinges.{FaceLists, kind_in, hinges, hinge_in}
use Rattle.retouch.specs.Retouch.{touched}

-- ---- tables

-- what a table holds at a triangle: a deficit, and a kind if one stands there
pub record Entry : Type 0 where
  pub deficit : Float
  pub kind : (Option HingeType)

-- what a record holds
abbrev pub entry_of : Hinge → Entry
entry_of h = record { deficit = h.deficit; kind = Some h.kind }

-- what a deficit and a byte hold; a byte other than 0 and 1 is no kind
abbrev pub entry_in : Float × ℕ → Entry
entry_in a = record { deficit = a.0; kind = kind_in a.1 }

-- the deficit and the byte at a place of two plain lists
abbrev pub both_at : List Float → List ℕ → ℕ → Float × ℕ
both_at ds ks t = (get_or ds t nan, get_or ks t 0)

-- Agree: the deficits are equal, as floats are (one NaN is another's equal, +0 and -0 differ), and the kinds are the same; where no kind stands nothing agrees
pub record Agree (a b : Entry) : Type 0 where
  pub deficits : a.deficit ≡ b.deficit
  pub kinds : (k : HingeType) × (a.kind ≡ Some k) × (b.kind ≡ Some k)

-- the table worked out anew from a length list: what `lorentzian_deficit_angles` answers
abbrev pub worked_out : FaceLists → List Float → ℕ → Entry
worked_out F ls t = entry_of (hinge_in (hinges F ls) t)

-- Matches: at a triangle, a table agrees with the one worked out anew from a length list
abbrev pub Matches : FaceLists → List Float → (ℕ → Entry) → ℕ → Type 0
Matches F ls table t = Agree (table t) (worked_out F ls t)

-- Equal: two tables agree at every triangle
abbrev pub Equal : FaceLists → (ℕ → Entry) → (ℕ → Entry) → Type 0
Equal F a b = (t : ℕ) → t < length F.triangles → Agree (a t) (b t)

-- Lies in: a triangle lies in a pentachoron with an edge. Its three vertices are among the pentachoron's five, and so are both ends of the edge
abbrev pub Shares : FaceLists → ℕ → ℕ → Type 0
Shares F e t = (p : List ℕ) × Memᴰ p F.pents × Within (get_or F.triangles t []) p × Within (get_or F.edges e []) p

-- ---- what a retouch leaves

-- a retouch of the lengths ls, with x at edge e, and of a table: `before` and `after` give what stands at each place, and `read` what is read there
pub record Demand3 {A : Type 0} (read : A → Entry) (F : FaceLists) (ls : List Float) (e : ℕ) (x : Float) (before : ℕ → A) (ls' : List Float) (after : ℕ → A) : Type 0 where
  -- the new length is left at that edge, and every other as it was
  pub as_many : length ls' ≡ length ls
  pub stored : get_or ls' e nan ≡ x
  pub others : (i : ℕ) → i ≢ e → get_or ls' i nan ≡ get_or ls i nan
  -- the table left equals the one worked out anew from the changed list exactly when the table held before matched the old list at every triangle that lies in no pentachoron with that edge
  pub exactly : Equal F (λ t. read (after t)) (worked_out F ls') ↔ ((t : ℕ) → t < length F.triangles → (Shares F e t → ⊥) → Matches F ls (λ t. read (before t)) t)
  -- none of those triangles' records is written
  pub unwritten : (t : ℕ) → t < length F.triangles → (Shares F e t → ⊥) → Memᴰ t (touched F e) → ⊥
  -- each stays as it was
  pub kept : (t : ℕ) → t < length F.triangles → (Shares F e t → ⊥) → after t ≡ before t
  -- at every other triangle the table left matches the changed list
  pub fresh : (t : ℕ) → t < length F.triangles → Shares F e t → Matches F ls' (λ t. read (after t)) t
  -- places past the last triangle keep their content
  pub beyond : (t : ℕ) → length F.triangles ≤ t → after t ≡ before t
