-- The steps of the loops over triangles: a triangle's edges have places in lists with one for each, and it lies in each of its pentachorons. Assumes nothing.
use Prim.Native.Nat.{ℕ, ◌≤◌, ◌<◌}
use mathlib.Core.Path.{◌≡◌, refl, subst}
use mathlib.Core.Bool.{true}
use mathlib.Core.List.{List, [], Memᴰ}
use native.Mathlib.Omega.{arith}
use lib.ListN.{length, get_or}
use Rattle.lists.specs.Lists.{upto, within}
use Rattle.lists.specs.Groups.{Below}
use Rattle.lists.proofs.Tests.{passes}
use Rattle.lists.proofs.Elements.{get_or-mem, keep-only, mem-upto, within-says}
use Rattle.lists.proofs.Rows.{length-rows}
use Rattle.complex.specs.declared.Counts.{Counts}
use Rattle.complex.specs.Complex.{holding, row_numbers}
use Rattle.complex.specs.Check.{pents_in, edges_in, triangles_in}
use Rattle.complex.proofs.Lying.{mem-holding}
use Rattle.incidence.specs.declared.Opposite.{Opposite}
use Rattle.incidence.specs.Incidence.{index_list, opposite_indices}
use Rattle.hinges.specs.Parts.{Measured}
use Rattle.hinges.proofs.PentachoronSteps.{numbers-below}

-- both vertices that a triangle leaves are vertices of the pentachoron
pub opposite-below : (p t : List ℕ) (r : Opposite) → length p ≡ 5 → index_list r ≡ opposite_indices p t → (r.l < 5) × (r.m < 5)
unfolding opposite_indices
opposite-below p t r five e = (below (mathlib.Core.List.Memᴰ.head refl), below (mathlib.Core.List.Memᴰ.tail (mathlib.Core.List.Memᴰ.head refl)))
  where
    below : {v : ℕ} → Memᴰ v (index_list r) → v < 5
    below {v} m = let k : v < length p = mem-upto (length p) v (keep-only _ (upto (length p)) (subst (λ (l : List ℕ). Memᴰ v l) e m)) in omega arith

module _ {c : Counts} {pents edges triangles items ss pe pt : List ℕ} {n : ℕ} (ok : Measured c pents edges triangles items ss pe pt n) (t : ℕ) (inside : t < c.triangles) where
  -- its edges have places in lists that have one for each
  pub edges-below : (own : List ℕ) → own ≡ row_numbers (edges_in c edges) 2 (get_or (triangles_in c triangles) t []) → (m : ℕ) → c.edges ≤ m → Below own m
  edges-below own e m h =
      let s = get_or (triangles_in c triangles) t [] in
      let k : Memᴰ s (triangles_in c triangles) = get_or-mem (triangles_in c triangles) t [] (rw (length-rows 3 c.triangles triangles) inside) in
      rw e (λ i l. omega (arith, numbers-below (edges_in c edges) 2 s (λ r q. ok.edges_found s r k q) i l, length-rows 2 c.edges edges))

  -- it lies in each of its pentachorons
  pub holder-lies : (own : List ℕ) → own ≡ holding (pents_in c pents) (get_or (triangles_in c triangles) t []) → (k : ℕ) → k < length own
      → (get_or own k 0 < c.pentachorons) × (within (get_or (triangles_in c triangles) t []) (get_or (pents_in c pents) (get_or own k 0) []) ≡ true)
  holder-lies own e k h =
      let s = get_or (triangles_in c triangles) t [] in
      let w = mem-holding (pents_in c pents) s (subst (λ (l : List ℕ). Memᴰ (get_or own k 0) l) e (get_or-mem own k 0 h)) in
      (omega (arith, w.0, length-rows 5 c.pentachorons pents), passes (within-says s (get_or (pents_in c pents) (get_or own k 0) [])) w.1)
