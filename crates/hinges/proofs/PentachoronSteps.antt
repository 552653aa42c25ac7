-- The steps over pentachorons of the lent lists: how many vertices, edges and triangles they have, and that the numbers of these lie within. Assumes nothing.
use Prim.Native.Nat.{ℕ, ◌≤◌, ◌<◌}
use mathlib.Core.Path.{◌≡◌, sym, ◌∙◌, subst}
use mathlib.Core.List.{List, [], Memᴰ}
use native.Mathlib.Omega.{arith}
use lib.ListN.{length, get_or, length-map}
use Rattle.lists.specs.Lists.{combos}
use Rattle.lists.specs.Keys.{find}
use Rattle.lists.specs.Rows.{Wide}
use Rattle.lists.specs.Groups.{Below}
use Rattle.lists.proofs.Elements.{get_or-mem, get_or-map}
use Rattle.lists.proofs.Keys.{find-mem}
use Rattle.lists.proofs.Rows.{length-rows, rows-wide}
use Rattle.complex.specs.declared.Counts.{Counts}
use Rattle.complex.specs.declared.numbering.Face.TheVariants.{Edge, Triangle}
use Rattle.complex.specs.Complex.{row_numbers}
use Rattle.complex.specs.Check.{pents_in, edges_in, triangles_in}
use Rattle.complex.proofs.Meetings.{count-faces}
use Rattle.hinges.specs.Parts.{Passable}

-- the numbers of faces that are among the keys are below their count
pub numbers-below : (keys : List (List ℕ)) (k : ℕ) (r : List ℕ) → ((s : List ℕ) → Memᴰ s (combos r k) → Memᴰ s keys) → Below (row_numbers keys k r) (length keys)
numbers-below keys k r found i h =
    let l : i < length (combos r k) = subst (λ (n : ℕ). i < n) (length-map (combos r k) (λ s. find s keys)) h in
    let s = get_or (combos r k) i [] in
    subst (λ (n : ℕ). n < length keys) (sym (get_or-map (λ s. find s keys) (combos r k) i [] 0 l)) (find-mem s keys (found s (get_or-mem (combos r k) i [] l)))

-- ---- a pentachoron of the lent lists

module _ {c : Counts} {pents edges triangles pe pt : List ℕ} {n : ℕ} (ok : Passable c pents edges triangles pe pt n) where
  pub pents-wide : Wide 5 (pents_in c pents)
  pents-wide = rows-wide 5 c.pentachorons pents ok.edge_numbers.room

  module _ (p : ℕ) (inside : p < c.pentachorons) where
    pent-mem : Memᴰ (get_or (pents_in c pents) p []) (pents_in c pents)
    pent-mem = get_or-mem (pents_in c pents) p [] (rw (length-rows 5 c.pentachorons pents) inside)

    -- it has five vertices
    pub pent-five : length (get_or (pents_in c pents) p []) ≡ 5
    pent-five = pents-wide (get_or (pents_in c pents) p []) pent-mem

    -- its ten edges have lengths
    pub own-edges : (own : List ℕ) → own ≡ row_numbers (edges_in c edges) 2 (get_or (pents_in c pents) p []) → (length own ≡ 10) × Below own n
    own-edges own e =
        let r = get_or (pents_in c pents) p [] in
        rw e (
          length-map (combos r 2) (λ s. find s (edges_in c edges)) ∙ count-faces Edge r pent-five,
          λ i h. omega (arith, numbers-below (edges_in c edges) 2 r (λ s m. ok.edges_found r s pent-mem m) i h, length-rows 2 c.edges edges, ok.lengths),
        )

    -- its ten triangles have places in lists that have one for each
    pub own-triangles : (own : List ℕ) → own ≡ row_numbers (triangles_in c triangles) 3 (get_or (pents_in c pents) p []) → (length own ≡ 10) × ((m : ℕ) → c.triangles ≤ m → Below own m)
    own-triangles own e =
        let r = get_or (pents_in c pents) p [] in
        rw e (
          length-map (combos r 3) (λ s. find s (triangles_in c triangles)) ∙ count-faces Triangle r pent-five,
          λ m k i h. omega (arith, numbers-below (triangles_in c triangles) 3 r (λ s q. ok.triangles_found r s pent-mem q) i h, length-rows 3 c.triangles triangles),
        )
