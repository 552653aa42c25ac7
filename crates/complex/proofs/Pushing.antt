-- What the Rust's loops push is what the definitions say: the rows in which each face lies, ascending. Assumes nothing.
use Prim.Native.Nat.{ℕ, ◌<◌}
use mathlib.Core.Path.{◌≡◌, refl, sym, ap, ◌∙◌, subst}
use mathlib.Core.Bool.{Bool, cond}
use mathlib.Core.List.Memᴰ
use mathlib.Core.List.{List, [], ◌∷◌, ◌++◌, map, foldl, append-nil, append_assoc, Memᴰ}
use lib.ListN.{length, get_or, replicate, length-replicate, get_or-replicate, length-map}
use lib.Seq.{ext_get_or}
use Rattle.lists.specs.Lists.{gather, upto, combos, within, Within}
use Rattle.lists.specs.Keys.{find}
use Rattle.lists.specs.Rows.{Wide}
use Rattle.lists.specs.Loops.{hits}
use Rattle.lists.proofs.Tests.{Says, pass, fail}
use Rattle.lists.proofs.Elements.{get_or-mem, get_or-map, mem-upto, within-says}
use Rattle.lists.proofs.Keys.{find-get}
use Rattle.lists.proofs.Choices.{combos-within, combos_has, combos-once}
use Rattle.lists.proofs.Loops.{length-scatter, scatter-at, hits-keep, hits-one, hits-none}
use Rattle.complex.specs.Complex.{edges, triangles, holding, tri_to_pents, edge_to_tris, edge_to_pents}
use Rattle.complex.specs.Pushed.{pushes, pushed}
use Rattle.complex.proofs.Lying.{Sorted, Keyed}
use Rattle.complex.proofs.FaceNumbers.{keyed-triangles, keyed-edges, keyed-triangle-edges}

fold_push : (xs is : List ℕ) → foldl (λ xs i. xs ++ i ∷ []) xs is ≡ xs ++ is
fold_push xs [] = sym (append-nil xs)
fold_push xs (i ∷ is) = fold_push (xs ++ i ∷ []) is ∙ append_assoc xs (i ∷ []) is

map-id : (xs : List ℕ) → map (λ i. i) xs ≡ xs
map-id [] = refl
map-id (x ∷ xs) = ap (λ (r : List ℕ). x ∷ r) (map-id xs)

module _ (keys : List (List ℕ)) (k w : ℕ) (rs : List (List ℕ)) (ok : Keyed keys k w rs) where
  stands : (f : ℕ) → f < length keys → (s : List ℕ) → find s keys ≡ f → get_or keys f [] ≡ s
  stands f h s e = ap (λ (j : ℕ). get_or keys j []) (sym e) ∙ find-get s keys (rw e h)

  -- row i is pushed once onto the list of each face that lies in it, and onto no other
  one-row : (f : ℕ) → f < length keys → (i : ℕ) → i < length rs → hits f (pushes keys k rs i) ≡ cond (within (get_or keys f []) (get_or rs i [])) (i ∷ []) []
  unfolding pushes
  one-row f h i b = go (within-says (get_or keys f []) (get_or rs i []))
    where
      go : {c : Bool} → Says (Within (get_or keys f []) (get_or rs i [])) c → hits f (map (λ s. (find s keys, i)) (combos (get_or rs i []) k)) ≡ cond c (i ∷ []) []
      go (pass v) =
          let up = ok.sorted (get_or rs i []) (get_or-mem rs i [] b) in
          let g = ok.rising (get_or keys f []) (get_or-mem keys f [] h) in
          hits-one f (λ s. find s keys) (λ s. i) (combos (get_or rs i []) k) (get_or keys f []) (combos-once (get_or rs i []) k up)
          (combos_has (get_or rs i []) k (get_or keys f []) up g.0 g.1 v) (ok.distinct f h) (λ s m e. sym (stands f h s e))
      go (fail n) =
          hits-none f (map (λ s. (find s keys, i)) (combos (get_or rs i []) k))
          (λ a m e.
          let q : (s : List ℕ) × Memᴰ s (combos (get_or rs i []) k) × ((find s keys, i) ≡ a) = Memᴰ.of_map (λ s. (find s keys, i)) (combos (get_or rs i []) k) m in
          n (subst (λ (u : List ℕ). Within u (get_or rs i [])) (sym (stands f h q.0 (ap (λ (b : ℕ × ℕ). b.0) q.2 ∙ e))) (combos-within (get_or rs i []) k q.1)))

  pushed_at : (f : ℕ) → f < length keys → get_or (pushed keys k rs) f [] ≡ holding rs (get_or keys f [])
  unfolding pushed holding
  pushed_at f h =
      scatter-at [] (λ xs i. xs ++ i ∷ []) (gather (pushes keys k rs) (upto (length rs))) (replicate (length keys) []) f (rw length-replicate h)
      ∙ fold_push (get_or (replicate (length keys) []) f []) (hits f (gather (pushes keys k rs) (upto (length rs))))
      ∙ ap (λ (x : List ℕ). x ++ hits f (gather (pushes keys k rs) (upto (length rs)))) (get_or-replicate {A = List ℕ} (length keys) f [] [] h)
      ∙ hits-keep f (pushes keys k rs) (λ i. i) (λ i. within (get_or keys f []) (get_or rs i [])) (upto (length rs)) (λ i m. one-row f h i (mem-upto (length rs) i m))
      ∙ map-id (holding rs (get_or keys f []))

  length-pushed : length (pushed keys k rs) ≡ length keys
  unfolding pushed
  length-pushed =
      length-scatter [] (λ xs i. xs ++ i ∷ []) (gather (pushes keys k rs) (upto (length rs))) (replicate (length keys) []) ∙ length-replicate (length keys) []

  pub pushed-holding : pushed keys k rs ≡ map (holding rs) keys
  pushed-holding =
      ext_get_or [] (pushed keys k rs) (map (holding rs) keys) (length-pushed ∙ sym (length-map keys (holding rs)))
      (λ f l.
      let h : f < length keys = rw length-pushed at l in
      pushed_at f h ∙ sym (get_or-map (holding rs) keys f [] [] h))

-- ---- the three lists

module _ (ps : List (List ℕ)) (five : Wide 5 ps) (up : Sorted ps) where
  pub tri-to-pents-pushed : pushed (triangles ps) 3 ps ≡ tri_to_pents ps
  unfolding tri_to_pents
  tri-to-pents-pushed = pushed-holding (triangles ps) 3 10 ps (keyed-triangles ps five up)

  pub edge-to-tris-pushed : pushed (edges ps) 2 (triangles ps) ≡ edge_to_tris ps
  unfolding edge_to_tris
  edge-to-tris-pushed = pushed-holding (edges ps) 2 3 (triangles ps) (keyed-triangle-edges ps five up)

  pub edge-to-pents-pushed : pushed (edges ps) 2 ps ≡ edge_to_pents ps
  unfolding edge_to_pents
  edge-to-pents-pushed = pushed-holding (edges ps) 2 10 ps (keyed-edges ps five up)
