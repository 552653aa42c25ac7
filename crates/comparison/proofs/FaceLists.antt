-- When a list has the faces of pentachorons, as the comparison of rows tells. Assumes nothing.
use Prim.Native.Nat.{ℕ, ◌+◌, ◌*◌, ◌-◌, ◌≤◌, ◌<◌}
use mathlib.Core.Path.{◌≡◌, refl, sym, ap, ◌∙◌, subst}
use mathlib.Core.Bool.{false}
use mathlib.Core.List.{List, [], ◌++◌, foldl, foldl-append}
use native.Mathlib.Nat.{mul-le-mul_left}
use native.Mathlib.Omega.{arith}
use lib.Dec.{eqb}
use lib.ListN.{length, take, drop, replicate}
use Rattle.lists.specs.Lists.{gather}
use Rattle.lists.specs.Keys.{meet, firsts}
use Rattle.lists.specs.Rows.{flat, rows, Wide, over}
use Rattle.lists.specs.Chains.{Met, Comparable, Stand}
use Rattle.lists.proofs.Tests.{Says, eqb-says, and-says, says_same, fails}
use Rattle.lists.proofs.Elements.{gather_append}
use Rattle.lists.proofs.Keys.{firsts-room}
use Rattle.lists.proofs.Choices.{combos-length}
use Rattle.lists.proofs.Rows.{length-flat, rows_split, rows-begins, over-take, begins-says, begins-long}
use Rattle.lists.proofs.Chains.{indexed-none, met-count, met-rows, met-numbers}
use Rattle.lists.proofs.Matches.{stand-front}
use Rattle.complex.specs.declared.numbering.Face.{Face}
use Rattle.complex.specs.Complex.{width_of, count_of, faces_of, met_faces, faces, numbers_of}
use Rattle.comparison.specs.CheckParts.{has_faces}
use Rattle.complex.specs.Parts.{Searched}
use Rattle.complex.proofs.Meetings.{count-le, length-met, met_next}
use Rattle.complex.proofs.Lying.{choice-of, faces-only}

-- ---- what the test says

pub faces-wide : (f : Face) (ps : List (List ℕ)) → Wide (width_of f) (faces f ps)
faces-wide f ps s m = let w = faces-only f ps m in combos-length w.0 (width_of f) (choice-of f w.0 w.2)

-- a list has the faces, and n is their count
pub record HasFaces (f : Face) (ps : List (List ℕ)) (n : ℕ) (list : List ℕ) : Type 0 where
  pub count : n ≡ length (faces f ps)
  pub front : take (length (flat (faces f ps))) list ≡ flat (faces f ps)

pub has-says : (f : Face) (ps : List (List ℕ)) (n : ℕ) (list : List ℕ) → Says (HasFaces f ps n list) (has_faces f ps n list)
unfolding has_faces
has-says f ps n list =
    and-says (λ p q. record { count = p; front = q }) (λ h. h.count) (λ h. h.front) (eqb-says n (length (faces f ps))) (begins-says (flat (faces f ps)) list)

module _ (f : Face) (ps : List (List ℕ)) (n : ℕ) (list : List ℕ) where
  -- there are at most as many faces as are met
  pub too_many : Wide 5 ps → count_of f * length ps < n → has_faces f ps n list ≡ false
  unfolding faces
  too_many five l = fails (has-says f ps n list) (λ h. omega (arith, h.count, firsts-room (met_faces f ps), length-met f ps five))

  -- the rows of a list that has them are the faces
  pub has-rows : HasFaces f ps n list → rows (width_of f) n list ≡ faces f ps
  has-rows h = ap (λ (m : ℕ). rows (width_of f) m list) h.count ∙ rows-begins (width_of f) (faces f ps) list (faces-wide f ps) h.front

  pub has_room : HasFaces f ps n list → width_of f * n ≤ length list
  has_room h =
      omega (arith, begins-long (flat (faces f ps)) list h.front, length-flat (width_of f) (faces f ps) (faces-wide f ps), ap (λ (m : ℕ). width_of f * m) h.count)

  pub too_short : length list < width_of f * n → has_faces f ps n list ≡ false
  too_short l = fails (has-says f ps n list) (λ h. omega (arith, has_room h))

  stands : HasFaces f ps n list → Stand (width_of f) list n (foldl meet [] (met_faces f ps))
  unfolding faces firsts
  stands h = record { few = omega (arith, h.count); same = ap (λ (m : ℕ). rows (width_of f) m list) (sym h.count) ∙ has-rows h }

  -- all faces are met in the list: it has them where its count is theirs
  pub has_all : (h x u u' : List ℕ) (r : ℕ) → Met (width_of f) list list h x u u' 0 0 (met_faces f ps) r → width_of f * r ≤ length list → eqb r n ≡ has_faces f ps n list
  unfolding faces
  has_all h x u u' r met room =
      let c = met-count (width_of f) list list h x u u' (met_faces f ps) r met in
      let e = met-rows (width_of f) list list h x u u' (met_faces f ps) r met room in
      let t : take (length (flat (faces f ps))) list ≡ flat (faces f ps) = ap (take (length (flat (faces f ps)))) e ∙ over-take (flat (faces f ps)) list (length (flat (faces f ps))) refl in
      says_same (λ z. record { count = sym z ∙ c; front = t }) (λ k. c ∙ sym k.count) (eqb-says r n) (has-says f ps n list)

  -- and their numbers are noted
  pub has-noted : (h x u u' : List ℕ) (r : ℕ) → Met (width_of f) list list h x u u' 0 0 (met_faces f ps) r → u' ≡ over (numbers_of f ps) u
  unfolding faces numbers_of
  has-noted h x u u' r met = met-numbers (width_of f) list list h x u u' (met_faces f ps) r met

-- ---- the loop over the pentachorons

-- the list has other rows than the faces up to those of pentachoron k
pub has-others : (f : Face) (pents : List ℕ) (n : ℕ) (list : List ℕ) (k P : ℕ) → k < P
    → (Stand (width_of f) list n (foldl meet (foldl meet (rows (width_of f) 0 list) (met_faces f (rows 5 k pents))) (faces_of f (take 5 (drop (5 * k) pents)))) → ⊥) → has_faces f (rows 5 P pents) n list ≡ false
unfolding met_faces rows
has-others f pents n list k P l other =
    let z : k + 1 + (P - (k + 1)) ≡ P = omega arith in
    let rest = rows 5 (P - (k + 1)) (drop (5 * (k + 1)) pents) in
    let all : met_faces f (rows 5 P pents) ≡ met_faces f (rows 5 k pents) ++ faces_of f (take 5 (drop (5 * k) pents)) ++ gather (faces_of f) rest =
    ap (λ (m : ℕ). met_faces f (rows 5 m pents)) (sym z) ∙ ap (met_faces f) (rows_split 5 (k + 1) (P - (k + 1)) pents) ∙ gather_append (faces_of f) (rows 5 (k + 1) pents) rest
    ∙ ap (λ (m : List (List ℕ)). m ++ gather (faces_of f) rest) (met_next f k pents) in
    let folded : foldl meet [] (met_faces f (rows 5 P pents)) ≡ foldl meet (foldl meet (foldl meet [] (met_faces f (rows 5 k pents))) (faces_of f (take 5 (drop (5 * k) pents)))) (gather (faces_of f) rest) =
    ap (foldl meet []) all
    ∙ foldl-append meet [] (met_faces f (rows 5 k pents) ++ faces_of f (take 5 (drop (5 * k) pents))) (gather (faces_of f) rest)
    ∙ ap (λ (m : List (List ℕ)). foldl meet m (gather (faces_of f) rest)) (foldl-append meet [] (met_faces f (rows 5 k pents)) (faces_of f (take 5 (drop (5 * k) pents)))) in
    fails (has-says f (rows 5 P pents) n list)
    (λ h. other (stand-front (width_of f) list n (foldl meet (foldl meet [] (met_faces f (rows 5 k pents))) (faces_of f (take 5 (drop (5 * k) pents)))) (gather (faces_of f) rest)
    (subst (Stand (width_of f) list n) folded (stands f (rows 5 P pents) n list h))))

-- it begins with no face
pub comparable-none : (f : Face) (P pents n : ℕ) (e h x u : List ℕ) (m : ℕ) → m ≡ 32768 → h ≡ replicate m 0 → Searched f P pents (length x) (length u)
    → n ≤ count_of f * P → width_of f * n ≤ length e → Comparable (width_of f) e h x u 0 n 0 (count_of f * P)
unfolding rows
comparable-none f P pents n e h x u m q r ok few room =
    let b : count_of f * P ≤ count_of f * 8192 = mul-le-mul_left (count_of f) ok.few in
    record {
      indexed = indexed-none h x m q r;
      known = omega arith;
      room = room;
      links = omega (arith, ok.links);
      numbers = omega (arith, ok.numbered);
      few = omega (arith, count-le f);
    }
