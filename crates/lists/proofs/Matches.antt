-- Rows met in a list as it is: the list has them, or it begins with other rows. Assumes nothing.
use Prim.Native.Nat.{ℕ, suc, ◌+◌, ◌*◌, ◌-◌, ◌≤◌, ◌<◌}
use mathlib.Core.Path.{◌≡◌, refl, sym, ap, ◌∙◌, subst}
use Rattle.std.specs.Prelude.{Some, None}
use Rattle.std.proofs.lemmas.Option.{none-some}
use mathlib.Core.Bool.{true, false}
use mathlib.Core.List.{List, [], ◌∷◌, ◌++◌, foldl, foldl-append, append_assoc}
use native.Mathlib.Numerals.{add-one}
use native.Mathlib.Omega.{arith}
use lib.ListN.{length, get_or, take, drop, set, length-append, take-append-drop}
use lib.Seq.{drop-drop, drop-set-lt, get_or_at, take_at}
use Rattle.lists.specs.Keys.{eqs, find, meet}
use Rattle.lists.specs.Rows.{rows}
use Rattle.lists.specs.Chains.{hash, Met, Comparable, Stand, Compared}
use Rattle.lists.proofs.Tests.{said, denied}
use Rattle.lists.proofs.Keys.{eqs-says, meet-new, fold-grows}
use Rattle.lists.proofs.Rows.{length-rows, rows_snoc, rows_split, take-rows, row_below}
use Rattle.lists.proofs.Chains.{met-old, met-new}

-- ---- the beginning of a list

-- a list that begins with rows and those that are met later begins with the rows
pub stand-front : (w : ℕ) (e : List ℕ) (m : ℕ) (ks ts : List (List ℕ)) → Stand w e m (foldl meet ks ts) → Stand w e m ks
stand-front w e m ks ts st =
    let g : (zs : List (List ℕ)) × (foldl meet ks ts ≡ ks ++ zs) = fold-grows ts ks in
    let long : length (foldl meet ks ts) ≡ length ks + length g.0 = ap length g.1 ∙ length-append ks g.0 in
    record {
      few = omega (arith, st.few);
      same =
          sym (take-rows w (length ks) (length (foldl meet ks ts)) e (omega arith))
          ∙ ap (take (length ks)) (st.same ∙ g.1)
          ∙ take_at ks g.0 (length ks) refl;
    }

less : {n m : ℕ} → n ≤ m → (n ≡ m → ⊥) → n < m
less l f = omega arith

-- row n ends among m rows
pub next-room : (w n m : ℕ) → n ≤ m → (n ≡ m → ⊥) → w * n + w ≤ w * m
next-room w n m l f = row_below w n m (less l f)

-- ---- one row

module _ (w : ℕ) (e h x u : List ℕ) (n m at k : ℕ) (s : List ℕ) (ok : Comparable w e h x u n m at 1) (is : k ≡ find s (rows w n e)) where
  -- it is known
  pub compared-old : k < n → Compared w e h x u (set u at k) n m at (s ∷ []) (Some n)
  compared-old l =
      record {
        yes = (met-old w e h x u n at k s ok.indexed (omega (arith, ok.numbers)) is l, ok.known);
        no = λ f. absurd (none-some n (sym f));
        kept = drop-set-lt (at + 1) u at k (omega arith);
      }

  module _ (ge : n ≤ k) where
    absent : find s (rows w n e) < length (rows w n e) → ⊥
    absent l = omega (arith, length-rows w n e)

    more : foldl meet (rows w n e) (s ∷ []) ≡ rows w n e ++ s ∷ []
    more = meet-new (rows w n e) s absent

    count : length (foldl meet (rows w n e) (s ∷ [])) ≡ n + 1
    count = ap length more ∙ length-append (rows w n e) (s ∷ []) ∙ omega (arith, length-rows w n e)

    -- it is a row too many
    pub compared-full : n ≡ m → Compared w e h x u (set u at k) n m at (s ∷ []) None
    compared-full z = record { yes = tt; no = λ f st. omega (arith, count, st.few); kept = drop-set-lt (at + 1) u at k (omega arith) }

    module _ (size : length s ≡ w) (other : n ≡ m → ⊥) where
      row : List ℕ
      row = take w (drop (w * n) e)

      -- row n of the list is another
      pub compared-other : eqs s (take (length s) (drop (w * n) e)) ≡ false → Compared w e h x u (set u at k) n m at (s ∷ []) None
      unfolding row
      compared-other f =
          record {
            yes = tt;
            no =
                λ z st.
                let both : rows w n e ++ row ∷ [] ≡ rows w n e ++ s ∷ [] =
                sym (rows_snoc w n e) ∙ ap (λ (i : ℕ). rows w i e) (sym (count ∙ add-one n)) ∙ st.same ∙ more in
                let here : row ≡ s =
                sym (get_or_at (rows w n e) row [] [] n (length-rows w n e)) ∙ ap (λ (l : List (List ℕ)). get_or l n []) both ∙ get_or_at (rows w n e) s [] [] n (length-rows w n e) in
                denied (eqs-says s (take (length s) (drop (w * n) e))) f (rw size (sym here));
            kept = drop-set-lt (at + 1) u at k (omega arith);
          }

      -- row n of the list is it
      pub compared-new : eqs s (take (length s) (drop (w * n) e)) ≡ true
          → Compared w e (set h (hash s) (n + 1)) (set x n (get_or h (hash s) 0)) u (set u at k) n m at (s ∷ []) (Some (n + 1))
      compared-new t =
          let here : s ≡ take (length s) (drop (w * n) e) = said (eqs-says s (take (length s) (drop (w * n) e))) t in
          let room : w * n + w ≤ w * m = next-room w n m ok.known other in
          let below : n < m = less ok.known other in
          let stored : e ≡ take (w * n) e ++ s ++ drop (w * n + length s) e =
          sym (take-append-drop (w * n) e)
          ∙ ap (λ (l : List ℕ). take (w * n) e ++ l) (sym (take-append-drop (length s) (drop (w * n) e)) ∙ (λ i. sym here i ++ swap i))
          ∙ sym (append_assoc (take (w * n) e) s (drop (w * n + length s) e)) in
          record {
            yes = (met-new w e h x u n at k s ok.indexed (omega (arith, ok.numbers)) is e size stored ge (omega (arith, ok.room)) (omega (arith, ok.links)), omega arith);
            no = λ f. absurd (none-some (n + 1) (sym f));
            kept = drop-set-lt (at + 1) u at k (omega arith);
          }
        where
          swap : drop (length s) (drop (w * n) e) ≡ drop (w * n + length s) e
          swap = drop-drop (length s) (w * n) e

-- ---- rows one after the other

-- what a comparison of rows more asks, while the list has those that were met
pub comparable-next : (w : ℕ) (e h h' x x' u u' : List ℕ) (n r m at at₁ c d : ℕ) (ts : List (List ℕ)) → Comparable w e h x u n m at c → Met w e e h' x' u u' n at ts r
    → r ≤ m → at₁ ≡ at + length ts → length ts + d ≤ c → length x' ≡ length x → length u' ≡ length u → Comparable w e h' x' u' r m at₁ d
comparable-next w e h h' x x' u u' n r m at at₁ c d ts ok met le place l lx lu =
    record {
      indexed = met.indexed;
      known = le;
      room = ok.room;
      links = omega (arith, ok.links);
      numbers = omega (arith, ok.numbers);
      few = ok.few;
    }

-- a list that has other rows than those up to row q has others than all
pub others-all : (w : ℕ) (e given : List ℕ) (m q count : ℕ) (ks : List (List ℕ)) → q < count
    → (Stand w e m (foldl meet (foldl meet ks (rows w q given)) (take w (drop (w * q) given) ∷ [])) → ⊥) → Stand w e m (foldl meet ks (rows w count given)) → ⊥
others-all w e given m q count ks l f st =
    let z : suc q + (count - suc q) ≡ count = omega arith in
    let rest = rows w (count - suc q) (drop (w * suc q) given) in
    let all : rows w count given ≡ rows w q given ++ take w (drop (w * q) given) ∷ [] ++ rest =
    ap (λ (i : ℕ). rows w i given) (sym z) ∙ rows_split w (suc q) (count - suc q) given ∙ ap (λ (k : List (List ℕ)). k ++ rest) (rows_snoc w q given) in
    let folded : foldl meet ks (rows w count given) ≡ foldl meet (foldl meet (foldl meet ks (rows w q given)) (take w (drop (w * q) given) ∷ [])) rest =
    ap (foldl meet ks) all
    ∙ foldl-append meet ks (rows w q given ++ take w (drop (w * q) given) ∷ []) rest
    ∙ ap (λ (k : List (List ℕ)). foldl meet k rest) (foldl-append meet ks (rows w q given) (take w (drop (w * q) given) ∷ [])) in
    f (stand-front w e m (foldl meet (foldl meet ks (rows w q given)) (take w (drop (w * q) given) ∷ [])) rest (subst (Stand w e m) folded st))
