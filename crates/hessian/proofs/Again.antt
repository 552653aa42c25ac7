-- What a struct's field says of its complex, numbers and lengths, as the functions that are called ask for it. Assumes nothing.
use Prim.Native.Nat.{ℕ, ◌<◌}
use mathlib.Core.HLevel.{×_prop}
use mathlib.Core.List.{List, [], ◌∷◌}
use mathlib.Core.Logic.{∥∥₁_elim, ∥∥₁_map}
use mathlib.Core.Path.{sym, subst}
use native.Mathlib.Omega.{arith}
use denote.Struct.Props.{props}
use lib.ListN.{length, get_or}
use Rattle.lists.specs.Lists.{Within, Rising}
use Rattle.lists.proofs.Elements.{get_or-mem, mem-get_or}
use Rattle.lists.proofs.Keys.{find-mem, mem-find}
use Rattle.complex.specs.Complex.{holding}
use Rattle.complex.proofs.Lying.{mem-holding, holding-mem}
use Rattle.incidence.specs.Incidence.{Lie}
use Rattle.hinges.specs.Parts.{Found, IsMeasured}
use Rattle.hessian.specs.declared.matrix.Measured.{Measured}

-- a list rises in one way
rising-prop : (xs : List ℕ) → IsProp (Rising xs)
rising-prop [] = Prim.hlevel props
rising-prop (x ∷ xs) = ×_prop (Prim.hlevel props) (rising-prop xs)

-- each face is found again among the keys
found-again : (keys : List (List ℕ)) (k : ℕ) (rs : List (List ℕ)) → ∥ Found keys k rs ∥₁ → Found keys k rs
found-again keys k rs known r s m n = mem-find s keys (∥∥₁_elim known (search props) (λ f. find-mem s keys (f r s m n)))

-- each triangle lies in the first pentachoron of those that hold it
lie-again : (ps ts : List (List ℕ)) → ∥ Lie ps ts ∥₁ → Lie ps ts
lie-again ps ts known t m =
    let some : 0 < length (holding ps t) =
    ∥∥₁_elim known (search props) (λ f.
    let p = f t m in
    let i = mem-get_or [] p.1 in
    let k = mem-get_or 0 (holding-mem ps t i.1 (subst (λ (r : List ℕ). Within t r) (sym i.2) p.2)) in
    omega (arith, k.1)) in
    let first = mem-holding ps t (get_or-mem (holding ps t) 0 0 some) in
    (get_or ps (get_or (holding ps t) 0 0) [], get_or-mem ps (get_or (holding ps t) 0 0) [] first.0, first.1)

-- all that is asked of a struct's complex, numbers and lengths
pub measured-of : (b : Measured) → IsMeasured b.complex b.incidence (length b.sq_lengths.now)
measured-of b =
    let known = b.measured in
    record {
      passable = record {
        few = ∥∥₁_elim known (search props) (λ m. m.passable.few);
        edge_numbers = ∥∥₁_elim known (Prim.hlevel props) (λ m. m.passable.edge_numbers);
        tri_numbers = ∥∥₁_elim known (Prim.hlevel props) (λ m. m.passable.tri_numbers);
        edges_found = found-again _ _ _ (∥∥₁_map known (λ m. m.passable.edges_found));
        triangles_found = found-again _ _ _ (∥∥₁_map known (λ m. m.passable.triangles_found));
        lengths = ∥∥₁_elim known (search props) (λ m. m.passable.lengths);
      };
      few = ∥∥₁_elim known (search props) (λ m. m.few);
      simplices = ∥∥₁_elim known (Prim.hlevel (props, rising-prop)) (λ m. m.simplices);
      lie = lie-again _ _ (∥∥₁_map known (λ m. m.lie));
      holders = ∥∥₁_elim known (search props) (λ m. m.holders);
      edges_found = found-again _ _ _ (∥∥₁_map known (λ m. m.edges_found));
    }
