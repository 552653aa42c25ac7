-- `lattice_edges::edges::write_entries` meets its contract. The loop's invariant: the entries of the edges before the k-th are written. Assumes nothing.
use Prim.Native.Nat.{ℕ, ◌+◌, ◌*◌, ◌/◌}
use mathlib.Core.Path.{◌≡◌}
use mathlib.Core.List.{List, ◌++◌, map}
use lib.ListN.{length, get_or, take, drop}
use Rattle.lists.specs.Lists.{upto}
use Rattle.foliation.specs.declared.Lattice.{Lattice}
use Rattle.lattice_edges.specs.Edges.{Gives}
use Rattle.lattice_edges.proofs.edges.write_entries.Given as goal

-- what h makes of edge k
abbrev pub entry_at : {A : Type 0} → (ℕ → ℕ → A) → List ℕ → ℕ → A
entry_at h edges k = h (get_or edges (2 * k) 0) (get_or edges (2 * k + 1) 0)

abbrev pub invariant-loop-k : goal.invariant-loop-k
invariant-loop-k g l =
    (h : Lattice → ℕ → ℕ → g.row.T.Denot) → Gives (goal.F-post g l.entry) h → l.slot-items ≡ map (entry_at (h l.lawful.lattice) l.edges) (upto l.k) ++ drop l.k (take (length l.edges / 2) l.fn.list)
