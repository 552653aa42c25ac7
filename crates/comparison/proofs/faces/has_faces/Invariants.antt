-- `comparison::faces::has_faces` meets its contract. The loop's invariant: the faces of the first k pentachorons are met. Assumes nothing.
use Prim.Native.Nat.{◌*◌, ◌/◌, ◌≤◌}
use lib.ListN.{length}
use Rattle.std.specs.Slice.Iter.{chunks_exact_rest, chunks_exact_size}
use Rattle.std.specs.Iterator.Adapters.{enumerate_source, enumerate_count}
use Rattle.complex.specs.Complex.{width_of, count_of, met_faces}
use Rattle.lists.specs.Chains.{Met, Comparable}
use Rattle.lists.specs.Rows.{rows}
use Rattle.complex.proofs.Fives.{AtFive}
use Rattle.comparison.proofs.faces.has_faces.Given as goal

abbrev pub invariant-loop-k : goal.invariant-loop-k
invariant-loop-k l =
    let k = enumerate_count l.k-iterator in record {
      at : AtFive l.pents (chunks_exact_rest (enumerate_source l.k-iterator)) (chunks_exact_size (enumerate_source l.k-iterator)) k;
      few : l.n ≤ l.n_faces;
      comparable : Comparable (width_of l.face) l.list l.initial.head l.initial.next l.initial.numbers 0 l.n_faces 0 (count_of l.face * (length l.pents / 5));
      met : Met (width_of l.face) l.list l.list l.head l.next l.initial.numbers l.numbers 0 0 (met_faces l.face (rows 5 k l.pents)) l.n;
    }
