-- `complex::checks::offence` meets its contract. The loop's invariant: no pentachoron before the k-th offends. Assumes nothing.
use mathlib.Core.Path.{◌≡◌}
use Rattle.std.specs.Slice.Iter.{chunks_exact_rest, chunks_exact_size}
use Rattle.std.specs.Iterator.Adapters.{enumerate_source, enumerate_count}
use Rattle.complex.specs.Builder.{offence, pentachorons}
use Rattle.complex.proofs.checks.offence.Given as goal

abbrev pub invariant-loop-k : goal.invariant-loop-k
invariant-loop-k l = record {
  fives : chunks_exact_size (enumerate_source l.k-iterator) ≡ 5;
  left : offence l.n 0 (pentachorons l.given) ≡ offence l.n (enumerate_count l.k-iterator) (pentachorons (chunks_exact_rest (enumerate_source l.k-iterator)));
}
