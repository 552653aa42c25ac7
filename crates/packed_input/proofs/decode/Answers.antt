-- `packed_input::decode` meets its contract. Assumes nothing.
use mathlib.Core.Path.{refl}
use borrow.Author.Rules.{rules}
use Rattle.complex.specs.Builder.{rooms_of}
use Rattle.packed_input.specs.Decoding.{zero_lists}
use Rattle.packed_input.proofs.decode.Goals as goal

pub decode_parts-answer-requires-clause-rooms : goal.decode_parts-answer-requires-clause-rooms
unfolding rooms_of
decode_parts-answer-requires-clause-rooms c = refl

pub returns : goal.returns
unfolding zero_lists
returns c =
    let f = c.decode_parts-answer in
    let is = f.ensures.lists_after in
    let same = f.ensures.same in
    record { answered = f.ensures.value; complex = search rules; lengths = f.ensures.lengths }
