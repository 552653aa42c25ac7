-- What the parts of the decoder leave. Definitions only.
use Rattle.std.specs.Prelude.{ℕ, ◌≡◌, List, Err, Ok, Result}
use Rattle.refusals.specs.declared.Refusal.{Refusal}
use Rattle.packed_input.specs.declared.fields.Packed.{Packed}
use Rattle.packed_input.specs.Decoding.{header_check_of}

-- an input is read: its bytes with the counts of its header, or the header's refusal
abbrev pub Reads : List ℕ → Result Packed Refusal → Type 0
Reads input (Ok p) = p.bytes.now ≡ input
Reads input (Err r) = header_check_of input ≡ Err r
