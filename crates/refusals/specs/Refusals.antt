-- The number and the place of each refusal, and what a call that can be refused answers. Definitions only.
use Rattle.std.specs.Prelude.{ℕ, Result, Ok, Err}
use Rattle.refusals.specs.declared.Refusal.{Refusal}
use Rattle.refusals.specs.declared.Refusal.TheVariants.{VertexCount, ListLength, VertexTooLarge, RepeatedVertex, ShortRoom, LatticeSize, NotBuilt, LengthCount, EdgeTooLarge, RepeatedEdge, BadIndex, BadInput, TooManyPentachorons}

-- the number of the condition that is broken
abbrev pub number_of : Refusal → ℕ
number_of VertexCount = 1
number_of ListLength = 2
number_of (VertexTooLarge p) = 3
number_of (RepeatedVertex p) = 4
number_of ShortRoom = 5
number_of LatticeSize = 6
number_of NotBuilt = 7
number_of LengthCount = 8
number_of EdgeTooLarge = 9
number_of RepeatedEdge = 10
number_of BadIndex = 11
number_of BadInput = 12
number_of TooManyPentachorons = 13

-- the pentachoron's number for 3 and 4, else 0
abbrev pub place_of : Refusal → ℕ
place_of VertexCount = 0
place_of ListLength = 0
place_of (VertexTooLarge p) = p
place_of (RepeatedVertex p) = p
place_of ShortRoom = 0
place_of LatticeSize = 0
place_of NotBuilt = 0
place_of LengthCount = 0
place_of EdgeTooLarge = 0
place_of RepeatedEdge = 0
place_of BadIndex = 0
place_of BadInput = 0
place_of TooManyPentachorons = 0

-- ---- answers

-- what a call says that writes its answer to a lent buffer, or a check: a refusal, or nothing
abbrev pub Outcome : Type 0
Outcome = Result (Unit {0}) Refusal

-- no refusal
abbrev pub Done : Outcome
Done = Ok (tt {0})

-- the answer x of a call whose checks say o
abbrev pub answer_by : {A : Type 0} → Outcome → A → Result A Refusal
answer_by (Ok u) x = Ok x
answer_by (Err r) x = Err r

-- the refusal's number, 0 where the call answered
abbrev pub number_in : {A : Type 0} → Result A Refusal → ℕ
number_in (Ok x) = 0
number_in (Err r) = number_of r

-- the refusal's place, 0 where the call answered
abbrev pub place_in : {A : Type 0} → Result A Refusal → ℕ
place_in (Ok x) = 0
place_in (Err r) = place_of r

-- the answer, or another value for a refusal
abbrev pub value_or : {A : Type 0} → Result A Refusal → A → A
value_or (Ok x) other = x
value_or (Err r) other = other
