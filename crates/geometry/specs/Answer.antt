-- What `cofactor_6x6` answers. Definitions only.
use Rattle.std.specs.Prelude.{ℕ, cond, ◌||◌, List, ltb, Float, Result, Ok, Err}
use Rattle.refusals.specs.declared.Refusal.{Refusal}
use Rattle.refusals.specs.declared.Refusal.TheVariants.{BadIndex}
use Rattle.floats.specs.Algebra.{doubles}
use Rattle.geometry.specs.Determinant.{cofactor}

-- refusal 11 where the row or the column is above 5
abbrev pub cofactor_answer : List (List Float) → ℕ → ℕ → Result Float Refusal
cofactor_answer m row col = cond (ltb 5 row || ltb 5 col) (Err BadIndex) (Ok (cofactor doubles m row col))
