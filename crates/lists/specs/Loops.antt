-- Loops that bring places of a list up to date, one event after the other; an event is a place and a value. Definitions only.
use Rattle.std.specs.Prelude.{ℕ, cond, List, [], ◌∷◌, eqb, get_or, set}

-- the list after all events; what a place holds goes to f with the event's value
module _ {S X : Type 0} (d : S) (f : S → X → S) where
  unfoldable pub scatter : List (ℕ × X) → List S → List S
  scatter [] xs = xs
  scatter (a ∷ es) xs = scatter es (set xs a.0 (f (get_or xs a.0 d) a.1))

-- the values of the events at place i, in their order
unfoldable pub hits : {X : Type 0} → ℕ → List (ℕ × X) → List X
hits i [] = []
hits i (a ∷ es) = let r = hits i es in cond (eqb a.0 i) (a.1 ∷ r) r
