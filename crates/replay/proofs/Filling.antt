-- A list whose every entry is given by a rule. Assumes nothing.
use Rattle.std.proofs.Common.{◌≡◌, ℕ, ◌<◌, List, length, get_or, map, sym, ◌∙◌, arith, mod-eq_of_lt}
use Rattle.std.proofs.lemmas.List.{ext_get_or, length-map}
use Rattle.lists.specs.Lists.{upto}
use Rattle.replay.specs.Filled.{word_of, pattern_at}
use Rattle.lists.proofs.Elements.{length-upto, get_or-table}

-- given at each place, the list is the table of the rule
pub filled_by : {A : Type 0} (f : ℕ → A) (old new : List A) → length new ≡ length old → ((k : ℕ) (d : A) → k < length old → get_or new k d ≡ f k) → new ≡ map f (upto (length old))
filled_by f old new e h =
    let size : length new ≡ length (map f (upto (length old))) = e ∙ sym (length-map (upto (length old)) f ∙ length-upto (length old)) in
    ext_get_or (f 0) new (map f (upto (length old))) size (λ i l. let b : i < length old = rw e at l in h i (f 0) b ∙ sym (get_or-table f (length old) i (f 0) b))

-- the pattern's numbers are below 2 ^ 32, so that they stand in a list of numbers as they are
pub word_of-pattern : (i : ℕ) → word_of (pattern_at i) ≡ pattern_at i
word_of-pattern i = mod-eq_of_lt (omega arith)
