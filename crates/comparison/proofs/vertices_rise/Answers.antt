-- `comparison::vertices_rise` meets its contract. Assumes nothing.
use Rattle.std.proofs.Common.{rules, ◌≡◌, subst}
use Rattle.std.specs.List.{IsAllAdjacentAnswer}
use lib.Dec.{ltb}
use Rattle.std.proofs.lemmas.List.Sorted.{answers_always}
use Rattle.comparison.proofs.Rises.{adjacent-rise, adjacent-fall}
use Rattle.comparison.proofs.vertices_rise.Goals as goal

pub returns-then-is_sorted_by : goal.returns-then-is_sorted_by
returns-then-is_sorted_by c =
    adjacent-rise c.args.n c.args.pent.now c.requires (subst (IsAllAdjacentAnswer (λ x y b. b ≡ ltb x y) c.args.pent.now) c.if-is_sorted_by.true (c.is_sorted_by.ensures.cases ltb (answers_always _ _ _ (λ f a r g k. search rules))))

pub returns-else-is_sorted_by : goal.returns-else-is_sorted_by
returns-else-is_sorted_by c =
    adjacent-fall c.args.n c.args.pent.now c.requires c.is_sorted_by.result c.if-is_sorted_by.false (c.is_sorted_by.ensures.cases ltb (answers_always _ _ _ (λ f a r g k. search rules)))
