-- What the ten lists end as, where one of them is lent to be written. Definitions only.
use Rattle.std.specs.Borrow.{Lends, Fml, MutBor, RattleType}
use Rattle.replay_lists.specs.declared.names.ListName.{ListName}
use Rattle.replay_lists.specs.contracts.LentList as list
use Rattle.replay_lists.specs.contracts.Lists.{the_row}
use Rattle.replay_lists.specs.Owned.{with_list}

-- once the borrow r ends, the list of a name is what r shows last
abbrev pub LendsList : (N : RattleType) → ListName → MutBor (the_row N).Denot → MutBor (list.the_row N).Denot → Fml
LendsList N name s r = Lends (the_row N) (list.the_row N) s r (λ w. with_list name w s.now)
