-- The changes that stored lines make. Definitions only.
use Rattle.std.specs.Prelude.{ℕ, ◌/◌, ◌%◌, cond, eqb, Result, Ok, Err}
use Rattle.complex.specs.declared.Counts.{Counts}
use Rattle.replay_lists.specs.declared.names.ListName.{ListName}
use Rattle.replay_lists.specs.declared.names.NoList.{NoList}
use Rattle.replay_lists.specs.declared.names.CountName.{CountName}
use Rattle.replay_lists.specs.declared.names.CountName.TheVariants as count
use Rattle.replay_lists.specs.declared.names.NoCount.{NoCount}
use Rattle.replay_lists.specs.declared.changes.Target.{Target}
use Rattle.replay_lists.specs.declared.changes.Target.TheVariants as target
use Rattle.replay_lists.specs.declared.changes.Change.{Change}
use Rattle.replay_lists.specs.declared.Lists.{Lists}
use Rattle.replay_lists.specs.Names.{name_of, count_name_of}
use Rattle.replay_lists.specs.Owned.{list_of, with_list, put_in}

-- what is changed where a list has a name, or none
unfoldable pub target_named : Result ListName NoList → Target
target_named (Ok name) = target.List name
target_named (Err e) = target.Nothing

-- what is changed, by its number
unfoldable pub target_of : ℕ → Target
target_of n = cond (eqb n 10) target.Counts (cond (eqb n 11) target.Further (target_named (name_of n)))

-- the change that a number stands for
unfoldable pub change_of : ℕ → Change
change_of n = record { target = target_of (n / 0x1_0000_0000_0000); place = n / 0x1_0000_0000 % 0x1_0000; n = n % 0x1_0000_0000 }

-- the counts with another one of a name
unfoldable pub with_count : Counts → CountName → ℕ → Counts
with_count c count.Vertices n = record c { vertices = n }
with_count c count.Pentachorons n = record c { pentachorons = n }
with_count c count.Edges n = record c { edges = n }
with_count c count.Triangles n = record c { triangles = n }
with_count c count.Tets n = record c { tets = n }

-- the counts with another one, where a count has a name
unfoldable pub counts_by : Counts → Result CountName NoCount → ℕ → Counts
counts_by c (Ok name) n = with_count c name n
counts_by c (Err e) n = c

-- the counts after a change of that target
unfoldable pub counts_at : Target → ℕ → ℕ → Counts → Counts
counts_at target.Counts place n c = counts_by c (count_name_of place) n
counts_at t place n c = c

-- the counts after a change
abbrev pub counts_after : Change → Counts → Counts
counts_after x c = counts_at x.target x.place x.n c

-- the ten lists after a change of that target
unfoldable pub made_at : {N : ℕ} → Target → ℕ → ℕ → Lists N → Lists N
made_at (target.List name) place n x = with_list name (put_in (list_of name x) place n) x
made_at t place n x = x

-- the ten lists after a change
abbrev pub lists_after : {N : ℕ} → Change → Lists N → Lists N
lists_after c x = made_at c.target c.place c.n x
