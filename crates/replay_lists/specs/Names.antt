-- The ten lists and the five counts by their numbers in stored lines. Definitions only.
use Rattle.std.specs.Prelude.{ℕ, cond, eqb, Result, Ok, Err}
use Rattle.replay_lists.specs.declared.names.ListName.{ListName}
use Rattle.replay_lists.specs.declared.names.ListName.TheVariants.{Pents, Edges, Triangles, Tets, TriToPentsItems, TriToPentsStarts, EdgeToTrisItems, EdgeToTrisStarts, EdgeToPentsItems, EdgeToPentsStarts}
use Rattle.replay_lists.specs.declared.names.NoList.{NoList}
use Rattle.replay_lists.specs.declared.names.CountName.{CountName}
use Rattle.replay_lists.specs.declared.names.CountName.TheVariants as count
use Rattle.replay_lists.specs.declared.names.NoCount.{NoCount}

-- the list of a number
unfoldable pub name_of : ℕ → Result ListName NoList
name_of n =
    cond (eqb n 0) (Ok Pents)
    (cond (eqb n 1) (Ok Edges)
    (cond (eqb n 2) (Ok Triangles)
    (cond (eqb n 3) (Ok Tets)
    (cond (eqb n 4) (Ok TriToPentsItems)
    (cond (eqb n 5) (Ok TriToPentsStarts)
    (cond (eqb n 6) (Ok EdgeToTrisItems)
    (cond (eqb n 7) (Ok EdgeToTrisStarts)
    (cond (eqb n 8) (Ok EdgeToPentsItems)
    (cond (eqb n 9) (Ok EdgeToPentsStarts)
    (Err (record { 0 = n })))))))))))

-- the count of a number
unfoldable pub count_name_of : ℕ → Result CountName NoCount
count_name_of n =
    cond (eqb n 0) (Ok count.Vertices)
    (cond (eqb n 1) (Ok count.Pentachorons)
    (cond (eqb n 2) (Ok count.Edges)
    (cond (eqb n 3) (Ok count.Triangles)
    (cond (eqb n 4) (Ok count.Tets)
    (Err (record { 0 = n }))))))
