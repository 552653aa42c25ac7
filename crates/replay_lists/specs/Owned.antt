-- The lists that the replay programs own: what is lent of them, and what a change makes of them. Definitions only.
use Rattle.std.specs.Prelude.{ℕ, List, take, set, replicate}
use Rattle.complex.specs.Builder as built
use Rattle.replay_lists.specs.declared.LentList.{LentList}
use Rattle.replay_lists.specs.declared.Lists.{Lists}
use Rattle.replay_lists.specs.declared.names.ListName.{ListName}
use Rattle.replay_lists.specs.declared.names.ListName.TheVariants.{Pents, Edges, Triangles, Tets, TriToPentsItems, TriToPentsStarts, EdgeToTrisItems, EdgeToTrisStarts, EdgeToPentsItems, EdgeToPentsStarts}

-- a list of N zeros
abbrev pub zeros_of : (N : ℕ) → ℕ → LentList N
zeros_of N room = record { numbers = replicate N 0; room = room }

-- what is lent of a list
abbrev pub lent : {N : ℕ} → LentList N → List ℕ
lent x = take x.room x.numbers

-- the same list ten times
abbrev pub all_of : {N : ℕ} → LentList N → Lists N
all_of list =
    record {
      pents = list;
      edges = list;
      triangles = list;
      tets = list;
      tri_to_pents_items = list;
      tri_to_pents_starts = list;
      edge_to_tris_items = list;
      edge_to_tris_starts = list;
      edge_to_pents_items = list;
      edge_to_pents_starts = list;
    }

-- what is lent of the ten
abbrev pub lent_of : {N : ℕ} → Lists N → built.Lists
lent_of x =
    built.lists (lent x.pents) (lent x.edges) (lent x.triangles) (lent x.tets) (lent x.tri_to_pents_items) (lent x.tri_to_pents_starts)
    (lent x.edge_to_tris_items) (lent x.edge_to_tris_starts) (lent x.edge_to_pents_items) (lent x.edge_to_pents_starts)

-- the list of a name
unfoldable pub list_of : {N : ℕ} → ListName → Lists N → LentList N
list_of Pents x = x.pents
list_of Edges x = x.edges
list_of Triangles x = x.triangles
list_of Tets x = x.tets
list_of TriToPentsItems x = x.tri_to_pents_items
list_of TriToPentsStarts x = x.tri_to_pents_starts
list_of EdgeToTrisItems x = x.edge_to_tris_items
list_of EdgeToTrisStarts x = x.edge_to_tris_starts
list_of EdgeToPentsItems x = x.edge_to_pents_items
list_of EdgeToPentsStarts x = x.edge_to_pents_starts

-- the ten with another list of a name
unfoldable pub with_list : {N : ℕ} → ListName → LentList N → Lists N → Lists N
with_list Pents list x = record x { pents = list }
with_list Edges list x = record x { edges = list }
with_list Triangles list x = record x { triangles = list }
with_list Tets list x = record x { tets = list }
with_list TriToPentsItems list x = record x { tri_to_pents_items = list }
with_list TriToPentsStarts list x = record x { tri_to_pents_starts = list }
with_list EdgeToTrisItems list x = record x { edge_to_tris_items = list }
with_list EdgeToTrisStarts list x = record x { edge_to_tris_starts = list }
with_list EdgeToPentsItems list x = record x { edge_to_pents_items = list }
with_list EdgeToPentsStarts list x = record x { edge_to_pents_starts = list }

-- a list with a number at a place, where it has that place
abbrev pub put_in : {N : ℕ} → LentList N → ℕ → ℕ → LentList N
put_in list place n = record list { numbers = set list.numbers place n }

-- a list with another room
abbrev pub with_room : {N : ℕ} → LentList N → ℕ → LentList N
with_room list room = record list { room = room }
