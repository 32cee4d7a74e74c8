-- Which of the tiles that were sent a run still keeps: that of an edge is dropped once its target has read it.
use Rattle.std.specs.Prelude.{◌≡◌, ℤ, Bool, true, false, List, [], ◌∷◌, ◌++◌, filter, Option, Some, None, is_some, unwrap_or, if◌then◌else◌}
use Rattle.std.specs.Map.{lookup}
use Rattle.ptg_base.specs.Task.{Task}
use Rattle.ptg_base.specs.TaskComparing.{same_task}
use Rattle.ptg_base.specs.declared.edge.Edge.{Edge}
use Rattle.ptg_base.specs.declared.edge.Item.{Item}
use Rattle.ptg_base.specs.declared.edge.Item.TheVariants as item
use Rattle.flow_meaning.specs.Comparing.{same_item}
use Rattle.flow_meaning.specs.Ending.{Ended}
use Rattle.flow_meaning.specs.Machine.{SentItem}

-- the items that were sent, each with its tile; the edges among them that are kept, in any order; and the write-backs,
-- in the order of the sends
pub record SentAndKept : Type 0 where
  pub sends : List SentItem
  pub edges : List SentItem
  pub writes : List SentItem

-- whether an item is a write-back
abbrev pub is_write : Item → Bool
is_write (item.Edge e) = false
is_write (item.Write w) = true

-- the write-backs among what was sent
abbrev pub written : List SentItem → List SentItem
written sends = filter (λ (x : SentItem). is_write x.item) sends

-- what was first sent with an item, if it was sent: its tile, or none
abbrev pub sent_as : Item → List SentItem → Option (Option (List ℤ))
sent_as i [] = None
sent_as i (x ∷ xs) = if same_item i x.item then Some x.tile else sent_as i xs

-- the kept items of the kind of an item: write-backs or edges
abbrev pub kept_with : Item → SentAndKept → List SentItem
kept_with i s = if is_write i then s.writes else s.edges

-- what was sent and is kept with one more sent item
abbrev pub with_sent : SentAndKept → SentItem → SentAndKept
with_sent s x = record {
  sends = s.sends ++ x ∷ [];
  edges = if is_write x.item then s.edges else s.edges ++ x ∷ [];
  writes = if is_write x.item then s.writes ++ x ∷ [] else s.writes;
}

-- whether an item is an edge whose target has ended
abbrev pub is_read : List (Task × Option Ended) → Item → Bool
is_read claims (item.Edge e) = is_some (unwrap_or (lookup (same_task e.to) claims) None)
is_read claims (item.Write w) = false

-- each edge that was not read is kept as it was sent, and each write-back
pub record AreKept (claims : List (Task × Option Ended)) (s : SentAndKept) : Type 0 where
  pub edges : (e : Edge) → is_read claims (item.Edge e) ≡ false
      → sent_as (item.Edge e) s.edges ≡ sent_as (item.Edge e) s.sends
  pub writes : s.writes ≡ written s.sends

-- edges to other tasks than this one are kept as they were
abbrev pub TakesOnlyTo : Task → List SentItem → List SentItem → Type 0
TakesOnlyTo t old new = (e : Edge) → same_task t e.to ≡ false → sent_as (item.Edge e) new ≡ sent_as (item.Edge e) old
