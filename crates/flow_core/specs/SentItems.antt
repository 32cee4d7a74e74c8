-- The items that were sent, as a run keeps them: by item, each with its tile.
use Rattle.std.specs.Prelude.{◌≡◌, ℤ, List, Option, map}
use Rattle.ptg_base.specs.declared.edge.Item.{Item}
use Rattle.list_lemmas.specs.Counting.{count}
use Rattle.flow_meaning.specs.Comparing.{same_item}
use Rattle.flow_meaning.specs.Machine.{SentItem}

-- the items with their tiles, as the event machine has them
abbrev pub all_sent : List (Item × Option (List ℤ)) → List SentItem
all_sent entries = map (λ ((item, tile) : Item × Option (List ℤ)). record { item = item; tile = tile }) entries

-- the item is none of these
abbrev pub IsUnsent : List SentItem → Item → Type 0
IsUnsent sends i = count (λ (x : SentItem). same_item i x.item) sends ≡ 0
