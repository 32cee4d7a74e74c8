-- The sizes of the tiles of a task's flows.
use Rattle.std.specs.Prelude.{◌≡◌, ℕ, ℤ, List, length, Option, option_map}
use Rattle.body_eval.specs.Element.{tile_of}

-- how many elements the tile of a flow has, if it is there
abbrev pub size_of : List (Option (List ℤ)) → ℕ → Option ℕ
size_of tiles flow = option_map length (tile_of tiles flow)

-- each tile keeps its number of elements, and an absent one stays absent
abbrev pub KeepsSizes : List (Option (List ℤ)) → List (Option (List ℤ)) → Type 0
KeepsSizes old new = (flow : ℕ) → size_of new flow ≡ size_of old flow
