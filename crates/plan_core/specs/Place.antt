-- The places of the collections of a plan.
-- Carried by: `Plan::has_place`.
-- Tested by: `check_codes.txt`, `type_places.txt`.
use Rattle.std.specs.Prelude.{List}
use Rattle.ptg_base.specs.declared.place.Place.{Place}
pub use Rattle.ptg_base.specs.Places.{IsRow, IsColumn}
use Rattle.ptg_base.specs.Places.{HasPlaceAmong}
use Rattle.plan_core.specs.declared.shape.Shape.{Shape}

-- the place's collection exists, and has its row and column
abbrev pub HasPlace : List Shape → Place → Type 0
HasPlace colls p = HasPlaceAmong (λ (s : Shape). s.rows) (λ (s : Shape). s.cols) colls p
