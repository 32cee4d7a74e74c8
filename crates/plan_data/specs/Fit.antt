-- When data are those that a plan was resolved with.
-- Carried by: `opening_tile`; law `places_of_the_plan_are_places_of_the_data`.
use Rattle.std.specs.Prelude.{◌≡◌, map}
use Rattle.plan_core.specs.declared.plan.Plan.{Plan}
use Rattle.plan_core.specs.declared.shape.Shape.{Shape}
use Rattle.coll_data.specs.declared.coll.Coll.{Coll}
use Rattle.coll_data.specs.Data.{Data}
use Rattle.coll_data.specs.WellMade.{elements_by_type}

-- a collection without its tiles
abbrev pub shape_of : Coll → Shape
shape_of c = record { name = c.name; rows = c.shape.0; cols = c.shape.1; datatype = c.datatype }

-- the data have the plan's collections, with the same order, names, shapes and datatypes, and the same tile length for
-- each datatype
pub record DataFit (P : Plan) (d : Data) : Type 0 where
  pub collections : map shape_of d.colls ≡ P.colls
  pub elements : elements_by_type d ≡ P.elems
