-- Data that fit a plan have the plan's places.
use Rattle.std.proofs.Common.{ℕ, zero, suc, ◌↔◌, List, [], ◌∷◌, map, IsSomeAnd, slice_get, ℤ, subst}
use Rattle.ptg_base.specs.declared.place.Place.{Place}
use Rattle.ptg_base.specs.Places.{IsRow, IsColumn}
use Rattle.plan_core.specs.declared.plan.Plan.{Plan}
use Rattle.plan_core.specs.declared.shape.Shape.{Shape}
use Rattle.plan_core.specs.Place as plan
use Rattle.coll_data.specs.declared.coll.Coll.{Coll}
use Rattle.coll_data.specs.Data.{Data}
use Rattle.coll_data.specs.Tiles as tiles
use Rattle.plan_data.specs.Fit.{shape_of, DataFit}

-- the same for the collection with the number n in a list
at_places : (cs : List Coll) (n : ℕ) (i j : ℤ)
    → IsSomeAnd (slice_get (map shape_of cs) n) (λ (s : Shape). IsRow s.rows i × IsColumn s.cols j) ↔ IsSomeAnd
    (slice_get cs n) (λ (c : Coll). IsRow c.shape.0 i × IsColumn c.shape.1 j)
at_places [] zero i j = (λ w. w, λ w. w)
at_places [] (suc n) i j = (λ w. w, λ w. w)
at_places (c ∷ cs) zero i j = (λ w. w, λ w. w)
at_places (c ∷ cs) (suc n) i j = at_places cs n i j

pub same_places : (P : Plan) (d : Data) (p : Place) → DataFit P d → plan.HasPlace P.colls p ↔ tiles.HasPlace d.colls p
same_places P d p fit =
    let At : List Shape → Type 0 = λ cs. plan.HasPlace cs p ↔ tiles.HasPlace d.colls p in
    subst At fit.collections (at_places d.colls p.coll p.i p.j)
