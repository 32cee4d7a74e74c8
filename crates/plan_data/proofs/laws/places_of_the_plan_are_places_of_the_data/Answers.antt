use Rattle.plan_data.proofs.Places.{same_places}
use Rattle.plan_data.proofs.laws.places_of_the_plan_are_places_of_the_data.Goals as goal

pub returns : goal.returns
returns c = λ P d p fit. same_places P d p fit
