use Rattle.std.proofs.Common.{◌≡◌, refl, ◌∙◌}
use denote.Enum.Bare.{sameb}
use Rattle.term_core.specs.declared.direction.Direction.{Direction}
use Rattle.term_core.specs.declared.direction.Direction.TheVariants.{In, Out}
use Rattle.term_core.specs.contracts.direction.Direction.{the_type}
use Rattle.term_core.specs.Directions.{is_same}
use Rattle.type_rules.proofs.dependence.is_of_direction.Goals as goal

same_is : (a b : Direction) → sameb the_type a b ≡ is_same a b
same_is In In = refl
same_is In Out = refl
same_is Out In = refl
same_is Out Out = refl

pub returns : goal.returns
returns c = c.eq.ensures ∙ same_is _ _
