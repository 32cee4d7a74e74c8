-- The weights of classes are at most 1,000,000.
use Rattle.std.proofs.Common.{◌≤◌, ℤ, pos, negsuc, List, [], ◌∷◌, ◌++◌, map, Option, Some, None, arith}
use Rattle.std.specs.Prelude.{codes}
use Rattle.std.specs.Option.{option_map_or}
use Rattle.name_table.specs.Names.{value_named}
use Rattle.plan_core.specs.declared.class.ClassPlan.{ClassPlan}
use Rattle.coll_data.specs.Data.{Data}
use Rattle.chain_cert.specs.Checking.{AreWeights}
use Rattle.chain_cert.specs.Weights.{clamped, class_weight}

clamped_most : (z : ℤ) → clamped z ≤ 1000000
clamped_most (pos n) = omega arith
clamped_most (negsuc n) = omega arith

named_most : (o : Option ℤ) → option_map_or clamped o 1 ≤ 1000000
named_most None = omega arith
named_most (Some z) = clamped_most z

pub each_most : (G : Data) (cs : List ClassPlan) → AreWeights (map (class_weight G) cs)
each_most G [] = tt
each_most G (c ∷ cs) = (named_most (value_named G.ints (codes "weight_" ++ c.name)), each_most G cs)
