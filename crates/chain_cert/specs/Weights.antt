-- The weights of classes, tasks and chains.
-- Carried by: `weights`, `cert_check::check_chain`.
use Rattle.std.specs.Prelude.{ℕ, min, ℤ, pos, negsuc, List, ◌++◌, map, slice_index, codes}
use Rattle.std.specs.Option.{option_map_or}
use Rattle.ptg_base.specs.Limits.{most_weight}
use Rattle.ptg_base.specs.Task.{Task}
use Rattle.name_table.specs.Names.{value_named}
use Rattle.plan_core.specs.declared.class.ClassPlan.{ClassPlan}
use Rattle.plan_core.specs.declared.plan.Plan.{Plan}
use Rattle.coll_data.specs.Data.{Data}
use Rattle.list_lemmas.specs.Counting.{weigh}

-- a number as a weight: below 0 it counts as 0, above 1,000,000 as 1,000,000
abbrev pub clamped : ℤ → ℕ
clamped (pos n) = min n most_weight
clamped (negsuc n) = 0

-- the weight of a class: the integer `weight_CLASS` of the data, whether the JDF declares it or not; 1 if there is none
abbrev pub class_weight : Data → ClassPlan → ℕ
class_weight G c = option_map_or clamped (value_named G.ints (codes "weight_" ++ c.name)) 1

-- the weights of the classes of a job, by number
abbrev pub class_weights : Plan → Data → List ℕ
class_weights P G = map (class_weight G) P.classes

-- the weight of a task is that of its class
abbrev pub weight : List ℕ → Task → ℕ
weight ws t = slice_index ws t.class

-- the weight of a chain is the sum of the weights of its tasks
abbrev pub chain_weight : List ℕ → List Task → ℕ
chain_weight ws ts = weigh (weight ws) ts
