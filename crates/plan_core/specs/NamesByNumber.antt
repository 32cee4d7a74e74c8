-- The names of classes and flows, found by their numbers. Source: the JDF documentation (classes, and the flows of a
-- class, are numbered from 0 in the order of the file).
-- Carried by: `report_text::report`, `ptg_top::ptg_main`.
-- Tested by: `traps.txt`, `stalls.txt`.
use Rattle.std.specs.Prelude.{ℕ, List, [], Option, Some, None, slice_get}
use Rattle.std.specs.Option.{option_map_or}
use Rattle.plan_core.specs.declared.class.ClassPlan.{ClassPlan}
use Rattle.plan_core.specs.declared.flow.FlowPlan.{FlowPlan}
use Rattle.plan_core.specs.declared.plan.Plan.{Plan}
use Rattle.plan_core.specs.Kinds.{flow_of}

-- the name of the class with this number; empty if there is no such class
abbrev pub class_name : Plan → ℕ → List ℕ
class_name plan class = option_map_or (λ (c : ClassPlan). c.name) (slice_get plan.classes class) []

-- the name of the flow with the second number, of the class with the first; empty if the flow has no number or does not
-- exist
abbrev pub flow_name : Plan → ℕ → Option ℕ → List ℕ
flow_name P class None = []
flow_name P class (Some flow) = option_map_or (λ (f : FlowPlan). f.name) (flow_of P.classes class flow) []
