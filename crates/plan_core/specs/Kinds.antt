-- The flows of a job by number, and their kinds: a CTL flow carries order alone, every other flow carries a tile.
-- Source: PaRSEC 2013.
-- Carried by: `Plan::new`.
-- Tested by: `check_codes.txt`, `type_places.txt`.
use Rattle.std.specs.Prelude.{ℕ, List, Option, Some, None, Bool, false, slice_get, option_map, option_and_then}
use Rattle.term_core.specs.declared.flow.FlowKind.{FlowKind}
use Rattle.term_core.specs.Kinds as kinds
use Rattle.plan_core.specs.declared.flow.FlowPlan.{FlowPlan}
use Rattle.plan_core.specs.declared.class.ClassPlan.{ClassPlan}

-- the flow with this number of the class with this number, if there is one
abbrev pub flow_of : List ClassPlan → ℕ → ℕ → Option FlowPlan
flow_of classes class flow = option_and_then (λ (c : ClassPlan). slice_get c.flows flow) (slice_get classes class)

-- the kind of that flow, if there is one
abbrev pub kind_of : List ClassPlan → ℕ → ℕ → Option FlowKind
kind_of classes class flow = option_map (λ (f : FlowPlan). f.kind) (flow_of classes class flow)

-- whether there is a flow, and it carries order alone
abbrev pub is_control : Option FlowKind → Bool
is_control None = false
is_control (Some kind) = kinds.is_control kind

-- whether there is a flow, and it carries a tile
abbrev pub is_data : Option FlowKind → Bool
is_data None = false
is_data (Some kind) = kinds.is_data kind

-- whether there is a flow, and a body may change its tile
abbrev pub is_writable : Option FlowKind → Bool
is_writable None = false
is_writable (Some kind) = kinds.is_writable kind
