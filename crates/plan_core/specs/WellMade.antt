-- Well made plans: when the parts of a plan fit one another. Source: the JDF documentation and PaRSEC 2013; the limits
-- are this project's own choice.
-- Carried by: `Plan::new`, `Plan::has_place`, `Plan::elements`.
-- Tested by: `check_codes.txt`, `type_places.txt`.
use Rattle.std.specs.Prelude.{◌≡◌, ℕ, List, Some, Bool, ◌&&◌, ◌≤◌, nat_le, nat_lt, length, map, IsTrue, slice_get}
use Rattle.std.specs.List.{list_all}
use Rattle.std.specs.Str.{bytes_eq}
use Rattle.ptg_base.specs.Lists.{are_distinct}
use Rattle.ptg_base.specs.Limits.{most_classes, most_types, most_tiles}
pub use Rattle.ptg_base.specs.Places.{is_element_count, tile_count}
use Rattle.term_core.specs.WellSpace.{IsWellSpace}
use Rattle.term_core.specs.WellBody.{IsWellBody}
use Rattle.term_core.specs.declared.space.ClassSpace.{ClassSpace}
use Rattle.plan_core.specs.declared.class.ClassPlan.{ClassPlan}
use Rattle.plan_core.specs.declared.flow.FlowPlan.{FlowPlan}
use Rattle.plan_core.specs.declared.shape.Shape.{Shape}
use Rattle.plan_core.specs.Closed.{is_closed_option}
use Rattle.plan_core.specs.Targets.{is_element}
use Rattle.plan_core.specs.Flows.{is_flow}
use Rattle.plan_core.specs.Bodies.{respects_kinds, has_words, keeps_loop_variables}

-- a class with this space, in a job with these classes, spaces and collections, and with this many datatypes. That its
-- body is well made bounds its flows by 8.
pub record IsWellClass (classes : List ClassPlan) (spaces : List ClassSpace) (colls : List Shape) (types : ℕ)
    (s : ClassSpace) (c : ClassPlan) : Type 0 where
  pub space : IsWellSpace s
  pub affinity : IsTrue (is_element colls (length s.defs) c.affinity.coll c.affinity.indices)
  pub flows : IsTrue (list_all (is_flow classes spaces colls types (length s.defs)) c.flows)
  pub flow_names : IsTrue (are_distinct bytes_eq (map (λ (f : FlowPlan). f.name) c.flows))
  pub priority : IsTrue (is_closed_option (length s.defs) c.priority)
  pub body : IsWellBody (length s.defs) (length c.flows) c.body
  pub kinds : IsTrue (respects_kinds (map (λ (f : FlowPlan). f.kind) c.flows) c.body.statements)
  pub words : IsTrue (has_words (length c.trap_words) c.body.statements)
  pub loops : IsTrue (keeps_loop_variables c.body.statements)

-- whether a collection has 1 to 65,536 tiles, with one of this many datatypes
abbrev pub is_shape : ℕ → Shape → Bool
is_shape types s =
    nat_le 1 (tile_count s.rows s.cols) && nat_le (tile_count s.rows s.cols) most_tiles && nat_lt s.datatype types

-- At most 64 classes with different names, each with its space; 1 to 16 datatypes, given by the lengths of their tiles;
-- and collections with these datatypes.
pub record IsWellMade (classes : List ClassPlan) (spaces : List ClassSpace) (colls : List Shape)
    (elems : List ℕ) : Type 0 where
  pub classes_at_most : length classes ≤ most_classes
  pub one_space_each : length spaces ≡ length classes
  pub class_names : IsTrue (are_distinct bytes_eq (map (λ (c : ClassPlan). c.name) classes))
  pub fit : (n : ℕ) (c : ClassPlan) (s : ClassSpace) → slice_get classes n ≡ Some c → slice_get spaces n ≡ Some s
      → IsWellClass classes spaces colls (length elems) s c
  pub shapes : IsTrue (list_all (is_shape (length elems)) colls)
  pub has_default : 1 ≤ length elems
  pub types_at_most : length elems ≤ most_types
  pub tile_lengths : IsTrue (list_all is_element_count elems)
