-- The datatypes of what a task starts on, and how it ends.
use Rattle.std.proofs.Common.{◌≡◌, ℤ, true, List, [], length, ap, sym, ◌∙◌, subst, Option, Some, slice_get, arith}
use Rattle.std.proofs.lemmas.Bool.{and_parts, lt-ltb}
use Rattle.std.specs.Option.{option_map_or}
use Rattle.std.specs.Prelude.{option_map}
use Rattle.ptg_base.specs.Task.{Task}
use Rattle.ptg_base.specs.declared.edge.Edge.{Edge}
use Rattle.body_eval.specs.Meaning.{body_meaning}
use Rattle.plan_core.specs.declared.class.ClassPlan.{ClassPlan}
use Rattle.plan_core.specs.declared.plan.Plan.{Plan}
use Rattle.plan_core.specs.Flows.{is_flow}
use Rattle.coll_data.specs.Data.{Data}
use Rattle.dep_iter.specs.Tasks.{IsTask, flows_of, locals_of}
use Rattle.flow_meaning.specs.Starting.{Delivery, starting_tiles, tiles_from}
use Rattle.flow_meaning.proofs.CallerLemmas.{class_of, known_type}
use Rattle.flow_meaning.specs.Ending.{Ended, ended_on}
use Rattle.flow_meaning.specs.Machine.{end_in, sent_tile}
use Rattle.flow_core.specs.RunState.{RunState, machine}
use Rattle.flow_core.specs.Inputs.{has_datatype, have_datatypes}
use Rattle.flow_core.proofs.Taking.{tiles_same}
use Rattle.list_lemmas.proofs.Joins.{list_all-weaker}

pub datatypes_known : (P : Plan) (t : Task) → IsTask P t → have_datatypes P (flows_of P t) ≡ true
datatypes_known P t job =
    let h = class_of P t job in
    let w = P.well_made.fit t.class h.class h.space h.class_is h.space_is in
    let locals = length h.space.defs in
    let are : flows_of P t ≡ h.class.flows = ap (λ o. option_map_or (λ (c : ClassPlan). c.flows) o []) h.class_is in
    subst (λ fs. have_datatypes P fs ≡ true) (sym are)
    (list_all-weaker (is_flow P.classes P.spaces P.colls (length P.elems) locals) (has_datatype P)
    (λ f k. lt-ltb f.datatype (length P.elems) (known_type (length P.elems) f.kind f.datatype P.well_made.has_default
    (and_parts _ _ (and_parts _ _ (and_parts _ _ k).0).0).0)) h.class.flows w.flows)

-- how a task ends, if its body was run on the tiles that were sent to it
pub ran : (P Q : Plan) (G : Data) (r : RunState) (d : Delivery) (t : Task) (tiles : List (Option (List ℤ)))
    (end : Ended) → Q ≡ P → ((e : Edge) → e.to ≡ t → d e ≡ sent_tile r.sends e)
    → tiles ≡ starting_tiles Q G d t → option_map (λ (c : ClassPlan). body_meaning c.body (locals_of Q t) tiles) (slice_get Q.classes t.class) ≡ Some end
    → end_in P G (machine r) t ≡ Some end
unfolding ended_on starting_tiles
ran P Q G r d t tiles end plan_is same tiles_are e =
    let ends : Plan → List (Option (List ℤ)) → Option Ended = λ R l. option_map
    (λ (c : ClassPlan). body_meaning c.body (locals_of R t) l) (slice_get R.classes t.class) in
    let start : tiles_from Q G d t 0 (flows_of Q t) ≡ tiles_from Q G (sent_tile r.sends) t 0 (flows_of Q t) = tiles_same
    Q G d (sent_tile r.sends) t 0 (λ e to _. same e to) 0 (flows_of Q t) (omega arith) in
    sym (λ i. ends (plan_is i) (tiles_from (plan_is i) G (sent_tile r.sends) t 0 (flows_of (plan_is i) t))) ∙ sym (ap (ends Q) (tiles_are ∙ start)) ∙ e
