-- What a task needs, flow by flow.
use Rattle.std.proofs.Common.{◌≡◌, ◌↔◌, ℕ, suc, ℤ, Bool, true, false, cond, List, [], ◌∷◌, inl, inr, Option, Some, None, refl, ap, sym, ◌∙◌, subst}
use Rattle.std.specs.Prelude.{option_map, option_and_then, slice_get}
use Rattle.std.specs.List.{list_all}
use Rattle.std.specs.Option.{option_map_or}
use Rattle.ptg_base.specs.Lists.{IsIn}
use Rattle.ptg_base.specs.Task.{Task}
use Rattle.term_core.specs.Term.{Term}
use Rattle.plan_core.specs.declared.class.ClassPlan.{ClassPlan}
use Rattle.plan_core.specs.declared.flow.DepPlan.{DepPlan}
use Rattle.plan_core.specs.declared.flow.FlowPlan.{FlowPlan}
use Rattle.plan_core.specs.declared.plan.Plan.{Plan}
use Rattle.plan_core.specs.declared.target.Target.{Target}
use Rattle.plan_core.specs.Kinds.{is_data}
use Rattle.dep_iter.specs.Active.{flow_ins, flow_outs, held_target}
use Rattle.dep_iter.specs.Tasks.{locals_of}
use Rattle.dep_iter.specs.Well.{IsWellTask, are_well, first_ill_flow, has_hints, has_priority, has_value, ill_part, ill_part_of, is_well_flow}
use Rattle.edge_laws.specs.Values.{FlowHasValues, HasValue, IsReached, TaskHasValues}
use Rattle.list_lemmas.proofs.Members.{list_all-from_members, member_passes}
use Rattle.std.proofs.lemmas.Bool.{and_from}
use Rattle.std.specs.Cmp.{first_so, second_so}
use Rattle.edge_laws.proofs.Dependences.{IsReachedIn, active_reached, each_reached, have_well, reached_active, reached_among, well_have}

module _ (env : List ℤ) (f : FlowPlan) where
  to_reached : (d : DepPlan) → IsReachedIn (is_data (Some f.kind)) env f.ins d → IsReached env f d
  to_reached d r = record { before = r.before; after = r.after; listed = r.listed; none_before = r.none_before }

  from_reached : (d : DepPlan) → IsReached env f d → IsReachedIn (is_data (Some f.kind)) env f.ins d
  from_reached d r = record { before = r.before; after = r.after; listed = r.listed; none_before = r.none_before }

  well_flow : is_well_flow env f ≡ true → FlowHasValues env f
  well_flow e =
      let ins = well_have env (is_data (Some f.kind)) f.ins (first_so (are_well (is_data (Some f.kind)) env f.ins) (are_well false env f.outs) e) in
      let outs = well_have env false f.outs (second_so (are_well (is_data (Some f.kind)) env f.ins) (are_well false env f.outs) e) in
      record {
        in_guards = λ d c reached. ins.guards d (from_reached d reached) c;
        out_guards = λ d c among. outs.guards d (each_reached env f.outs d among) c;
        in_arguments = ins.arguments;
        out_arguments = outs.arguments;
      }

  valued_flow : FlowHasValues env f → is_well_flow env f ≡ true
  valued_flow have =
      and_from (are_well (is_data (Some f.kind)) env f.ins) (are_well false env f.outs)
      (have_well env (is_data (Some f.kind)) f.ins (record {
        guards = λ d reached c. have.in_guards d c
            (to_reached d reached);
        arguments = have.in_arguments;
      }))
      (have_well env false f.outs (record {
        guards = λ d reached c. have.out_guards d c
            (reached_among false env f.outs d reached);
        arguments = have.out_arguments;
      }))

  pub ins_reached : (x : Target) → IsIn x (flow_ins env f) ↔ ((d : DepPlan) × IsReached env f d × (held_target d env ≡ Some x))
  ins_reached x = (
    λ among. let p = active_reached env (is_data (Some f.kind)) f.ins x among in (p.0, to_reached p.0 p.1, p.2),
    λ p. reached_active env (is_data (Some f.kind)) f.ins x p.0 (from_reached p.0 p.1) p.2,
  )

  pub outs_reached : (x : Target) → IsIn x (flow_outs env f) ↔ ((d : DepPlan) × IsIn d f.outs × (held_target d env ≡ Some x))
  outs_reached x = (
    λ among. let p = active_reached env false f.outs x among in (p.0, reached_among false env f.outs p.0 p.1, p.2),
    λ p. reached_active env false f.outs x p.0 (each_reached env f.outs p.0 p.1) p.2,
  )

-- if none of these flows is the first ill one, each is well
no_ill_flow : (env : List ℤ) (n : ℕ) (fs : List FlowPlan) → first_ill_flow env n fs ≡ None → (f : FlowPlan) → IsIn f fs → is_well_flow env f ≡ true
no_ill_flow env n [] e f among = absurd among
no_ill_flow env n (g ∷ gs) e f among = by (λ k. no_ill_flow env (suc n) gs k f) (is_well_flow env g) refl e where
  by : (first_ill_flow env (suc n) gs ≡ None → IsIn f gs → is_well_flow env f ≡ true) → (b : Bool)
      → is_well_flow env g ≡ b → cond b (first_ill_flow env (suc n) gs) (Some n) ≡ None → is_well_flow env f ≡ true
  by others true at k = elim among [ inl same ↦ ap (is_well_flow env) same ∙ at | inr later ↦ others k later ]
  by others false at k = absurd cc

each_well : (env : List ℤ) (n : ℕ) (fs : List FlowPlan) → ((f : FlowPlan) → IsIn f fs → is_well_flow env f ≡ true) → first_ill_flow env n fs ≡ None
each_well env n [] each = refl
each_well env n (f ∷ fs) each =
    ap (λ b. cond b (first_ill_flow env (suc n) fs) (Some n)) (each f (inl refl)) ∙ each_well env (suc n) fs (λ g among. each g (inr among))

has_priority_to : (env : List ℤ) (o : Option Term) (e : Term) → has_priority env o ≡ true → o ≡ Some e → HasValue env e
has_priority_to env None e has at = absurd cc
has_priority_to env (Some d) e has at = let same : d ≡ e = cc in subst (HasValue env) same has

has_priority_from : (env : List ℤ) (o : Option Term) → ((e : Term) → o ≡ Some e → HasValue env e) → has_priority env o ≡ true
has_priority_from env None have = refl
has_priority_from env (Some e) have = have e refl

no_ill_part : (env : List ℤ) (c : ClassPlan) → ill_part_of env c ≡ None → (has_hints env c ≡ true) × (first_ill_flow env 0 c.flows ≡ None)
no_ill_part env c e = by (has_hints env c) (first_ill_flow env 0 c.flows) e where
  by : (b : Bool) (o : Option ℕ) → cond b (option_map Some o) (Some None) ≡ None → (b ≡ true) × (o ≡ None)
  by true None k = (refl, refl)
  by true (Some n) k = absurd cc
  by false o k = absurd cc

-- what a task of a class needs, under its locals
module _ (env : List ℤ) (o : Option ClassPlan) where
  pub record HaveClassValues : Type 0 where
    pub affinity : (c : ClassPlan) (e : Term) → o ≡ Some c → IsIn e c.affinity.indices → HasValue env e
    pub priority : (c : ClassPlan) (e : Term) → o ≡ Some c → c.priority ≡ Some e → HasValue env e
    pub flows : (f : FlowPlan) → IsIn f (option_map_or (λ (c : ClassPlan). c.flows) o []) → FlowHasValues env f

class_to : (env : List ℤ) (o : Option ClassPlan) → option_and_then (ill_part_of env) o ≡ None → HaveClassValues env o
class_to env None e = record {
  affinity = λ c t at among. absurd cc;
  priority = λ c t at is. absurd cc;
  flows = λ f among. absurd among;
}
class_to env (Some d) e =
    let parts = no_ill_part env d e in
    record {
      affinity = λ c t at among. let same : d ≡ c = cc in member_passes (has_value env) d.affinity.indices
          (first_so (list_all (has_value env) d.affinity.indices) (has_priority env d.priority) parts.0) t
          (subst (λ (k : ClassPlan). IsIn t k.affinity.indices) (sym same) among);
      priority = λ c t at is. let same : d ≡ c = cc in has_priority_to env d.priority t
          (second_so (list_all (has_value env) d.affinity.indices) (has_priority env d.priority) parts.0)
          (ap (λ (k : ClassPlan). k.priority) same ∙ is);
      flows = λ f among. well_flow env f (no_ill_flow env 0 d.flows parts.1 f among);
    }

class_from : (env : List ℤ) (o : Option ClassPlan) → HaveClassValues env o → option_and_then (ill_part_of env) o ≡ None
class_from env None have = refl
class_from env (Some c) have =
    let hints : has_hints env c ≡ true = and_from (list_all (has_value env) c.affinity.indices)
    (has_priority env c.priority) (list_all-from_members (has_value env) c.affinity.indices
    (λ e among. have.affinity c e refl among)) (has_priority_from env c.priority
    (λ e is. have.priority c e refl is)) in
    ap (λ b. cond b (option_map Some (first_ill_flow env 0 c.flows)) (Some None)) hints
    ∙ ap (λ i. option_map Some i) (each_well env 0 c.flows (λ f among. valued_flow env f (have.flows f among)))

pub well_iff : (P : Plan) (t : Task) → IsWellTask P t ↔ TaskHasValues P t
unfolding ill_part
well_iff P t = (
  λ well. let have = class_to (locals_of P t) (slice_get P.classes t.class)
      well in record { affinity = have.affinity; priority = have.priority; flows = have.flows },
  λ have. class_from (locals_of P t) (slice_get P.classes t.class) (record { affinity = have.affinity; priority = have.priority; flows = have.flows }),
)
