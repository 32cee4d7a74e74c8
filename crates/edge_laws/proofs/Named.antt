-- Each mark is at a task of the job, and names a flow of that task, if it names one.
use Rattle.std.proofs.Common.{◌≡◌, ℕ, suc, ◌+◌, ◌<◌, ℤ, Bool, true, false, List, [], ◌∷◌, ◌++◌, length, sym, subst}
use Rattle.std.proofs.Common.{Option, Some, None, slice_get, if◌then◌else◌, ◌⊎◌, inl, inr, arith}
use Rattle.std.proofs.lemmas.Option.{slice_get_within}
use Rattle.std.specs.List.{AllByRecursion}
use Rattle.std.specs.Option.{option_and_then, option_map, option_map_or, unwrap_or}
use Rattle.ptg_base.specs.Task.{Task}
use Rattle.ptg_base.specs.declared.edge.Edge.{Edge}
use Rattle.ptg_base.specs.declared.edge.Item.{Item}
use Rattle.ptg_base.specs.declared.edge.Item.TheVariants as item
use Rattle.ptg_base.specs.declared.edge.WriteBack.{WriteBack}
use Rattle.term_core.specs.declared.direction.Direction.{Direction}
use Rattle.term_core.specs.declared.direction.Direction.TheVariants.{In, Out}
use Rattle.plan_core.specs.declared.class.ClassPlan.{ClassPlan}
use Rattle.plan_core.specs.declared.flow.FlowPlan.{FlowPlan}
use Rattle.plan_core.specs.declared.plan.Plan.{Plan}
use Rattle.dep_iter.specs.declared.source.Source.{Source}
use Rattle.dep_iter.specs.Edges.{data_source}
use Rattle.dep_iter.specs.Tasks.{IsTask, flows_of, locals_of, task}
use Rattle.dep_iter.specs.Well.{first_ill_flow, has_hints, ill_part, ill_part_of, is_well_flow}
use Rattle.edge_match.specs.declared.fault.MatchFault.{MatchFault}
use Rattle.edge_match.specs.declared.phase.Phase.{Phase}
use Rattle.edge_match.specs.declared.phase.Phase.TheVariants.{Connecting, Matching}
use Rattle.edge_match.specs.FirstFault.{IsTaskFault}
use Rattle.edge_match.specs.Marks.{Mark, edge_marks, flow_items, flow_start, ill_flow, item_marks, phase_marks, task_start}
use Rattle.edge_match.specs.Marks.{write_marks}
use Rattle.edge_match.proofs.CallerLemmas.{AtFlow, join, of_phase, parts}

-- a mark is at a task of the job, and its flow, if it names one, is one of that task
abbrev pub IsNamed : Plan → Mark → Type 0
IsNamed P m = IsTask P m.task × ((n : ℕ) → m.flow ≡ Some n → n < length (flows_of P m.task))

-- the marks at a flow of a task
module _ (P : Plan) (t : Task) (of_job : IsTask P t) (n : ℕ) (below : n < length (flows_of P t)) where
  at_flow : IsTask P t × ((k : ℕ) → Some n ≡ Some k → k < length (flows_of P t))
  at_flow = (of_job, λ k q. let same : n ≡ k = cc in subst (λ m. m < length (flows_of P t)) same below)

  named_start : (phase : Phase) (f : FlowPlan) → AllByRecursion (IsNamed P) (flow_start phase P t n f)
  named_start Connecting f = (at_flow, (at_flow, tt))
  named_start Matching f = tt

  named_edge : (phase : Phase) (d : Direction) (s : Source) (earlier : List Edge) (e : Edge) → AllByRecursion (IsNamed P) (edge_marks d earlier e phase s t n)
  named_edge Connecting In s earlier e = (at_flow, (at_flow, tt))
  named_edge Connecting Out s earlier e = (at_flow, (at_flow, (at_flow, tt)))
  named_edge Matching d s earlier e = (at_flow, (at_flow, tt))

  named_write : (phase : Phase) (s : Source) (w : WriteBack) → AllByRecursion (IsNamed P) (write_marks w phase s t n)
  named_write Connecting s w = (at_flow, (at_flow, (at_flow, (at_flow, tt))))
  named_write Matching s w = tt

  named_items : (phase : Phase) (d : Direction) (s : Source) (earlier : List Edge) (is : List Item)
      → AllByRecursion (IsNamed P) (item_marks d earlier is phase s t n)
  named_items phase d s earlier [] = tt
  named_items phase d s earlier (item.Edge e ∷ is) = join (IsNamed P) _ _ (named_edge phase d s earlier e) (named_items phase d s (earlier ++ e ∷ []) is)
  named_items phase d s earlier (item.Write w ∷ is) = join (IsNamed P) _ _ (named_write phase s w) (named_items phase d s earlier is)

  named_flow : (phase : Phase) (f : FlowPlan) → AtFlow (IsNamed P) phase P t n f
  named_flow phase f = record { start = named_start phase f; directed = λ d. named_items phase d (data_source P t n) [] (flow_items d P t n f) }

-- the ill flow of an ill task is one of the task
first_or_later : (b : Bool) (o : Option ℕ) (n k : ℕ) → (if b then o else Some n) ≡ Some k → (o ≡ Some k) ⊎ (n ≡ k)
first_or_later true o n k h = inl h
first_or_later false o n k h = inr (let e : n ≡ k = cc in e)

first_ill : (env : List ℤ) (n : ℕ) (fs : List FlowPlan) (k : ℕ) → first_ill_flow env n fs ≡ Some k → k < n + length fs
first_ill env n [] k h = cc
first_ill env n (f ∷ fs) k h = elim (first_or_later (is_well_flow env f) (first_ill_flow env (suc n) fs) n k h) [
  | inl later ↦ let b = first_ill env (suc n) fs k later in omega arith
  | inr same ↦ omega arith
]

ill_flow_in : (b : Bool) (o : Option ℕ) (k : ℕ) → unwrap_or (if b then option_map Some o else Some None) None ≡ Some k → o ≡ Some k
ill_flow_in true None k h = h
ill_flow_in true (Some i) k h = h
ill_flow_in false o k h = cc

ill_in_class : (env : List ℤ) (o : Option ClassPlan) (k : ℕ)
    → unwrap_or (option_and_then (ill_part_of env) o) None ≡ Some k
    → k < length (option_map_or (λ (c : ClassPlan). c.flows) o [])
ill_in_class env None k h = cc
ill_in_class env (Some c) k h = let b = first_ill env 0 c.flows k (ill_flow_in (has_hints env c) (first_ill_flow env 0 c.flows) k h) in omega arith

ill_is_flow : (P : Plan) (t : Task) (k : ℕ) → ill_flow P t ≡ Some k → k < length (flows_of P t)
unfolding ill_part
ill_is_flow P t k h = ill_in_class (locals_of P t) (slice_get P.classes t.class) k h

named_task : (P : Plan) (phase : Phase) (t : Task) → IsTask P t → AllByRecursion (IsNamed P) (task_start phase P t)
named_task P Connecting t h = ((h, ill_is_flow P t), ((h, λ k q. cc), tt))
named_task P Matching t h = tt

named_phase : (P : Plan) (phase : Phase) → AllByRecursion (IsNamed P) (phase_marks phase P)
named_phase P phase = (of_phase (IsNamed P) phase P).1 (λ t h.
    record {
      start = named_task P phase t h;
      flows = λ n f here. named_flow P t h n
          (slice_get_within (flows_of P t) n f here) phase f;
    })

-- a fault names a task of the job and, if any flow, one of that task
abbrev pub NamesTask : Plan → MatchFault → Type 0
NamesTask P f = IsTask P (task f.class f.numbers) × ((n : ℕ) → f.flow ≡ Some n → n < length (flows_of P (task f.class f.numbers)))

pub names_task : (P : Plan) (f : MatchFault) → IsTaskFault P f → NamesTask P f
names_task P f w =
    let v = w.first in
    let all = join (IsNamed P) (phase_marks Connecting P) (phase_marks Matching P) (named_phase P Connecting) (named_phase P Matching) in
    let m = (parts (IsNamed P) v.passed (v.failed ∷ v.rest) (subst (AllByRecursion (IsNamed P)) v.split all)).1.0 in
    subst (NamesTask P) (sym v.fails.1) m
