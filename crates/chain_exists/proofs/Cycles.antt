-- No task of a cycle ends.
use Rattle.std.proofs.Common.{◌≡◌, ℕ, zero, suc, true, false, cond, List, length, refl, ap, sym, ◌∙◌, Option, None}
use Rattle.std.proofs.lemmas.Bool.{false≢true, false_from_ne_true}
use Rattle.ptg_base.specs.Lists.{IsIn}
use Rattle.ptg_base.specs.Task.{Task}
use Rattle.ptg_base.specs.declared.edge.Edge.{Edge}
use Rattle.plan_core.specs.declared.plan.Plan.{Plan}
use Rattle.coll_data.specs.Data.{Data}
use Rattle.list_lemmas.proofs.Members.{from_map, member_passes}
use Rattle.dep_iter.specs.Tasks.{all_tasks}
use Rattle.dep_iter.specs.Edges.{in_edges}
use Rattle.flow_meaning.specs.Ending.{Ended, has_outputs, ended_on}
use Rattle.flow_meaning.specs.Backward.{ended, ended_within, has_all_sources, source_tile}
use Rattle.chain_cert.specs.Chains.{IsCycle}
use Rattle.chain_cert.proofs.CallerLemmas.{cycle_source}

no_outputs : (o : Option Ended) → o ≡ None → has_outputs o ≡ true → ⊥
no_outputs o e h = false≢true (sym (ap has_outputs e) ∙ h)

module _ (P : Plan) (G : Data) (ts : List Task) (c : IsCycle P ts) where
  not_within : (n : ℕ) (t : Task) → IsIn t ts → ended_within P G n t ≡ None
  unfolding ended_within
  not_within zero t i = refl
  not_within (suc n) t i =
      let p = cycle_source P ts c t i in
      let e = from_map (λ (d : Edge). d.from) (in_edges P t) p.0 p.2 in
      let lost : ended_within P G n e.0.from ≡ None = ap (ended_within P G n) (sym e.2) ∙ not_within n p.0 p.1 in
      let fails : has_all_sources P (ended_within P G n) t ≡ false =
      false_from_ne_true (has_all_sources P (ended_within P G n) t)
      (λ all. no_outputs (ended_within P G n e.0.from) lost
      (member_passes (λ (d : Edge). has_outputs (ended_within P G n d.from)) (in_edges P t) all e.0 e.1)) in
      ap (λ b. cond b (ended_on P G (source_tile (ended_within P G n)) t) None) fails

  pub never_ends : (t : Task) → IsIn t ts → ended P G t ≡ None
  unfolding ended
  never_ends t i = not_within (length (all_tasks P)) t i
