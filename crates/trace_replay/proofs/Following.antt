-- When a task may run in a state in which each claimed task is finished.
use Rattle.std.proofs.Common.{◌≡◌, true, ◌∙◌, sym, inl, inr, ◌↔◌, IsTrue, nat_lt, arith}
use Rattle.std.proofs.lemmas.Bool.{false≢true, ltb-false, ltb-true}
use Rattle.ptg_base.specs.Lists.{IsIn}
use Rattle.ptg_base.specs.Task.{Task}
use Rattle.ptg_base.specs.declared.edge.Edge.{Edge}
use Rattle.ptg_base.specs.declared.edge.Item.TheVariants as item
use Rattle.plan_core.specs.declared.plan.Plan.{Plan}
use Rattle.coll_data.specs.Data.{Data}
use Rattle.list_lemmas.proofs.Truth.{by_test}
use Rattle.list_lemmas.proofs.Counts.{count-all}
use Rattle.dep_iter.specs.Tasks.{IsTask}
use Rattle.dep_iter.specs.Edges.{in_edges}
use Rattle.dep_iter.specs.Consistent.{IsConsistent}
use Rattle.flow_meaning.specs.Ending.{has_outputs}
use Rattle.flow_meaning.specs.Backward.{ended}
use Rattle.flow_meaning.specs.Machine.{MachineState, MayClaim, claim_count, is_sent}
use Rattle.flow_meaning.specs.Sound.{IsFinished, IsSoundState}
use Rattle.flow_meaning.proofs.CallerLemmas.{claim_member, delivers, each_arrived, in_edge_item, member_claim}

-- a task may be claimed if and only if it is new and its sources are done
module _ (P : Plan) (G : Data) (con : IsConsistent P) (S : MachineState) (sound : IsSoundState P G S)
    (done : (u : Task) → IsIn u S.claims → IsFinished P G S u) (t : Task) (job : IsTask P t) where
  edge_sent : (e : Edge) → IsIn e (in_edges P t) → IsIn e.from S.claims → has_outputs (ended P G e.from) ≡ true → is_sent S (item.Edge e) ≡ true
  edge_sent e i c o = elim (done e.from c) [
    | inl trap ↦ absurd (false≢true (sym trap ∙ o))
    | inr all ↦ all (item.Edge e) (in_edge_item P con t job e i)
  ]

  none_claimed : (IsIn t S.claims → ⊥) → claim_count S t ≡ 0
  none_claimed new = by_test (nat_lt 0 (claim_count S t)) (λ k. absurd
      (new (claim_member S t (ltb-true 0 (claim_count S t) k))))
      (λ k. let z = ltb-false 0 (claim_count S t) k in omega arith)

  pub may_follow_finished : MayClaim P S t ↔ ((IsIn t S.claims → ⊥)
      × ((e : Edge) → IsIn e (in_edges P t) → IsIn e.from S.claims × IsTrue (has_outputs (ended P G e.from))))
  may_follow_finished = (
    λ may. (
      λ i. let more = member_claim S t i in let none = may.unclaimed in absurd (omega arith),
      λ e i. let d = delivers P G con S sound e (each_arrived P S t may.all_arrived e i) in (d.claimed, d.outputs),
    ),
    λ p. record {
      task = job;
      unclaimed = none_claimed p.0;
      all_arrived = count-all (λ e. is_sent S (item.Edge e)) (in_edges P t) (λ e i. let q = p.1 e i in edge_sent e i q.0 q.1);
    },
  )
