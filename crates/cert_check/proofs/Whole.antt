-- A greatest legal order has all tasks if and only if there is no cycle.
use Rattle.std.proofs.Common.{◌≡◌, ℕ, zero, suc, ◌↔◌, List, [], ◌∷◌, length, refl, ap, inl, inr, arith}
use Rattle.ptg_base.specs.Lists.{IsIn}
use Rattle.ptg_base.specs.Task.{Task}
use Rattle.ptg_base.specs.declared.edge.Edge.{Edge}
use Rattle.plan_core.specs.declared.plan.Plan.{Plan}
use Rattle.list_lemmas.proofs.Members.{IsIn-map}
use Rattle.list_lemmas.proofs.Distinct.{no_longer}
use Rattle.list_lemmas.proofs.Tasks.{member_or_not}
use Rattle.dep_iter.specs.Tasks.{IsTask, all_tasks}
use Rattle.dep_iter.specs.Edges.{in_edges}
use Rattle.dep_iter.specs.Consistent.{IsConsistent}
use Rattle.dep_iter.proofs.CallerLemmas.{listed, once-all_tasks}
use Rattle.chain_cert.specs.Greatest.{IsGreatestOrder}
use Rattle.chain_cert.proofs.CallerLemmas.{IsBackFrom, from_outside, no_cycle, order_at_most, source_task}
use Rattle.chain_cert.specs.Chains.{HasNoCycle, IsSourceOf}
use Rattle.chain_exists.proofs.CallerLemmas.{long_walk}

module _ (P : Plan) (con : IsConsistent P) (order : List Task) (g : IsGreatestOrder P order) where
  source_outside : (t : Task) → IsTask P t → (IsIn t order → ⊥) → (s : Task) × IsSourceOf P s t × (IsIn s order → ⊥)
  source_outside t job out =
      let p = from_outside P order g t job out in
      (p.0.from, IsIn-map (λ (e : Edge). e.from) (in_edges P t) p.0 p.1, p.2)

  walk_outside : (n : ℕ) (t : Task) → IsTask P t → (IsIn t order → ⊥) → (ss : List Task) × (length ss ≡ n) × IsBackFrom P con t ss
  walk_outside zero t job out = ([], refl, tt)
  walk_outside (suc n) t job out =
      let p = source_outside t job out in
      let q = walk_outside n p.0 (source_task P con p.0 t job p.1) p.2 in
      (p.0 ∷ q.0, ap suc q.1, (p.1, q.2))

  all_inside : HasNoCycle P → (t : Task) → IsTask P t → IsIn t order
  all_inside none t job = elim (member_or_not t order) [
    | inl i ↦ i
    | inr out ↦
        let q = walk_outside (length (all_tasks P)) t job out in
        let p = long_walk P con t q.0 job q.2 (omega (arith, q.1)) in
        absurd (none p.0 p.1)
  ]

  pub all_without_cycle : (length order ≡ length (all_tasks P)) ↔ HasNoCycle P
  all_without_cycle = (
    λ e. no_cycle P order g.legal (omega (arith, e)),
    λ none.
        let few = order_at_most P order g.legal in
        let many = no_longer (all_tasks P) order (once-all_tasks P) (λ t i. all_inside none t ((listed P t).1 i)) in
        omega (arith, few, many),
  )
