-- Every job has a certificate.
use Rattle.std.proofs.Common.{◌≡◌, ℕ, ◌≤◌, List, [], ◌∷◌, length, refl, sym, ◌∙◌, subst, inl, inr, arith}
use Rattle.ptg_base.specs.Lists.{IsIn}
use Rattle.ptg_base.specs.Task.{Task}
use Rattle.plan_core.specs.declared.plan.Plan.{Plan}
use Rattle.coll_data.specs.Data.{Data}
use Rattle.dep_iter.specs.Tasks.{all_tasks}
use Rattle.dep_iter.specs.Consistent.{IsConsistent}
use Rattle.dep_iter.proofs.CallerLemmas.{listed, once-all_tasks}
use Rattle.flow_meaning.specs.declared.outcome.TrapRow.{TrapRow}
use Rattle.flow_meaning.specs.Answer.{ran, trapped}
use Rattle.chain_cert.specs.Greatest.{IsGreatestOrder}
use Rattle.list_lemmas.proofs.Distinct.{no_longer}
use Rattle.list_lemmas.proofs.Tasks.{all_or_absent}
use Rattle.chain_cert.proofs.CallerLemmas.{legal_once, legal_tasks, members_ran, no_cycle, same_printed, sorted_task}
use Rattle.chain_cert.specs.declared.certificate.Certificate.{Certificate}
use Rattle.chain_cert.specs.declared.certificate.Certificate.TheVariants.{Chain, Cycle, Trapped}
use Rattle.chain_cert.specs.Certificates.{AreLevels, IsCertificate, tasks_in_order}
use Rattle.chain_cert.specs.Finding.{LacksTasks}
use Rattle.chain_exists.proofs.Growing.{greatest_order, levels_in}
use Rattle.chain_exists.proofs.Rows.{level_rows, rows_have}
use Rattle.chain_exists.proofs.Backward.{some_chain, some_cycle}

module _ (P : Plan) (con : IsConsistent P) (order : List Task) (g : IsGreatestOrder P order) where
  module _ (G : Data) (ws : List ℕ) (calm : trapped P G ≡ []) where
    chain_certificate : ((t : Task) → IsIn t (all_tasks P) → IsIn t order) → (c : Certificate) × IsCertificate P G ws c
    chain_certificate inside =
        let none = no_cycle P order g.legal (no_longer (all_tasks P) order (once-all_tasks P) inside) in
        let rows = level_rows P ws (tasks_in_order P) (λ t i. levels_in P ws order g.legal t (inside t ((listed P t).0 ((sorted_task P t).0 i)))) in
        let levels : AreLevels P ws rows.0 = record { tasks = rows.1.tasks; each = rows.1.each } in
        let chain = some_chain P con ws none rows.0 levels (λ t job. rows.1.found t ((sorted_task P t).1 job)) in
        (Chain chain.0 rows.0, (calm, none, chain.1, levels))

    cycle_certificate : (t : Task) → IsIn t (all_tasks P) → (IsIn t order → ⊥) → (c : Certificate) × IsCertificate P G ws c
    cycle_certificate t i out =
        let rows = level_rows P ws order (levels_in P ws order g.legal) in
        let once = legal_once P [] order g.legal in
        let few : length (t ∷ order) ≤ length (all_tasks P) =
        no_longer (t ∷ order) (all_tasks P) (out, once) (λ u j. elim j [
          | inl e ↦ subst (λ v. IsIn v (all_tasks P)) (sym e) i
          | inr later ↦ (listed P u).0
              (legal_tasks P [] order g.legal u later)
        ]) in
        let lacks : LacksTasks P order rows.0 = record {
          greatest = g;
          members = λ u. (
            λ j. (rows_have rows.0 u).0 (subst (IsIn u) (sym rows.1.tasks) j),
            λ e. subst (IsIn u) rows.1.tasks ((rows_have rows.0 u).1 e),
          );
          some_left = omega (arith, few);
        } in
        let cycle = some_cycle P con order rows.0 lacks in
        (Cycle cycle.0, (calm, same_printed P order (ran P G) (members_ran P G con calm order g) cycle.0 cycle.1))

pub some_certificate : (P : Plan) (G : Data) (ws : List ℕ) → IsConsistent P → (c : Certificate) × IsCertificate P G ws c
some_certificate P G ws con = by (trapped P G) refl
  where
    by : (rows : List TrapRow) → trapped P G ≡ rows → (c : Certificate) × IsCertificate P G ws c
    by (r ∷ rs) e = (Trapped, λ none. not_none (sym e ∙ none))
      where
        not_none : ◌≡◌ {A = List TrapRow} (r ∷ rs) [] → ⊥
        not_none q = cc
    by [] calm =
        let found = greatest_order P in
        elim (all_or_absent found.0 (all_tasks P)) [
          | inl inside ↦ chain_certificate P con found.0 found.1 G ws calm inside
          | inr p ↦ cycle_certificate P con found.0 found.1 G ws calm p.0 p.1 p.2
        ]
