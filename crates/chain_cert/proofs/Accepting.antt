-- The printed chain with the levels of all tasks is shown to be heaviest.
use Rattle.std.proofs.Common.{◌≡◌, ℕ, ◌+◌, ◌≤◌, List, [], ◌∷◌, reverse, refl, ap, sym, ◌∙◌, subst, inl, inr, arith}
use Rattle.std.proofs.lemmas.List.{append-nil}
use Rattle.std.specs.Map.{keys_of}
use Rattle.ptg_base.specs.Lists.{IsIn}
use Rattle.ptg_base.specs.Task.{Task}
use Rattle.plan_core.specs.declared.plan.Plan.{Plan}
use Rattle.dep_iter.specs.Tasks.{IsTask, all_tasks}
use Rattle.dep_iter.specs.Consistent.{IsConsistent}
use Rattle.dep_iter.proofs.CallerLemmas.{listed}
use Rattle.chain_cert.specs.Certificates.{AreLevels}
use Rattle.chain_cert.specs.Chains.{IsChain}
use Rattle.chain_cert.specs.Checked.{ShowsHeaviest, greatest_level}
use Rattle.chain_cert.specs.Levels.{IsLevel}
use Rattle.chain_cert.specs.Printed.{IsChainBack, IsPrintedChain, IsTracedBack}
use Rattle.chain_cert.specs.Weights.{chain_weight, weight}
use Rattle.chain_cert.proofs.TableLevels.{longer}
use Rattle.chain_cert.proofs.Potentials.{at_most_greatest, row_of}
use Rattle.chain_cert.proofs.TaskSorting.{order_task}
use Rattle.chain_cert.proofs.Turning.{source_task, turned, turned_is}
use Rattle.chain_cert.proofs.Unique.{level_one}

-- a chain that is traced back weighs the level of its end, and is a chain
module _ (P : Plan) (con : IsConsistent P) (ws : List ℕ) where
  traced : (t : Task) (n : ℕ) (ss done : List Task) → IsTracedBack P ws t ss → IsLevel P ws t n → IsChain P (t ∷ done)
      → IsChain P (turned ss (t ∷ done)) × (chain_weight ws (turned ss (t ∷ done)) ≡ n + chain_weight ws done)
  traced t n [] done b l c = (c, omega (arith, level_one P ws t n (weight ws t) l b))
  traced t n (s ∷ ss) done b l c =
      let k = b.1.kind in
      let same = level_one P ws t n (k.level + weight ws t) l k.task_level in
      let p = traced s k.level ss (t ∷ done) b.2 k.source_level (source_task P con s t c.0 k.source, k.source, c) in
      (p.0, omega (arith, p.1, same))

  pub printed_weighs : (chain : List Task) → IsPrintedChain P ws chain
      → IsChain P chain × ((levels : List (Task × ℕ)) → AreLevels P ws levels
      → chain_weight ws chain ≡ greatest_level levels)
  printed_weighs chain p = by p.back p.is_back p.turned
    where
      none_greatest : (levels : List (Task × ℕ)) → AreLevels P ws levels → all_tasks P ≡ [] → greatest_level levels ≡ 0
      none_greatest [] a none = refl
      none_greatest (r ∷ rs) a none = absurd (subst (IsIn r.0) none ((listed P r.0).0 ((order_task P (r ∷ rs) a.tasks r.0).0 (inl refl))))

      greatest_at : (levels : List (Task × ℕ)) (n : ℕ) → ((row : Task × ℕ) → IsIn row levels → row.1 ≤ n) → greatest_level levels ≤ n
      greatest_at [] n h = omega arith
      greatest_at (r ∷ rs) n h = omega (arith, h r (inl refl), greatest_at rs n (λ row i. h row (inr i)))

      by : (back : List Task) → IsChainBack P ws back → chain ≡ reverse back
          → IsChain P chain × ((levels : List (Task × ℕ)) → AreLevels P ws levels
          → chain_weight ws chain ≡ greatest_level levels)
      by [] none is = (subst (IsChain P) (sym is) tt, λ levels a. ap (chain_weight ws) is ∙ sym (none_greatest levels a none))
      by (t ∷ ts) b is =
          let last = b.0.kind in
          let q = traced t last.level ts [] b.1 last.is_level (last.task, tt, tt) in
          let same : chain ≡ turned ts (t ∷ []) = is ∙ sym (append-nil (reverse (t ∷ ts))) ∙ sym (turned_is (t ∷ ts) []) in (
            subst (IsChain P) (sym same) q.0,
            λ levels a.
                let row = row_of P ws levels a.tasks t last.task in
                let is_level = level_one P ws t row.0 last.level (a.each t row.0 row.1) last.is_level in
                let over = at_most_greatest levels (t, row.0) row.1 in
                let under = greatest_at levels last.level (λ r i. last.greatest r.0 r.1
                ((order_task P levels a.tasks r.0).0 (in_rows levels r i)) (a.each r.0 r.1 i)) in
                omega (arith, ap (chain_weight ws) same, q.1, is_level, over, under),
          )
        where
          in_rows : (rs : List (Task × ℕ)) (r : Task × ℕ) → IsIn r rs → IsIn r.0 (keys_of rs)
          in_rows [] r i = absurd i
          in_rows (x ∷ xs) r i = elim i [ inl e ↦ inl (ap (λ (y : Task × ℕ). y.0) e) | inr later ↦ inr (in_rows xs r later) ]

  pub shows_heaviest : (chain : List Task) (levels : List (Task × ℕ)) → IsPrintedChain P ws chain → AreLevels P ws levels → ShowsHeaviest P ws chain levels
  shows_heaviest chain levels p a =
      let q = printed_weighs chain p in
      record {
        tasks = a.tasks;
        own = λ t n i. let l = a.each t n i in omega (arith, l.most (t ∷ []) (task_of t n i, tt, tt) ([], refl));
        above = λ s t k n i j link.
            let w = longer P ws t (task_of t n j) s k link (a.each s k i) in
            omega (arith, (a.each t n j).most w.0 w.1 w.2, w.3);
        is_chain = q.0;
        heaviest = q.1 levels a;
      }
    where
      in_rows : (rs : List (Task × ℕ)) (t : Task) (n : ℕ) → IsIn (t, n) rs → IsIn t (keys_of rs)
      in_rows [] t n i = absurd i
      in_rows (x ∷ xs) t n i = elim i [ inl e ↦ inl (ap (λ (y : Task × ℕ). y.0) e) | inr later ↦ inr (in_rows xs t n later) ]

      task_of : (t : Task) (n : ℕ) → IsIn (t, n) levels → IsTask P t
      task_of t n i = (order_task P levels a.tasks t).0 (in_rows levels t n i)
