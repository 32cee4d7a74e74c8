-- The printed chain, built from its end back.
use Rattle.std.proofs.Common.{◌≡◌, ℕ, ◌+◌, ◌<◌, ◌≤◌, true, List, [], ◌∷◌, ◌++◌, length, reverse, refl, ap, sym, ◌∙◌}
use Rattle.std.proofs.Common.{subst, append_assoc, inl, inr, Option, Some, None, MatchOption, IsSomeAnd, arith}
use Rattle.std.specs.Prelude.{unwrap_or}
use Rattle.std.specs.Map.{lookup, keys_of}
use Rattle.std.proofs.lemmas.Bool.{eq-eqb, eqb-true, false≢true}
use Rattle.std.proofs.lemmas.List.{append-nil, length-reverse, reverse-append}
use Rattle.ptg_base.specs.Lists.{IsIn}
use Rattle.ptg_base.specs.Task.{Task}
use Rattle.ptg_base.specs.TaskComparing.{same_task}
use Rattle.plan_core.specs.declared.plan.Plan.{Plan}
use Rattle.list_lemmas.proofs.Counts.{weigh-push}
use Rattle.list_lemmas.proofs.Distinct.{no_longer as at_most}
use Rattle.dep_iter.specs.Tasks.{IsTask, all_tasks}
use Rattle.dep_iter.specs.Edges.{sources}
use Rattle.dep_iter.specs.Consistent.{IsConsistent}
use Rattle.dep_iter.proofs.CallerLemmas.{listed}
use Rattle.chain_cert.specs.Certificates.{AreLevels}
use Rattle.chain_cert.specs.Chains.{HasNoCycle, IsChain, IsSourceOf}
use Rattle.chain_cert.specs.Finding.{HasAllLevels, IsHeaviestRow, IsLeastWhere, is_heaviest_source}
use Rattle.chain_cert.specs.Levels.{IsLevel}
use Rattle.chain_cert.specs.Printed.{HasGreatestLevel, IsChainBack, IsHeaviestSource, IsLeast, IsTracedBack}
use Rattle.chain_cert.specs.Weights.{chain_weight, weight}
use Rattle.chain_cert.proofs.Completeness.{repeats_or_not}
use Rattle.chain_cert.proofs.Potentials.{row_of}
use Rattle.chain_cert.proofs.TableLevels.{Alone, BySource, ComesTo, comes_to, longer}
use Rattle.chain_cert.proofs.Linking.{chain_task}
use Rattle.chain_cert.proofs.TaskSorting.{order_task}
use Rattle.chain_cert.proofs.Turning.{source_task}
use Rattle.chain_cert.proofs.Unique.{level_one}
use Rattle.flow_meaning.specs.Numbers.{number_for}

-- a table of all levels has the level of each task
pub has_level : (P : Plan) (ws : List ℕ) (table : List (Task × ℕ)) → HasAllLevels P ws table → (t : Task) → IsTask P t → IsLevel P ws t (number_for table t)
has_level P ws table h t job = by (lookup (same_task t) table) (h t job)
  where
    by : (o : Option ℕ) → IsSomeAnd o (IsLevel P ws t) → IsLevel P ws t (unwrap_or o 0)
    by None a = absurd a
    by (Some n) a = a

module _ (P : Plan) (con : IsConsistent P) (ws : List ℕ) (table : List (Task × ℕ)) (h : HasAllLevels P ws table) (t : Task) (job : IsTask P t) where
  here : IsLevel P ws t (number_for table t)
  here = has_level P ws table h t job

  -- if the level of a task is not its weight, it comes by a source
  by_source : (number_for table t ≡ weight ws t → ⊥) → (s : Task) × IsSourceOf P s t × (number_for table s + weight ws t ≡ number_for table t)
  by_source more = by (comes_to P t here.chain here.is_chain here.ends)
    where
      by : ComesTo P t here.chain → (s : Task) × IsSourceOf P s t × (number_for table s + weight ws t ≡ number_for table t)
      by (Alone is) = absurd (more (omega (arith, here.reached, ap (chain_weight ws) is)))
      by (BySource front s is before link) =
          let level = has_level P ws table h s (source_task P con s t job link) in
          let under = level.most (front ++ s ∷ []) before (front, refl) in
          let q = longer P ws t job s (number_for table s) link level in
          let over = here.most q.0 q.1 q.2 in
          (s, link, omega (arith, here.reached, ap (chain_weight ws) is, weigh-push (weight ws) (front ++ s ∷ []) t, under, over, q.3))

  -- a heaviest chain comes by a source if and only if the source passes the test
  pub heaviest_passes : (s : Task) → IsSourceOf P s t → is_heaviest_source table (weight ws t) (number_for table t) s ≡ true → IsHeaviestSource P ws t s
  heaviest_passes s link passes = record {
    source = link;
    level = number_for table s;
    source_level = has_level P ws table h s (source_task P con s t job link);
    task_level = subst (IsLevel P ws t) (sym (eqb-true (number_for table s + weight ws t) (number_for table t) passes)) here;
  }

  pub passes_heaviest : (s : Task) → IsHeaviestSource P ws t s → is_heaviest_source table (weight ws t) (number_for table t) s ≡ true
  passes_heaviest s k =
      let a = level_one P ws s k.level (number_for table s) k.source_level (has_level P ws table h s (source_task P con s t job k.source)) in
      let b = level_one P ws t (k.level + weight ws t) (number_for table t) k.task_level here in
      eq-eqb (number_for table s + weight ws t) (number_for table t) (omega (arith, a, b))

  -- one step back
  abbrev pub StepBack : Option Task → Type 0
  StepBack o = MatchOption o (IsLevel P ws t (weight ws t)) (λ s. (IsLevel P ws t (weight ws t) → ⊥) × IsLeast (IsHeaviestSource P ws t) s)

  pub step_ends : number_for table t ≡ weight ws t → StepBack None
  step_ends e = subst (IsLevel P ws t) e here

  pub step_by : (number_for table t ≡ weight ws t → ⊥) → (o : Option Task)
      → IsLeastWhere (is_heaviest_source table (weight ws t) (number_for table t)) (sources P t) o → StepBack o
  step_by more None l =
      let p = by_source more in
      absurd (false≢true (sym (l p.0 p.1) ∙ eq-eqb (number_for table p.0 + weight ws t) (number_for table t) p.2))
  step_by more (Some s) l = (
    λ own. more (level_one P ws t (number_for table t) (weight ws t) here own),
    record {
      kind = heaviest_passes s l.0 l.1;
      least = λ u k. l.2 u k.source (passes_heaviest u k);
    },
  )

-- the task with which the printed chain ends, by the heaviest row
module _ (P : Plan) (ws : List ℕ) (rows : List (Task × ℕ)) (levels : AreLevels P ws rows) where
  pub no_row : rows ≡ [] → all_tasks P ≡ []
  no_row none = by (all_tasks P) (λ t i. (listed P t).1 i)
    where
      by : (ts : List Task) → ((t : Task) → IsIn t ts → IsTask P t) → ts ≡ []
      by [] job = refl
      by (t ∷ ts) job = absurd (subst (λ (l : List (Task × ℕ)). IsIn t (keys_of l)) none ((order_task P rows levels.tasks t).1 (job t (inl refl))))

  row_task : (t : Task) (n : ℕ) → IsIn (t, n) rows → IsTask P t
  row_task t n i = (order_task P rows levels.tasks t).0 (in_rows rows t n i)
    where
      in_rows : (rs : List (Task × ℕ)) (t : Task) (n : ℕ) → IsIn (t, n) rs → IsIn t (keys_of rs)
      in_rows [] t n i = absurd i
      in_rows (r ∷ rs) t n i = elim i [ inl e ↦ inl (ap (λ (x : Task × ℕ). x.0) e) | inr later ↦ inr (in_rows rs t n later) ]

  pub last_is : (best : Task × ℕ) → IsHeaviestRow rows (Some best) → IsLeast (HasGreatestLevel P ws) best.0
  last_is best b =
      let level = levels.each best.0 best.1 b.0 in
      let over : (u : Task) (n : ℕ) → IsTask P u → IsLevel P ws u n → n ≤ best.1 = λ u n job is.
      let r = row_of P ws rows levels.tasks u job in
      let same = level_one P ws u n r.0 is (levels.each u r.0 r.1) in
      omega (arith, same, (b.1 (u, r.0) r.1).0) in
      record {
        kind = record { task = row_task best.0 best.1 b.0; level = best.1; is_level = level; greatest = over };
        least = λ u k.
            let r = row_of P ws rows levels.tasks u k.task in
            let same = level_one P ws u k.level r.0 k.is_level (levels.each u r.0 r.1) in
            let equal : r.0 ≡ best.1 = omega (arith, same, (b.1 (u, r.0) r.1).0, k.greatest best.0 best.1 (row_task best.0 best.1 b.0) level) in
            (b.1 (u, r.0) r.1).1 equal;
      }

-- a chain without repeats is no longer than there are tasks, and without a cycle no chain has repeats
chain_right : (P : Plan) (a b : List Task) → IsChain P (a ++ b) → IsChain P b
chain_right P [] b c = c
chain_right P (x ∷ a) b c = chain_right P a b c.2

-- a chain up to a task in it: it is a chain, and its last task is a source of that task
chain_until : (P : Plan) (t : Task) (a : List Task) (u : Task) (more : List Task) → IsChain P (t ∷ (a ++ u ∷ more))
    → IsChain P (t ∷ a) × ((last : Task) × ((front : List Task) × (t ∷ a ≡ front ++ last ∷ [])) × IsSourceOf P last u)
chain_until P t [] u more c = ((c.0, tt, tt), (t, ([], refl), c.1))
chain_until P t (x ∷ a) u more c =
    let p = chain_until P x a u more c.2 in
    ((c.0, c.1, p.0), (p.1.0, (t ∷ p.1.1.0, ap (λ l. t ∷ l) p.1.1.1), p.1.2))

pub no_longer : (P : Plan) → HasNoCycle P → (ts : List Task) → IsChain P ts → length ts ≤ length (all_tasks P)
no_longer P none ts c = elim (repeats_or_not ts) [
  | inl once ↦ at_most ts (all_tasks P) once (λ t i. (listed P t).0 (chain_task P ts c t i))
  | inr r ↦ absurd (
      let part = chain_right P r.before (r.twice ∷ (r.between ++ r.twice ∷ r.after)) (subst (IsChain P) r.split c) in
      let p = chain_until P r.twice r.between r.twice r.after part in
      none (r.twice ∷ r.between) (record {
        chain = p.0;
        differ = r.once;
        first = r.twice;
        begins = (r.between, refl);
        last = p.1.0;
        ends = p.1.1;
        closed = p.1.2;
      })
      )
]

-- the tasks left of the printed chain, from the next one on
abbrev pub LeadsOn : Plan → List ℕ → Option Task → List Task → Type 0
LeadsOn P ws None rest = rest ≡ []
LeadsOn P ws (Some t) [] = ⊥
LeadsOn P ws (Some t) (u ∷ us) = (u ≡ t) × IsTracedBack P ws t us

-- the chain that is made, with the next task before it
abbrev pub IsChainWith : Plan → Option Task → List Task → Type 0
IsChainWith P None done = Unit {0}
IsChainWith P (Some t) done = IsChain P (t ∷ done)

pub record IsTracing (P : Plan) (ws : List ℕ) (back : List Task) (next : Option Task) : Type 0 where
  pub so_far : (rest : List Task) → LeadsOn P ws next rest → IsChainBack P ws (back ++ rest)
  pub chain : IsChainWith P next (reverse back)

module _ (P : Plan) (ws : List ℕ) where
  pub trace_start : (o : Option Task) → MatchOption o (all_tasks P ≡ []) (IsLeast (HasGreatestLevel P ws)) → IsTracing P ws [] o
  trace_start None none = record { so_far = λ rest e. subst (IsChainBack P ws) (sym e) none; chain = tt }
  trace_start (Some t) last = record {
    so_far = λ rest l. by rest l;
    chain = (last.kind.task, tt, tt);
  }
    where
      by : (rest : List Task) → LeadsOn P ws (Some t) rest → IsChainBack P ws rest
      by [] l = absurd l
      by (u ∷ us) l = (subst (IsLeast (HasGreatestLevel P ws)) (sym l.0) last, subst (λ v. IsTracedBack P ws v us) (sym l.0) l.1)

  pub trace_next : (con : IsConsistent P) (back : List Task) (t : Task) (o : Option Task) → IsTracing P ws back (Some t)
      → MatchOption o (IsLevel P ws t (weight ws t)) (λ s. (IsLevel P ws t (weight ws t) → ⊥)
      × IsLeast (IsHeaviestSource P ws t) s) → IsTracing P ws (back ++ t ∷ []) o
  trace_next con back t o w step = record {
    so_far = λ rest l. subst (IsChainBack P ws) (sym (append_assoc back (t ∷ []) rest)) (w.so_far (t ∷ rest) (refl, by o step rest l));
    chain = chain_by o step;
  }
    where
      by : (o : Option Task) → MatchOption o (IsLevel P ws t (weight ws t))
          (λ s. (IsLevel P ws t (weight ws t) → ⊥) × IsLeast (IsHeaviestSource P ws t) s) → (rest : List Task)
          → LeadsOn P ws o rest → IsTracedBack P ws t rest
      by None own rest e = subst (IsTracedBack P ws t) (sym e) own
      by (Some s) p [] l = absurd l
      by (Some s) p (u ∷ us) l = (p.0, subst (IsLeast (IsHeaviestSource P ws t)) (sym l.0) p.1, subst (λ v. IsTracedBack P ws v us) (sym l.0) l.1)

      turned : reverse (back ++ t ∷ []) ≡ t ∷ reverse back
      turned = reverse-append back (t ∷ [])

      chain_by : (o : Option Task) → MatchOption o (IsLevel P ws t (weight ws t))
          (λ s. (IsLevel P ws t (weight ws t) → ⊥) × IsLeast (IsHeaviestSource P ws t) s)
          → IsChainWith P o (reverse (back ++ t ∷ []))
      chain_by None own = tt
      chain_by (Some s) p =
          let link = p.1.kind.source in
          subst (λ l. IsChain P (s ∷ l)) (sym turned) (source_task P con s t w.chain.0 link, link, w.chain)

  pub trace_end : (back : List Task) → IsTracing P ws back None → IsChainBack P ws back
  trace_end back w = subst (IsChainBack P ws) (append-nil back) (w.so_far [] refl)

  -- there is room for one more task
  pub trace_room : HasNoCycle P → (back : List Task) (t : Task) → IsTracing P ws back (Some t) → length back < length (all_tasks P)
  trace_room none back t w = omega (arith, no_longer P none (t ∷ reverse back) w.chain, length-reverse back)
