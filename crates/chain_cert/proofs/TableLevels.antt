-- The level of a task follows from those of its sources, and tables keep levels along an order.
use Rattle.std.proofs.Common.{◌≡◌, ℕ, zero, suc, ◌+◌, ◌*◌, ◌<◌, ◌≤◌, cond, List, [], ◌∷◌, ◌++◌, length, take}
use Rattle.std.proofs.Common.{slice_index, slice_index_or, refl, ap, sym, ◌∙◌, subst, append_assoc, ◌⊎◌, inl, inr}
use Rattle.std.proofs.Common.{Option, Some, None, arith, length-append}
use Rattle.std.specs.Prelude.{nat_le, unwrap_or}
use Rattle.std.specs.Map.{lookup}
use Rattle.std.proofs.lemmas.Bool.{false≢true, leb-false, leb-true}
use Rattle.std.proofs.lemmas.List.{append-nil}
use Rattle.ptg_base.specs.Lists.{IsIn}
use Rattle.ptg_base.specs.Task.{Task}
use Rattle.ptg_base.specs.TaskComparing.{same_task}
use Rattle.ptg_base.specs.TaskLaws.{same_task-decides}
use Rattle.ptg_base.specs.declared.edge.Edge.{Edge}
use Rattle.plan_core.specs.declared.plan.Plan.{Plan}
use Rattle.list_lemmas.proofs.Members.{IsIn-append_left, IsIn-append_right, from_append, from_map}
use Rattle.list_lemmas.proofs.Truth.{by_test}
use Rattle.list_lemmas.proofs.Counts.{weigh-push}
use Rattle.dep_iter.specs.Tasks.{IsTask}
use Rattle.dep_iter.specs.Edges.{in_edges, sources}
use Rattle.flow_meaning.specs.Order.{IsLegalAfter, MayFollow}
use Rattle.chain_cert.specs.Chains.{EndsWith, IsChain, IsSourceOf}
use Rattle.chain_cert.specs.Checking.{AreWeights}
use Rattle.chain_cert.specs.Levels.{IsLevel}
use Rattle.chain_cert.specs.Weights.{chain_weight, weight}
use Rattle.chain_cert.specs.Finding.{HasLevels, IsLevelAmong, IsNextTask, greatest_among}
use Rattle.chain_cert.proofs.Unique.{last_or_none}
use Rattle.flow_meaning.specs.Numbers.{number_for}

-- a chain with one more task at its end
pub chain_push : (P : Plan) (f : List Task) (s t : Task) → IsChain P (f ++ s ∷ []) → IsTask P t → IsSourceOf P s t → IsChain P ((f ++ s ∷ []) ++ t ∷ [])
chain_push P [] s t c job link = (c.0, link, (job, tt, tt))
chain_push P (u ∷ []) s t c job link = (c.0, c.1, chain_push P [] s t c.2 job link)
chain_push P (u ∷ v ∷ f) s t c job link = (c.0, c.1, chain_push P (v ∷ f) s t c.2 job link)

pub chain_pop : (P : Plan) (f : List Task) (s t : Task) → IsChain P ((f ++ s ∷ []) ++ t ∷ []) → IsChain P (f ++ s ∷ []) × IsSourceOf P s t
chain_pop P [] s t c = ((c.0, tt, tt), c.1)
chain_pop P (u ∷ []) s t c = let p = chain_pop P [] s t c.2 in ((c.0, c.1, p.0), p.1)
chain_pop P (u ∷ v ∷ f) s t c = let p = chain_pop P (v ∷ f) s t c.2 in ((c.0, c.1, p.0), p.1)

-- a chain that ends at a task is that task alone, or comes to it by a source
pub data ComesTo (P : Plan) (t : Task) (ts : List Task) : Type 0 where
  Alone : ts ≡ t ∷ [] → ComesTo P t ts
  BySource : (front : List Task) (s : Task) → ts ≡ (front ++ s ∷ []) ++ t ∷ [] → IsChain P (front ++ s ∷ []) → IsSourceOf P s t → ComesTo P t ts

pub comes_to : (P : Plan) (t : Task) (ts : List Task) → IsChain P ts → EndsWith t ts → ComesTo P t ts
comes_to P t ts c e = elim (last_or_none e.0) [
  | inl none ↦ Alone (e.1 ∙ ap (λ l. l ++ t ∷ []) none)
  | inr q ↦
      let is : ts ≡ (q.0 ++ q.1 ∷ []) ++ t ∷ [] = e.1 ∙ ap (λ l. l ++ t ∷ []) q.2 in
      let p = chain_pop P q.0 q.1 t (subst (IsChain P) is c) in
      BySource q.0 q.1 is p.0 p.1
]

module _ (P : Plan) (ws : List ℕ) (t : Task) (job : IsTask P t) where
  -- a heaviest chain to a source, with the task at its end
  pub longer : (s : Task) (k : ℕ) → IsSourceOf P s t → IsLevel P ws s k
      → (ts : List Task) × IsChain P ts × EndsWith t ts × (chain_weight ws ts ≡ k + weight ws t)
  longer s k link l =
      let is : l.chain ≡ l.ends.0 ++ s ∷ [] = l.ends.1 in
      let chain = chain_push P l.ends.0 s t (subst (IsChain P) is l.is_chain) job link in (
        (l.ends.0 ++ s ∷ []) ++ t ∷ [],
        chain,
        (l.ends.0 ++ s ∷ [], refl),
        omega (arith, weigh-push (weight ws) (l.ends.0 ++ s ∷ []) t, ap (chain_weight ws) is, l.reached),
      )

  -- the level of a task is its weight plus the greatest level of its sources
  pub level_from : (m : ℕ) → ((s : Task) → IsSourceOf P s t → (k : ℕ) × IsLevel P ws s k × (k ≤ m))
      → (m ≡ 0) ⊎ ((s : Task) × IsSourceOf P s t × IsLevel P ws s m) → IsLevel P ws t (weight ws t + m)
  level_from m below reached = elim reached [
    | inl none ↦ record { chain = t ∷ []; is_chain = (job, tt, tt); ends = ([], refl); reached = omega (arith, none); most = most }
    | inr p ↦
        let q = longer p.0 m p.1 p.2 in
        record { chain = q.0; is_chain = q.1; ends = q.2; reached = omega (arith, q.3); most = most }
  ]
    where
      most : (ts : List Task) → IsChain P ts → EndsWith t ts → chain_weight ws ts ≤ weight ws t + m
      most ts c e = by (comes_to P t ts c e)
        where
          by : ComesTo P t ts → chain_weight ws ts ≤ weight ws t + m
          by (Alone is) = omega (arith, ap (chain_weight ws) is)
          by (BySource front s is before link) =
              let b = below s link in
              let under = b.1.most (front ++ s ∷ []) before (front, refl) in
              omega (arith, ap (chain_weight ws) is, weigh-push (weight ws) (front ++ s ∷ []) t, under, b.2)

-- the greatest level that a table has for some tasks
pub at_most_among : (table : List (Task × ℕ)) (ts : List Task) (t : Task) → IsIn t ts → number_for table t ≤ greatest_among table ts
at_most_among table [] t i = absurd i
at_most_among table (u ∷ us) t i = elim i [
  | inl e ↦ omega (arith, ap (number_for table) e)
  | inr later ↦ omega (arith, at_most_among table us t later)
]

pub among_reached : (table : List (Task × ℕ)) (ts : List Task)
    → (greatest_among table ts ≡ 0) ⊎ ((t : Task) × IsIn t ts × (number_for table t ≡ greatest_among table ts))
among_reached table [] = inl refl
among_reached table (u ∷ us) =
    by_test (nat_le (greatest_among table us) (number_for table u))
    (λ k. let le = leb-true (greatest_among table us) (number_for table u) k in inr (u, inl refl, omega (arith, le)))
    (λ k.
    let lt = leb-false (greatest_among table us) (number_for table u) k in
    elim (among_reached table us) [
      | inl none ↦ absurd (omega (arith, lt, none))
      | inr p ↦ inr (p.0, inr p.1, omega (arith, lt, p.2))
    ])

pub among_bounded : (table : List (Task × ℕ)) (n : ℕ) → ((t : Task) → number_for table t ≤ n) → (ts : List Task) → greatest_among table ts ≤ n
among_bounded table n h [] = omega arith
among_bounded table n h (t ∷ ts) = omega (arith, h t, among_bounded table n h ts)

module _ (P : Plan) (ws : List ℕ) (ts : List Task) (table : List (Task × ℕ)) (h : HasLevels P ws ts table) where
  -- what the table has for one of the tasks, and for any
  pub found : (t : Task) → IsIn t ts → IsLevel P ws t (number_for table t)
  found t i = by (lookup (same_task t) table) (h t)
    where
      by : (o : Option ℕ) → IsLevelAmong P ws ts t o → IsLevel P ws t (unwrap_or o 0)
      by None a = absurd (a i)
      by (Some n) a = a.1

  pub bounded : (t : Task) → number_for table t ≤ 1000000 * length ts
  bounded t = by (lookup (same_task t) table) (h t)
    where
      by : (o : Option ℕ) → IsLevelAmong P ws ts t o → unwrap_or o 0 ≤ 1000000 * length ts
      by None a = omega arith
      by (Some n) a = a.2

  -- the next task has its level by the table
  pub next_level : (t : Task) → MayFollow P ts t → IsLevel P ws t (weight ws t + greatest_among table (sources P t))
  next_level t may =
      let there : (s : Task) → IsSourceOf P s t → IsIn s ts =
      λ s link. let e = from_map (λ (d : Edge). d.from) (in_edges P t) s link in subst (λ u. IsIn u ts) (sym e.2) (may.after_sources e.0 e.1) in
      level_from P ws t may.task (greatest_among table (sources P t))
      (λ s link. (number_for table s, found s (there s link), at_most_among table (sources P t) s link))
      (elim (among_reached table (sources P t)) [
        | inl none ↦ inl none
        | inr p ↦ inr (p.0, p.1, subst (IsLevel P ws p.0) p.2 (found p.0 (there p.0 p.1)))
      ])

-- a table after the next task was entered
pub noted : (P : Plan) (ws : List ℕ) (before : List Task) (table new : List (Task × ℕ)) (t key : Task) (level : ℕ)
    → key ≡ t → level ≡ weight ws t + greatest_among table (sources P t) → weight ws t ≤ 1000000
    → IsNextTask P ws before table t → ((u : Task) → lookup (same_task u) new
    ≡ cond (same_task key u) (Some level) (lookup (same_task u) table)) → HasLevels P ws (before ++ t ∷ []) new
noted P ws before table new t key level same is light next up u =
    by_test (same_task key u)
    (λ k.
    let at : lookup (same_task u) new ≡ Some level = up u ∙ ap (λ b. cond b (Some level) (lookup (same_task u) table)) k in
    let one : t ≡ u = sym same ∙ (same_task-decides key u).0 k in
    let here : IsIn u (before ++ t ∷ []) = IsIn-append_right u before (t ∷ []) (inl (sym one)) in
    let right : IsLevel P ws u level = subst (λ v. IsLevel P ws v level) one
    (subst (IsLevel P ws t) (sym is) (next_level P ws before table next.levels t next.follows)) in
    let few : level ≤ 1000000 * length (before ++ t ∷ []) =
    omega (
      arith,
      is,
      light,
      among_bounded table (1000000 * length before) (bounded P ws before table next.levels)
          (sources P t),
      length-append before (t ∷ []),
    ) in
    subst (IsLevelAmong P ws (before ++ t ∷ []) u) (sym at) (here, right, few))
    (λ k.
    let at : lookup (same_task u) new ≡ lookup (same_task u) table = up u ∙ ap (λ b. cond b (Some level) (lookup (same_task u) table)) k in
    let other : u ≡ t → ⊥ = λ e. false≢true (sym k ∙ (same_task-decides key u).1 (same ∙ sym e)) in
    subst (IsLevelAmong P ws (before ++ t ∷ []) u) (sym at) (by other (lookup (same_task u) table) (next.levels u)))
  where
    by : (u ≡ t → ⊥) → (o : Option ℕ) → IsLevelAmong P ws before u o → IsLevelAmong P ws (before ++ t ∷ []) u o
    by other None a = λ i. elim (from_append u before (t ∷ []) i) [ inl old ↦ a old | inr new ↦ elim new [ inl e ↦ other e | inr never ↦ never ] ]
    by other (Some n) a = (IsIn-append_left u before (t ∷ []) a.0, a.1, omega (arith, a.2, length-append before (t ∷ [])))

-- a table without tasks
pub none_noted : (P : Plan) (ws : List ℕ) → HasLevels P ws [] []
none_noted P ws t = λ i. i

-- each task of a legal order may follow those before it
pub follows_at : (P : Plan) (before ts : List Task) → IsLegalAfter P before ts → (k : ℕ) (t : Task) → k < length ts
    → t ≡ slice_index_or ts k t → MayFollow P (before ++ take k ts) t
follows_at P before [] l k t h e = absurd (omega arith)
follows_at P before (u ∷ us) l zero t h e = subst (λ b. MayFollow P b t) (sym (append-nil before)) (subst (MayFollow P before) (sym e) l.0)
follows_at P before (u ∷ us) l (suc k) t h e = subst (λ b. MayFollow P b t) (append_assoc before (u ∷ []) (take k us))
    (follows_at P (before ++ u ∷ []) us l.1 k t (omega arith) e)

-- no task weighs more than 1,000,000
pub light : (ws : List ℕ) (t : Task) → AreWeights ws → weight ws t ≤ 1000000
light ws t h = by ws t.class h
  where
    by : (ws : List ℕ) (n : ℕ) → AreWeights ws → slice_index ws n ≤ 1000000
    by [] n h = omega arith
    by (w ∷ ws) zero h = h.0
    by (w ∷ ws) (suc n) h = by ws n h.1
