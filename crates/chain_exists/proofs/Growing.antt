-- There is a greatest legal order, and its tasks have levels.
use Rattle.std.proofs.Common.{◌≡◌, ℕ, ◌+◌, ◌≤◌, List, [], ◌∷◌, ◌++◌, refl, sym, subst, ◌⊎◌, inl, inr, arith}
use Rattle.std.specs.Prelude.{nat_le}
use Rattle.std.proofs.lemmas.Bool.{leb-false, leb-true}
use Rattle.ptg_base.specs.Lists.{IsIn}
use Rattle.ptg_base.specs.Task.{Task}
use Rattle.ptg_base.specs.declared.edge.Edge.{Edge}
use Rattle.plan_core.specs.declared.plan.Plan.{Plan}
use Rattle.list_lemmas.proofs.Members.{from_append, from_map}
use Rattle.list_lemmas.proofs.Truth.{by_test}
use Rattle.list_lemmas.proofs.Growing.{all_or_one, grown_to_the_end}
use Rattle.list_lemmas.proofs.Tasks.{member_or_not}
use Rattle.dep_iter.specs.Tasks.{IsTask, all_tasks}
use Rattle.dep_iter.specs.Edges.{in_edges, sources}
use Rattle.dep_iter.proofs.CallerLemmas.{listed}
use Rattle.flow_meaning.specs.Order.{IsLegalAfter, IsLegalOrder, MayFollow}
use Rattle.chain_cert.specs.Greatest.{IsGreatestOrder}
use Rattle.chain_cert.proofs.CallerLemmas.{legal_push, level_from, order_at_most}
use Rattle.chain_cert.specs.Chains.{IsSourceOf}
use Rattle.chain_cert.specs.Levels.{IsLevel}
use Rattle.chain_cert.specs.Weights.{weight}

module _ (P : Plan) where
  -- a task may not follow these, or it may
  bars_or_may : (before : List Task) (t : Task) → IsIn t (all_tasks P) → (MayFollow P before t → ⊥) ⊎ MayFollow P before t
  bars_or_may before t i = elim (member_or_not t before) [
    | inl old ↦ inl (λ m. m.first_time old)
    | inr new ↦ elim (all_or_one (λ (e : Edge). IsIn e.from before) (λ (e : Edge). IsIn e.from before → ⊥)
        (in_edges P t) (λ e j. member_or_not e.from before)) [
          | inl all ↦ inr (record { task = (listed P t).1 i; first_time = new; after_sources = all })
          | inr p ↦ inl (λ m. p.2 (m.after_sources p.0 p.1))
        ]
  ]

  -- a legal order after which no task may follow is a greatest one
  pub greatest_order : (us : List Task) × IsGreatestOrder P us
  greatest_order =
      let g = grown_to_the_end (all_tasks P) (MayFollow P) (IsLegalOrder P) bars_or_may (legal_push P []) (order_at_most P) tt in
      (g.0, record { legal = g.1; greatest = λ t m. g.2 t ((listed P t).0 m.task) m })

  module _ (ws : List ℕ) where
    abbrev pub HasLevel : Task → Type 0
    HasLevel t = (n : ℕ) × IsLevel P ws t n

    -- the greatest level of tasks with levels
    record IsGreatest (ss : List Task) (m : ℕ) : Type 0 where
      below : (s : Task) → IsIn s ss → (k : ℕ) × IsLevel P ws s k × (k ≤ m)
      reached : (m ≡ 0) ⊎ ((s : Task) × IsIn s ss × IsLevel P ws s m)

    greatest_of : (ss : List Task) → ((s : Task) → IsIn s ss → HasLevel s) → (m : ℕ) × IsGreatest ss m
    greatest_of [] had = (0, record { below = λ s i. absurd i; reached = inl refl })
    greatest_of (u ∷ us) had =
        let here = had u (inl refl) in
        let rest = greatest_of us (λ s i. had s (inr i)) in
        by_test (nat_le here.0 rest.0)
        (λ k.
        let le = leb-true here.0 rest.0 k in (
          rest.0,
          record {
            below = λ s i. elim i [
              | inl e ↦ (here.0, subst (λ v. IsLevel P ws v here.0) (sym e) here.1, le)
              | inr later ↦ rest.1.below s later
            ];
            reached = elim rest.1.reached [ inl none ↦ inl none | inr p ↦ inr (p.0, inr p.1, p.2) ];
          },
        ))
        (λ k.
        let lt = leb-false here.0 rest.0 k in (
          here.0,
          record {
            below = λ s i. elim i [
              | inl e ↦ (here.0, subst (λ v. IsLevel P ws v here.0) (sym e) here.1, omega arith)
              | inr later ↦ let b = rest.1.below s later in (b.0, b.1, omega (arith, lt, b.2))
            ];
            reached = inr (u, inl refl, here.1);
          },
        ))

    level_after : (t : Task) → IsTask P t → ((s : Task) → IsSourceOf P s t → HasLevel s) → HasLevel t
    level_after t job had =
        let g = greatest_of (sources P t) had in
        (weight ws t + g.0, level_from P ws t job g.0 g.1.below g.1.reached)

    -- the tasks of a legal order have levels
    levels_after : (before ts : List Task) → IsLegalAfter P before ts → ((t : Task) → IsIn t before → HasLevel t) → (t : Task) → IsIn t ts → HasLevel t
    levels_after before [] l had t i = absurd i
    levels_after before (u ∷ us) l had t i =
        let here : HasLevel u = level_after u l.0.task (λ s link.
        let e = from_map (λ (d : Edge). d.from) (in_edges P u) s link in
        had s (subst (λ v. IsIn v before) (sym e.2) (l.0.after_sources e.0 e.1))) in
        elim i [
          | inl e ↦ subst HasLevel (sym e) here
          | inr later ↦ levels_after (before ++ u ∷ []) us l.1
              (λ v j. elim (from_append v before (u ∷ []) j) [
                | inl old ↦ had v old
                | inr new ↦ elim new [ inl q ↦ subst HasLevel (sym q) here | inr never ↦ absurd never ]
              ]) t later
        ]

    pub levels_in : (ts : List Task) → IsLegalOrder P ts → (t : Task) → IsIn t ts → HasLevel t
    levels_in ts legal = levels_after [] ts legal (λ t i. absurd i)
