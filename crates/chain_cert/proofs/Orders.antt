-- Properties of legal orders, and of greatest ones.
use Rattle.std.proofs.Common.{List, [], ◌∷◌, ◌++◌, refl, sym, subst, ◌⊎◌, inl, inr}
use Rattle.ptg_base.specs.Lists.{HasNoRepeats, IsIn}
use Rattle.ptg_base.specs.Task.{Task}
use Rattle.ptg_base.specs.declared.edge.Edge.{Edge}
use Rattle.plan_core.specs.declared.plan.Plan.{Plan}
use Rattle.list_lemmas.proofs.Members.{IsIn-append_left, IsIn-append_right}
use Rattle.list_lemmas.proofs.Tasks.{member_or_not}
use Rattle.dep_iter.specs.Tasks.{IsTask}
use Rattle.dep_iter.specs.Edges.{in_edges}
use Rattle.flow_meaning.specs.Order.{IsLegalAfter}
use Rattle.chain_cert.specs.Greatest.{IsGreatestOrder}
pub use Rattle.flow_meaning.proofs.CallerLemmas.{legal_push}

-- the members are tasks of the job
pub legal_tasks : (P : Plan) (before ts : List Task) → IsLegalAfter P before ts → (t : Task) → IsIn t ts → IsTask P t
legal_tasks P before [] l t i = absurd i
legal_tasks P before (u ∷ us) l t i = elim i [ inl e ↦ subst (IsTask P) (sym e) l.0.task | inr later ↦ legal_tasks P (before ++ u ∷ []) us l.1 t later ]

-- and none of those that come before
legal_apart : (P : Plan) (before ts : List Task) → IsLegalAfter P before ts → (t : Task) → IsIn t ts → IsIn t before → ⊥
legal_apart P before [] l t i j = i
legal_apart P before (u ∷ us) l t i j = elim i [
  | inl e ↦ l.0.first_time (subst (λ v. IsIn v before) e j)
  | inr later ↦ legal_apart P (before ++ u ∷ []) us l.1 t later (IsIn-append_left t before (u ∷ []) j)
]

pub legal_once : (P : Plan) (before ts : List Task) → IsLegalAfter P before ts → HasNoRepeats ts
legal_once P before [] l = tt
legal_once P before (u ∷ us) l = (
  λ i. legal_apart P (before ++ u ∷ []) us l.1 u i (IsIn-append_right u before (u ∷ []) (inl refl)),
  legal_once P (before ++ u ∷ []) us l.1,
)

module _ (P : Plan) (ts : List Task) (g : IsGreatestOrder P ts) where
  -- a task is a member if the sources of all edges into it are
  pub joins : (t : Task) → IsTask P t → ((e : Edge) → IsIn e (in_edges P t) → IsIn e.from ts) → IsIn t ts
  joins t job sources = elim (member_or_not t ts) [
    | inl i ↦ i
    | inr absent ↦ absurd (g.greatest t (record { task = job; first_time = absent; after_sources = sources }))
  ]

  -- one of some edges comes from outside, or all come from members
  outside : (es : List Edge) → ((e : Edge) × IsIn e es × (IsIn e.from ts → ⊥)) ⊎ ((e : Edge) → IsIn e es → IsIn e.from ts)
  outside [] = inr (λ e i. absurd i)
  outside (d ∷ ds) = elim (member_or_not d.from ts) [
    | inr absent ↦ inl (d, inl refl, absent)
    | inl i ↦ elim (outside ds) [
      | inl p ↦ inl (p.0, inr p.1, p.2)
      | inr all ↦ inr (λ e j. elim j [ inl q ↦ subst (λ (x : Edge). IsIn x.from ts) (sym q) i | inr later ↦ all e later ])
    ]
  ]

  -- some edge into a task outside comes from outside
  pub from_outside : (t : Task) → IsTask P t → (IsIn t ts → ⊥) → (e : Edge) × IsIn e (in_edges P t) × (IsIn e.from ts → ⊥)
  from_outside t job absent = elim (outside (in_edges P t)) [ inl p ↦ p | inr all ↦ absurd (absent (joins t job all)) ]
