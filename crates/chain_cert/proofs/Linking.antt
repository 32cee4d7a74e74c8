-- Properties of chains and cycles.
use Rattle.std.proofs.Common.{List, [], ◌∷◌, refl, sym, subst, inl, inr}
use Rattle.ptg_base.specs.Lists.{IsIn}
use Rattle.ptg_base.specs.Task.{Task}
use Rattle.plan_core.specs.declared.plan.Plan.{Plan}
use Rattle.list_lemmas.proofs.Members.{IsIn-append_right}
use Rattle.dep_iter.specs.Tasks.{IsTask}
use Rattle.chain_cert.specs.Chains.{IsChain, IsCycle, IsSourceOf}

pub chain_task : (P : Plan) (ts : List Task) → IsChain P ts → (t : Task) → IsIn t ts → IsTask P t
chain_task P [] c t i = absurd i
chain_task P (u ∷ us) c t i = elim i [ inl e ↦ subst (IsTask P) (sym e) c.0 | inr later ↦ chain_task P us c.2 t later ]

-- a task of a chain other than the first has a source in it
pub chain_source : (P : Plan) (t : Task) (ts : List Task) → IsChain P (t ∷ ts) → (u : Task) → IsIn u ts → (s : Task) × IsIn s (t ∷ ts) × IsSourceOf P s u
chain_source P t [] c u i = absurd i
chain_source P t (v ∷ vs) c u i = elim i [
  | inl e ↦ (t, inl refl, subst (IsSourceOf P t) (sym e) c.1)
  | inr later ↦ let p = chain_source P v vs c.2 u later in (p.0, inr p.1, p.2)
]

-- each task of a cycle has a source in it
pub cycle_source : (P : Plan) (ts : List Task) → IsCycle P ts → (u : Task) → IsIn u ts → (s : Task) × IsIn s ts × IsSourceOf P s u
cycle_source P ts c u i =
    let first = c.first in
    let back = c.begins.0 in
    let last_in : IsIn c.last ts = subst (IsIn c.last) (sym c.ends.1) (IsIn-append_right c.last c.ends.0 (c.last ∷ []) (inl refl)) in
    let here : IsIn u (first ∷ back) = subst (IsIn u) c.begins.1 i in
    elim here [
      | inl e ↦ (c.last, last_in, subst (IsSourceOf P c.last) (sym e) c.closed)
      | inr later ↦
          let p = chain_source P first back (subst (IsChain P) c.begins.1 c.chain) u later in
          (p.0, subst (IsIn p.0) (sym c.begins.1) p.1, p.2)
    ]
