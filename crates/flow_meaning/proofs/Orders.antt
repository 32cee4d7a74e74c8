-- Legal orders.
use Rattle.std.proofs.Common.{List, [], ◌∷◌, ◌++◌, sym, subst, append_assoc}
use Rattle.std.proofs.lemmas.List.{append-nil}
use Rattle.ptg_base.specs.Task.{Task}
use Rattle.plan_core.specs.declared.plan.Plan.{Plan}
use Rattle.flow_meaning.specs.Order.{IsLegalAfter, MayFollow}

-- a legal order stays legal with one more task that may follow
pub legal_push : (P : Plan) (before ts : List Task) (t : Task) → IsLegalAfter P before ts → MayFollow P (before ++ ts) t → IsLegalAfter P before (ts ++ t ∷ [])
legal_push P before [] t l m = (subst (λ us. MayFollow P us t) (append-nil before) m, tt)
legal_push P before (u ∷ us) t l m = (l.0, legal_push P (before ++ u ∷ []) us t l.1 (subst (λ vs. MayFollow P vs t) (sym (append_assoc before (u ∷ []) us)) m))
