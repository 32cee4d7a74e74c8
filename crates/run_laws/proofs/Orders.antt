-- After any list of events, nothing is undone, and the claims are a legal order.
use Rattle.std.proofs.Common.{List, [], ◌∷◌, sym, ◌∙◌, subst, append_assoc, arith}
use Rattle.std.proofs.lemmas.List.{append-nil}
use Rattle.ptg_base.specs.Task.{Task}
use Rattle.plan_core.specs.declared.plan.Plan.{Plan}
use Rattle.coll_data.specs.Data.{Data}
use Rattle.dep_iter.specs.Consistent.{IsConsistent}
use Rattle.flow_meaning.specs.Machine.{Event, Claim, Send, Happen, IsLater, IsPossible, MachineState, MayClaim, state_after, sent_with}
use Rattle.flow_meaning.specs.Order.{IsLegalOrder, MayFollow}
use Rattle.flow_meaning.specs.Sound.{IsSoundState}
use Rattle.flow_meaning.proofs.CallerLemmas.{delivers, each_arrived, event_sound, legal_push, member_claim}

later_same : (S : MachineState) → IsLater S S
later_same S = record { more_claims = []; more_sends = []; claims = sym (append-nil S.claims); sends = sym (append-nil S.sends) }

later_event : (P : Plan) (G : Data) (S T : MachineState) (e : Event) → IsLater (state_after P G S e) T → IsLater S T
later_event P G S T (Claim t) l = record {
  more_claims = t ∷ l.more_claims;
  more_sends = l.more_sends;
  claims = l.claims ∙ append_assoc S.claims (t ∷ []) l.more_claims;
  sends = l.sends;
}
later_event P G S T (Send i) l = record {
  more_claims = l.more_claims;
  more_sends = sent_with P G S i ∷ l.more_sends;
  claims = l.claims;
  sends = l.sends ∙ append_assoc S.sends (sent_with P G S i ∷ []) l.more_sends;
}

-- nothing that has happened is undone
pub later : (P : Plan) (G : Data) (es : List Event) (S T : MachineState) → Happen P G es S T → IsLater S T
later P G [] S T h = subst (IsLater S) h (later_same S)
later P G (e ∷ es) S T h = later_event P G S T e (later P G es (state_after P G S e) T h.1)

module _ (P : Plan) (G : Data) (con : IsConsistent P) where
  -- a task that may be claimed may follow those that were claimed
  may_follow : (S : MachineState) → IsSoundState P G S → (t : Task) → MayClaim P S t → MayFollow P S.claims t
  may_follow S sound t may = record {
    task = may.task;
    first_time = λ i. let more = member_claim S t i in let none = may.unclaimed in absurd (omega arith);
    after_sources = λ e i. (delivers P G con S sound e (each_arrived P S t may.all_arrived e i)).claimed;
  }

  event_legal : (S : MachineState) (e : Event) → IsSoundState P G S → IsPossible P G S e → IsLegalOrder P S.claims → IsLegalOrder P (state_after P G S e).claims
  event_legal S (Claim t) sound may l = legal_push P [] S.claims t l (may_follow S sound t may)
  event_legal S (Send i) sound may l = l

  -- the claims are a legal order
  pub happen_legal : (es : List Event) (S T : MachineState) → IsSoundState P G S → IsLegalOrder P S.claims → Happen P G es S T → IsLegalOrder P T.claims
  happen_legal [] S T sound l h = subst (λ (U : MachineState). IsLegalOrder P U.claims) h l
  happen_legal (e ∷ es) S T sound l h = happen_legal es (state_after P G S e) T (event_sound P G con S sound e h.0) (event_legal S e sound h.0 l) h.1
