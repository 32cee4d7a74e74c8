-- What lists of events of a world keep, and that they are what some events of the event machine do.
use Rattle.std.proofs.Common.{◌≡◌, ℕ, List, [], ◌∷◌, ◌++◌, ap, sym, subst}
use Rattle.std.specs.Option.{option_map_or}
use Rattle.plan_core.specs.declared.plan.Plan.{Plan}
use Rattle.coll_data.specs.Data.{Data}
use Rattle.flow_meaning.specs.Machine.{Event, Happen, MachineState, state_after, opening_state}
use Rattle.list_lemmas.proofs.Places.{slice_get_member}
use Rattle.dep_iter.specs.Consistent.{IsConsistent}
use Rattle.flow_meaning.specs.Order.{IsLegalOrder}
use Rattle.flow_meaning.proofs.CallerLemmas.{opening_sound}
use Rattle.run_laws.proofs.Orders.{happen_legal}
use Rattle.rank_core.specs.World.{Deliver, HappenIn, IsPossibleIn, Run, WorldEvent, WorldState, after_delivery, opening_world, with_message, world_after}
use Rattle.rank_core.specs.Sound.{IsSoundWorld}
use Rattle.rank_core.proofs.CallerLemmas.{delivered, event_sound, opening_sound_world, run_happens}

-- events that happen one after another
pub happen-append : (P : Plan) (G : Data) (es fs : List Event) (S T U : MachineState) → Happen P G es S T → Happen P G fs T U → Happen P G (es ++ fs) S U
happen-append P G [] fs S T U h k = subst (λ V. Happen P G fs V U) (sym h) k
happen-append P G (e ∷ es) fs S T U h k = (h.0, happen-append P G es fs (state_after P G S e) T U h.1 k)

module _ (P : Plan) (G : Data) (con : IsConsistent P) (r : ℕ) where
  module _ (w : WorldState) (sound : IsSoundWorld P G r w) where
    -- what happens is what some events of the event machine do
    pub event_happens : (e : WorldEvent) → IsPossibleIn P w e → (es : List Event) × Happen P G es w.machine (world_after P G r w e).machine
    event_happens (Run t) may = run_happens P G con r w sound t may
    event_happens (Deliver n) h =
        let p = slice_get_member w.messages n h in
        let is : after_delivery w n ≡ record { machine = with_message w.machine p.0; messages = w.messages } = λ k.
        record { machine = option_map_or (with_message w.machine) (p.1 k) w.machine; messages = w.messages } in
        subst (λ (v : WorldState). (es : List Event) × Happen P G es w.machine v.machine) (sym is) (delivered P G con r w sound p.0 p.2)

  pub events_sound : (es : List WorldEvent) (w v : WorldState) → IsSoundWorld P G r w → HappenIn P G r es w v → IsSoundWorld P G r v
  events_sound [] w v sound h = subst (IsSoundWorld P G r) h sound
  events_sound (e ∷ es) w v sound h = events_sound es (world_after P G r w e) v (event_sound P G con r w sound e h.0) h.1

  pub events_happen : (es : List WorldEvent) (w v : WorldState) → IsSoundWorld P G r w → HappenIn P G r es w v
      → (fs : List Event) × Happen P G fs w.machine v.machine
  events_happen [] w v sound h = ([], ap (λ (u : WorldState). u.machine) h)
  events_happen (e ∷ es) w v sound h =
      let first = event_happens w sound e h.0 in
      let later = events_happen es (world_after P G r w e) v (event_sound P G con r w sound e h.0) h.1 in
      (first.0 ++ later.0, happen-append P G first.0 later.0 w.machine (world_after P G r w e).machine v.machine first.1 later.1)

-- the tasks ran in a legal order
pub runs_legal : (P : Plan) (G : Data) (r : ℕ) (es : List WorldEvent) (w : WorldState) → IsConsistent P
    → HappenIn P G r es opening_world w → IsLegalOrder P w.machine.claims
runs_legal P G r es w con h =
    let p = events_happen P G con r es opening_world w (opening_sound_world P G r) h in
    happen_legal P G con p.0 opening_state w.machine (opening_sound P G) tt p.1
