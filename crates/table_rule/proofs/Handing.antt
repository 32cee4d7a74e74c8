-- What a pass was handed with its claims, as its record grows.
use Rattle.std.proofs.Common.{◌≡◌, List, [], ◌∷◌, ◌++◌, map, sym, refl, ap, ◌∙◌, subst, inl, inr}
use Rattle.std.proofs.lemmas.List.{map-append}
use Rattle.ptg_base.specs.Entry.{FlowTile}
use Rattle.ptg_base.specs.Task.{Task}
use Rattle.list_lemmas.proofs.Members.{from_append, from_push}
use Rattle.plan_core.specs.declared.plan.Plan.{Plan}
use Rattle.coll_data.specs.Data.{Data}
use Rattle.flow_meaning.specs.Backward as backward
use Rattle.work_board.specs.Handed.{HandedTask, WereHandedInputs}

module _ (P : Plan) (G : Data) where
  pub handed_none : WereHandedInputs P G [] []
  handed_none = record { tasks = refl; inputs = λ x i. absurd i }

  pub handed_same : (ts us : List Task) (hs ks : List HandedTask) → us ≡ ts → ks ≡ hs → WereHandedInputs P G ts hs
      → WereHandedInputs P G us ks
  handed_same ts us hs ks tasks handed h =
      subst (λ l. WereHandedInputs P G l ks) (sym tasks) (subst (WereHandedInputs P G ts) (sym handed) h)

  -- one claim more
  pub handed_more : (ts : List Task) (hs : List HandedTask) (t : Task) (tiles : List FlowTile)
      → tiles ≡ backward.inputs P G t → WereHandedInputs P G ts hs
      → WereHandedInputs P G (ts ++ t ∷ []) (hs ++ (t, tiles) ∷ [])
  handed_more ts hs t tiles are h = record {
    tasks = map-append (λ (x : HandedTask). x.0) hs ((t, tiles) ∷ []) ∙ ap (λ l. l ++ t ∷ []) h.tasks;
    inputs = λ x i. elim (from_push x hs (t, tiles) i) [
      | inl old ↦ h.inputs x old
      | inr new ↦ subst (λ (y : HandedTask). y.1 ≡ backward.inputs P G y.0) (sym new) are
    ];
  }

  -- two passes are joined
  pub handed_both : (ts us : List Task) (hs ks : List HandedTask) → WereHandedInputs P G ts hs
      → WereHandedInputs P G us ks → WereHandedInputs P G (ts ++ us) (hs ++ ks)
  handed_both ts us hs ks h k = record {
    tasks = map-append (λ (x : HandedTask). x.0) hs ks ∙ ap (λ l. l ++ map (λ (x : HandedTask). x.0) ks) h.tasks
        ∙ ap (λ l. ts ++ l) k.tasks;
    inputs = λ x i. elim (from_append x hs ks i) [ inl one ↦ h.inputs x one | inr other ↦ k.inputs x other ];
  }
