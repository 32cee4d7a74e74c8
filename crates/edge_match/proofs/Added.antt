-- What the marks of the first phase count: all edges into tasks, all items and all places that are written to.
use Rattle.std.proofs.Common.{◌≡◌, ℕ, suc, List, [], ◌∷◌, ◌++◌, map, refl, ap, sym, ◌∙◌, subst}
use Rattle.std.proofs.Common.{append_assoc}
use Rattle.std.proofs.lemmas.List.{append-nil, map-append}
use Rattle.std.specs.List.{filter_map, flat_map}
use Rattle.ptg_base.specs.Task.{Task}
use Rattle.ptg_base.specs.declared.place.Place.{Place}
use Rattle.ptg_base.specs.declared.edge.Edge.{Edge}
use Rattle.ptg_base.specs.declared.edge.Item.{Item}
use Rattle.ptg_base.specs.declared.edge.Item.TheVariants as item
use Rattle.ptg_base.specs.declared.edge.WriteBack.{WriteBack}
use Rattle.term_core.specs.declared.direction.Direction.TheVariants.{In, Out}
use Rattle.plan_core.specs.declared.flow.FlowPlan.{FlowPlan}
use Rattle.plan_core.specs.declared.plan.Plan.{Plan}
use Rattle.dep_iter.specs.declared.source.Source.{Source}
use Rattle.dep_iter.specs.Tasks.{all_tasks, flows_of}
use Rattle.dep_iter.specs.Active.{by_number}
use Rattle.edge_match.specs.Tallies.{places_of}
use Rattle.edge_match.proofs.TaskFlows.{items-flows}
use Rattle.dep_iter.specs.Consistent.{all_in, all_items, all_writes}
use Rattle.dep_iter.specs.Edges.{data_source, in_edges}
use Rattle.dep_iter.specs.Items.{items, write_of}
use Rattle.std.proofs.lemmas.List.Elements.{filter_map-append}
use Rattle.list_lemmas.proofs.Joins.{filter_map-flat_map}
use Rattle.edge_match.specs.declared.phase.Phase.TheVariants.{Connecting}
use Rattle.edge_match.specs.Marks.{Before, Mark, add_all, flow_items, flow_marks, flow_start, item_marks, nothing, phase_marks}
use Rattle.edge_match.specs.Marks.{task_marks, task_start}
use Rattle.edge_match.proofs.Directed.{edges-numbered, flow_edges, in_flow_items}
use Rattle.edge_match.proofs.Parts.{add_all-append}

-- these marks count these edges and items, and the places that the items write to
record Adds (ms : List Mark) (es : List Edge) (is : List Item) : Type 0 where
  after : (b : Before) → add_all b ms ≡ record { ins = b.ins ++ es; items = b.items ++ is; places = b.places ++ places_of is }

one_before : (a a' : List Edge) (b b' : List Item) (c c' : List Place) → a ≡ a' → b ≡ b' → c ≡ c'
    → (let x : Before = record { ins = a; items = b; places = c } in x) ≡ record { ins = a'; items = b'; places = c' }
one_before a a' b b' c c' e f g = cc

adds_none : Adds [] [] []
adds_none = record { after = λ b. one_before _ _ _ _ _ _ (sym (append-nil b.ins)) (sym (append-nil b.items)) (sym (append-nil b.places)) }

adds_both : (xs ys : List Mark) (es fs : List Edge) (is js : List Item) → Adds xs es is → Adds ys fs js → Adds (xs ++ ys) (es ++ fs) (is ++ js)
adds_both xs ys es fs is js h k = record {
  after = λ b.
      let joined : places_of (is ++ js) ≡ places_of is ++ places_of js = ap (map (λ (w : WriteBack). w.place))
      (filter_map-append write_of is js) ∙ map-append (λ (w : WriteBack). w.place) (filter_map write_of is)
      (filter_map write_of js) in
      add_all-append b xs ys ∙ ap (λ (c : Before). add_all c ys) (h.after b)
      ∙ k.after (record { ins = b.ins ++ es; items = b.items ++ is; places = b.places ++ places_of is })
      ∙ one_before _ _ _ _ _ _ (append_assoc b.ins es fs) (append_assoc b.items is js)
      (append_assoc b.places (places_of is) (places_of js) ∙ ap (λ l. b.places ++ l) (sym joined));
}

adds_each : {A : Type 0} (f : A → List Mark) (g : A → List Edge) (h : A → List Item)
    → ((x : A) → Adds (f x) (g x) (h x)) → (xs : List A) → Adds (flat_map f xs) (flat_map g xs) (flat_map h xs)
adds_each f g h each [] = adds_none
adds_each f g h each (x ∷ xs) = adds_both (f x) (flat_map f xs) (g x) (flat_map g xs) (h x) (flat_map h xs) (each x) (adds_each f g h each xs)

ins-add : (s : Source) (t : Task) (n : ℕ) (earlier es : List Edge) → Adds (item_marks In earlier (map item.Edge es) Connecting s t n) es []
ins-add s t n earlier [] = adds_none
ins-add s t n earlier (e ∷ es) = record {
  after = λ b.
      (ins-add s t n (earlier ++ e ∷ []) es).after (record b { ins = b.ins ++ e ∷ [] })
      ∙ one_before _ _ _ _ _ _ (append_assoc b.ins (e ∷ []) es) refl refl;
}

items-add : (s : Source) (t : Task) (n : ℕ) (earlier : List Edge) (is : List Item) → Adds (item_marks Out earlier is Connecting s t n) [] is
items-add s t n earlier [] = adds_none
items-add s t n earlier (item.Edge e ∷ is) = record {
  after = λ b.
      (items-add s t n (earlier ++ e ∷ []) is).after (record b { items = b.items ++ item.Edge e ∷ [] })
      ∙ one_before _ _ _ _ _ _ refl (append_assoc b.items (item.Edge e ∷ []) is) refl;
}
items-add s t n earlier (item.Write w ∷ is) = record {
  after = λ b.
      (items-add s t n earlier is).after (record { ins = b.ins; items = b.items ++ item.Write w ∷ []; places = b.places ++ w.place ∷ [] })
      ∙ one_before _ _ _ _ _ _ refl (append_assoc b.items (item.Write w ∷ []) is) (append_assoc b.places (w.place ∷ []) (places_of is));
}

adds_nothing : (ms : List Mark) → ((b : Before) → add_all b ms ≡ b) → Adds ms [] []
adds_nothing ms h = record { after = λ b. h b ∙ adds_none.after b }

-- what these flows add; the flows are numbered from n on
adds_by_number : (f : ℕ → FlowPlan → List Mark) (g : ℕ → FlowPlan → List Edge) (h : ℕ → FlowPlan → List Item)
    → ((n : ℕ) (x : FlowPlan) → Adds (f n x) (g n x) (h n x)) → (n : ℕ) (xs : List FlowPlan) → Adds (by_number f n xs) (by_number g n xs) (by_number h n xs)
adds_by_number f g h each n [] = adds_none
adds_by_number f g h each n (x ∷ xs) =
    adds_both (f n x) (by_number f (suc n) xs) (g n x) (by_number g (suc n) xs) (h n x) (by_number h (suc n) xs)
    (each n x) (adds_by_number f g h each (suc n) xs)

flow_adds : (P : Plan) (t : Task) (n : ℕ) (f : FlowPlan) → Adds (flow_marks Connecting P t n f) (flow_edges In P t n f) (flow_items Out P t n f)
flow_adds P t n f =
    let s = data_source P t n in
    let es = flow_edges In P t n f in
    let is = flow_items Out P t n f in
    let start = adds_nothing (flow_start Connecting P t n f) (λ b. refl) in
    let ins = subst (λ l. Adds (item_marks In [] l Connecting s t n) es []) (sym (in_flow_items P t n f)) (ins-add s t n [] es) in
    rw (append-nil es) at (adds_both _ _ es [] [] is (adds_both _ _ [] es [] [] start ins) (items-add s t n [] is))

task_adds : (P : Plan) (t : Task) → Adds (task_marks Connecting P t) (in_edges P t) (items P t)
task_adds P t =
    let fs = flows_of P t in
    let each = adds_by_number (flow_marks Connecting P t) (flow_edges In P t) (flow_items Out P t) (flow_adds P t) 0 fs in
    let flows = rw (← edges-numbered P t In, ← items-flows P t) at each in
    adds_both _ _ [] (in_edges P t) [] (items P t) (adds_nothing (task_start Connecting P t) (λ b. refl)) flows

-- what the first phase counts
pub phase-adds : (P : Plan) → add_all nothing (phase_marks Connecting P)
    ≡ record { ins = all_in P; items = all_items P; places = map (λ (w : WriteBack). w.place) (all_writes P) }
phase-adds P =
    (adds_each (task_marks Connecting P) (in_edges P) (items P) (task_adds P) (all_tasks P)).after nothing
    ∙ one_before _ _ _ _ _ _ refl refl (ap (map (λ (w : WriteBack). w.place)) (filter_map-flat_map write_of (items P) (all_tasks P)))
