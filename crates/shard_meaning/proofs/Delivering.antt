-- One more tile that is delivered to a task takes its place among the others in flow order.
use Rattle.std.proofs.Common.{◌≡◌, ◌≢◌, ℕ, zero, suc, ◌+◌, ◌<◌, ◌≤◌, ℤ, Bool, true, false, cond, List, [], ◌∷◌, ◌++◌}
use Rattle.std.proofs.Common.{map, sym, refl, ap, ◌∙◌, subst, arith, Option, Some, None, slice_get, nat_eq, add-zero}
use Rattle.std.specs.Prelude.{option_map, option_to_list}
use Rattle.std.proofs.lemmas.Bool.{lt-ltb, le-ltb, ne_eqb}
use Rattle.ptg_base.specs.Entry.{FlowTile}
use Rattle.ptg_base.specs.Lists.{IsIn}
use Rattle.ptg_base.specs.Task.{Task}
use Rattle.ptg_base.specs.declared.edge.Edge.{Edge}
use Rattle.list_lemmas.proofs.Truth.{cond-same}
use Rattle.plan_core.specs.declared.flow.FlowPlan.{FlowPlan}
use Rattle.plan_core.specs.declared.plan.Plan.{Plan}
use Rattle.plan_core.specs.Kinds.{is_data}
use Rattle.dep_iter.specs.declared.source.Source.{Source}
use Rattle.dep_iter.specs.declared.source.Source.TheVariants as source
use Rattle.dep_iter.specs.Edges.{data_source, in_edges}
use Rattle.dep_iter.specs.Tasks.{IsTask, flows_of}
use Rattle.dep_iter.specs.Well.{IsWellTask}
use Rattle.dep_shard.specs.Arrivals.{with_tile}
use Rattle.flow_meaning.specs.Starting.{Delivery, delivered_from, delivered_tile, delivered_tiles, delivered_to}
use Rattle.flow_meaning.proofs.CallerLemmas.{only_source, source_at_flow}

-- all flows of the tiles are at least n
abbrev AllFrom : ℕ → List FlowTile → Type 0
AllFrom n [] = Unit {0}
AllFrom n (x ∷ xs) = (n ≤ x.0) × AllFrom n xs

lower : (m n : ℕ) (xs : List FlowTile) → m ≤ n → AllFrom n xs → AllFrom m xs
lower m n [] l h = tt
lower m n (x ∷ xs) l h = (omega (arith, h.0), lower m n xs l h.1)

-- a tile comes first before those of greater flows
first_of_all : (k : ℕ) (tile : List ℤ) (xs : List FlowTile) → AllFrom (suc k) xs → with_tile k tile xs ≡ (k, tile) ∷ xs
first_of_all k tile [] h = refl
first_of_all k tile (x ∷ xs) h = ap (λ b. cond b ((k, tile) ∷ x ∷ xs)
    (cond (nat_eq k x.0) ((k, tile) ∷ xs) (x ∷ with_tile k tile xs))) (lt-ltb k x.0 (omega (arith, h.0)))

-- and after smaller ones
after_one : (n k : ℕ) (tile : List ℤ) (y : List ℤ) (xs : List FlowTile) → n < k → with_tile k tile ((n, y) ∷ xs) ≡ (n, y) ∷ with_tile k tile xs
after_one n k tile y xs l =
    ap (λ b. cond b ((k, tile) ∷ (n, y) ∷ xs) (cond (nat_eq k n) ((k, tile) ∷ xs) ((n, y) ∷ with_tile k tile xs))) (le-ltb k n (omega arith))
    ∙ ap (λ b. cond b ((k, tile) ∷ xs) ((n, y) ∷ with_tile k tile xs)) (ne_eqb k n (λ e. absurd (omega arith)))

after : (n k : ℕ) (tile : List ℤ) (o : Option (List ℤ)) (xs : List FlowTile) → n < k
    → with_tile k tile (map (λ y. (n, y)) (option_to_list o) ++ xs) ≡ map (λ y. (n, y)) (option_to_list o) ++ with_tile
    k tile xs
after n k tile None xs l = refl
after n k tile (Some y) xs l = after_one n k tile y xs l

module _ (P : Plan) (t : Task) (task : IsTask P t) (well : IsWellTask P t) (d : Delivery) where
  one_from : (n : ℕ) (o : Option (List ℤ)) (xs : List FlowTile) → AllFrom n xs → AllFrom n (map (λ y. (n, y)) (option_to_list o) ++ xs)
  one_from n None xs h = h
  one_from n (Some y) xs h = (omega arith, h)

  source_from : (n : ℕ) (s : Source) (xs : List FlowTile) → AllFrom n xs → AllFrom n (delivered_from d n s ++ xs)
  source_from n (source.Task e) xs h = one_from n (d e) xs h
  source_from n (source.Place p) xs h = h
  source_from n source.New xs h = h
  source_from n source.Null xs h = h
  source_from n source.Nothing xs h = h

  tile_from : (n : ℕ) (b : Bool) (xs : List FlowTile) → AllFrom n xs → AllFrom n (cond b (delivered_from d n (data_source P t n)) [] ++ xs)
  tile_from n true xs h = source_from n (data_source P t n) xs h
  tile_from n false xs h = h

  all_from : (n : ℕ) (fs : List FlowPlan) → AllFrom n (delivered_to P d t n fs)
  all_from n [] = tt
  all_from n (f ∷ fs) = tile_from n (is_data (Some f.kind)) (delivered_to P d t (suc n) fs)
      (lower n (suc n) (delivered_to P d t (suc n) fs) (omega arith) (all_from (suc n) fs))

module _ (P : Plan) (t : Task) (task : IsTask P t) (well : IsWellTask P t) (e : Edge) (tile : List ℤ) (d c : Delivery)
    (none_yet : d e ≡ None) (now : c e ≡ Some tile) (others : (x : Edge) → (x ≡ e → ⊥) → c x ≡ d x) where
  same_from : (n : ℕ) (s : Source) → ((x : Edge) → s ≡ source.Task x → x ≡ e → ⊥) → delivered_from c n s ≡ delivered_from d n s
  same_from n (source.Task x) h = ap (λ o. map (λ y. (n, y)) (option_to_list o)) (others x (h x refl))
  same_from n (source.Place p) h = refl
  same_from n source.New h = refl
  same_from n source.Null h = refl
  same_from n source.Nothing h = refl

  -- a flow other than the edge's gets what it got before
  other_flow : (n : ℕ) (f : FlowPlan) → slice_get (flows_of P t) n ≡ Some f → n ≢ e.in_flow → delivered_tile P c t n f ≡ delivered_tile P d t n f
  other_flow n f here ne = cond-same (is_data (Some f.kind)) _ _ []
      (λ carries. same_from n (data_source P t n) (λ x s same. ne
      (sym (source_at_flow P t task well n f here carries x s) ∙ ap (λ (y : Edge). y.in_flow) same)))

  past : (n : ℕ) (fs : List FlowPlan) → ((i : ℕ) (f : FlowPlan) → slice_get fs i ≡ Some f
      → slice_get (flows_of P t) (n + i) ≡ Some f) → e.in_flow < n → delivered_to P c t n fs ≡ delivered_to P d t n fs
  past n [] at l = refl
  past n (f ∷ fs) at l =
      let here : slice_get (flows_of P t) n ≡ Some f = subst (λ m. slice_get (flows_of P t) m ≡ Some f) (add-zero n) (at 0 f refl) in
      ap (λ x. x ++ delivered_to P c t (suc n) fs) (other_flow n f here (λ q. absurd (omega arith)))
      ∙ ap (λ l. delivered_tile P d t n f ++ l) (past (suc n) fs
      (λ i g q. subst (λ m. slice_get (flows_of P t) m ≡ Some g) (omega arith) (at (suc i) g q)) (omega arith))

  after_tile : (n : ℕ) (b : Bool) (xs : List FlowTile) → n < e.in_flow
      → with_tile e.in_flow tile (cond b (delivered_from d n (data_source P t n)) [] ++ xs)
      ≡ cond b (delivered_from d n (data_source P t n)) [] ++ with_tile e.in_flow tile xs
  after_tile n true xs l = after_source (data_source P t n)
    where
      after_source : (s : Source) → with_tile e.in_flow tile (delivered_from d n s ++ xs) ≡ delivered_from d n s ++ with_tile e.in_flow tile xs
      after_source (source.Task x) = after n e.in_flow tile (d x) xs l
      after_source (source.Place p) = refl
      after_source source.New = refl
      after_source source.Null = refl
      after_source source.Nothing = refl
  after_tile n false xs l = refl

  there : (n : ℕ) (fs : List FlowPlan) (f : FlowPlan) (j : ℕ) → n + j ≡ e.in_flow → slice_get fs j ≡ Some f
      → is_data (Some f.kind) ≡ true → data_source P t e.in_flow ≡ source.Task e
      → ((i : ℕ) (g : FlowPlan) → slice_get fs i ≡ Some g → slice_get (flows_of P t) (n + i) ≡ Some g)
      → delivered_to P c t n fs ≡ with_tile e.in_flow tile (delivered_to P d t n fs)
  there n [] f j at f_is carries s suffix = absurd cc
  there n (g ∷ fs) f zero at f_is carries s suffix =
      let n_is : n ≡ e.in_flow = omega arith in
      let kind : is_data (Some g.kind) ≡ true = ap (λ (o : Option FlowPlan). is_data (option_map (λ (h : FlowPlan). h.kind) o)) f_is ∙ carries in
      let rest = past (suc n) fs (λ i h q. subst (λ m. slice_get (flows_of P t) m ≡ Some h) (omega arith) (suffix (suc i) h q)) (omega arith) in
      let comes : delivered_tile P c t n g ≡ (e.in_flow, tile) ∷ [] =
      ap (λ b. cond b (delivered_from c n (data_source P t n)) []) kind
      ∙ (ap (λ m. delivered_from c m (data_source P t m)) n_is
      ∙ (ap (delivered_from c e.in_flow) s ∙ ap (λ o. map (λ y. (e.in_flow, y)) (option_to_list o)) now)) in
      let came : delivered_tile P d t n g ≡ [] =
      ap (λ b. cond b (delivered_from d n (data_source P t n)) []) kind
      ∙ (ap (λ m. delivered_from d m (data_source P t m)) n_is
      ∙ (ap (delivered_from d e.in_flow) s ∙ ap (λ o. map (λ y. (e.in_flow, y)) (option_to_list o)) none_yet)) in
      ap (λ x. x ++ delivered_to P c t (suc n) fs) comes
      ∙ (ap (λ l. (e.in_flow, tile) ∷ l) rest
      ∙ (sym (first_of_all e.in_flow tile (delivered_to P d t (suc n) fs)
      (subst (λ m. AllFrom (suc m) (delivered_to P d t (suc n) fs)) n_is (all_from P t task well d (suc n) fs)))
      ∙ sym (ap (λ x. with_tile e.in_flow tile (x ++ delivered_to P d t (suc n) fs)) came)))
  there n (g ∷ fs) f (suc j) at f_is carries s suffix =
      let here : slice_get (flows_of P t) n ≡ Some g = subst (λ m. slice_get (flows_of P t) m ≡ Some g) (add-zero n) (suffix 0 g refl) in
      let rest = there (suc n) fs f j (omega arith) f_is carries s
      (λ i h q. subst (λ m. slice_get (flows_of P t) m ≡ Some h) (omega arith) (suffix (suc i) h q)) in
      ap (λ x. x ++ delivered_to P c t (suc n) fs) (other_flow n g here (λ q. absurd (omega arith)))
      ∙ (ap (λ l. delivered_tile P d t n g ++ l) rest
      ∙ sym (after_tile n (is_data (Some g.kind)) (delivered_to P d t (suc n) fs) (omega arith)))

  pub in_order : (f : FlowPlan) → IsIn e (in_edges P t) → slice_get (flows_of P t) e.in_flow ≡ Some f
      → is_data (Some f.kind) ≡ true → delivered_tiles P c t ≡ with_tile e.in_flow tile (delivered_tiles P d t)
  unfolding delivered_tiles
  in_order f among here carries =
      there 0 (flows_of P t) f e.in_flow (omega arith) here carries
      (only_source P t task well e.in_flow f here carries e refl among)
      (λ i g q. subst (λ m. slice_get (flows_of P t) m ≡ Some g) (omega arith) q)
