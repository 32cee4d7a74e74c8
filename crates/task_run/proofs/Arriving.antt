-- The tile of a flow, among those that came by edges or not.
use Rattle.std.proofs.Common.{◌≡◌, ◌≢◌, ℕ, zero, suc, ◌+◌, ◌<◌, ℤ, Bool, true, false, cond, not, nat_eq, List, [], ◌∷◌}
use Rattle.std.proofs.Common.{◌++◌, refl, ap, sym, ◌∙◌, subst, Option, Some, None, slice_get, arith}
use Rattle.std.specs.Prelude.{option_to_list, map}
use Rattle.std.proofs.lemmas.Bool.Decides.{nat_tests}
use Rattle.ptg_base.specs.Entry.{FlowTile}
use Rattle.ptg_base.specs.Task.{Task}
use Rattle.plan_core.specs.declared.flow.FlowPlan.{FlowPlan}
use Rattle.plan_core.specs.declared.plan.Plan.{Plan}
use Rattle.plan_core.specs.Kinds.{is_data}
use Rattle.coll_data.specs.Data.{Data}
use Rattle.dep_iter.specs.declared.source.Source.{Source}
use Rattle.dep_iter.specs.declared.source.Source.TheVariants as source
use Rattle.dep_iter.specs.Edges.{data_source}
use Rattle.dep_iter.specs.Tasks.{flows_of}
use Rattle.dep_shard.specs.Arrivals.{tile_of, without_tile}
use Rattle.flow_meaning.specs.Starting.{Delivery, delivered_from, delivered_tile, delivered_tiles, delivered_to}
use Rattle.flow_meaning.specs.Starting.{starting_tile, tile_from, nothing_delivered}
use Rattle.list_lemmas.proofs.Numbers.{eqb-self}
use Rattle.std.proofs.lemmas.Bool.{ne_eqb}

-- the first of the tiles is of this flow, or it is not
found : (n : ℕ) (x : List ℤ) (ts : List FlowTile) → tile_of ((n, x) ∷ ts) n ≡ Some x
found n x ts = ap (λ b. cond b (Some x) (tile_of ts n)) (eqb-self n)

passed : (m n : ℕ) (x : List ℤ) (ts : List FlowTile) → m ≢ n → tile_of ((n, x) ∷ ts) m ≡ tile_of ts m
passed m n x ts h = ap (λ b. cond b (Some x) (tile_of ts m)) (ne_eqb m n h)

-- the tile of another flow stays when one is taken
pub others_stay : (m n : ℕ) (ts : List FlowTile) → m ≢ n → tile_of (without_tile n ts) m ≡ tile_of ts m
others_stay m n [] h = refl
others_stay m n (t ∷ ts) h = by (others_stay m n ts h) (nat_eq n t.0) refl
  where
    kept : Bool → List FlowTile
    kept b = cond (not b) (t ∷ without_tile n ts) (without_tile n ts)

    by : tile_of (without_tile n ts) m ≡ tile_of ts m → (b : Bool) → nat_eq n t.0 ≡ b
        → tile_of (without_tile n (t ∷ ts)) m ≡ tile_of (t ∷ ts) m
    by later true e =
        let here : n ≡ t.0 = grind (arith, nat_tests) in
        ap (λ b. tile_of (kept b) m) e ∙ later ∙ sym (passed m t.0 t.1 ts (λ k. h (k ∙ sym here)))
    by later false e = ap (λ b. tile_of (kept b) m) e ∙ ap (λ o. cond (nat_eq m t.0) (Some t.1) o) later

module _ (P : Plan) (d : Delivery) (t : Task) where
  -- what comes to flow n by an edge
  came_from : Source → Option (List ℤ)
  came_from (source.Task e) = d e
  came_from (source.Place p) = None
  came_from source.New = None
  came_from source.Null = None
  came_from source.Nothing = None

  came : ℕ → FlowPlan → Option (List ℤ)
  came n f = cond (is_data (Some f.kind)) (came_from (data_source P t n)) None

  option_at : (n : ℕ) (o : Option (List ℤ)) (ts : List FlowTile) → tile_of ts n ≡ None
      → tile_of (map (λ tile. (n, tile)) (option_to_list o) ++ ts) n ≡ o
  option_at n None ts none = none
  option_at n (Some x) ts none = found n x ts

  option_past : (m n : ℕ) (o : Option (List ℤ)) (ts : List FlowTile) → m ≢ n
      → tile_of (map (λ tile. (n, tile)) (option_to_list o) ++ ts) m ≡ tile_of ts m
  option_past m n None ts h = refl
  option_past m n (Some x) ts h = passed m n x ts h

  from_at : (n : ℕ) (s : Source) (ts : List FlowTile) → tile_of ts n ≡ None
      → tile_of (delivered_from d n s ++ ts) n ≡ came_from s
  unfolding came_from
  from_at n (source.Task e) ts none = option_at n (d e) ts none
  from_at n (source.Place p) ts none = none
  from_at n source.New ts none = none
  from_at n source.Null ts none = none
  from_at n source.Nothing ts none = none

  from_past : (m n : ℕ) (s : Source) (ts : List FlowTile) → m ≢ n
      → tile_of (delivered_from d n s ++ ts) m ≡ tile_of ts m
  from_past m n (source.Task e) ts h = option_past m n (d e) ts h
  from_past m n (source.Place p) ts h = refl
  from_past m n source.New ts h = refl
  from_past m n source.Null ts h = refl
  from_past m n source.Nothing ts h = refl

  tile_at_flow : (n : ℕ) (f : FlowPlan) (ts : List FlowTile) → tile_of ts n ≡ None
      → tile_of (delivered_tile P d t n f ++ ts) n ≡ came n f
  unfolding came
  tile_at_flow n f ts none = by (is_data (Some f.kind))
    where
      by : (b : Bool) → tile_of (cond b (delivered_from d n (data_source P t n)) [] ++ ts) n
          ≡ cond b (came_from (data_source P t n)) None
      by true = from_at n (data_source P t n) ts none
      by false = none

  tile_past_flow : (m n : ℕ) (f : FlowPlan) (ts : List FlowTile) → m ≢ n
      → tile_of (delivered_tile P d t n f ++ ts) m ≡ tile_of ts m
  tile_past_flow m n f ts h = by (is_data (Some f.kind))
    where
      by : (b : Bool) → tile_of (cond b (delivered_from d n (data_source P t n)) [] ++ ts) m ≡ tile_of ts m
      by true = from_past m n (data_source P t n) ts h
      by false = refl

  before_all : (m n : ℕ) (fs : List FlowPlan) → m < n → tile_of (delivered_to P d t n fs) m ≡ None
  before_all m n [] h = refl
  before_all m n (f ∷ fs) h = tile_past_flow m n f (delivered_to P d t (suc n) fs) (λ e. omega (arith, h, e))
      ∙ before_all m (suc n) fs (omega (arith, h))

  among : (n k : ℕ) (fs : List FlowPlan) (f : FlowPlan) → slice_get fs k ≡ Some f
      → tile_of (delivered_to P d t n fs) (n + k) ≡ came (n + k) f
  among n k [] f is = absurd cc
  among n zero (g ∷ gs) f is =
      let this : g ≡ f = cc in
      let at : n + zero ≡ n = omega arith in
      ap (tile_of (delivered_to P d t n (g ∷ gs))) at ∙ tile_at_flow n g (delivered_to P d t (suc n) gs)
      (before_all n (suc n) gs (omega arith)) ∙ ap (came n) this ∙ ap (λ i. came i f) (sym at)
  among n (suc k) (g ∷ gs) f is =
      let at : n + suc k ≡ suc n + k = omega arith in
      ap (tile_of (delivered_to P d t n (g ∷ gs))) at ∙ tile_past_flow (suc n + k) n g (delivered_to P d t (suc n) gs)
      (λ e. omega (arith, e)) ∙ among (suc n) k gs f is ∙ ap (λ i. came i f) (sym at)

  came_is : (n : ℕ) (f : FlowPlan) → slice_get (flows_of P t) n ≡ Some f → tile_of (delivered_tiles P d t) n ≡ came n f
  unfolding delivered_tiles
  came_is n f is =
      let at : 0 + n ≡ n = omega arith in
      subst (λ i. tile_of (delivered_to P d t 0 (flows_of P t)) i ≡ came i f) at (among 0 n (flows_of P t) f is)

  module _ (G : Data) where
    arrived_source : (f : FlowPlan) (s : Source) (x : List ℤ) → came_from s ≡ Some x → tile_from P G d f s ≡ Some x
    unfolding came_from
    arrived_source f (source.Task e) x h = h
    arrived_source f (source.Place p) x h = absurd cc
    arrived_source f source.New x h = absurd cc
    arrived_source f source.Null x h = absurd cc
    arrived_source f source.Nothing x h = absurd cc

    missing_source : (f : FlowPlan) (s : Source) → came_from s ≡ None
        → tile_from P G d f s ≡ tile_from P G nothing_delivered f s
    unfolding came_from
    missing_source f (source.Task e) h = h
    missing_source f (source.Place p) h = refl
    missing_source f source.New h = refl
    missing_source f source.Null h = refl
    missing_source f source.Nothing h = refl

    -- a flow whose tile came starts on it
    pub arrived_tile : (n : ℕ) (f : FlowPlan) (x : List ℤ) → slice_get (flows_of P t) n ≡ Some f
        → tile_of (delivered_tiles P d t) n ≡ Some x → starting_tile P G d t n f ≡ Some x
    unfolding came
    arrived_tile n f x is here = by (is_data (Some f.kind)) (sym (came_is n f is) ∙ here)
      where
        by : (b : Bool) → cond b (came_from (data_source P t n)) None ≡ Some x
            → cond b (tile_from P G d f (data_source P t n)) None ≡ Some x
        by true h = arrived_source f (data_source P t n) x h
        by false h = absurd cc

    -- another one starts on what its source gives without the edges
    pub missing_tile : (n : ℕ) (f : FlowPlan) → slice_get (flows_of P t) n ≡ Some f
        → tile_of (delivered_tiles P d t) n ≡ None → starting_tile P G d t n f
        ≡ starting_tile P G nothing_delivered t n f
    unfolding came
    missing_tile n f is here = by (is_data (Some f.kind)) (sym (came_is n f is) ∙ here)
      where
        by : (b : Bool) → cond b (came_from (data_source P t n)) None ≡ None
            → cond b (tile_from P G d f (data_source P t n)) None ≡ cond b
            (tile_from P G nothing_delivered f (data_source P t n)) None
        by true h = missing_source f (data_source P t n) h
        by false h = refl
