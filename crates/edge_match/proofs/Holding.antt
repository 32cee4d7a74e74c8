-- What holds of all marks, by tasks, flows and directions. All marks pass if each fact holds and the limits are kept.
use Rattle.std.proofs.Common.{◌≡◌, ◌↔◌, ◌≢◌, ℕ, suc, ◌+◌, ◌≤◌, List, [], ◌∷◌, ◌++◌, length, length-append, refl, ap, sym, ◌∙◌, subst}
use Rattle.std.proofs.Common.{append_assoc, add-zero, zero-add, Some, slice_get, inl, inr, arith}
use Rattle.std.proofs.lemmas.List.{append-nil}
use Rattle.std.specs.List.{AllByRecursion, flat_map, filter_map}
use Rattle.ptg_base.specs.Lists.{HasNoRepeats, IsIn}
use Rattle.ptg_base.specs.Task.{Task}
use Rattle.ptg_base.specs.declared.edge.Edge.{Edge}
use Rattle.ptg_base.specs.declared.edge.Item.{Item}
use Rattle.ptg_base.specs.declared.edge.Item.TheVariants as item
use Rattle.term_core.specs.declared.direction.Direction.{Direction}
use Rattle.term_core.specs.declared.direction.Direction.TheVariants.{In, Out}
use Rattle.plan_core.specs.Place.{HasPlace}
use Rattle.plan_core.specs.declared.flow.FlowPlan.{FlowPlan}
use Rattle.plan_core.specs.declared.plan.Plan.{Plan}
use Rattle.list_lemmas.proofs.Distinct.{HasNoRepeats-apart, HasNoRepeats-push, HasNoRepeats-parts}
use Rattle.dep_iter.specs.declared.source.Source.{Source}
use Rattle.dep_iter.specs.declared.source.Source.TheVariants as source
use Rattle.dep_iter.specs.Directions.{HasOtherEnd, far_task}
use Rattle.dep_iter.specs.Items.{edge_of}
use Rattle.dep_iter.specs.Tasks.{IsTask, all_tasks, flows_of}
use Rattle.dep_iter.proofs.CallerLemmas.{listed}
use Rattle.edge_match.specs.declared.phase.Phase.{Phase}
use Rattle.edge_match.specs.declared.phase.Phase.TheVariants.{Connecting, Matching}
use Rattle.edge_match.specs.Marks.{AllPass, Before, Check, CountsIn, CountsItem, Holds, Is, IsNewPlace, Mark, Passes, add, add_all}
use Rattle.edge_match.specs.Marks.{edge_marks, flow_marks, flow_start, item_marks, phase_marks, task_marks, task_start}
use Rattle.edge_match.specs.Marks.{direction_marks, write_marks}
use Rattle.dep_iter.specs.Active.{by_number}
use Rattle.edge_match.proofs.TaskFlows.{each_more}

-- ---- lists

-- an element is not among those before it
not_before : {A : Type 0} (done : List A) (x : A) (rest : List A) → HasNoRepeats (done ++ x ∷ rest) → IsIn x done → ⊥
not_before done x rest w h = HasNoRepeats-apart done (x ∷ rest) w x h (inl refl)

-- ---- a property of marks

module _ (Q : Mark → Type 0) where
  abbrev pub All : List Mark → Type 0
  All ms = AllByRecursion Q ms

  pub join : (xs ys : List Mark) → All xs → All ys → All (xs ++ ys)
  join [] ys h k = k
  join (x ∷ xs) ys h k = (h.0, join xs ys h.1 k)

  pub parts : (xs ys : List Mark) → All (xs ++ ys) → All xs × All ys
  parts [] ys h = (tt, h)
  parts (x ∷ xs) ys h = let p = parts xs ys h.1 in ((h.0, p.0), p.1)

  each : {A : Type 0} (f : A → List Mark) (xs : List A) → All (flat_map f xs) ↔ ((x : A) → IsIn x xs → All (f x))
  each f [] = (λ h x k. absurd k, λ h. tt)
  each f (x ∷ xs) = (
    λ h y k. let p = parts (f x) (flat_map f xs) h in
        elim k [ inl e ↦ subst (λ z. All (f z)) (sym e) p.0 | inr t ↦ (each f xs).0 p.1 y t ],
    λ h. join (f x) (flat_map f xs) (h x (inl refl)) ((each f xs).1 (λ y k. h y (inr k))),
  )

  module _ (phase : Phase) (P : Plan) where
    -- of all marks at a flow: at the flow itself, and at its edges in each direction
    pub record AtFlow (t : Task) (n : ℕ) (f : FlowPlan) : Type 0 where
      pub start : All (flow_start phase P t n f)
      pub directed : (d : Direction) → All (direction_marks d phase P t n f)

    at_each_flow : (t : Task) (n : ℕ) (f : FlowPlan) → All (flow_marks phase P t n f) ↔ AtFlow t n f
    at_each_flow t n f =
        let start = flow_start phase P t n f in
        let ins = direction_marks In phase P t n f in
        let outs = direction_marks Out phase P t n f in (
          λ h. let p = parts (start ++ ins) outs h in
              let q = parts start ins p.0 in
              record { start = q.0; directed = λ d. in_direction d q.1 p.1 },
          λ w. join (start ++ ins) outs (join start ins w.start (w.directed In)) (w.directed Out),
        )
      where
        in_direction : (d : Direction) → All (direction_marks In phase P t n f)
            → All (direction_marks Out phase P t n f) → All (direction_marks d phase P t n f)
        in_direction In h k = h
        in_direction Out h k = k

    -- of all marks at a task, and of a phase
    pub record AtTask (t : Task) : Type 0 where
      pub start : All (task_start phase P t)
      pub flows : (n : ℕ) (f : FlowPlan) → slice_get (flows_of P t) n ≡ Some f → AtFlow t n f

    each_flow : (t : Task) (n : ℕ) (fs : List FlowPlan) → All (by_number (flow_marks phase P t) n fs)
        ↔ ((i : ℕ) (f : FlowPlan) → slice_get fs i ≡ Some f → AtFlow t (n + i) f)
    each_flow t n [] = (λ h i f here. cc, λ h. tt)
    each_flow t n (e ∷ fs) =
        let one = at_each_flow t n e in
        let others = each_flow t (suc n) fs in
        let later = by_number (flow_marks phase P t) (suc n) fs in (
          λ h. let p = parts (flow_marks phase P t n e) later h in each_more (AtFlow t) n e fs (one.0 p.0) (others.0 p.1),
          λ h. join (flow_marks phase P t n e) later (one.1 (rw add-zero at (h 0 e refl)))
              (others.1 (λ i f here. let q : n + suc i ≡ suc n + i = omega arith in subst (λ m. AtFlow t m f) q (h (suc i) f here))),
        )

    pub of_phase : All (phase_marks phase P) ↔ ((t : Task) → IsTask P t → AtTask t)
    of_phase =
        let flows = λ (t : Task). by_number (flow_marks phase P t) 0 (flows_of P t) in (
          λ h t of_job.
              let p = parts (task_start phase P t) (flows t) ((each (task_marks phase P) (all_tasks P)).0 h t ((listed P t).0 of_job)) in
              record { start = p.0; flows = λ n f here. subst (λ m. AtFlow t m f) (zero-add n) ((each_flow t 0 (flows_of P t)).0 p.1 n f here) },
          λ w. (each (task_marks phase P) (all_tasks P)).1 (λ t h.
              let a = w t ((listed P t).1 h) in
              join (task_start phase P t) (flows t) a.start ((each_flow t 0 (flows_of P t)).1 (λ n f here. rw zero-add (a.flows n f here)))),
        )

-- ---- checks that pass

-- what a check requires apart from what it counts
abbrev pub HoldsAt : Plan → Check → Type 0
HoldsAt P (Is f) = Holds P f
HoldsAt P (CountsIn e) = Unit {0}
HoldsAt P (CountsItem i) = Unit {0}
HoldsAt P (IsNewPlace p) = Unit {0}

abbrev pub AllHold : Plan → List Mark → Type 0
AllHold P ms = AllByRecursion (λ m. HoldsAt P m.check) ms

-- the limits, and that no place is written twice
pub record IsWithinLimits (b : Before) : Type 0 where
  pub ins_at_most : length b.ins ≤ 4000000
  pub items_at_most : length b.items ≤ 4000000
  pub written_once : HasNoRepeats b.places

-- the limits are kept before a check and it passes, if and only if they are kept after it and it holds
passes_and : (P : Plan) (b : Before) (c : Check) → (IsWithinLimits b × Passes P b c) ↔ (IsWithinLimits (add b c) × HoldsAt P c)
passes_and P b (CountsIn e) =
    let l = length-append b.ins (e ∷ []) in (
      λ h. let k = h.1 in (record { ins_at_most = omega arith; items_at_most = h.0.items_at_most; written_once = h.0.written_once }, tt),
      λ h. let k = h.0.ins_at_most in
          (record { ins_at_most = omega arith; items_at_most = h.0.items_at_most; written_once = h.0.written_once }, omega arith),
    )
passes_and P b (CountsItem i) =
    let l = length-append b.items (i ∷ []) in (
      λ h. let k = h.1 in (record { ins_at_most = h.0.ins_at_most; items_at_most = omega arith; written_once = h.0.written_once }, tt),
      λ h. let k = h.0.items_at_most in
          (record { ins_at_most = h.0.ins_at_most; items_at_most = omega arith; written_once = h.0.written_once }, omega arith),
    )
passes_and P b (IsNewPlace p) = (
  λ h. (record { ins_at_most = h.0.ins_at_most; items_at_most = h.0.items_at_most; written_once = HasNoRepeats-push b.places p h.0.written_once h.1 }, tt),
  λ h. let once = h.0.written_once in (
    record { ins_at_most = h.0.ins_at_most; items_at_most = h.0.items_at_most; written_once = (HasNoRepeats-parts b.places (p ∷ []) once).0 },
    not_before b.places p [] once,
  ),
)
passes_and P b (Is f) = (λ h. h, λ h. h)

-- likewise, all marks pass if and only if all hold and the limits are kept after them
pub all_pass_and : (P : Plan) (b : Before) (ms : List Mark) → (IsWithinLimits b × AllPass P b ms) ↔ (IsWithinLimits (add_all b ms) × AllHold P ms)
all_pass_and P b [] = (λ h. (h.0, tt), λ h. (h.0, tt))
all_pass_and P b (m ∷ ms) =
    let one = passes_and P b m.check in
    let rest = all_pass_and P (add b m.check) ms in (
      λ h. let p = one.0 (h.0, h.1.0) in let q = rest.0 (p.0, h.1.1) in (q.0, (p.1, q.1)),
      λ h. let q = rest.1 (h.0, h.1.1) in let p = one.1 (q.0, h.1.0) in (p.0, (p.1, q.1)),
    )

-- a check counts nothing
abbrev pub IsQuiet : Mark → Type 0
IsQuiet m = (b : Before) → add b m.check ≡ b

pub all_quiet : (b : Before) (ms : List Mark) → AllByRecursion IsQuiet ms → add_all b ms ≡ b
all_quiet b [] h = refl
all_quiet b (m ∷ ms) h = ap (λ (c : Before). add_all c ms) (h.0 b) ∙ all_quiet b ms h.1

-- what an item names exists, and what is sent has a tile
abbrev pub HasTileIn : Direction → Source → Type 0
HasTileIn In s = Unit {0}
HasTileIn Out s = s ≢ source.Null

abbrev pub IsConnected : Plan → Direction → Source → Item → Type 0
IsConnected P d s (item.Edge e) = HasTileIn d s × IsTask P (far_task d e)
IsConnected P d s (item.Write w) = (s ≢ source.Null) × HasPlace P.colls w.place

module _ (P : Plan) (d : Direction) (s : Source) (t : Task) (n : ℕ) where
  pub quiet_items : (earlier : List Edge) (is : List Item) → AllByRecursion IsQuiet (item_marks d earlier is Matching s t n)
  quiet_items earlier [] = tt
  quiet_items earlier (item.Edge e ∷ is) = (λ b. refl, (λ b. refl, quiet_items (earlier ++ e ∷ []) is))
  quiet_items earlier (item.Write w ∷ is) = quiet_items earlier is

  -- edges match, and none is among the earlier ones or occurs twice
  pub matching : (earlier : List Edge) (is : List Item) → AllHold P (item_marks d earlier is Matching s t n) → HasNoRepeats earlier
      → ((e : Edge) → IsIn e (filter_map edge_of is) → HasOtherEnd d P e) × HasNoRepeats (earlier ++ filter_map edge_of is)
  matching earlier [] h once = (λ e k. absurd k, rw (append-nil earlier) once)
  matching earlier (item.Edge e ∷ is) h once =
      let rest = matching (earlier ++ e ∷ []) is h.1.1 (HasNoRepeats-push earlier e once h.1.0) in (
        λ z k. elim k [ inl same ↦ subst (HasOtherEnd d P) (sym same) h.0 | inr m ↦ rest.0 z m ],
        subst HasNoRepeats (append_assoc earlier (e ∷ []) (filter_map edge_of is)) rest.1,
      )
  matching earlier (item.Write w ∷ is) h once = matching earlier is h once

  pub matched : (earlier : List Edge) (is : List Item) → ((e : Edge) → IsIn e (filter_map edge_of is) → HasOtherEnd d P e)
      → HasNoRepeats (earlier ++ filter_map edge_of is) → AllHold P (item_marks d earlier is Matching s t n)
  matched earlier [] h once = tt
  matched earlier (item.Edge e ∷ is) h once =
      let longer = subst HasNoRepeats (sym (append_assoc earlier (e ∷ []) (filter_map edge_of is))) once in
      let later = matched (earlier ++ e ∷ []) is (λ z k. h z (inr k)) longer in
      (h e (inl refl), (not_before earlier e (filter_map edge_of is) once, later))
  matched earlier (item.Write w ∷ is) h once = matched earlier is h once

-- the marks of the first phase at items hold if and only if each item is connected
module _ (P : Plan) (s : Source) (t : Task) (n : ℕ) where
  edge_connected : (d : Direction) (earlier : List Edge) (e : Edge) → AllHold P (edge_marks d earlier e Connecting s t n) ↔ IsConnected P d s (item.Edge e)
  edge_connected In earlier e = (λ h. (tt, h.0), λ h. (h.1, (tt, tt)))
  edge_connected Out earlier e = (λ h. (h.0, h.1.0), λ h. (h.0, (h.1, (tt, tt))))

  one_connected : (d : Direction) (earlier : List Edge) (is : List Item) (one : List Mark) (i : Item) → AllHold P one ↔ IsConnected P d s i
      → AllHold P (item_marks d earlier is Connecting s t n) ↔ ((j : Item) → IsIn j is → IsConnected P d s j)
      → AllHold P (one ++ item_marks d earlier is Connecting s t n) ↔ ((j : Item) → IsIn j (i ∷ is) → IsConnected P d s j)
  one_connected d earlier is one i here rest =
      let Q = λ (m : Mark). HoldsAt P m.check in
      let later = item_marks d earlier is Connecting s t n in (
        λ h j k. let p = parts Q one later h in
            elim k [ inl e ↦ subst (IsConnected P d s) (sym e) (here.0 p.0) | inr m ↦ rest.0 p.1 j m ],
        λ h. join Q one later (here.1 (h i (inl refl))) (rest.1 (λ j k. h j (inr k))),
      )

  pub connected : (d : Direction) (earlier : List Edge) (is : List Item)
      → AllHold P (item_marks d earlier is Connecting s t n) ↔ ((i : Item) → IsIn i is → IsConnected P d s i)
  connected d earlier [] = (λ h i k. absurd k, λ h. tt)
  connected d earlier (item.Edge e ∷ is) =
      let later = earlier ++ e ∷ [] in
      one_connected d later is (edge_marks d earlier e Connecting s t n) (item.Edge e) (edge_connected d earlier e) (connected d later is)
  connected d earlier (item.Write w ∷ is) =
      one_connected d earlier is (write_marks w Connecting s t n) (item.Write w) (λ h. (h.0, h.1.0), λ h. (h.0, (h.1, (tt, (tt, tt))))) (connected d earlier is)
