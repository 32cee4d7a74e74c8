-- A plan is consistent if and only if its spaces are sound and within their limits, and all its marks pass.
use Rattle.std.proofs.Common.{◌≡◌, ◌≢◌, ◌↔◌, ℕ, ◌≤◌, List, [], length, refl, sym, ◌∙◌, subst, zero-add, Some, slice_get, arith}
use Rattle.std.specs.List.{AllByRecursion, flat_map}
use Rattle.ptg_base.specs.Lists.{HasNoRepeats, IsIn}
use Rattle.ptg_base.specs.Task.{Task}
use Rattle.ptg_base.specs.declared.edge.Edge.{Edge}
use Rattle.ptg_base.specs.declared.edge.Item.{Item}
use Rattle.ptg_base.specs.declared.edge.Item.TheVariants as item
use Rattle.term_core.specs.declared.direction.Direction.{Direction}
use Rattle.term_core.specs.declared.direction.Direction.TheVariants.{In, Out}
use Rattle.term_core.specs.Directions.{opposite}
use Rattle.plan_core.specs.declared.flow.FlowPlan.{FlowPlan}
use Rattle.plan_core.specs.declared.plan.Plan.{Plan}
use Rattle.range_space.specs.Sound.{IsSound, prefix_total}
use Rattle.list_lemmas.proofs.Members.{IsIn-flat_map, from_flat_map, from_map}
use Rattle.list_lemmas.proofs.Distinct.{HasNoRepeats-flat_map, HasNoRepeats-part}
use Rattle.dep_iter.specs.declared.source.Source.{Source}
use Rattle.dep_iter.specs.declared.source.Source.TheVariants as source
use Rattle.dep_iter.specs.Consistent.{IsConsistent, IsWellConnected}
use Rattle.dep_iter.specs.Directions.{HasOtherEnd, edges_of, far_task, near_flow, near_task}
use Rattle.dep_iter.specs.Edges.{data_source}
use Rattle.dep_iter.specs.Items.{item_flow, items}
use Rattle.dep_iter.specs.Tasks.{IsTask, all_tasks, flows_of, locals_of}
use Rattle.dep_iter.proofs.CallerLemmas.{in_edge_is, listed, once-all_tasks, out_edge_is}
use Rattle.edge_match.proofs.TaskFlows.{from_by_number, item_flow-sends, items-flows, once_by_number, sent_flow_is, source_flow}
use Rattle.edge_match.specs.declared.phase.Phase.{Phase}
use Rattle.edge_match.specs.declared.phase.Phase.TheVariants.{Connecting, Matching}
use Rattle.edge_match.specs.Marks.{AllPass, Before, add_all, flow_items, marks, nothing, phase_marks}
use Rattle.edge_match.proofs.Added.{phase-adds}
use Rattle.edge_match.proofs.Directed.{edge_among, edges-numbered, flow_edges, in_flow_items, near_is, part_by_number, to_by_number}
use Rattle.edge_match.proofs.Directed.{write_among}
use Rattle.edge_match.proofs.Holding.{AllHold, AtTask, HoldsAt, IsConnected, IsQuiet, IsWithinLimits, all_pass_and, all_quiet}
use Rattle.edge_match.proofs.Holding.{connected, matched, matching, of_phase, quiet_items}
use Rattle.edge_match.proofs.Parts.{AllPass-append, AllPass-parts}

-- the edges of a task in one direction are those of its flows; none occurs twice if none of a flow does
module _ (P : Plan) (t : Task) (d : Direction) where
  pub of_flow : (n : ℕ) (f : FlowPlan) (e : Edge) → slice_get (flows_of P t) n ≡ Some f → IsIn e (flow_edges d P t n f) → IsIn e (edges_of d P t)
  of_flow n f e here h = rw (edges-numbered P t d) (to_by_number (flow_edges d P t) 0 (flows_of P t) n f e here (rw zero-add h))

  pub from_flow : (e : Edge) → IsIn e (edges_of d P t) → (n : ℕ) × (f : FlowPlan) × ((slice_get (flows_of P t) n ≡ Some f) × IsIn e (flow_edges d P t n f))
  from_flow e h =
      let p = from_by_number (flow_edges d P t) 0 (flows_of P t) e (rw (edges-numbered P t d) at h) in
      (p.0, p.1, (p.2.0, rw zero-add at p.2.1))

  pub flow_once : HasNoRepeats (edges_of d P t) → (n : ℕ) (f : FlowPlan) → slice_get (flows_of P t) n ≡ Some f → HasNoRepeats (flow_edges d P t n f)
  flow_once h n f here = rw zero-add at (part_by_number (flow_edges d P t) 0 (flows_of P t) (rw (edges-numbered P t d) at h) n f here)

  pub task_once : ((n : ℕ) (f : FlowPlan) → slice_get (flows_of P t) n ≡ Some f → HasNoRepeats (flow_edges d P t n f)) → HasNoRepeats (edges_of d P t)
  task_once h =
      rw (edges-numbered P t d) (once_by_number (flow_edges d P t) (near_flow d) (λ n f e k. near_is P t n f d e k) 0
      (flows_of P t) (λ i f here. rw zero-add (h i f here)))

-- the near task of an edge of a task is that task
near : (d : Direction) (P : Plan) (t : Task) (e : Edge) → IsIn e (edges_of d P t) → near_task d e ≡ t
near In P t e h = ((in_edge_is P t e).0 h).0
near Out P t e h = ((out_edge_is P t e).0 h).0

abbrev all_edges : Direction → Plan → List Edge
all_edges d P = flat_map (edges_of d P) (all_tasks P)

all_once : (d : Direction) (P : Plan) → ((t : Task) → IsTask P t → HasNoRepeats (edges_of d P t)) → HasNoRepeats (all_edges d P)
all_once d P h =
    HasNoRepeats-flat_map (edges_of d P) (all_tasks P) (once-all_tasks P) (λ t k. h t ((listed P t).1 k)) (λ t u e k l. sym (near d P t e k) ∙ near d P u e l)

-- the facts of the first phase hold if all tasks are well connected, and those of the second if edges match and none
-- occurs twice
module _ (P : Plan) where
  abbrev AllHoldIn : Phase → Type 0
  AllHoldIn phase = AllHold P (phase_marks phase P)

  tasks : (phase : Phase) → AllHoldIn phase ↔ ((t : Task) → IsTask P t → AtTask (λ m. HoldsAt P m.check) phase P t)
  tasks phase = of_phase (λ m. HoldsAt P m.check) phase P

  well_connected : AllHoldIn Connecting → (t : Task) → IsTask P t → IsWellConnected P t
  well_connected all t of_job =
      let a = (tasks Connecting).0 all t of_job in
      let exists = λ (d : Direction) (n : ℕ) (f : FlowPlan) (here : slice_get (flows_of P t) n ≡ Some f).
      (connected P (data_source P t n) t n d [] (flow_items d P t n f)).0 ((a.flows n f here).directed d) in
      let sent = λ (i : Item) (h : IsIn i (items P t)). let p = item_flow-sends P t i h in exists Out (item_flow i) p.0 p.1.0 i p.1.1 in
      record {
        well = a.start.0;
        inputs = λ n f here. (a.flows n f here).start.0;
        affinity_exists = a.start.1.0;
        sources_exist = λ n p e. let q = source_flow P t n (source.Place p) e (λ k. absurd cc) in (a.flows n q.0 q.1).start.1.0 p e;
        written_exist = λ w h. (sent (item.Write w) ((write_among (items P t) w).0 h)).1;
        from_tasks = λ e h.
            let p = from_flow P t In e h in
            (exists In p.0 p.1 p.2.0 (item.Edge e) ((edge_among (flow_items In P t p.0 p.1) e).0 p.2.1)).1;
        to_tasks = λ e h. (sent (item.Edge e) ((edge_among (items P t) e).0 h)).1;
        absent_sends_nothing = λ n i null h k. has_tile i (sent i h) (subst (λ m. data_source P t m ≡ source.Null) (sym k) null);
      }
    where
      has_tile : {s : Source} (i : Item) → IsConnected P Out s i → s ≢ source.Null
      has_tile (item.Edge e) h = h.0
      has_tile (item.Write w) h = h.0

  module _ (t : Task) (c : IsWellConnected P t) (n : ℕ) (f : FlowPlan) (here : slice_get (flows_of P t) n ≡ Some f) where
    item_of : (i : Item) → IsIn i (flow_items Out P t n f) → IsIn i (items P t)
    item_of i h = rw (items-flows P t) (to_by_number (flow_items Out P t) 0 (flows_of P t) n f i here (rw zero-add h))

    has_tile : (i : Item) → IsIn i (flow_items Out P t n f) → data_source P t n ≢ source.Null
    has_tile i h null = c.absent_sends_nothing n i null (item_of i h) (sent_flow_is t (locals_of P t) n f i h)

    item_exists : (d : Direction) (i : Item) → IsIn i (flow_items d P t n f) → IsConnected P d (data_source P t n) i
    item_exists In (item.Edge e) h = (tt, c.from_tasks e (of_flow P t In n f e here ((edge_among (flow_items In P t n f) e).1 h)))
    item_exists In (item.Write w) h =
        let e = (from_map item.Edge (flow_edges In P t n f) (item.Write w) (rw (in_flow_items P t n f) at h)).2 in
        absurd cc
    item_exists Out (item.Edge e) h = (has_tile (item.Edge e) h, c.to_tasks e ((edge_among (items P t) e).1 (item_of (item.Edge e) h)))
    item_exists Out (item.Write w) h = (has_tile (item.Write w) h, c.written_exist w ((write_among (items P t) w).1 (item_of (item.Write w) h)))

  all_connected : ((t : Task) → IsTask P t → IsWellConnected P t) → AllHoldIn Connecting
  all_connected w = (tasks Connecting).1 (λ t of_job.
      let c = w t of_job in
      record {
        start = (c.well, (c.affinity_exists, tt));
        flows = λ n f here. record {
          start = (c.inputs n f here, (c.sources_exist n, tt));
          directed = λ d. (connected P (data_source P t n) t n d [] (flow_items d P t n f)).1 (item_exists t c n f here d);
        };
      })

  -- the edges of a task match, and none occurs twice
  abbrev AreMatched : Direction → Task → Type 0
  AreMatched d t = ((e : Edge) → IsIn e (edges_of d P t) → HasOtherEnd d P e) × HasNoRepeats (edges_of d P t)

  all_matched : AllHoldIn Matching ↔ ((d : Direction) (t : Task) → IsTask P t → AreMatched d t)
  all_matched = (
    λ all d t of_job.
        let a = (tasks Matching).0 all t of_job in
        let m = λ (n : ℕ) (f : FlowPlan) (here : slice_get (flows_of P t) n ≡ Some f).
        matching P d (data_source P t n) t n [] (flow_items d P t n f) ((a.flows n f here).directed d) tt in
        (λ e h. let p = from_flow P t d e h in (m p.0 p.1 p.2.0).0 e p.2.1, task_once P t d (λ n f here. (m n f here).1)),
    λ w. (tasks Matching).1 (λ t of_job. record {
      start = tt;
      flows = λ n f here. record {
        start = tt;
        directed = λ d.
            let m = w d t of_job in
            matched P d (data_source P t n) t n [] (flow_items d P t n f) (λ e h. m.0 e (of_flow P t d n f e here h)) (flow_once P t d m.1 n f here);
      };
    }),
  )

  -- nothing is counted in the second phase
  nothing_more : (b : Before) → add_all b (phase_marks Matching P) ≡ b
  nothing_more b =
      let quiet = λ (t : Task) (n : ℕ) (f : FlowPlan) (d : Direction). quiet_items P d (data_source P t n) t n [] (flow_items d P t n f) in
      all_quiet b (phase_marks Matching P) ((of_phase IsQuiet Matching P).1
      (λ t of_job. record { start = tt; flows = λ n f here. record { start = tt; directed = quiet t n f } }))

  -- if all tasks are matched in one direction, their edges in it are edges in the other
  others : (d : Direction) → ((t : Task) → IsTask P t → AreMatched d t) → (e : Edge) → IsIn e (all_edges d P) → IsIn e (all_edges (opposite d) P)
  others d m e h =
      let p = from_flat_map (edges_of d P) (all_tasks P) e h in
      let q = (m p.0 ((listed P p.0).1 p.1)).0 e p.2 in
      IsIn-flat_map (edges_of (opposite d) P) (all_tasks P) (far_task d e) e ((listed P (far_task d e)).0 q.0) q.1

  pub passes_consistent : AllPass P nothing (marks P) → AllByRecursion IsSound P.spaces → length (all_tasks P) ≤ 1000000
      → prefix_total P.spaces ≤ 16000000 → IsConsistent P
  passes_consistent all sound tasks_at_most prefixes_at_most =
      let both = AllPass-parts P nothing (phase_marks Connecting P) (phase_marks Matching P) all in
      let first = (all_pass_and P nothing (phase_marks Connecting P)).0
      (record { ins_at_most = omega arith; items_at_most = omega arith; written_once = tt }, both.0) in
      let second = (all_pass_and P (add_all nothing (phase_marks Connecting P)) (phase_marks Matching P)).0 (first.0, both.1) in
      let w = subst IsWithinLimits (phase-adds P) first.0 in
      let m = all_matched.0 second.1 in
      record {
        sound = sound;
        tasks_at_most = tasks_at_most;
        prefixes_at_most = prefixes_at_most;
        connected = well_connected first.1;
        written_once = w.written_once;
        in_edges_at_most = w.ins_at_most;
        items_at_most = w.items_at_most;
        no_in_edge_twice = all_once In P (λ t h. (m In t h).1);
        no_out_edge_twice = all_once Out P (λ t h. (m Out t h).1);
        same_edges = λ e. (others In (m In) e, others Out (m Out) e);
      }

  -- the other way round
  matched_in : (d : Direction) → HasNoRepeats (all_edges d P) → ((e : Edge) → IsIn e (all_edges d P) → IsIn e (all_edges (opposite d) P))
      → (t : Task) → IsTask P t → AreMatched d t
  matched_in d once same t of_job = (
    λ e h. let p = from_flat_map (edges_of (opposite d) P) (all_tasks P) e
        (same e (IsIn-flat_map (edges_of d P) (all_tasks P) t e ((listed P t).0 of_job) h)) in
        let far : far_task d e ≡ p.0 = far_is d e ∙ near (opposite d) P p.0 e p.2 in
        (subst (IsTask P) (sym far) ((listed P p.0).1 p.1), subst (λ u. IsIn e (edges_of (opposite d) P u)) (sym far) p.2),
    HasNoRepeats-part (edges_of d P) (all_tasks P) once t ((listed P t).0 of_job),
  )
    where
      far_is : (d : Direction) (e : Edge) → far_task d e ≡ near_task (opposite d) e
      far_is In e = refl
      far_is Out e = refl

  both_matched : IsConsistent P → (d : Direction) (t : Task) → IsTask P t → AreMatched d t
  both_matched w In = matched_in In w.no_in_edge_twice (λ e. (w.same_edges e).0)
  both_matched w Out = matched_in Out w.no_out_edge_twice (λ e. (w.same_edges e).1)

  -- all marks of a consistent plan pass
  pub all_pass : IsConsistent P → AllPass P nothing (marks P)
  all_pass w =
      let b = add_all nothing (phase_marks Connecting P) in
      let limits : IsWithinLimits b = subst IsWithinLimits (sym (phase-adds P))
      (record { ins_at_most = w.in_edges_at_most; items_at_most = w.items_at_most; written_once = w.written_once })
      in
      AllPass-append P nothing (phase_marks Connecting P) (phase_marks Matching P)
      ((all_pass_and P nothing (phase_marks Connecting P)).1 (limits, all_connected w.connected)).1
      ((all_pass_and P b (phase_marks Matching P)).1 (subst IsWithinLimits (sym (nothing_more b)) limits, all_matched.1 (both_matched w))).1
