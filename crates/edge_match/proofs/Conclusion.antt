-- If all tasks of a plan were accepted, and as many edges go into them as come out, the plan is consistent.
use Rattle.std.proofs.Common.{◌≡◌, ◌≤◌, ℕ, Some, slice_get, [], length, map, ap, sym, ◌∙◌, subst, zero-add, arith}
use Rattle.std.specs.List.{AllByRecursion, filter_map}
use Rattle.ptg_base.specs.Lists.{HasNoRepeats, IsIn}
use Rattle.ptg_base.specs.Task.{Task}
use Rattle.ptg_base.specs.declared.edge.Edge.{Edge}
use Rattle.ptg_base.specs.declared.edge.WriteBack.{WriteBack}
use Rattle.plan_core.specs.declared.plan.Plan.{Plan}
use Rattle.range_space.specs.Sound.{IsSound, prefix_total}
use Rattle.list_lemmas.proofs.Members.{IsIn-flat_map, IsIn-map, from_flat_map}
use Rattle.list_lemmas.proofs.Joins.{filter_map-flat_map}
use Rattle.list_lemmas.proofs.Distinct.{HasNoRepeats-flat_map}
use Rattle.list_lemmas.proofs.Pigeonhole.{pigeonhole}
use Rattle.plan_core.specs.declared.flow.FlowPlan.{FlowPlan}
use Rattle.dep_iter.specs.declared.source.Source.{Source}
use Rattle.dep_iter.specs.declared.source.Source.TheVariants as source
use Rattle.dep_iter.specs.Tasks.{IsTask, all_tasks, flows_of, locals_of}
use Rattle.dep_iter.specs.Consistent.{IsConsistent, IsWellConnected, all_in, all_items, all_out, all_writes}
use Rattle.dep_iter.specs.Edges.{data_source, in_edges}
use Rattle.dep_iter.specs.Items.{edge_of, item_flow, items, out_edges, write_backs, write_of}
use Rattle.dep_iter.proofs.CallerLemmas.{in_edge_is, listed, once-all_tasks}
use Rattle.edge_match.specs.declared.tally.Tally.{Tally}
use Rattle.edge_match.specs.Sets.{IsSetOf}
use Rattle.edge_match.specs.Flows.{IsSoundSource, IsSoundTask, edges_into_flow, items_of_flow}
use Rattle.edge_match.specs.Tallies.{WentOver}
use Rattle.edge_match.proofs.TaskFlows.{in_edges-flows, into_flow_is, item_flow-sends, length-items, once_by_number, source_flow}

module _ (P : Plan) (s c : Tally) (w : WentOver P s c (all_tasks P)) (edges : s.ins.edges ≡ 0) (outs : s.outs.edges ≡ 0)
    (writes : s.outs.writes ≡ 0) (balanced : c.ins.edges ≡ c.outs.edges) where
  -- how many edges come out of tasks, and how many places are written
  sent_edges : c.outs.edges ≡ length (all_out P)
  sent_edges =
      let e = w.sent.edges in
      let f = ap length (filter_map-flat_map edge_of (items P) (all_tasks P)) in
      omega arith

  writes-are : filter_map write_of (all_items P) ≡ all_writes P
  writes-are = filter_map-flat_map write_of (items P) (all_tasks P)

  pub sent_writes : c.outs.writes ≡ length (all_writes P)
  sent_writes =
      let e = w.sent.writes in
      let f = ap length writes-are in
      omega arith

  task_once : (t : Task) → IsSoundTask P t → HasNoRepeats (in_edges P t)
  task_once t a =
      let env = locals_of P t in
      rw in_edges-flows (once_by_number (edges_into_flow t env) (λ e. e.in_flow) (into_flow_is t env) 0 (flows_of P t)
      (λ i f h. rw zero-add (a.flows i f h).once))

  ins_once : HasNoRepeats (all_in P)
  ins_once = HasNoRepeats-flat_map (in_edges P) (all_tasks P) (once-all_tasks P) (λ t h. task_once t (w.sound t h))
      (λ t u e h k. sym ((in_edge_is P t e).0 h).0 ∙ ((in_edge_is P u e).0 k).0)

  among_outs : (e : Edge) → IsIn e (all_in P) → IsIn e (all_out P)
  among_outs e h =
      let q = w.taken.sent e h in
      IsIn-flat_map (out_edges P) (all_tasks P) e.from e ((listed P e.from).0 q.0) q.1

  matched : HasNoRepeats (all_out P) × ((e : Edge) → IsIn e (all_out P) → IsIn e (all_in P))
  matched =
      let i = w.taken.edges in
      let o = sent_edges in
      pigeonhole (all_in P) (all_out P) ins_once among_outs (omega arith)

  -- an edge out of a task is one into a task of the job
  to_task : (t : Task) → IsTask P t → (e : Edge) → IsIn e (out_edges P t) → IsTask P e.to
  to_task t of_job e h =
      let k = matched.1 e (IsIn-flat_map (out_edges P) (all_tasks P) t e ((listed P t).0 of_job) h) in
      let p = from_flat_map (in_edges P) (all_tasks P) e k in
      subst (IsTask P) (sym ((in_edge_is P p.0 e).0 p.2).0) ((listed P p.0).1 p.1)

  connected : (t : Task) → IsTask P t → IsWellConnected P t
  connected t of_job =
      let here = (listed P t).0 of_job in
      let a = w.sound t here in
      let sound = λ (n : ℕ) (f : FlowPlan) (o : Source) (is : data_source P t n ≡ o) (h : slice_get (flows_of P t) n ≡ Some f).
      subst (IsSoundSource P f (items_of_flow t (locals_of P t) n f)) is (a.flows n f h).source in
      record {
        well = a.well;
        inputs = λ n f h takes none. sound n f source.Nothing none h takes;
        affinity_exists = a.affinity_exists;
        sources_exist = λ n p e. let q = source_flow P t n (source.Place p) e (λ k. absurd cc) in
            sound n q.0 (source.Place p) e q.1;
        written_exist = λ x h.
            let k = IsIn-flat_map (write_backs P) (all_tasks P) t x here h in
            w.sent.exist x.place (IsIn-map (λ (y : WriteBack). y.place) (filter_map write_of (all_items P)) x (rw writes-are k));
        from_tasks = λ e h. (w.taken.sent e (IsIn-flat_map (in_edges P) (all_tasks P) t e here h)).0;
        to_tasks = to_task t of_job;
        absent_sends_nothing = λ n i null h k.
            let p = item_flow-sends P t i h in
            let is = subst (λ m. data_source P t m ≡ source.Null) (sym k) null in
            let none = sound (item_flow i) p.0 source.Null is p.1.0 in
            subst (IsIn i) none p.1.1;
      }

  pub consistent : IsSetOf P.colls s.outs.written [] → AllByRecursion IsSound P.spaces → length (all_tasks P) ≤ 1000000
      → prefix_total P.spaces ≤ 16000000 → IsConsistent P
  consistent empty sound tasks_at_most prefixes_at_most =
      let items = length-items (all_items P) in
      let e = w.sent.edges in
      let k = w.sent.writes in
      let at_most = c.outs.items_at_most in
      let i = w.taken.edges in
      record {
        sound = sound;
        tasks_at_most = tasks_at_most;
        prefixes_at_most = prefixes_at_most;
        connected = connected;
        written_once = subst (λ ws. HasNoRepeats (map (λ (y : WriteBack). y.place) ws)) writes-are (w.sent.added [] (record { set = empty; once = tt })).once;
        in_edges_at_most = omega arith;
        items_at_most = omega arith;
        no_in_edge_twice = ins_once;
        no_out_edge_twice = matched.0;
        same_edges = λ e. (among_outs e, matched.1 e);
      }
