use Rattle.std.proofs.Common.{◌≡◌, [], length, refl, ap, sym, subst, ◌∙◌, None, Some, arith}
use Rattle.std.specs.Map.{lookup, set_value}
use Rattle.std.specs.Result.{result_err}
use Rattle.ptg_base.specs.TaskComparing.{same_task}
use Rattle.ptg_base.specs.Task.{Task}
use Rattle.ptg_base.specs.declared.edge.Edge.{Edge}
use Rattle.ptg_base.specs.declared.edge.Item.TheVariants as item
use Rattle.plan_core.specs.declared.plan.Plan.{Plan}
use Rattle.coll_data.specs.Data.{Data}
use Rattle.dep_iter.specs.Consistent.{IsConsistent}
use Rattle.dep_iter.specs.Tasks.{IsTask, flows_of}
use Rattle.flow_meaning.specs.Backward.{ended}
use Rattle.flow_meaning.specs.Machine.{first_tile, sent_tile}
use Rattle.flow_meaning.specs.Starting.{starting_tiles, nothing_delivered}
use Rattle.flow_meaning.proofs.CallerLemmas.{length-starting_tiles}
use Rattle.flow_core.specs.Arrivals.{edge_count_to}
use Rattle.flow_core.specs.Fits.{Fits}
use Rattle.flow_core.specs.Kept.{AreKept}
use Rattle.flow_core.specs.RunState.{IsRunning, RunState, mark_of, with_tiles}
use Rattle.flow_core.proofs.Fitting.{counts_end, end_fits, ended_run, running_end, running_task}
use Rattle.flow_core.proofs.Kept.{kept_end, kept_tile, unread}
use Rattle.flow_core.proofs.Starting.{ran}
use Rattle.flow_core.proofs.Taking.{length-edges_from}
use Rattle.flow_core.proofs.state.State.finish.Goals as goal

-- the task is one of the job, also of the plan as the body reads it
of_job : (P Q : Plan) (G : Data) (r : RunState) (t : Task) → P ≡ Q → IsConsistent Q → Fits Q G r → IsRunning r t → IsTask P t
of_job P Q G r t same con fits running = subst (λ p. IsTask p t) (sym same) (running_task Q G con r fits t running)

pub locals_of-locals-requires : goal.locals_of-locals-requires
locals_of-locals-requires c =
    let plan = c.plan-plan.ensures in
    of_job _ _ c.args.given.now _ c.args.t.now plan.same plan.consistent c.requires.fits c.requires.running

pub invariant_of-at-clause-of_job : goal.invariant_of-at-clause-of_job
invariant_of-at-clause-of_job c =
    let plan = c.plan-plan.ensures in
    of_job _ _ c.args.given.now _ c.args.t.now plan.same plan.consistent c.requires.fits c.requires.running

pub take_tiles-requires : goal.take_tiles-requires
take_tiles-requires c =
    let P = c.plan-plan.result.now in
    let t = c.args.t.now in
    let edges = c.as_slice-2.ensures.value ∙ c.in_ok-found.ensures.edges in
    let tiles = ap length c.in_ok-found.ensures.tiles ∙ length-starting_tiles P c.args.given.now nothing_delivered t in
    record {
      at_most = omega (arith, ap length c.as_slice-2.ensures.value, c.in_ok-found.ensures.at_most);
      places = omega (arith, ap length edges, length-edges_from P t 0 (flows_of P t), tiles);
    }

pub run_task-ran-requires : goal.run_task-ran-requires
run_task-ran-requires c = c.take_tiles.ensures.places ∙ ap length c.in_ok-found.ensures.tiles
    ∙ length-starting_tiles c.plan-plan.result.now c.args.given.now nothing_delivered c.args.t.now

pub invariant_of-self-2 : goal.invariant_of-self-2
invariant_of-self-2 c =
    let t = c.args.t.now in
    let claims = c.self.inside.claims.entries in
    let sent = c.self.inside.sent in
    let end = c.run_task-ran.result.end in
    let P = c.plan-plan.result.now in
    let edges = c.as_slice-2.ensures.value ∙ c.in_ok-found.ensures.edges in
    let running : lookup (same_task t) claims ≡ Some None = ap (λ (s : RunState). mark_of s t) c.self.view_is ∙ c.requires.running in
    let marks : c.mark.new.claims.entries ≡ set_value (same_task t) claims (Some end) = c.mark.ensures
    ∙ ap (λ e. set_value (same_task t) claims (Some e)) c.of-end.ensures in
    let ends = kept_end claims t end running sent c.take_tiles.new.sent c.self.invariant.tiles
    (c.take_tiles.ensures.kept P t (flows_of P t) edges) c.take_tiles.ensures.sends c.take_tiles.ensures.writes in
    record {
      counts = λ u none.
          counts_end c.self.inside.arrived.entries claims sent.sends t end c.self.invariant.counts u
          (ap (lookup (same_task u)) (sym marks) ∙ none) ∙ ap (edge_count_to u) (sym c.take_tiles.ensures.sends);
      tiles = subst (λ cs. AreKept cs c.take_tiles.new.sent) (sym marks) ends;
    }

pub returns-clause-ok : goal.returns-clause-ok
unfolding starting_tiles
returns-clause-ok c =
    let P = c.plan-plan.result.now in
    let G = c.args.given.now in
    let r = c.args.self.now in
    let t = c.args.t.now in
    let claims = c.self.inside.claims.entries in
    let sent = c.self.inside.sent in
    let con = c.plan-plan.ensures.consistent in
    let running : lookup (same_task t) claims ≡ Some None = ap (λ (s : RunState). mark_of s t) c.self.view_is ∙ c.requires.running in
    let edges = c.as_slice-2.ensures.value ∙ c.in_ok-found.ensures.edges in
    let tiles : c.take_tiles.new.tiles.items ≡ starting_tiles P G (sent_tile sent.edges) t = c.take_tiles.ensures.tiles
    P G t [] (flows_of P t) edges refl c.in_ok-found.ensures.tiles in
    let same = λ (e : Edge) (to : e.to ≡ t). kept_tile claims sent c.self.invariant.tiles e
    (unread claims t e running to) ∙ ap (λ (s : RunState). first_tile (item.Edge e) s.sends) c.self.view_is in
    let end = ran c.args.m.now P G r (sent_tile sent.edges) t c.take_tiles.new.tiles.items c.run_task-ran.result.end
    c.plan-plan.ensures.same same tiles c.run_task-ran.ensures in
    let meant : ended c.args.m.now G t ≡ Some c.run_task-ran.result.end = running_end c.args.m.now G con r c.requires.fits t c.requires.running ∙ end in
    let marks : c.mark.new.claims.entries ≡ set_value (same_task t) claims
    (Some c.run_task-ran.result.end) = c.mark.ensures ∙ ap (λ e. set_value (same_task t) claims (Some e))
    c.of-end.ensures in
    let left : c.keep_tiles.new.table.entries ≡ with_tiles t c.run_task-ran.result.end
    c.self.inside.outputs.entries = c.keep_tiles.ensures
    ∙ ap (with_tiles t c.run_task-ran.result.end) c.in_ok-reserve.ensures.entries in
    let marked = ended_run claims c.mark.new.claims.entries sent.sends c.take_tiles.new.sent.sends
    c.self.inside.outputs.entries c.keep_tiles.new.table.entries r t c.run_task-ran.result.end c.self.view_is marks
    c.take_tiles.ensures.sends left in
    record { end = c.run_task-ran.result.end; end_is = meant; marked = marked; trapped = c.trap-trap.ensures ∙ ap result_err c.of-end.ensures }

pub returns-clause-fits : goal.returns-clause-fits
unfolding starting_tiles
returns-clause-fits c =
    let P = c.plan-plan.result.now in
    let G = c.args.given.now in
    let r = c.args.self.now in
    let t = c.args.t.now in
    let claims = c.self.inside.claims.entries in
    let sent = c.self.inside.sent in
    let con = c.plan-plan.ensures.consistent in
    let running : lookup (same_task t) claims ≡ Some None = ap (λ (s : RunState). mark_of s t) c.self.view_is ∙ c.requires.running in
    let edges = c.as_slice-2.ensures.value ∙ c.in_ok-found.ensures.edges in
    let tiles : c.take_tiles.new.tiles.items ≡ starting_tiles P G (sent_tile sent.edges) t = c.take_tiles.ensures.tiles
    P G t [] (flows_of P t) edges refl c.in_ok-found.ensures.tiles in
    let same = λ (e : Edge) (to : e.to ≡ t). kept_tile claims sent c.self.invariant.tiles e
    (unread claims t e running to) ∙ ap (λ (s : RunState). first_tile (item.Edge e) s.sends) c.self.view_is in
    let end = ran c.args.m.now P G r (sent_tile sent.edges) t c.take_tiles.new.tiles.items c.run_task-ran.result.end
    c.plan-plan.ensures.same same tiles c.run_task-ran.ensures in
    let meant : ended c.args.m.now G t ≡ Some c.run_task-ran.result.end = running_end c.args.m.now G con r c.requires.fits t c.requires.running ∙ end in
    let marks : c.mark.new.claims.entries ≡ set_value (same_task t) claims
    (Some c.run_task-ran.result.end) = c.mark.ensures ∙ ap (λ e. set_value (same_task t) claims (Some e))
    c.of-end.ensures in
    let left : c.keep_tiles.new.table.entries ≡ with_tiles t c.run_task-ran.result.end
    c.self.inside.outputs.entries = c.keep_tiles.ensures
    ∙ ap (with_tiles t c.run_task-ran.result.end) c.in_ok-reserve.ensures.entries in
    let marked = ended_run claims c.mark.new.claims.entries sent.sends c.take_tiles.new.sent.sends
    c.self.inside.outputs.entries c.keep_tiles.new.table.entries r t c.run_task-ran.result.end c.self.view_is marks
    c.take_tiles.ensures.sends left in
    subst (Fits c.args.m.now G) (sym marked) (end_fits c.args.m.now G con r c.requires.fits t c.run_task-ran.result.end c.requires.running meant)
