use Rattle.std.proofs.Common.{◌≡◌, ◌∙◌, ℕ, length, map, false, ap, sym, subst}
use Rattle.std.proofs.lemmas.Bool.{false≢true}
use denote.Param.Send.{sendable}
use Rattle.crossbeam_utils.specs.Padded.{padded_value}
use Rattle.ptg_base.specs.Lists.{IsIn}
use Rattle.dep_table.specs.Closing.{AreAllPasses}
use Rattle.dep_table.specs.Tables.{id_of, job_of}
use Rattle.dep_table.proofs.CallerLemmas.{pass_send, table_sync}
use Rattle.table_rule.specs.Records.{joined}
use Rattle.run_pool.specs.Gates.{AreLetThrough}
use Rattle.run_pool.specs.Runs.{Run}
use Rattle.run_pool.specs.Seated.{record_on}
use Rattle.run_pool.proofs.Closed.{closed_at, ran_job, through_gate}
use Rattle.run_pool.proofs.Gathered.{all_passes, have_answered, let_through, one_saw_quiet, refused_unloaded}
use Rattle.run_pool.proofs.running.run.Goals as goal

pub team-requires-send-B-Pass : goal.team-requires-send-B-Pass
team-requires-send-B-Pass g c κs within = search (sendable, pass_send) depth 10

pub team-requires-sync-B : goal.team-requires-sync-B
team-requires-sync-B g c κs within = search (sendable, table_sync) depth 10

pub team-requires-clause-ready : goal.team-requires-clause-ready
team-requires-clause-ready g c κs within = λ k d at.
    let r = c.prepared.invariant.0.ready k d at in
    record { pass = c.an_idle_pass_is_a_workers_pass.ensures c.prepared.inside.table (padded_value d).pass r.pass r.idle; idle = r.idle; bench = r.bench }

pub passes_of-requires-clause-answered : goal.passes_of-requires-clause-answered
passes_of-requires-clause-answered g c =
    let job = job_of c.prepared.inside.table in
    have_answered c.prepared.inside.table job.matched job.given (g.G.Gate.lets c.args.gate.now) job.preloaded c.prepared.inside.desks.items
    c.team.new.desks.items c.team.ensures.count c.team.ensures.worked

pub returns-in_err-passes-clause-preloaded : goal.returns-in_err-passes-clause-preloaded
returns-in_err-passes-clause-preloaded g c = λ yes.
    let job = job_of c.prepared.inside.table in
    let no : job.preloaded ≡ false = refused_unloaded c.prepared.inside.table job.matched job.given
    (g.G.Gate.lets c.args.gate.now) job.preloaded c.prepared.inside.desks.items
    c.team.new.desks.items c.team.ensures.count c.team.ensures.worked c.in_err-passes.ensures.refused in
    let same : job.preloaded ≡ c.args.prepared.job.preloaded = ap (λ (r : Run). r.job.preloaded) c.prepared.view_is in
    absurd (false≢true (sym no ∙ (same ∙ yes)))

pub close-requires : goal.close-requires
close-requires g c =
    let job = job_of c.prepared.inside.table in
    subst (AreAllPasses (id_of c.prepared.inside.table)) (sym c.in_ok-passes.ensures.passes)
    (all_passes c.prepared.inside.table job.matched job.given (g.G.Gate.lets c.args.gate.now) job.preloaded c.prepared.inside.desks.items
    c.team.new.desks.items c.team.ensures.count c.team.ensures.worked c.all_passes_stay_all.ensures.names c.prepared.invariant.0)

pub returns-clause-quiet : goal.returns-clause-quiet
returns-clause-quiet g c =
    let job = job_of c.prepared.inside.table in
    let one = one_saw_quiet c.prepared.inside.table job.matched job.given (g.G.Gate.lets c.args.gate.now) job.preloaded c.prepared.inside.desks.items
    c.team.new.desks.items c.team.ensures.count c.team.ensures.worked c.prepared.invariant.1 c.in_ok-passes.ensures.done in
    c.close.ensures.quiet one.pass (subst (IsIn one.pass) (sym c.in_ok-passes.ensures.passes) one.among) one.quiet

pub returns-clause-ran : goal.returns-clause-ran
returns-clause-ran g c =
    let at = closed_at (job_of c.prepared.inside.table) c.close.result c.close.ensures.job c.close.ensures.at in
    ran_job c.a_quiet_close_has_the_meaning.ensures c.close.result at (returns-clause-quiet g c)

pub returns-clause-handed : goal.returns-clause-handed
returns-clause-handed g c =
    (closed_at (job_of c.prepared.inside.table) c.close.result c.close.ensures.job c.close.ensures.at).handed

pub returns-clause-gate : goal.returns-clause-gate
returns-clause-gate g c =
    let job = job_of c.prepared.inside.table in
    let es = c.team.new.desks.items in
    let lets = g.G.Gate.lets c.args.gate.now in
    let ds = c.prepared.inside.desks.items in
    let seated = c.prepared.invariant.0 in
    let let_by : AreLetThrough lets (length ds) (joined (map record_on es)).state.claims =
    let_through c.prepared.inside.table job.matched job.given lets job.preloaded ds es c.team.ensures.count
    c.team.ensures.worked seated.fresh seated.numbered c.in_ok-passes.ensures.done in
    through_gate lets c.args.prepared.workers _ es c.close.result.records c.in_ok-passes.ensures.passes
    c.close.ensures.records
    (subst (λ (n : ℕ). AreLetThrough lets n (joined (map record_on es)).state.claims)
    (ap (λ (r : Run). r.workers) c.prepared.view_is) let_by)
