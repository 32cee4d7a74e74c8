use Rattle.std.proofs.Common.{Ok, refl}
use Rattle.ptg_top.specs.declared.command.Action.TheVariants.{Count, Run, Sum, Trace, Certify, Rank}
use Rattle.ptg_top.specs.declared.verdict.Verdict.TheVariants as verdict
use Rattle.job_stages.specs.declared.verdict.JobVerdict.TheVariants as jobs
use Rattle.ptg_top.proofs.Actions.{acts_alone, replay_acts}
use Rattle.ptg_top.proofs.acting.act.Goals as goal

-- these actions read no file
pub returns-in-Count-clause-ends : goal.returns-in-Count-clause-ends
returns-in-Count-clause-ends g c =
    acts_alone (g.F.Files.reads c.args.files.now) (g.F.Files.faults c.args.files.now) c.args.matched c.args.given
    c.args.action.now Count (Ok (verdict.Job (jobs.Consistent c.args.matched c.args.given))) c.in-Count.is refl refl

pub returns-in-Run-clause-ends : goal.returns-in-Run-clause-ends
returns-in-Run-clause-ends g c =
    acts_alone (g.F.Files.reads c.args.files.now) (g.F.Files.faults c.args.files.now) c.args.matched c.args.given
    c.args.action.now (Run c.in-Run.settings) c.run.result c.in-Run.is refl c.run.ensures.answer

pub returns-in-Sum-clause-ends : goal.returns-in-Sum-clause-ends
returns-in-Sum-clause-ends g c =
    acts_alone (g.F.Files.reads c.args.files.now) (g.F.Files.faults c.args.files.now) c.args.matched c.args.given
    c.args.action.now (Sum c.in-Sum.rows c.in-Sum.settings) c.sum_up.result c.in-Sum.is refl c.sum_up.ensures.summary

pub returns-in-Trace-clause-ends : goal.returns-in-Trace-clause-ends
returns-in-Trace-clause-ends g c =
    acts_alone (g.F.Files.reads c.args.files.now) (g.F.Files.faults c.args.files.now) c.args.matched c.args.given
    c.args.action.now (Trace c.in-Trace.settings) c.trace.result c.in-Trace.is refl c.trace.ensures.trace

pub returns-in-Certify-clause-ends : goal.returns-in-Certify-clause-ends
returns-in-Certify-clause-ends g c =
    acts_alone (g.F.Files.reads c.args.files.now) (g.F.Files.faults c.args.files.now) c.args.matched c.args.given
    c.args.action.now (Certify c.in-Certify.settings) c.certify.result c.in-Certify.is refl c.certify.ensures.certified

pub returns-in-Rank-clause-ends : goal.returns-in-Rank-clause-ends
returns-in-Rank-clause-ends g c =
    acts_alone (g.F.Files.reads c.args.files.now) (g.F.Files.faults c.args.files.now) c.args.matched c.args.given
    c.args.action.now (Rank c.in-Rank.settings) c.rank.result c.in-Rank.is refl c.rank.ensures.ranked

-- a replay reads its trace
pub returns-in-Replay-clause-ends : goal.returns-in-Replay-clause-ends
returns-in-Replay-clause-ends g c =
    replay_acts (g.F.Files.reads c.args.files.now) (g.F.Files.reads c.replay.new.files)
    (g.F.Files.faults c.args.files.now) (g.F.Files.faults c.replay.new.files)
    c.args.matched c.args.given c.in-Replay.list c.args.action.now c.replay.result c.in-Replay.is c.replay.ensures.verdict
