use Rattle.std.proofs.Common.{ap, ◌∙◌}
use Rattle.work_board.specs.declared.record.PassRecord.{PassRecord}
use Rattle.table_rule.specs.Changes.{after_split, split_off}
use Rattle.table_runs.proofs.playing.with_watch.Goals as goal

pub returns : goal.returns
returns c =
    let idle = c.an_idle_pass_is_a_workers_pass.ensures in
    let a = c.split-one in
    let b = c.split-two in
    let split = a.ensures.records.0 ∙ ap after_split c.requires.first in
    let mine = b.ensures.records.0 ∙ ap after_split split in
    let first = a.ensures.records.1 ∙ ap split_off c.requires.first in
    let second = b.ensures.records.1 ∙ ap split_off split in
    let runs = λ (v : PassRecord). v.running in
    let named = λ (v : PassRecord). v.names in
    record {
      watch = record {
        mine = idle c.args.table b.new.pass b.ensures.pass (ap runs mine);
        first = record { pass = idle c.args.table a.result a.ensures.new (ap runs first); idle = λ yes. ap runs first };
        second = record { pass = idle c.args.table b.result b.ensures.new (ap runs second); idle = λ yes. ap runs second };
        first_name = ap named first;
        second_name = ap named second;
      };
      idle = ap runs mine;
      name = ap named mine;
    }
