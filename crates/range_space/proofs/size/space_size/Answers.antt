use Rattle.std.proofs.Common.{arith, ◌∙◌, zero-add}
use Rattle.range_space.proofs.Counting.{task_count-walk_all}
use Rattle.range_space.proofs.Soundness.{prefix_count-walk_all, sound_from_all, no_fault}
use Rattle.range_space.proofs.size.space_size.Goals as goal

pub returns-clause-tasks : goal.returns-clause-tasks
returns-clause-tasks c =
    let w = c.in_ok-count_all.ensures.ok in
    let e = w.all_tasks ∙ zero-add _ in
    let f = w.unstopped.tasks_at_most in
    (e ∙ task_count-walk_all 0 c.args.spaces.now, omega arith)

pub returns-clause-prefixes : goal.returns-clause-prefixes
returns-clause-prefixes c =
    let f = c.in_ok-count_all.ensures.ok.unstopped.prefixes_at_most in
    let e = prefix_count-walk_all 0 c.args.spaces.now in
    omega arith

pub returns-clause-sound : goal.returns-clause-sound
returns-clause-sound c = sound_from_all 0 c.args.spaces.now c.in_ok-count_all.ensures.ok.unstopped.all_have_values

pub returns-in_err-count_all-clause-no_fault : goal.returns-in_err-count_all-clause-no_fault
returns-in_err-count_all-clause-no_fault c = λ sound tasks_at_most prefixes_at_most. absurd
    (no_fault c.args.spaces.now _ sound tasks_at_most prefixes_at_most c.in_err-count_all.ensures.fault)
