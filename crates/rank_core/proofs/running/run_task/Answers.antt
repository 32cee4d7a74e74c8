use Rattle.rank_core.proofs.running.run_task.Goals as goal

pub end_run-requires-clause-room : goal.end_run-requires-clause-room
end_run-requires-clause-room c = c.begin.ensures.room _ _ c.requires.room
