use Rattle.top_laws.proofs.Settings.{seeds_change_nothing, shards_change_nothing, workers_change_nothing}
use Rattle.top_laws.proofs.laws.settings_change_nothing_else.Goals as goal

pub returns-clause-shards : goal.returns-clause-shards
returns-clause-shards c = shards_change_nothing

pub returns-clause-workers : goal.returns-clause-workers
returns-clause-workers c = workers_change_nothing

pub returns-clause-seeds : goal.returns-clause-seeds
returns-clause-seeds c = seeds_change_nothing
