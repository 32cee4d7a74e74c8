-- The limits that several crates speak of.
-- Carried by: the definitions and contracts that name them.
-- Tested by: `check_limits.txt`, `data_limits.txt`, `body_limits.txt`, `too_many.txt`.
use Rattle.std.specs.Prelude.{ℕ, ◌≤◌}

-- how many bytes the text of a JDF, of data or of a trace may have: 16 MiB
abbrev pub most_bytes : ℕ
most_bytes = 16777216

-- how many tokens a JDF may have
abbrev pub most_tokens : ℕ
most_tokens = 1000000

-- how many classes a JDF may have
abbrev pub most_classes : ℕ
most_classes = 64

-- how many parameters a class may have
abbrev pub most_params : ℕ
most_params = 8

-- how many definitions a class may have; each defines one local of a task
abbrev pub most_locals : ℕ
most_locals = 16

-- how many flows a class may have
abbrev pub most_flows : ℕ
most_flows = 8

-- how many dependences a flow may have
abbrev pub most_dependences : ℕ
most_dependences = 16

-- how many variables a body may declare
abbrev pub most_variables : ℕ
most_variables = 256

-- how many types of tiles there may be, including DEFAULT
abbrev pub most_types : ℕ
most_types = 16

-- how many types of tiles the data may name besides DEFAULT
abbrev pub most_named_types : ℕ
most_named_types = 15

-- how many tiles a collection may have
abbrev pub most_tiles : ℕ
most_tiles = 65536

-- how many elements a tile may have
abbrev pub most_tile_elements : ℕ
most_tile_elements = 4096

-- how many elements the tiles of all collections may have together
abbrev pub most_elements : ℕ
most_elements = 16777216

-- how many tasks a job may have
abbrev pub most_tasks : ℕ
most_tasks = 1000000

-- how many lists of the first locals of tasks a walk over the tasks may meet
abbrev pub most_prefixes : ℕ
most_prefixes = 16000000

-- how many in edges the tasks of a job may have in all, and how many out edges and write-backs together
abbrev pub most_edges : ℕ
most_edges = 4000000

-- the greatest weight of a task on a heaviest chain
abbrev pub most_weight : ℕ
most_weight = 1000000

-- how many workers a run may have
abbrev pub most_workers : ℕ
most_workers = 64

-- how many shards the table of a run may have
abbrev pub most_shards : ℕ
most_shards = 256

-- a run may have this many workers
abbrev pub IsWorkerCount : ℕ → Type 0
IsWorkerCount n = (1 ≤ n) × (n ≤ most_workers)

-- the table of a run may have this many shards
abbrev pub IsShardCount : ℕ → Type 0
IsShardCount n = (1 ≤ n) × (n ≤ most_shards)

-- a run may have this many workers (the first number), and its table this many shards (the second)
abbrev pub AreRunCounts : ℕ → ℕ → Type 0
AreRunCounts workers shards = IsWorkerCount workers × IsShardCount shards

-- how many ranks a world may have
abbrev pub most_ranks : ℕ
most_ranks = 64

-- a world may have this many ranks
abbrev pub IsRankCount : ℕ → Type 0
IsRankCount n = (1 ≤ n) × (n ≤ most_ranks)

-- how many workers a run has by default
abbrev pub usual_workers : ℕ
usual_workers = 4

-- how many shards the table of a run has by default
abbrev pub usual_shards : ℕ
usual_shards = 16

-- how many bytes a preload may take: 2^30
abbrev pub most_preload_bytes : ℕ
most_preload_bytes = 1073741824

-- how many rows of tiles a made job may have
abbrev pub most_rows : ℕ
most_rows = 96

-- the greatest number that a JDF and its data may have: 2^63 - 1
abbrev pub most_number : ℕ
most_number = 9223372036854775807
