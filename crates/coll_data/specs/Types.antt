-- The types of tiles, and the name of type 0.
-- Carried by: `data_read::read_data`.
-- Tested by: `data_forms.txt`, `jobs.txt`.
use Rattle.std.specs.Prelude.{ℕ, List, codes}

-- the name of type 0
abbrev pub default_type : List ℕ
default_type = codes "DEFAULT"
