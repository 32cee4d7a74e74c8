-- The text of a data file, of any length: the data that it spells, or its first fault.
-- Carried by: `judge_texts`, `judge_data`; laws `one_verdict`, `job_laws::every_job_has_a_verdict`.
-- Tested by: `check.txt`, `check_codes.txt`.
use Rattle.std.specs.Prelude.{◌≡◌, ◌⊎◌, ℕ, ◌<◌, ◌≤◌, List, length, Ok, Err}
use Rattle.ptg_base.specs.Limits.{most_bytes}
use Rattle.coll_data.specs.Data.{Data}
use Rattle.coll_data.specs.declared.fault.DataCode.TheVariants.{TooLong}
use Rattle.coll_data.specs.declared.fault.DataFault.{DataFault}
use Rattle.data_read.specs.Reading.{data_of}

-- The text has at most 16 MiB, and its records spell these data.
pub record IsData (text : List ℕ) (given : Data) : Type 0 where
  pub bytes_at_most : length text ≤ most_bytes
  pub spelled : data_of text ≡ Ok given

-- the fault of a text of more than 16 MiB; it is at no record
abbrev pub too_long : DataFault
too_long = record { row = 0; code = TooLong }

-- the text has more than 16 MiB
pub record IsTooLong (text : List ℕ) (fault : DataFault) : Type 0 where
  pub long : most_bytes < length text
  pub fault_is : fault ≡ too_long

-- the text has at most 16 MiB, and a record of it has the first fault
pub record HasRecordFault (text : List ℕ) (fault : DataFault) : Type 0 where
  pub bytes_at_most : length text ≤ most_bytes
  pub first : data_of text ≡ Err fault

-- The first fault of the text: of its length, then of its records.
abbrev pub IsDataFault : List ℕ → DataFault → Type 0
IsDataFault text fault = IsTooLong text fault ⊎ HasRecordFault text fault
