-- The records that a reader has still to read.
use Rattle.std.specs.Prelude.{◌≡◌, ℕ, ◌+◌, ⊤, Bool, true, false, List, [], ◌∷◌, length, Option, Some}
use Rattle.std.specs.Bool.{MatchBool}
use denote.Ref.{Bor}
use Rattle.csv.specs.Machine.{ends_at_end}
use Rattle.csv.specs.Reading.{Ready, default_config, is_flexible, reader_config, reader_state, reader_trim, records_from, source_of}
use Rattle.csv.specs.declared.error.ErrorKind.{ErrorKind}
use Rattle.csv.specs.declared.error.ErrorKind.TheVariants as kind
use Rattle.csv.specs.declared.reader.Reader.{Reader}
use Rattle.csv.specs.declared.reader.Trim.TheVariants as trim

-- the bytes of a slice that are still to be read
abbrev pub bytes_of : Bor (List ℕ) → Option (List ℕ)
bytes_of slice = Some slice.now

-- the reader is between two records of a text, and these are the records that are left, each with any number of fields
pub record HasRecords (reader : Reader (Bor (List ℕ))) (records : List (List (List ℕ))) : Type 0 where
  pub untrimmed : reader_trim reader ≡ trim.None
  pub ready : Ready reader
  pub flexible : is_flexible reader ≡ true
  pub config : reader_config reader ≡ default_config
  pub rest : List ℕ
  pub source : source_of bytes_of reader ≡ Some rest
  pub between : ends_at_end (reader_state reader) ≡ false
  pub records_are : records ≡ records_from default_config (length rest + 1) (reader_state reader) rest

-- either there was no record, or these fields were the next one and the reader has the records after it
abbrev pub NextRecord : List (List (List ℕ)) → Bool → List (List ℕ) → Reader (Bor (List ℕ)) → Type 0
NextRecord records found fields reader =
    MatchBool found ((rest : List (List (List ℕ))) × (records ≡ fields ∷ rest) × HasRecords reader rest) (records ≡ [])

-- a record was not read because of the reader underneath or of memory
abbrev pub IsOfReading : ErrorKind → Type 0
IsOfReading (kind.Io e) = ⊤
IsOfReading kind.OutOfMemory = ⊤
IsOfReading (kind.UnequalLengths pos expected len) = ⊥
IsOfReading (kind.Utf8 pos err) = ⊥
IsOfReading (kind.Serialize text) = ⊥
IsOfReading (kind.Deserialize pos err) = ⊥
