-- The data and the first fault of a text, from the whole list of its records.
-- Carried by: laws `faults_are_first`, `data_are_by_records`.
use Rattle.std.specs.Prelude.{◌≡◌, ◌⊎◌, ◌↔◌, ℕ, ◌+◌, List, [], ◌∷◌, ◌++◌, length, Some, None, Ok, Err}
use Rattle.coll_data.specs.Data.{Data}
use Rattle.coll_data.specs.declared.fault.DataCode.{DataCode}
use Rattle.coll_data.specs.declared.fault.DataCode.TheVariants.{NoElems}
use Rattle.coll_data.specs.declared.fault.DataFault.{DataFault}
use Rattle.data_read.specs.Draft.{data_after}
use Rattle.data_laws.specs.Codes.{first_code, first_code_at_start}
use Rattle.data_read.specs.Records.{first_record}
use Rattle.data_read.specs.Reading.{data_of, records_of}
use Rattle.data_laws.specs.WholeRecords.{Record, data_of_records}

-- no code fits any of these records, each judged after the data of those before it
abbrev pub NoneFits : ℕ → List Record → Type 0
NoneFits elems records =
    (before after : List Record) (fields : Record) → records ≡ before ++ fields ∷ after
    → first_code (data_of_records elems before) fields ≡ None

-- the first record has the number of elements of a tile of type DEFAULT, no code fits a later one, and the data are
-- those of all records
pub record AreByRecords (first : Record) (records : List Record) (given : Data) : Type 0 where
  pub elems : first_record first ≡ Ok given.elems
  pub none_fits : NoneFits given.elems records
  pub data_are : given ≡ data_after (length records + 1) (data_of_records given.elems records)

-- A text spells data if and only if no code fits one of its records; these data are then what its records make as a
-- whole.
abbrev pub DataAreByRecords : Type 0
DataAreByRecords =
    (text : List ℕ) (given : Data) → (data_of text ≡ Ok given)
    ↔ ((first : Record) × (records : List Record) × (records_of text ≡ first ∷ records)
    × AreByRecords first records given)

-- no code fits the records before this one, and this is the first code that fits it
abbrev pub HasFaultAfter : List Record → Record → DataCode → Type 0
HasFaultAfter [] fields code = first_code_at_start fields ≡ Some code
HasFaultAfter (first ∷ records) fields code =
    (elems : ℕ) × (first_record first ≡ Ok elems) × NoneFits elems records
    × (first_code (data_of_records elems records) fields ≡ Some code)

-- the fault is of the first record that some code fits, with the first code that fits it
pub record IsFirstFault (records : List Record) (fault : DataFault) : Type 0 where
  pub before : List Record
  pub fields : Record
  pub after : List Record
  pub here : records ≡ before ++ fields ∷ after
  pub number : fault.row ≡ length before + 1
  pub has : HasFaultAfter before fields fault.code

-- there is no record, which counts as a fault of the first one
abbrev pub HasNoRecord : List Record → DataFault → Type 0
HasNoRecord records fault = (records ≡ []) × (fault ≡ record { row = 1; code = NoElems })

-- The fault of a text is that of its first record that has one, or that there is no record.
abbrev pub FaultIsFirst : Type 0
FaultIsFirst =
    (text : List ℕ) (fault : DataFault)
    → (data_of text ≡ Err fault) ↔ (HasNoRecord (records_of text) fault ⊎ IsFirstFault (records_of text) fault)
