-- The data so far, and what the remaining records make of them.
use Rattle.std.proofs.Common.{◌≡◌, ℕ, ◌+◌, ◌-◌, Bool, true, false, List, [], ◌∷◌, length, Result, Ok, Err, refl, sym, ◌∙◌, ap, subst, arith}
use denote.Ref.{Bor}
use Rattle.csv.specs.declared.reader.Reader.{Reader}
use Rattle.coll_data.specs.WellMade.{IsWellMade}
use Rattle.coll_data.specs.declared.fault.DataCode.{DataCode}
use Rattle.coll_data.specs.declared.fault.DataCode.TheVariants.{NoElems}
use Rattle.coll_data.specs.declared.fault.DataFault.{DataFault}
use Rattle.data_read.specs.Draft.{Draft, begun, data_after}
use Rattle.data_read.specs.Records.{first_record, later_record}
use Rattle.data_read.specs.Reading.{all_records, as_data, later_records, then_at}
use Rattle.ptg_base.specs.declared.refusal.Refusal.{Refusal}
use Rattle.ptg_base.specs.declared.refusal.Refusal.TheVariants.{Fault, OutOfMemory}
use Rattle.data_read.specs.Growing.{refusal_at}
use Rattle.ptg_base.specs.Returns.{ReturnsRefusal}
use Rattle.data_read.specs.RecordsLeft.{HasRecords, NextRecord}
use Rattle.data_read.proofs.Choices.{no_value}
use Rattle.data_read.proofs.Soundness.{IsSound, well_made}
use Rattle.data_read.proofs.SoundRecords.{begun_sound}
use Rattle.data_read.proofs.SoundTiles.{later_sound}
use Rattle.list_lemmas.proofs.Options.{by_result}

abbrev Records : Type 0
Records = List (List (List ℕ))

abbrev SliceReader : Type 0
SliceReader = Reader (Bor (List ℕ))

-- Records are added to the draft `first` from the second on. The record numbered `row` is next, and the remaining ones
-- make of the draft so far what all of them make.
pub record AddedSoFar (records : Records) (first : Draft) (row : ℕ) (d : Draft) (reader : SliceReader) : Type 0 where
  pub left : Records
  pub has : HasRecords reader left
  pub rest : later_records 2 first records ≡ later_records row d left
  pub count : length records + 2 ≡ row + length left

one_more : (records : Records) (fields : List (List ℕ)) (reader : SliceReader) (found : Bool)
    → NextRecord records found fields reader → found ≡ true
    → (rest : Records) × (records ≡ fields ∷ rest) × HasRecords reader rest
one_more records fields reader true next e = next
one_more records fields reader false next e = absurd cc

no_more : (records : Records) (fields : List (List ℕ)) (reader : SliceReader) (found : Bool)
    → NextRecord records found fields reader → found ≡ false → records ≡ []
no_more records fields reader true next e = absurd cc
no_more records fields reader false next e = next

-- records that are added to sound data keep them sound
all_sound : (records : Records) (row : ℕ) (d after : Draft) → IsSound d → later_records row d records ≡ Ok after → IsSound after
all_sound [] row d after sound is = subst IsSound (let same : d ≡ after = cc in same) sound
all_sound (fields ∷ records) row d after sound is =
    by_result (later_record d fields)
    (λ next h. let is = rw h at is in all_sound records (row + 1) next after (later_sound d next fields sound h) is)
    (λ code h. let s = rw h at is in no_value s)

as_fault : (n : ℕ) (row : ℕ) (code : DataCode) (r : Result Draft DataFault)
    → r ≡ Err (record { row = row; code = code }) → as_data n r ≡ Err (record { row = row; code = code })
as_fault n row code r e = rw e refl

-- ---- the first record

pub no_record : (records : Records) (fields : List (List ℕ)) (reader : SliceReader) (found : Bool)
    → NextRecord records found fields reader → found ≡ false
    → as_data (length records) (all_records records) ≡ Err (record { row = 1; code = NoElems })
no_record records fields reader found next e =
    as_fault (length records) 1 NoElems (all_records records)
    (ap all_records (no_more records fields reader found next e))

module _ (records : Records) (fields : List (List ℕ)) (reader : SliceReader) (found : Bool)
    (next : NextRecord records found fields reader) (e : found ≡ true) where
  pub first_fault : (code : DataCode) → first_record fields ≡ Err code → as_data (length records) (all_records records) ≡ Err (record { row = 1; code = code })
  first_fault code is =
      let more = one_more records fields reader found next e in
      as_fault (length records) 1 code (all_records records)
      (ap all_records more.1 ∙ ap (λ r. then_at 1 r (λ elements. later_records 2 (begun elements) more.0)) is)

  later_of : (elems : ℕ) (d : Draft) → first_record fields ≡ Ok elems → d ≡ begun elems → (left : Records)
      → records ≡ fields ∷ left → all_records records ≡ later_records 2 d left
  later_of elems d is begins left more =
      ap all_records more ∙ ap (λ r. then_at 1 r (λ elements. later_records 2 (begun elements) left)) is
      ∙ ap (λ (b : Draft). later_records 2 b left) (sym begins)

  -- the records after the first, given what adding them returned
  module _ (elems : ℕ) (d : Draft) (is : first_record fields ≡ Ok elems) (begins : d ≡ begun elems) where
    pub later_left : (left : Records) × (records ≡ fields ∷ left) × HasRecords reader left
    later_left = one_more records fields reader found next e

    pub whole_at_end : (after : Draft) (count : ℕ) → later_records 2 d later_left.0 ≡ Ok after → IsWellMade (data_after count after)
    whole_at_end after count ends =
        well_made after count (all_sound later_left.0 2 d after (subst IsSound (sym begins) (begun_sound fields elems is)) ends)

    pub at_end : (after : Draft) (count : ℕ) → later_records 2 d later_left.0 ≡ Ok after
        → count ≡ length later_left.0 + 1
        → as_data (length records) (all_records records) ≡ Ok (data_after count after)
    at_end after count ends number =
        let size : length records ≡ length later_left.0 + 1 = ap length later_left.1 ∙ omega arith in
        ap (as_data (length records)) (later_of elems d is begins later_left.0 later_left.1 ∙ ends) ∙ ap (λ k. Ok (data_after k after)) (size ∙ sym number)

    pub refused_later : (refusal : Refusal DataFault) → ReturnsRefusal refusal (later_records 2 d later_left.0)
        → ReturnsRefusal refusal (as_data (length records) (all_records records))
    refused_later OutOfMemory ends = tt
    refused_later (Fault fault) ends = ap (as_data (length records)) (later_of elems d is begins later_left.0 later_left.1 ∙ ends)

-- ---- a later record

pub begins : (records : Records) (first : Draft) (reader : SliceReader) → HasRecords reader records → AddedSoFar records first 2 first reader
begins records first reader has = record { left = records; has = has; rest = refl; count = omega arith }

module _ (records : Records) (first : Draft) (row : ℕ) (d : Draft) (old : SliceReader)
    (far : AddedSoFar records first row d old) (fields : List (List ℕ)) (reader : SliceReader) (found : Bool)
    (next : NextRecord far.left found fields reader) where
  pub all_added : found ≡ false → (later_records 2 first records ≡ Ok d) × (row - 1 ≡ length records + 1)
  all_added e =
      let none = no_more far.left fields reader found next e in
      let size : length far.left ≡ 0 = ap length none in
      let count = far.count in
      (far.rest ∙ ap (later_records row d) none, omega arith)

  later_fault : (code : DataCode) → found ≡ true → later_record d fields ≡ Err code → later_records 2 first records ≡ Err (record { row = row; code = code })
  later_fault code e is =
      let more = one_more far.left fields reader found next e in
      far.rest ∙ ap (later_records row d) more.1 ∙ ap (λ r. then_at row r (λ b. later_records (row + 1) b more.0)) is

  pub later_refusal : (refusal : Refusal DataCode) → found ≡ true → ReturnsRefusal refusal (later_record d fields)
      → ReturnsRefusal (refusal_at row refusal) (later_records 2 first records)
  later_refusal OutOfMemory e is = tt
  later_refusal (Fault code) e is = later_fault code e is

  pub went_on : (after : Draft) → found ≡ true → later_record d fields ≡ Ok after → AddedSoFar records first (row + 1) after reader
  went_on after e is =
      let more = one_more far.left fields reader found next e in
      let size : length far.left ≡ length (fields ∷ more.0) = ap length more.1 in
      let count = far.count in
      record {
        left = more.0;
        has = more.2;
        rest = far.rest ∙ ap (later_records row d) more.1 ∙ ap (λ r. then_at row r (λ b. later_records (row + 1) b more.0)) is;
        count = omega arith;
      }
