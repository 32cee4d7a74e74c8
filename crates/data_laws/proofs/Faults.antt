-- The first fault of a text.
use Rattle.std.proofs.Common.{◌≡◌, ◌⊎◌, inl, inr, ℕ, ◌+◌, List, [], ◌∷◌, ◌++◌, length, Result, Ok, Err, refl, sym, ◌∙◌, ap, arith}
use Rattle.coll_data.specs.declared.fault.DataCode.{DataCode}
use Rattle.coll_data.specs.declared.fault.DataCode.TheVariants.{NoElems}
use Rattle.coll_data.specs.declared.fault.DataFault.{DataFault}
use Rattle.data_read.specs.Draft.{Draft, begun}
use Rattle.data_read.specs.Records.{first_record, later_record}
use Rattle.data_read.specs.Reading.{all_records, as_data, data_of, later_records, records_of, then_at}
use Rattle.data_laws.specs.WholeRecords.{Record, data_of_records}
use Rattle.data_laws.specs.WholeTexts.{HasFaultAfter, HasNoRecord, IsFirstFault}
use Rattle.data_laws.proofs.FirstCodes.{code_is_fault, code_is_fault_at_start, fault_at_start_has_code, fault_has_code}
use Rattle.data_laws.proofs.AllRecords.{are_read, read_all}
use Rattle.data_read.proofs.CallerLemmas.{no_value}
use Rattle.list_lemmas.proofs.Options.{by_result, same_Ok, same_Err}

-- the fault of one of these records, numbered from `row` on
record IsLaterFault (row : ℕ) (d : Draft) (records : List Record) (fault : DataFault) : Type 0 where
  before : List Record
  fields : Record
  after : List Record
  here : records ≡ before ++ fields ∷ after
  number : fault.row ≡ row + length before
  draft : Draft
  is_draft : later_records row d before ≡ Ok draft
  has : later_record draft fields ≡ Err fault.code

later_fault : (row : ℕ) (d : Draft) (records : List Record) (fault : DataFault) → later_records row d records ≡ Err fault → IsLaterFault row d records fault
later_fault row d [] fault is = absurd cc
later_fault row d (fields ∷ records) fault is =
    by_result (later_record d fields)
    (λ next h.
    let later = later_fault (row + 1) next records fault (rw h at is) in
    let n = later.number in
    record {
      before = fields ∷ later.before;
      fields = later.fields;
      after = later.after;
      here = ap (λ rs. fields ∷ rs) later.here;
      number = omega arith;
      draft = later.draft;
      is_draft = ap (λ r. then_at row r (λ b. later_records (row + 1) b later.before)) h ∙ later.is_draft;
      has = later.has;
    })
    (λ code h.
    let same = same_Err (record { row = row; code = code }) fault (rw h at is) in
    let n : row ≡ fault.row = ap (λ (f : DataFault). f.row) same in
    record {
      before = [];
      fields = fields;
      after = records;
      here = refl;
      number = omega arith;
      draft = d;
      is_draft = refl;
      has = h ∙ ap (λ (f : DataFault). Err f.code) same;
    })

-- the data before a fault are those of the records before it
fault_after : (first : Record) (records : List Record) (fields : Record) (code : DataCode) (draft : Draft)
    → all_records (first ∷ records) ≡ Ok draft → later_record draft fields ≡ Err code
    → HasFaultAfter (first ∷ records) fields code
fault_after first records fields code draft is has =
    let read = are_read first records draft is in (
      read.elems,
      read.is_first,
      read.none_fits,
      fault_has_code (data_of_records read.elems records) fields code
          (ap (λ (d : Draft). later_record d fields) (sym read.is) ∙ has),
    )

at_first : (first : Record) (records : List Record) (fault : DataFault) → all_records (first ∷ records) ≡ Err fault → IsFirstFault (first ∷ records) fault
at_first first records fault is =
    by_result (first_record first)
    (λ elements h.
    let later = later_fault 2 (begun elements) records fault (rw h at is) in
    let n = later.number in
    record {
      before = first ∷ later.before;
      fields = later.fields;
      after = later.after;
      here = ap (λ rs. first ∷ rs) later.here;
      number = omega arith;
      has = fault_after first later.before later.fields fault.code later.draft
          (ap (λ r. then_at 1 r (λ e. later_records 2 (begun e) later.before)) h ∙ later.is_draft) later.has;
    })
    (λ code h.
    let same = same_Err (record { row = 1; code = code }) fault (rw h at is) in
    let n : 1 ≡ fault.row = ap (λ (f : DataFault). f.row) same in
    record {
      before = [];
      fields = first;
      after = records;
      here = refl;
      number = omega arith;
      has = fault_at_start_has_code first fault.code (h ∙ ap (λ (f : DataFault). Err f.code) same);
    })

no_data : (n : ℕ) (r : Result Draft DataFault) (fault : DataFault) → as_data n r ≡ Err fault → r ≡ Err fault
no_data n (Ok d) fault is = absurd cc
no_data n (Err f) fault is = ap (λ (g : DataFault). Err g) (same_Err f fault is)

in_records : (records : List Record) (fault : DataFault) → all_records records ≡ Err fault → HasNoRecord records fault ⊎ IsFirstFault records fault
in_records [] fault is = inl (refl, sym (same_Err (record { row = 1; code = NoElems }) fault is))
in_records (first ∷ records) fault is = inr (at_first first records fault is)

pub fault_is_first : (text : List ℕ) (fault : DataFault) → data_of text ≡ Err fault → HasNoRecord (records_of text) fault ⊎ IsFirstFault (records_of text) fault
fault_is_first text fault is = in_records (records_of text) fault (no_data (length (records_of text)) (all_records (records_of text)) fault is)

-- ---- the converse

later_is_fault : (row : ℕ) (d draft : Draft) (before after : List Record) (fields : Record) (code : DataCode)
    → later_records row d before ≡ Ok draft → later_record draft fields ≡ Err code
    → later_records row d (before ++ fields ∷ after) ≡ Err (record { row = row + length before; code = code })
later_is_fault row d draft [] after fields code is has =
    let same : d ≡ draft = same_Ok d draft is in
    ap (λ r. then_at row r (λ b. later_records (row + 1) b after)) (ap (λ (b : Draft). later_record b fields) same ∙ has)
    ∙ ap (λ n. Err (record { row = n; code = code })) (let n : row ≡ row + 0 = omega arith in n)
later_is_fault row d draft (r ∷ before) after fields code is has =
    by_result (later_record d r)
    (λ next h.
    let more = later_is_fault (row + 1) next draft before after fields code (rw h at is) has in
    ap (λ x. then_at row x (λ b. later_records (row + 1) b (before ++ fields ∷ after))) h ∙ more
    ∙ ap (λ n. Err (record { row = n; code = code })) (let n : row + 1 + length before ≡ row + length (r ∷ before) = omega arith in n))
    (λ code h. let s = rw h at is in no_value s)

records_are_fault : (before after : List Record) (fields : Record) (code : DataCode) → HasFaultAfter before fields code
    → all_records (before ++ fields ∷ after) ≡ Err (record { row = length before + 1; code = code })
records_are_fault [] after fields code has = ap (λ r. then_at 1 r (λ e. later_records 2 (begun e) after)) (code_is_fault_at_start fields code has)
records_are_fault (first ∷ before) after fields code has =
    let is = read_all first before has.0 has.1 has.2 in
    by_result (first_record first)
    (λ elements h.
    let more = later_is_fault 2 (begun elements) (data_of_records has.0 before) before after fields code (rw h at is)
    (code_is_fault (data_of_records has.0 before) fields code has.3) in
    ap (λ x. then_at 1 x (λ e. later_records 2 (begun e) (before ++ fields ∷ after))) h ∙ more
    ∙ ap (λ n. Err (record { row = n; code = code })) (let n : 2 + length before ≡ length (first ∷ before) + 1 = omega arith in n))
    (λ code h. let s = rw h at is in no_value s)

as_fault : (n : ℕ) (r : Result Draft DataFault) (fault : DataFault) → r ≡ Err fault → as_data n r ≡ Err fault
as_fault n r fault e = rw e refl

first_is_fault : (text : List ℕ) (fault : DataFault) → IsFirstFault (records_of text) fault → data_of text ≡ Err fault
first_is_fault text fault first =
    as_fault (length (records_of text)) (all_records (records_of text)) fault
    (ap all_records first.here ∙ records_are_fault first.before first.after first.fields fault.code first.has
    ∙ ap (λ n. Err (record { row = n; code = fault.code })) (sym first.number))

pub is_fault : (text : List ℕ) (fault : DataFault) → HasNoRecord (records_of text) fault ⊎ IsFirstFault (records_of text) fault → data_of text ≡ Err fault
is_fault text fault (inl none) =
    as_fault (length (records_of text)) (all_records (records_of text)) fault (ap all_records none.0 ∙ ap (λ (f : DataFault). Err f) (sym none.1))
is_fault text fault (inr first) = first_is_fault text fault first
