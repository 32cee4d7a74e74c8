-- If no record has a fault, reading them one after another makes the data of all of them, and conversely.
use Rattle.std.proofs.Common.{◌≡◌, ℕ, ◌+◌, List, [], ◌∷◌, ◌++◌, length, Result, Ok, Err, refl, sym, ◌∙◌, ap, subst, arith, append_assoc}
use Rattle.std.proofs.lemmas.List.{append-nil}
use Rattle.coll_data.specs.Data.{Data}
use Rattle.coll_data.specs.declared.fault.DataFault.{DataFault}
use Rattle.data_read.specs.Draft.{Draft, begun, data_after}
use Rattle.data_read.specs.Records.{first_record, later_record}
use Rattle.data_read.specs.Reading.{all_records, as_data, data_of, later_records, records_of, then_at}
use Rattle.data_laws.specs.WholeRecords.{Record, data_of_records}
use Rattle.data_laws.specs.WholeTexts.{NoneFits, AreByRecords}
use Rattle.data_laws.proofs.FirstCodes.{no_code, no_fault}
use Rattle.data_read.proofs.CallerLemmas.{no_value}
use Rattle.data_laws.proofs.OneMore.{AreOrdered, one_more}
use Rattle.list_lemmas.proofs.Options.{by_result, same_Ok}

none_ordered : (elems : ℕ) → AreOrdered elems []
none_ordered elems = record { known = tt; named = tt; apart = tt }

-- the record has no fault after these data
abbrev Fits : Draft → Record → Type 0
Fits d fields = (next : Draft) × (later_record d fields ≡ Ok next)

-- no remaining record has a fault after the data of those before it
abbrev RestFits : ℕ → List Record → List Record → Type 0
RestFits elems records rest = (before after : List Record) (fields : Record) → rest ≡ before ++ fields ∷ after
    → Fits (data_of_records elems (records ++ before)) fields

record AreWalked (elems : ℕ) (records rest : List Record) (d : Draft) : Type 0 where
  is : d ≡ data_of_records elems (records ++ rest)
  fit : RestFits elems records rest

no_cut : (before after : List Record) (fields : Record) → ◌≡◌ {A = List Record} [] (before ++ fields ∷ after) → ⊥
no_cut [] after fields e = cc
no_cut (b ∷ bs) after fields e = cc

first_fits : (elems : ℕ) (records rest : List Record) (r : Record) (next : Draft)
    → later_record (data_of_records elems records) r ≡ Ok next → RestFits elems (records ++ r ∷ []) rest
    → RestFits elems records (r ∷ rest)
first_fits elems records rest r next is fit [] after fields cut =
    let same : r ≡ fields = cc in
    let here : Fits (data_of_records elems records) fields = (next, ap (later_record (data_of_records elems records)) (sym same) ∙ is) in
    subst (λ (b : List Record). Fits (data_of_records elems b) fields) (sym (append-nil records)) here
first_fits elems records rest r next is fit (b ∷ bs) after fields cut =
    let same : r ≡ b = cc in
    let left : rest ≡ bs ++ fields ∷ after = cc in
    subst (λ (c : List Record). Fits (data_of_records elems c) fields)
    (append_assoc records (r ∷ []) bs ∙ ap (λ (x : Record). records ++ x ∷ bs) same) (fit bs after fields left)

walked : (elems : ℕ) (records rest : List Record) (n : ℕ) (d : Draft) → AreOrdered elems records
    → later_records n (data_of_records elems records) rest ≡ Ok d → AreWalked elems records rest d
walked elems records [] n d ordered is = record {
  is = sym (same_Ok (data_of_records elems records) d is) ∙ ap (data_of_records elems) (sym (append-nil records));
  fit = λ before after fields cut. absurd (no_cut before after fields cut);
}
walked elems records (r ∷ rest) n d ordered is =
    by_result (later_record (data_of_records elems records) r)
    (λ next h.
    let one = one_more elems records r next ordered h in
    let later = walked elems (records ++ r ∷ []) rest (n + 1) d one.ordered (ap (λ (b : Draft). later_records (n + 1) b rest) (sym one.is) ∙ rw h at is) in
    record {
      is = later.is ∙ ap (data_of_records elems) (append_assoc records (r ∷ []) rest);
      fit = first_fits elems records rest r next h later.fit;
    })
    (λ code h. let s = rw h at is in no_value s)

walk : (elems : ℕ) (records rest : List Record) (n : ℕ) → AreOrdered elems records → RestFits elems records rest
    → later_records n (data_of_records elems records) rest ≡ Ok (data_of_records elems (records ++ rest))
walk elems records [] n ordered fit = ap (λ (b : List Record). Ok (data_of_records elems b)) (sym (append-nil records))
walk elems records (r ∷ rest) n ordered fit =
    let first = fit [] rest r refl in
    let here : later_record (data_of_records elems records) r ≡ Ok first.0 = ap
    (λ (b : List Record). later_record (data_of_records elems b) r) (sym (append-nil records)) ∙ first.1 in
    let one = one_more elems records r first.0 ordered here in
    let later = walk elems (records ++ r ∷ []) rest (n + 1) one.ordered
    (λ before after fields cut.
    subst (λ (c : List Record). Fits (data_of_records elems c) fields) (sym (append_assoc records (r ∷ []) before))
    (fit (r ∷ before) after fields (ap (λ (xs : List Record). r ∷ xs) cut))) in
    ap (λ x. then_at n x (λ next. later_records (n + 1) next rest)) here
    ∙ ap (λ (b : Draft). later_records (n + 1) b rest) one.is
    ∙ later ∙ ap (λ (b : List Record). Ok (data_of_records elems b)) (append_assoc records (r ∷ []) rest)

-- ---- all records, the first among them

-- the first record was read, with the data after all records
pub record AreRead (first : Record) (records : List Record) (d : Draft) : Type 0 where
  pub elems : ℕ
  pub is_first : first_record first ≡ Ok elems
  pub none_fits : NoneFits elems records
  pub is : d ≡ data_of_records elems records

pub are_read : (first : Record) (records : List Record) (d : Draft) → all_records (first ∷ records) ≡ Ok d → AreRead first records d
are_read first records d is =
    by_result (first_record first)
    (λ elems h.
    let all = walked elems [] records 2 d (none_ordered elems) (rw h at is) in
    record {
      elems = elems;
      is_first = h;
      none_fits = λ before after fields cut. let fit = all.fit before after fields
          cut in no_fault (data_of_records elems before) fit.0 fields fit.1;
      is = all.is;
    })
    (λ code h. let s = rw h at is in no_value s)

pub read_all : (first : Record) (records : List Record) (elems : ℕ) → first_record first ≡ Ok elems
    → NoneFits elems records → all_records (first ∷ records) ≡ Ok (data_of_records elems records)
read_all first records elems is none =
    ap (λ r. then_at 1 r (λ e. later_records 2 (begun e) records)) is ∙ walk elems [] records 2 (none_ordered elems)
    (λ before after fields cut. no_code (data_of_records elems before) fields (none before after fields cut))

-- ---- texts

with_data : (n : ℕ) (r : Result Draft DataFault) (given : Data) → as_data n r ≡ Ok given → (d : Draft) × (r ≡ Ok d) × (data_after n d ≡ given)
with_data n (Ok d) given is = (d, refl, cc)
with_data n (Err f) given is = absurd cc

count : (first : Record) (records : List Record) → length records + 1 ≡ length (first ∷ records)
count first records = omega arith

by_records : (records : List Record) (given : Data) → as_data (length records) (all_records records) ≡ Ok given
    → (first : Record) × (later : List Record) × (records ≡ first ∷ later) × AreByRecords first later given
by_records [] given is = absurd cc
by_records (first ∷ records) given is =
    let made = with_data (length (first ∷ records)) (all_records (first ∷ records)) given is in
    let read = are_read first records made.0 made.1 in
    let same : data_after (length records + 1) (data_of_records read.elems records) ≡ given =
    ap (data_after (length records + 1)) (sym read.is) ∙ ap (λ n. data_after n made.0) (count first records) ∙ made.2 in
    (first, records, refl, subst (AreByRecords first records) same (record { elems = read.is_first; none_fits = read.none_fits; data_are = refl }))

pub data_by_records : (text : List ℕ) (given : Data) → data_of text ≡ Ok given
    → (first : Record) × (records : List Record) × (records_of text ≡ first ∷ records)
    × AreByRecords first records given
data_by_records text given is = by_records (records_of text) given is

records_make : (first : Record) (records : List Record) (given : Data) → AreByRecords first records given
    → as_data (length (first ∷ records)) (all_records (first ∷ records)) ≡ Ok given
records_make first records given by =
    ap (as_data (length (first ∷ records))) (read_all first records given.elems by.elems by.none_fits)
    ∙ ap (λ (d : Data). Ok d) (ap (λ n. data_after n (data_of_records given.elems records)) (sym (count first records)) ∙ sym by.data_are)

pub records_are_data : (text : List ℕ) (given : Data) (first : Record) (records : List Record)
    → records_of text ≡ first ∷ records → AreByRecords first records given → data_of text ≡ Ok given
records_are_data text given first records are by = ap (λ rs. as_data (length rs) (all_records rs)) are ∙ records_make first records given by
