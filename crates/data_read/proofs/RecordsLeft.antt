-- How a read of a record changes the records that a reader has left.
use Rattle.std.specs.Prelude.{◌==◌, ◌&&◌}
use Rattle.std.proofs.Common.{◌≡◌, ℕ, zero, suc, ◌+◌, ◌<◌, ◌≤◌, Bool, true, false, cond, List, [], ◌∷◌, ◌++◌, length, Option, Some, None, refl, sym}
use Rattle.std.proofs.Common.{◌∙◌, ap, inl, arith}
use Rattle.std.proofs.lemmas.Bool.{cond-false}
use Rattle.std.proofs.lemmas.Option.{cond_some, same_Some}
use denote.Ref.{Bor}
use Rattle.csv.specs.Machine.{Read, after_end, ends_at_end, fields_after, field_after, in_field, is_end, next_record, start_field, start_record}
use Rattle.csv.specs.Machine.{step, ends_with, is_byte}
use Rattle.csv.specs.Reading.{ExplainsRead, Reached, ReadRecord, default_config, is_flexible, reader_state, records_from, records_next, took_first}
use Rattle.csv.specs.declared.error.ErrorKind.{ErrorKind}
use Rattle.csv.specs.declared.error.ErrorKind.TheVariants as kind
use Rattle.csv.specs.declared.parser.Config.{Config}
use Rattle.csv.specs.declared.parser.State.{State}
use Rattle.csv.specs.declared.parser.State.TheVariants as st
use Rattle.csv.specs.declared.parser.Action.{Action}
use Rattle.csv.specs.declared.parser.Terminator.{Terminator}
use Rattle.csv.specs.declared.parser.Terminator.TheVariants as term
use Rattle.csv.specs.declared.reader.Reader.{Reader}
use Rattle.csv.proofs.ReadFacts.{rows-end, rows-more}
use Rattle.data_read.specs.RecordsLeft.{HasRecords, IsOfReading, NextRecord, bytes_of}
use Rattle.data_read.proofs.Choices.{by_option}
use Rattle.list_lemmas.proofs.Truth.{by_test}

-- ---- a record ends between two records

-- an action that ends a record leaves a state between two records
record EndsBetween (p : State × Action) : Type 0 where
  ends : is_end p.1 ≡ true → ends_at_end p.0 ≡ false

by_either : (b : Bool) (p q : State × Action) → EndsBetween p → EndsBetween q → EndsBetween (cond b p q)
by_either true p q hp hq = hp
by_either false p q hp hq = hq

after_end_between : (t : Terminator) (c : ℕ) → ends_at_end (after_end t c) ≡ false
after_end_between term.CRLF c = elim (c == 13) as (λ b. ends_at_end (cond b st.AfterCr st.StartRecord) ≡ false) [ true ↦ refl | false ↦ refl ]
after_end_between (term.Any t) c = refl

never_ends : (s : State) (a : Action) → is_end a ≡ false → EndsBetween (s, a)
never_ends s a never = record { ends = λ is. absurd (let both : true ≡ false = sym is ∙ never in cc) }

in_field_between : (cfg : Config) (c : ℕ) → EndsBetween (in_field cfg c)
in_field_between cfg c =
    by_either (c == cfg.delimiter) _ _ (never_ends _ _ refl)
    (by_either (ends_with cfg.terminator c) _ _ (record { ends = λ is. after_end_between cfg.terminator c }) (never_ends _ _ refl))

start_field_between : (cfg : Config) (c : ℕ) → EndsBetween (start_field cfg c)
start_field_between cfg c = by_either (cfg.quoting && (c == cfg.quote)) _ _ (never_ends _ _ refl) (in_field_between cfg c)

start_record_between : (cfg : Config) (c : ℕ) → EndsBetween (start_record cfg c)
start_record_between cfg c =
    by_either (ends_with cfg.terminator c) _ _ (never_ends _ _ refl)
    (by_either (is_byte cfg.comment c) _ _ (never_ends _ _ refl) (start_field_between cfg c))

step_between : (cfg : Config) (s : State) (c : ℕ) → EndsBetween (step cfg s c)
step_between cfg st.StartRecord c = start_record_between cfg c
step_between cfg st.StartField c = start_field_between cfg c
step_between cfg st.InField c = in_field_between cfg c
step_between cfg st.InQuoted c =
    by_either (cfg.quoting && (c == cfg.quote)) _ _ (never_ends _ _ refl)
    (by_either (cfg.quoting && is_byte cfg.escape c) _ _ (never_ends _ _ refl) (never_ends _ _ refl))
step_between cfg st.InEscape c = never_ends _ _ refl
step_between cfg st.AfterQuote c =
    by_either (cfg.quoting && cfg.double_quote && (c == cfg.quote)) _ _ (never_ends _ _ refl) (in_field_between cfg c)
step_between cfg st.InComment c = by_either (c == 10) _ _ (never_ends _ _ refl) (never_ends _ _ refl)
step_between cfg st.AfterCr c = by_either (c == 10) _ _ (never_ends _ _ refl) (start_record_between cfg c)

-- ---- a record takes bytes

-- what is known of the next record of a text
record Took (xs : List ℕ) (p : Read) : Type 0 where
  between : ends_at_end p.1 ≡ false
  fewer : length p.2 ≤ length xs

took : (cfg : Config) (s : State) (fields : List (List ℕ)) (field xs : List ℕ) (p : Read) → next_record cfg s fields field xs ≡ Some p → Took xs p
unfolding next_record
took cfg s fields field [] p e =
    let q = cond_some (ends_at_end s) (fields ++ (field ∷ []), st.StartRecord, []) p e in
    record { between = ap (λ (r : Read). ends_at_end r.1) (sym q.1); fewer = (let n : length p.2 ≡ 0 = ap (λ (r : Read). length r.2) (sym q.1) in omega arith) }
took cfg s fields field (c ∷ rest) p e =
    by_test (is_end (step cfg s c).1)
    (λ h.
    let here = rw h at e in
    let same : (fields_after (step cfg s c).1 fields field, (step cfg s c).0, rest) ≡ p = same_Some _ _ here in
    record {
      between = ap (λ (r : Read). ends_at_end r.1) (sym same) ∙ (step_between cfg s c).ends h;
      fewer = (let n : length p.2 ≡ length rest = ap (λ (r : Read). length r.2) (sym same) in omega arith);
    })
    (λ h.
    let later = rw h at e in
    let more = took cfg (step cfg s c).0 (fields_after (step cfg s c).1 fields field) (field_after (step cfg s c).1 c field) rest p later in
    let few = more.fewer in
    record { between = more.between; fewer = omega arith })

-- between two records the next one takes at least a byte
took_some : (cfg : Config) (s : State) (fields : List (List ℕ)) (field xs : List ℕ) (p : Read)
    → ends_at_end s ≡ false → next_record cfg s fields field xs ≡ Some p → length p.2 < length xs
unfolding next_record
took_some cfg s fields field [] p between e =
    let none : ◌≡◌ {A = Option Read} None (Some p) =
    sym (cond-false (ends_at_end s) (Some (fields ++ (field ∷ []), st.StartRecord, [])) None between)
    ∙ e in absurd cc
took_some cfg s fields field (c ∷ rest) p between e =
    by_test (is_end (step cfg s c).1)
    (λ h.
    let here = rw h at e in
    let same : (fields_after (step cfg s c).1 fields field, (step cfg s c).0, rest) ≡ p = same_Some _ _ here in
    let n : length p.2 ≡ length rest = ap (λ (r : Read). length r.2) (sym same) in omega arith)
    (λ h.
    let later = rw h at e in
    let more = took cfg (step cfg s c).0 (fields_after (step cfg s c).1 fields field) (field_after (step cfg s c).1 c field) rest p later in
    let few = more.fewer in
    omega arith)

-- ---- the records do not depend on the bound, if it is large enough

same_records : (cfg : Config) (n m : ℕ) (s : State) (xs : List ℕ) → ends_at_end s ≡ false → length xs < n
    → length xs < m → records_from cfg n s xs ≡ records_from cfg m s xs
unfolding records_from
same_records cfg zero m s xs between h k = absurd (omega arith)
same_records cfg (suc n) zero s xs between h k = absurd (omega arith)
same_records cfg (suc n) (suc m) s xs between h k =
    by_option (next_record cfg s [] [] xs)
    (λ e. rw e refl)
    (λ p e.
    let less = took_some cfg s [] [] xs p between e in
    rw e (ap (λ records. p.0 ∷ records) (same_records cfg n m p.1 p.2 (took cfg s [] [] xs p e).between (omega arith) (omega arith))))

-- the records of a text, given its next one
records_by : (cfg : Config) (n : ℕ) (s : State) (xs : List ℕ) → records_from cfg (n + 1) s xs ≡ records_next (records_from cfg n) (next_record cfg s [] [] xs)
unfolding records_from
records_by cfg n s xs = ap (λ (k : ℕ). records_from cfg k s xs) (let more : n + 1 ≡ suc n = omega arith in more)

-- ---- one read

nothing_reached : (cfg : Config) (s : State) (xs : List ℕ) → Reached cfg s xs [] s xs
unfolding Reached
nothing_reached cfg s xs = (refl, refl)

-- one record was reached
record ReachedOne (cfg : Config) (s : State) (xs : List ℕ) (fields : List (List ℕ)) (s2 : State) (ys : List ℕ) : Type 0 where
  p : Read
  next : next_record cfg s [] [] xs ≡ Some p
  fields_are : fields ≡ p.0
  state : p.1 ≡ s2
  rest : p.2 ≡ ys

one_reached : (cfg : Config) (s : State) (xs : List ℕ) (fields : List (List ℕ)) (s2 : State) (ys : List ℕ)
    → Reached cfg s xs (fields ∷ []) s2 ys → ReachedOne cfg s xs fields s2 ys
unfolding Reached
one_reached cfg s xs fields s2 ys h = record { p = h.0; next = h.1; fields_are = h.2; state = h.3.0; rest = h.3.1 }

-- a record that was read was the next one
pub record_found : (a b : Reader (Bor (List ℕ))) (records : List (List (List ℕ))) (fields : List (List ℕ))
    → HasRecords a records → took_first b ≡ true → is_flexible b ≡ is_flexible a
    → ReadRecord bytes_of a b true fields
    → (rest : List (List (List ℕ))) × (records ≡ fields ∷ rest) × HasRecords b rest
record_found a b records fields has first same_flexible r =
    let more = rows-more bytes_of a b fields default_config (reader_state a) has.rest has.rest [] has.config
    has.source (nothing_reached default_config (reader_state a) has.rest) r in
    let z = more.0 in
    let one = one_reached default_config (reader_state a) has.rest fields (reader_state b) z more.2 in
    let less = took_some default_config (reader_state a) [] [] has.rest one.p has.between one.next in
    let end = (took default_config (reader_state a) [] [] has.rest one.p one.next).between in
    let size : length one.p.2 ≡ length z = ap length one.rest in
    let later = records_from default_config (length z + 1) (reader_state b) z in
    let same : records_from default_config (length has.rest) one.p.1 one.p.2 ≡ later =
    same_records default_config (length has.rest) (length z + 1) one.p.1 one.p.2 end less (omega arith)
    ∙ ap (λ (s : State). records_from default_config (length z + 1) s one.p.2) one.state
    ∙ ap (λ (ys : List ℕ). records_from default_config (length z + 1) (reader_state b) ys) one.rest in (
      later,
      has.records_are ∙ records_by default_config (length has.rest) (reader_state a) has.rest
          ∙ ap (records_next (records_from default_config (length has.rest))) one.next
          ∙ ap (λ fs. fs ∷ records_from default_config (length has.rest) one.p.1 one.p.2) (sym one.fields_are) ∙ ap (λ rs. fields ∷ rs) same,
      record {
        untrimmed = r.3 ∙ has.untrimmed;
        ready = inl first;
        flexible = same_flexible ∙ has.flexible;
        config = r.2 ∙ has.config;
        rest = z;
        source = more.1;
        between = ap ends_at_end (sym one.state) ∙ end;
        records_are = refl;
      },
    )

-- if no record was found, none is left
pub records_ended : (a b : Reader (Bor (List ℕ))) (records : List (List (List ℕ))) (fields : List (List ℕ))
    → HasRecords a records → ReadRecord bytes_of a b false fields → records ≡ []
records_ended a b records fields has r =
    has.records_are ∙ records_by default_config (length has.rest) (reader_state a) has.rest
    ∙ ap (records_next (records_from default_config (length has.rest))) (rows-end bytes_of a b fields default_config has.rest has.config has.source r)

-- a read of a record, whether it found one or not
pub record_read : (a b : Reader (Bor (List ℕ))) (records : List (List (List ℕ))) (found : Bool)
    (fields : List (List ℕ)) → HasRecords a records → took_first b ≡ true → is_flexible b ≡ is_flexible a
    → ReadRecord bytes_of a b found fields → NextRecord records found fields b
record_read a b records true fields has first same_flexible r = record_found a b records fields has first same_flexible r
record_read a b records false fields has first same_flexible r = records_ended a b records fields has r

-- why a read of a record failed
pub of_reading : (a b : Reader (Bor (List ℕ))) (records : List (List (List ℕ))) (error : ErrorKind)
    → HasRecords a records → ExplainsRead bytes_of a b false error → IsOfReading error
of_reading a b records (kind.Io e) has why = tt
of_reading a b records kind.OutOfMemory has why = tt
of_reading a b records (kind.UnequalLengths pos expected len) has why = absurd (let both : true ≡ false = sym has.flexible ∙ why.0 in cc)
of_reading a b records (kind.Utf8 pos err) has why = absurd (let both : false ≡ true = why.0 in cc)
of_reading a b records (kind.Serialize text) has why = absurd why
of_reading a b records (kind.Deserialize pos err) has why = absurd why
