-- The data that a text spells are well made.
use Rattle.std.proofs.Common.{◌≡◌, ℕ, ◌+◌, List, [], ◌∷◌, Result, Ok, Err, refl, subst, length}
use Rattle.coll_data.specs.Data.{Data}
use Rattle.coll_data.specs.WellMade.{IsWellMade}
use Rattle.coll_data.specs.declared.fault.DataFault.{DataFault}
use Rattle.data_read.specs.Draft.{Draft, begun, data_after}
use Rattle.data_read.specs.Records.{first_record, later_record}
use Rattle.data_read.specs.Reading.{all_records, as_data, data_of, later_records, records_of}
use Rattle.list_lemmas.proofs.Options.{by_result, same_Ok}
use Rattle.data_read.proofs.CallerLemmas.{IsSound, begun_sound, later_sound, well_made}

later_all_sound : (row : ℕ) (d e : Draft) (rows : List (List (List ℕ))) → IsSound d → later_records row d rows ≡ Ok e → IsSound e
later_all_sound row d e [] sound is = subst IsSound (same_Ok d e is) sound
later_all_sound row d e (fields ∷ rows) sound is =
    by_result (later_record d fields) (λ next h. later_all_sound (row + 1) next e rows
    (later_sound d next fields sound h) (rw h at is)) (λ code h. absurd (let s = rw h at is in cc))

all_sound : (rows : List (List (List ℕ))) (d : Draft) → all_records rows ≡ Ok d → IsSound d
all_sound [] d is = absurd cc
all_sound (first ∷ rows) d is =
    by_result (first_record first) (λ elems h. later_all_sound 2 (begun elems) d rows (begun_sound first elems h)
    (rw h at is)) (λ code h. absurd (let s = rw h at is in cc))

made_of : (n : ℕ) (r : Result Draft DataFault) (given : Data) → as_data n r ≡ Ok given → ((d : Draft) → r ≡ Ok d → IsSound d) → IsWellMade given
made_of n (Ok d) given is sound = let same : data_after n d ≡ given = cc in subst IsWellMade same (well_made d n (sound d refl))
made_of n (Err f) given is sound = absurd cc

pub spelled_well : (text : List ℕ) (given : Data) → data_of text ≡ Ok given → IsWellMade given
spelled_well text given is = made_of (length (records_of text)) (all_records (records_of text)) given is (λ d h. all_sound (records_of text) d h)
