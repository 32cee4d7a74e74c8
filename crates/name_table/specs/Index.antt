-- An index of names: which bucket has the number of a name, and which names are in the map of those that found no room.
-- Carried by: `NameTable`.
-- Tested by: `data_codes.txt`, `body_names.txt`.
use Rattle.std.specs.Prelude.{◌≡◌, ℕ, ◌+◌, ◌*◌, ◌^◌, ◌%◌, Bool, false, ◌&&◌, cond, List, [], ◌∷◌, length, Option, Some, None, nat_eq, nat_lt, ◌-◌}
use Rattle.std.specs.Prelude.{slice_get, slice_index_or}
use Rattle.std.specs.BTreeMap.{get}
use Rattle.std.specs.Cmp.Lexicographic.{slice_cmp}
use Rattle.std.specs.Ordering.{nat_cmp}
use Rattle.std.specs.Str.{bytes_eq}
use Rattle.std.specs.Option.{option_or, option_map_or}
use Rattle.ptg_base.specs.Decimal.{is_digit}
use Rattle.name_table.specs.declared.index.Index.{Index}
use Rattle.name_table.specs.declared.bucket.Slot.{Slot}

-- a number with one more byte mixed into it: digits are appended in decimal, so that names that end in consecutive
-- numbers of equally many digits get consecutive numbers
unfoldable pub with_byte : ℕ → ℕ → ℕ
with_byte m b =
    cond (is_digit b) (((m * 10) % 2 ^ 64 + (b - 48)) % 2 ^ 64)
    (((m + b) % 2 ^ 64 * 11400714819323198485) % 2 ^ 64)

-- a number with these bytes mixed into it
abbrev pub mixed_from : ℕ → List ℕ → ℕ
mixed_from m [] = m
mixed_from m (b ∷ bs) = mixed_from (with_byte m b) bs

-- the hash of a name
unfoldable pub mixed : List ℕ → ℕ
mixed name = mixed_from 0 name

-- the mark of a name, which tells most names of a bucket apart
abbrev pub mark_of : List ℕ → ℕ
mark_of name = mixed name % 2 ^ 32

-- the number of the name's bucket among this many
abbrev pub bucket_of : ℕ → List ℕ → ℕ
bucket_of count name = mixed name % count

-- whether the name has this number
abbrev pub has_number : List (List ℕ) → List ℕ → ℕ → Bool
has_number names name number = option_map_or (λ (n : List ℕ). bytes_eq n name) (slice_get names number) false

-- the number of the name among the slots of a bucket, if it is there
abbrev pub in_bucket : List (List ℕ) → List ℕ → ℕ → List Slot → Option ℕ
in_bucket names name mark [] = None
in_bucket names name mark (s ∷ ss) =
    cond (nat_eq s.mark mark && has_number names name s.number) (Some s.number) (in_bucket names name mark ss)

-- how many slots a bucket has room for
abbrev pub most_slots : ℕ
most_slots = 7

-- whether a bucket has room for one more slot
abbrev pub has_room : List Slot → Bool
has_room bucket = nat_lt (length bucket) most_slots

-- the bucket of the name
abbrev pub bucket_at : List (List Slot) → List ℕ → List Slot
bucket_at buckets name = slice_index_or buckets (bucket_of (length buckets) name) []

-- the number of the name in the map, if it is there
abbrev pub among_others : Index → List ℕ → Option ℕ
among_others index name = get (slice_cmp nat_cmp) index.others name

-- what a look-up of the name finds: its number in its bucket or, if the bucket is full, in the map
abbrev pub found : List (List ℕ) → Index → List ℕ → Option ℕ
found names index name =
    option_or (in_bucket names name (mark_of name) (bucket_at index.buckets.items name))
    (cond (has_room (bucket_at index.buckets.items name)) None (among_others index name))

-- the index is that of these names: each is found with its number, and each number in the map is that of its name
pub record IsIndexOf (names : List (List ℕ)) (index : Index) : Type 0 where
  pub others : (name : List ℕ) (number : ℕ) → among_others index name ≡ Some number → slice_get names number ≡ Some name
  pub finds : (name : List ℕ) (number : ℕ) → slice_get names number ≡ Some name → found names index name ≡ Some number
