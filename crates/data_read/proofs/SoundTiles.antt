-- Records of tiles, and so all records, keep the data so far sound.
use Rattle.std.specs.Prelude.{nat_le}
use Rattle.std.proofs.Common.{◌≡◌, ℕ, ◌+◌, ◌-◌, ◌*◌, ℤ, List, length, drop, get_or, set, slice_get, codes, bytes_eq, Option, Some, None, option_map}
use Rattle.std.proofs.Common.{Ok, refl, ◌∙◌, ap, subst, arith, length-set}
use Rattle.std.specs.List.{sum_by}
use Rattle.std.proofs.lemmas.Bool.{leb-true, and_parts}
use Rattle.std.proofs.lemmas.List.{length-drop}
use Rattle.std.proofs.lemmas.List.Sums.{sum_by-set}
use Rattle.std.proofs.lemmas.Option.{get_or_from_slice_get, slice_get_within, option_and_then_some}
use Rattle.data_read.specs.declared.growing.GrowingColl.{GrowingColl}
use Rattle.data_read.specs.Fields.{field, is_name}
use Rattle.data_read.specs.Draft.{Draft, coll_index, coll_named, with_tile}
use Rattle.data_read.specs.Records.{first_value, later_record, new_tile, tile_record}
use Rattle.data_read.proofs.Choices.{by_option, no_value}
use Rattle.data_read.proofs.Accepted.{accepted_tile}
use Rattle.data_read.proofs.Values.{length_opened, numbers_length}
use Rattle.data_read.proofs.Soundness.{HasLength, IsSound, IsSoundColl, counts_of, elements_in}
use Rattle.data_read.proofs.SoundRecords.{coll_sound, collof_sound, int_sound, type_sound}
use Rattle.list_lemmas.proofs.Truth.{by_test}
use Rattle.list_lemmas.proofs.Options.{by_result, same_Ok}
use Rattle.list_lemmas.proofs.Places.{each_at, each_set}

-- ---- tiles

tile_length : (fields : List (List ℕ)) (coll : GrowingColl) (tile : ℕ × List ℤ) → new_tile fields coll ≡ Ok tile → length tile.1 ≡ coll.elements
tile_length fields coll tile is =
    let first = first_value coll.shape.1 in
    let a = accepted_tile fields coll tile is in
    let few = leb-true (length fields - first) coll.elements
    (and_parts (nat_le 1 (length fields - first)) (nat_le (length fields - first) coll.elements) a.few).1 in
    let size : length a.values ≡ length fields - first = numbers_length (drop first fields) a.values a.are_values ∙ length-drop first fields in
    ap (λ (t : ℕ × List ℤ). length t.1) a.made ∙ length_opened coll.elements a.values (omega arith)

with_tile_sound : (d : Draft) (at : ℕ) (coll : GrowingColl) (index : ℕ) (tile : List ℤ) → IsSound d
    → slice_get d.colls at ≡ Some coll → length tile ≡ coll.elements → IsSound (with_tile d at coll index tile)
with_tile_sound d at coll index tile sound got size =
    let old = each_at (IsSoundColl (counts_of d)) d.colls at coll sound.colls got in
    let new : GrowingColl = record coll { tiles = set coll.tiles index (Some tile) } in
    let same_size : length (set coll.tiles index (Some tile)) ≡ length coll.tiles = length-set coll.tiles index (Some tile) in
    let change = sum_by-set elements_in d.colls at new coll (slice_get_within d.colls at coll got) in
    let before : elements_in (get_or d.colls at coll) ≡ elements_in coll = ap elements_in (get_or_from_slice_get d.colls at coll coll got) in
    let after : elements_in new ≡ elements_in coll = ap (λ n. n * coll.elements) same_size in
    let was = sound.total in
    record {
      types_at_most = sound.types_at_most;
      counts = sound.counts;
      colls = each_set (IsSoundColl (counts_of d)) d.colls at new sound.colls
          (record {
            datatype = old.datatype;
            elements = old.elements;
            has_tiles = old.has_tiles;
            tiles_at_most = old.tiles_at_most;
            all_tiles = same_size ∙ old.all_tiles;
            lengths = each_set (HasLength coll.elements) coll.tiles index (Some tile) old.lengths size;
          });
      total = unchanged (sum_by elements_in (set d.colls at new)) (elements_in (get_or d.colls at coll))
          (sum_by elements_in d.colls) (elements_in new) (elements_in coll) change before after ∙ was;
      at_most = sound.at_most;
    }
  where
    unchanged : (a b c d e : ℕ) → a + b ≡ c + d → b ≡ e → d ≡ e → a ≡ c
    unchanged a b c d e h j k = omega arith

pub coll_is_there : (d : Draft) (name : List ℕ) (known : ℕ × GrowingColl) → coll_named d name ≡ Some known → slice_get d.colls known.0 ≡ Some known.1
coll_is_there d name known e =
    option_and_then_some (λ at. option_map (λ (coll : GrowingColl). (at, coll)) (slice_get d.colls at)) (coll_index name d.colls) known e
    (λ at is more. there at (slice_get d.colls at) refl more)
  where
    there : (at : ℕ) (o : Option GrowingColl) → slice_get d.colls at ≡ o
        → option_map (λ (coll : GrowingColl). (at, coll)) o ≡ Some known → slice_get d.colls known.0 ≡ Some known.1
    there at None is more = absurd cc
    there at (Some coll) is more =
        let same : (at, coll) ≡ known = (let s : ◌≡◌ {A = Option (ℕ × GrowingColl)} (Some (at, coll)) (Some known) = more in cc) in
        subst (λ (k : ℕ × GrowingColl). slice_get d.colls k.0 ≡ Some k.1) same is

tile_sound : (d e : Draft) (fields : List (List ℕ)) → IsSound d → tile_record d fields ≡ Ok e → IsSound e
tile_sound d e fields sound is =
    by_test (nat_le 4 (length fields))
    (λ h. let is = rw h at is in
    by_test (is_name (field fields 1))
    (λ h. let is = rw h at is in
    by_option (coll_named d (field fields 1))
    (λ h. let s = rw h at is in no_value s)
    (λ known hk. let is = rw hk at is in
    by_result (new_tile fields known.1)
    (λ tile ht. let is = rw ht at is in
    subst IsSound (same_Ok _ _ is) (with_tile_sound d known.0 known.1 tile.0 tile.1 sound
    (coll_is_there d (field fields 1) known hk) (tile_length fields known.1 tile ht)))
    (λ code ht. let s = rw ht at is in no_value s)))
    (λ h. let s = rw h at is in no_value s))
    (λ h. let s = rw h at is in no_value s)

-- ---- any record

pub later_sound : (d e : Draft) (fields : List (List ℕ)) → IsSound d → later_record d fields ≡ Ok e → IsSound e
later_sound d e fields sound is =
    by_test (bytes_eq (field fields 0) (codes "elems"))
    (λ h. let is = rw h at is in type_sound d e fields sound is)
    (λ h. let is = rw h at is in
    by_test (bytes_eq (field fields 0) (codes "int"))
    (λ h. let is = rw h at is in int_sound d e fields sound is)
    (λ h. let is = rw h at is in
    by_test (bytes_eq (field fields 0) (codes "coll"))
    (λ h. let is = rw h at is in coll_sound d e fields sound is)
    (λ h. let is = rw h at is in
    by_test (bytes_eq (field fields 0) (codes "collof"))
    (λ h. let is = rw h at is in collof_sound d e fields sound is)
    (λ h. let is = rw h at is in
    by_test (bytes_eq (field fields 0) (codes "tile"))
    (λ h. let is = rw h at is in tile_sound d e fields sound is)
    (λ h. let is = rw h at is in
    no_value is)))))
