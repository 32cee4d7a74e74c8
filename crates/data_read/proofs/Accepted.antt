-- What the fields of an accepted collection and of an accepted tile spell, test by test.
use Rattle.std.specs.Prelude.{◌&&◌, nat_le}
use Rattle.std.proofs.Common.{◌≡◌, ℕ, ◌+◌, ◌-◌, ◌*◌, ℤ, true, List, length, drop, Option, Some, Ok, sym}
use Rattle.coll_data.specs.Tiles.{tile_count}
use Rattle.data_read.specs.Fields.{field, whole}
use Rattle.data_read.specs.Draft.{Draft, GrowingColl, opened, type_named}
use Rattle.data_read.specs.Records.{AskedColl, asked_coll, column, columns, first_value, free_index, new_tile, numbers, shape_of}
use Rattle.data_read.proofs.Choices.{by_option, no_value}
use Rattle.list_lemmas.proofs.Truth.{by_test}
use Rattle.list_lemmas.proofs.Options.{by_result, same_Ok}

-- the shape and the type that a collection asked for
pub record IsAsked (d : Draft) (type : List ℕ) (fields : List (List ℕ)) (at : ℕ) (size : AskedColl) : Type 0 where
  pub known : ℕ × ℕ
  pub rows : ℤ
  pub cols : Option ℤ
  pub shape : ℕ × Option ℕ
  pub is_type : type_named d type ≡ Some known
  pub are_rows : whole (field fields at) ≡ Some rows
  pub are_columns : columns fields (at + 1) ≡ Some cols
  pub is_shape : shape_of rows cols ≡ Some shape
  pub room : nat_le (d.elements + tile_count shape.0 shape.1 * known.1) 16777216 ≡ true
  pub made : size ≡ record { shape = shape; datatype = known.0; elements = known.1 }

pub asked : (d : Draft) (type : List ℕ) (fields : List (List ℕ)) (at : ℕ) (size : AskedColl)
    → asked_coll d type fields at ≡ Ok size → IsAsked d type fields at size
asked d type fields at size is =
    by_option (type_named d type)
    (λ h. let s = rw h at is in no_value s)
    (λ known hk. let is = rw hk at is in
    by_option (whole (field fields at))
    (λ h. let s = rw h at is in no_value s)
    (λ rs hr. let is = rw hr at is in
    by_option (columns fields (at + 1))
    (λ h. let s = rw h at is in no_value s)
    (λ cs hc. let is = rw hc at is in
    by_option (shape_of rs cs)
    (λ h. let s = rw h at is in no_value s)
    (λ shape hs. let is = rw hs at is in
    by_test (nat_le (d.elements + tile_count shape.0 shape.1 * known.1) 16777216)
    (λ h. let is = rw h at is in
    record {
      known = known;
      rows = rs;
      cols = cs;
      shape = shape;
      is_type = hk;
      are_rows = hr;
      are_columns = hc;
      is_shape = hs;
      room = h;
      made = sym (same_Ok (record { shape = shape; datatype = known.0; elements = known.1 }) size is);
    })
    (λ h. let s = rw h at is in no_value s)))))

-- the index and the tile of a record
pub record IsNewTile (fields : List (List ℕ)) (coll : GrowingColl) (tile : ℕ × List ℤ) : Type 0 where
  pub row : ℤ
  pub col : ℤ
  pub values : List ℤ
  pub index : ℕ
  pub few : (nat_le 1 (length fields - first_value coll.shape.1) && nat_le (length fields - first_value coll.shape.1) coll.elements) ≡ true
  pub is_row : whole (field fields 2) ≡ Some row
  pub is_column : column coll.shape.1 fields ≡ Some col
  pub are_values : numbers (drop (first_value coll.shape.1) fields) ≡ Some values
  pub is_free : free_index coll row col ≡ Ok index
  pub made : tile ≡ (index, opened coll.elements values)

pub accepted_tile : (fields : List (List ℕ)) (coll : GrowingColl) (tile : ℕ × List ℤ) → new_tile fields coll ≡ Ok tile → IsNewTile fields coll tile
accepted_tile fields coll tile is =
    let first = first_value coll.shape.1 in
    by_test (nat_le 1 (length fields - first) && nat_le (length fields - first) coll.elements)
    (λ ht. let is = rw ht at is in
    by_option (whole (field fields 2))
    (λ h. let s = rw h at is in no_value s)
    (λ i hi. let is = rw hi at is in
    by_option (column coll.shape.1 fields)
    (λ h. let s = rw h at is in no_value s)
    (λ j hj. let is = rw hj at is in
    by_option (numbers (drop first fields))
    (λ h. let s = rw h at is in no_value s)
    (λ values hv. let is = rw hv at is in
    by_result (free_index coll i j)
    (λ index hn. let is = rw hn at is in
    record {
      row = i;
      col = j;
      values = values;
      index = index;
      few = ht;
      is_row = hi;
      is_column = hj;
      are_values = hv;
      is_free = hn;
      made = sym (same_Ok (index, opened coll.elements values) tile is);
    })
    (λ code hn. let s = rw hn at is in no_value s)))))
    (λ h. let s = rw h at is in no_value s)
