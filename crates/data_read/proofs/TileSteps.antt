-- The record of a tile, step by step.
use Rattle.std.specs.Prelude.{nat_le, ◌&&◌, ◌-◌, drop, option_map}
use Rattle.std.proofs.Common.{◌≡◌, ℕ, ◌<◌, ℤ, true, List, length, get_or, set, slice_get, Option, Some, Ok, Err, refl, sym, ◌∙◌, ap}
use Rattle.std.proofs.lemmas.Option.{slice_get_read, same_Some}
use Rattle.std.specs.List.{list_any}
use Rattle.coll_data.specs.declared.fault.DataCode.{DataCode}
use Rattle.data_read.specs.declared.growing.GrowingColl.{GrowingColl}
use Rattle.data_read.specs.declared.growing.Known.{Known}
use Rattle.data_read.specs.Fields.{field, is_name, whole}
use Rattle.data_read.specs.Draft.{Draft, coll_index, opened, with_tile}
use Rattle.data_read.specs.Growing.{coll_or_int, meaning}
use Rattle.ptg_base.specs.Returns.{and_then}
use Rattle.data_read.specs.Records.{column, first_value, free_index, new_tile, numbers, tile_record}
use Rattle.data_read.proofs.Choices.{by_option}
use Rattle.data_read.proofs.Meanings.{index_set, of_int}

pub tile_step : (d : Draft) (fields : List (List ℕ)) (name : List ℕ) (at : ℕ) (coll : GrowingColl)
    → nat_le 4 (length fields) ≡ true → is_name (field fields 1) ≡ true → name ≡ field fields 1
    → coll_index name d.colls ≡ Some at → slice_get d.colls at ≡ Some coll
    → tile_record d fields ≡ and_then (new_tile fields coll) (λ tile. Ok (with_tile d at coll tile.0 tile.1))
tile_step d fields name at coll enough named is_field index got =
    let here : coll_index (field fields 1) d.colls ≡ Some at = ap (λ (n : List ℕ). coll_index n d.colls) (sym is_field) ∙ index in
    rw (enough, named, here, got) refl

-- two reads of one index return one value
pub same_read : (colls : List GrowingColl) (at : ℕ) (a b : GrowingColl) → at < length colls → a ≡ get_or colls at a → b ≡ get_or colls at b → a ≡ b
same_read colls at a b within is_a is_b =
    same_Some a b (sym (slice_get_read colls (length colls) at a refl within is_a)
    ∙ slice_get_read colls (length colls) at b refl within is_b)

-- a tile changes no name
pub tile_keyed : (ints : List (List ℕ × ℤ)) (colls : List GrowingColl) (at : ℕ) (coll lent : GrowingColl)
    (n : List ℕ) (known : Option Known) → coll.name ≡ lent.name → lent ≡ get_or colls at lent
    → known ≡ meaning ints colls n → known ≡ meaning ints (set colls at coll) n
tile_keyed ints colls at coll lent n known named is was =
    was ∙ ap (λ o. coll_or_int o (list_any (of_int n) ints)) (sym (index_set n colls at coll lent (named ∙ ap (λ (c : GrowingColl). c.name) is)))

-- the fault of a tile's place
pub no_place : (fields : List (List ℕ)) (coll : GrowingColl) (i j : ℤ) (tile : List ℤ) (code : DataCode)
    → (nat_le 1 (length fields - first_value coll.shape.1) && nat_le (length fields - first_value coll.shape.1) coll.elements) ≡ true
    → whole (field fields 2) ≡ Some i → column coll.shape.1 fields ≡ Some j
    → option_map (opened coll.elements) (numbers (drop (first_value coll.shape.1) fields)) ≡ Some tile
    → free_index coll i j ≡ Err code → new_tile fields coll ≡ Err code
no_place fields coll i j tile code few hi hj ht hf =
    by_option (numbers (drop (first_value coll.shape.1) fields))
    (λ h. absurd (let s = rw h at ht in cc))
    (λ values h. rw (few, hi, hj, h, hf) refl)
