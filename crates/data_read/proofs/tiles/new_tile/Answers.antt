use Rattle.std.proofs.Common.{◌≡◌, ◌∙◌, ◌-◌, sym, ap, true, length, drop, option_map, to_z, of_z, w64, arith, rules, refl}
use Rattle.std.specs.Prelude.{nat_le, ◌&&◌}
use Rattle.std.proofs.lemmas.Bool.{le-leb}
use Rattle.csv.specs.Records.{fields_of}
use Rattle.data_read.specs.Draft.{opened}
use Rattle.data_read.specs.Fields.{whole}
use Rattle.data_read.specs.Records.{first_value, free_index, numbers}
use Rattle.data_read.proofs.TileSteps.{no_place}
use Rattle.data_read.proofs.tiles.new_tile.Goals as goal

pub returns-in-Err-clause-tile : goal.returns-in-Err-clause-tile
returns-in-Err-clause-tile c =
    let fields = fields_of c.args.fields.now in
    let coll = c.args.coll.now in
    let first = first_value coll.shape.1 in
    let some : nat_le 1 (length fields - first) ≡ true =
    le-leb 1 (length fields - first) (omega
    (arith, c.if-len-first.false, c.first_value-first.ensures, c.len.ensures)) in
    let most : nat_le (length fields - first) coll.elements ≡ true =
    le-leb (length fields - first) coll.elements
    (omega (arith, c.if-len-first-2.false, c.first_value-first.ensures, c.len-else-len-first.ensures)) in
    let few : (nat_le 1 (length fields - first) && nat_le (length fields - first) coll.elements) ≡ true = rw (some, most) refl in
    let i = c.in-Some.i in
    let j = c.in-Some-column.j in
    let i_fits : to_z w64 (of_z w64 i) ≡ i = search rules in
    let j_fits : to_z w64 (of_z w64 j) ≡ j = search rules in
    let values = ap (λ n. option_map (opened coll.elements) (numbers (drop n fields)))
    (sym c.first_value-first.ensures) ∙ sym c.in_ok-tile.ensures ∙ c.in-Some-2.is in
    let place = ap (λ x. free_index coll x j) (sym i_fits)
    ∙ ap (free_index coll (to_z w64 (of_z w64 i))) (sym j_fits) ∙ sym c.free_index.ensures.index
    ∙ c.in-Err.is in
    no_place fields coll i j c.in-Some-2.tile c.in-Err.code few
    (ap whole (sym c.field.ensures) ∙ sym c.whole.ensures ∙ c.in-Some.is)
    (sym c.column.ensures ∙ c.in-Some-column.is) values place
