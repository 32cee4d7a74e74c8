use Rattle.std.proofs.Common.{◌≡◌, ◌<◌, ◌∙◌, sym, refl, ap, true, set, length, Ok, Result, List, ℤ, Option, arith, ℕ}
use Rattle.std.specs.Prelude.{nat_le}
use Rattle.std.proofs.lemmas.Bool.{le-leb}
use Rattle.std.proofs.lemmas.Option.{slice_get_read}
use Rattle.std.proofs.lemmas.Result.{err_from_is_err_and}
use Rattle.coll_data.specs.declared.fault.DataCode.{DataCode}
use Rattle.csv.specs.Records.{fields_of}
use Rattle.data_read.specs.declared.growing.GrowingColl.{GrowingColl}
use Rattle.data_read.specs.Fields.{is_name}
use Rattle.data_read.specs.Draft.{with_tile}
use Rattle.data_read.specs.Growing.{draft_of}
use Rattle.ptg_base.specs.Returns.{and_then}
use Rattle.data_read.specs.Records.{new_tile}
use Rattle.ptg_base.proofs.CallerLemmas.{refuses_before}
use Rattle.data_read.proofs.TileSteps.{same_read, tile_keyed, tile_step}
use Rattle.data_read.proofs.tiles.add_tile.Goals as goal

pub returns-in_err-index-clause-step : goal.returns-in_err-index-clause-step
returns-in_err-index-clause-step c =
    let all = c.args.all.now in
    let fields = fields_of c.args.fields.now in
    let at = c.in-Some.at in
    let coll = c.index.result.now in
    let p = err_from_is_err_and c.from_residual-in_err-index.result c.from_residual-in_err-index.ensures.1 in
    let within : at < length all.colls.items = c.in-Some.ensures.within in
    let enough : nat_le 4 (length fields) ≡ true = le-leb 4 (length fields) (omega (arith, c.if-len-lt4.false, c.len.ensures)) in
    let named = ap is_name (sym c.field-bytes.ensures) ∙ sym c.is_name.ensures ∙ c.if-not-is_name.false in
    let got = slice_get_read all.colls.items (length all.colls.items) at coll refl within c.index.ensures in
    let step = tile_step (draft_of all) fields c.in_ok-name.name at coll enough named
    (c.in_ok-name.ensures ∙ c.field-bytes.ensures) (sym c.in-Some.ensures.index) got in
    rw (p.1, p.2, step) (refuses_before c.in_err-index.field-0.0 (new_tile fields coll) _ c.in_err-index.ensures.tile)

pub returns-clause-step : goal.returns-clause-step
returns-clause-step c =
    let all = c.args.all.now in
    let fields = fields_of c.args.fields.now in
    let at = c.in-Some.at in
    let coll = c.index.result.now in
    let lent = c.index_mut-coll.result.now in
    let within : at < length all.colls.items = c.in-Some.ensures.within in
    let enough : nat_le 4 (length fields) ≡ true = le-leb 4 (length fields) (omega (arith, c.if-len-lt4.false, c.len.ensures)) in
    let named = ap is_name (sym c.field-bytes.ensures) ∙ sym c.is_name.ensures ∙ c.if-not-is_name.false in
    let same = same_read all.colls.items at coll lent within c.index.ensures c.index_mut-coll.ensures.value in
    let got = slice_get_read all.colls.items (length all.colls.items) at lent refl within c.index_mut-coll.ensures.value in
    let made : new_tile fields lent ≡ Ok (c.in_ok-index.index, c.in_ok-index.tile) = ap (new_tile fields) (sym same) ∙ c.in_ok-index.ensures.tile in
    tile_step (draft_of all) fields c.in_ok-name.name at lent enough named (c.in_ok-name.ensures ∙ c.field-bytes.ensures) (sym c.in-Some.ensures.index) got
    ∙ ap (λ (r : Result (ℕ × List ℤ) DataCode). and_then r (λ tile. Ok (with_tile (draft_of all) at lent tile.0 tile.1))) made
    ∙ ap (λ (tiles : List (Option (List ℤ))). Ok (record (draft_of all) { colls = set all.colls.items at (record lent { tiles = tiles }) })) (sym c.set.ensures)

pub returns-clause-keyed : goal.returns-clause-keyed
returns-clause-keyed c = λ n.
    let all = c.args.all.now in
    let lent = c.index_mut-coll.result.now in
    let coll : GrowingColl = record { name = lent.name; shape = lent.shape; datatype = lent.datatype; elements = lent.elements; tiles = c.set.new.self } in
    tile_keyed all.ints all.colls.items c.in-Some.at coll lent n _ refl c.index_mut-coll.ensures.value (c.requires n)
