use Rattle.std.proofs.Common.{◌≡◌, [], set, get_or, drop, w64, to_z, of_z, rules, sym, ◌∙◌, ap, arith, Some, None, option_map}
use Rattle.std.proofs.lemmas.List.{get_or-drop, length-drop}
use Rattle.csv.specs.Records.{fields_of}
use Rattle.data_read.specs.Fields.{whole, without_blanks}
use Rattle.data_read.specs.Draft.{opened}
use Rattle.data_read.proofs.Values.{opening_first, opening_more, opening_last, no_numbers}
use Rattle.data_read.proofs.tiles.opened_tile.Goals as goal

pub loop-k-init : goal.loop-k-init
loop-k-init c = opening_first c.args.elements c.in_ok-tile.tile c.in_ok-tile.ensures

pub returns-in_default : goal.returns-in_default
returns-in_default c =
    let fields = fields_of c.args.fields.now in
    let values = drop c.args.first fields in
    let size = length-drop c.args.first fields in
    let same = ap without_blanks (get_or-drop c.args.first fields c.loop-k.k []) in
    let none : whole (without_blanks (get_or values c.loop-k.k [])) ≡ None = ap whole (same ∙ sym c.field.ensures) ∙ sym c.whole.ensures ∙ c.in_default.is in
    sym (ap (option_map (opened c.args.elements)) (no_numbers values c.loop-k.k (omega (arith, size, c.loop-k-test.true, c.len.ensures)) none))

pub loop-k-preserved : goal.loop-k-preserved
loop-k-preserved c =
    let fields = fields_of c.args.fields.now in
    let values = drop c.args.first fields in
    let size = length-drop c.args.first fields in
    let same = ap without_blanks (get_or-drop c.args.first fields c.loop-k.k []) in
    let one : whole (without_blanks (get_or values c.loop-k.k [])) ≡ Some c.in-Some.value =
    ap whole (same ∙ sym c.field.ensures) ∙ sym c.whole.ensures ∙ c.in-Some.is in
    let kept : to_z w64 (of_z w64 c.in-Some.value) ≡ c.in-Some.value = search rules in
    opening_more c.args.elements values c.loop-k.k c.in-Some.value c.loop-k.tile c.set.new.self
    (omega (arith, size, c.loop-k-test.true, c.len.ensures)) (omega (arith, size, c.requires.at_most))
    c.loop-k.invariant one (c.set.ensures ∙ ap (λ y. set c.loop-k.tile c.loop-k.k y) kept)

pub returns : goal.returns
returns c =
    let fields = fields_of c.args.fields.now in
    let size = length-drop c.args.first fields in
    opening_last c.args.elements (drop c.args.first fields) c.loop-k.tile c.loop-k.k c.loop-k.invariant
    (omega (arith, size, c.loop-k-test.false, c.len.ensures))
