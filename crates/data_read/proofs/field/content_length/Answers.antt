use Rattle.std.proofs.Common.{◌≡◌, ◌<◌, ◌+◌, ◌-◌, length, take, get_or, arith, rules, true, false, refl}
use Rattle.std.proofs.lemmas.List.{length-take, take_all, take_more}
use Rattle.data_read.specs.Fields.{is_blank, content_length}
use Rattle.data_read.proofs.Blanks.{last_content, last_blank}
use Rattle.data_read.proofs.field.content_length.Goals as goal

pub bytes-init : goal.bytes-init
bytes-init c = rw (take_all (length c.args.bytes.now - 0) c.args.bytes.now (omega arith)) refl

pub bytes-preserved : goal.bytes-preserved
bytes-preserved c =
    let f = c.args.bytes.now in
    let k = c.bytes.k in
    let lt : (length f - k) - 1 < length f = omega (arith, c.bytes-test.true) in
    let n : length f - k ≡ ((length f - k) - 1) + 1 = omega (arith, c.bytes-test.true) in
    let m : length f - (k + 1) ≡ (length f - k) - 1 = omega arith in
    let w : is_blank (get_or f ((length f - k) - 1) 0) ≡ true = search rules in
    let inv = rw (n, take_more f ((length f - k) - 1) 0 lt, last_blank (take ((length f - k) - 1) f) _ w) at c.bytes.invariant in
    rw m inv

pub returns-then-not-is_blank-clause-value : goal.returns-then-not-is_blank-clause-value
returns-then-not-is_blank-clause-value c =
    let f = c.args.bytes.now in
    let k = c.bytes.k in
    let lt : (length f - k) - 1 < length f = omega (arith, c.bytes-test.true) in
    let n : length f - k ≡ ((length f - k) - 1) + 1 = omega (arith, c.bytes-test.true) in
    let w : is_blank (get_or f ((length f - k) - 1) 0) ≡ false = search rules in
    let len = length-take ((length f - k) - 1) f in
    let inv = rw (n, take_more f ((length f - k) - 1) 0 lt, last_content (take ((length f - k) - 1) f) _ w) at c.bytes.invariant in
    omega (arith, inv)

pub returns-clause-value : goal.returns-clause-value
unfolding content_length
returns-clause-value c =
    let z : length c.args.bytes.now - c.bytes.k ≡ 0 = omega (arith, c.bytes-test.false) in
    rw z at c.bytes.invariant
