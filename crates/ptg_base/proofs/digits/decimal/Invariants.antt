use Rattle.std.proofs.Common.{◌≡◌, ◌≤◌, drop}
use Rattle.std.specs.List.{list_all}
use Rattle.ptg_base.specs.Decimal.{is_digit, decimal}
use Rattle.ptg_base.proofs.DecimalDigits.{continued}
use Rattle.ptg_base.proofs.digits.decimal.Given as goal

-- the value so far, continued by the digits that are left, is the number of the whole text
abbrev pub invariant-loop-byte : goal.invariant-loop-byte
invariant-loop-byte l = record {
  fits : l.value ≤ l.most;
  same : continued l.value (drop l.byte-index l.text) ≡ decimal l.text;
  digits : list_all is_digit (drop l.byte-index l.text) ≡ list_all is_digit l.text;
}
