use Rattle.std.proofs.Common.{◌≡◌, ◌+◌, drop}
use Rattle.data_read.specs.Draft.{type_among}
use Rattle.data_read.proofs.types.later_type.Given as goal

-- none of the types so far has the name
abbrev pub invariant-loop-known : goal.invariant-loop-known
invariant-loop-known l = record {
  count : l.number ≡ l.known-index + 1;
  rest : type_among l.name l.number (drop l.known-index l.types) ≡ type_among l.name 1 l.types;
}
