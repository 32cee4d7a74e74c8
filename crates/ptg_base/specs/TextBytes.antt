-- How a text holds its bytes.
use Rattle.std.specs.Prelude.{◌≤◌, ℕ, List, take}
use Rattle.ptg_base.specs.declared.text.Bytes.{Bytes}
use Rattle.ptg_base.specs.declared.text.Bytes.TheVariants.{Short, Long}

-- the bytes of a text: the first ones of those held in place, or those of a vector
abbrev pub bytes_of : Bytes → List ℕ
bytes_of (Short count place) = take count place
bytes_of (Long bytes) = bytes.value.items

-- the most bytes of a text that is held in place
abbrev pub most_short : ℕ
most_short = 22

-- a text held in place has no more bytes than fit there
abbrev pub FitsInPlace : Bytes → Type 0
FitsInPlace (Short count place) = count ≤ most_short
FitsInPlace (Long bytes) = Unit {0}
