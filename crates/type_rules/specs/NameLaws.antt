-- A law of names that are given twice.
use Rattle.std.specs.Prelude.{◌≡◌, List, [], map, IsTrue}
use Rattle.std.specs.Str.{bytes_eq}
use Rattle.ptg_base.specs.Lists.{are_distinct}
use Rattle.type_rules.specs.TreesAndFaults.{JdfCode, Word}
use Rattle.type_rules.specs.Repeats.{repeats}

-- If no word of a list is given twice, the words are distinct names.
abbrev pub NamesAreDistinct : Type 0
NamesAreDistinct =
    (code : JdfCode) (words : List Word) → repeats (λ (w : Word). w) code words ≡ []
    → IsTrue (are_distinct bytes_eq (map (λ (w : Word). w.text) words))
