-- Look-ups of a name among names, and among pairs.
use Rattle.std.proofs.Common.{◌≡◌, ℕ, ◌+◌, Bool, true, false, ◌||◌, cond, List, [], ◌∷◌, Option, Some, None, is_some, refl, sym, ap, ◌∙◌}
use denote.Ref.{Bor}
use Rattle.std.specs.List.{list_any, position_from}
use Rattle.std.specs.Map.{keys_of}
use Rattle.std.specs.Option.{option_copied}
use Rattle.std.specs.Str.{bytes_eq}
use Rattle.std.proofs.lemmas.Iterator.Adapters.{position_from-zero}
use Rattle.name_table.specs.Names.{has_name, index_named, value_named}
use Rattle.list_lemmas.proofs.Texts.{bytes_eq-sym}

pub is_some_copied : {X : Type 0} (r : Option (Bor X)) → is_some (option_copied r) ≡ is_some r
is_some_copied (Some x) = refl
is_some_copied None = refl

-- a table has a value of the name if and only if the name is one of its names
pub has_is : {V : Type 0} (name : List ℕ) (table : List (List ℕ × V)) → is_some (value_named table name) ≡ has_name (keys_of table) name
has_is name [] = refl
has_is name (p ∷ ps) = go (bytes_eq name p.0) (bytes_eq p.0 name) (bytes_eq-sym name p.0) (has_is name ps)
  where
    go : (b d : Bool) → b ≡ d → is_some (value_named ps name) ≡ has_name (keys_of ps) name
        → is_some (cond b (Some p.1) (value_named ps name)) ≡ (d || has_name (keys_of ps) name)
    go true true e ih = refl
    go true false e ih = absurd cc
    go false true e ih = absurd cc
    go false false e ih = ih

some_from : (test : List ℕ → Bool) (k : ℕ) (names : List (List ℕ)) → is_some (position_from test k names) ≡ list_any test names
some_from test k [] = refl
some_from test k (n ∷ names) = go (test n) (some_from test (k + 1) names)
  where
    go : (b : Bool) → is_some (position_from test (k + 1) names) ≡ list_any test names
        → is_some (cond b (Some k) (position_from test (k + 1) names)) ≡ (b || list_any test names)
    go true ih = refl
    go false ih = ih

-- a name has an index if and only if it is one of the names
pub found_is : (name : List ℕ) (names : List (List ℕ)) → is_some (index_named names name) ≡ has_name names name
found_is name names = ap is_some (position_from-zero (λ (n : List ℕ). bytes_eq n name) names) ∙ some_from (λ (n : List ℕ). bytes_eq n name) 0 names

-- a table has a value of the name if and only if the name has an index among its names
pub value_is_named : {V : Type 0} (name : List ℕ) (table : List (List ℕ × V)) → is_some (value_named table name) ≡ is_some (index_named (keys_of table) name)
value_is_named name table = has_is name table ∙ sym (found_is name (keys_of table))
