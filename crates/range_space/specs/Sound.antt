-- Prefixes, and sound classes, in which each definition has a value under each prefix. Source: the JDF documentation;
-- that a fault is judged in walk order is this project's own choice.
-- Carried by: `space_size`.
-- Tested by: `check_codes.txt`.
use Rattle.std.specs.Prelude.{ℕ, ◌+◌, ℤ, List, [], ◌∷◌, ◌++◌, length, IsOkAnd}
use Rattle.std.specs.List.{flat_map, AllByRecursion}
use Rattle.std.specs.Result.{result_unwrap_or}
use Rattle.term_core.specs.declared.space.Def.{Def}
use Rattle.term_core.specs.declared.space.ClassSpace.{ClassSpace}
use Rattle.range_space.specs.Tasks.{def_values}

-- the prefixes that extend these values, in walk order: each value of the next definition, followed by the prefixes
-- that extend it
abbrev pub prefixes_from : List Def → List ℤ → List (List ℤ)
prefixes_from [] outer = []
prefixes_from (d ∷ ds) outer =
    flat_map (λ v. (outer ++ v ∷ []) ∷ prefixes_from ds (outer ++ v ∷ [])) (result_unwrap_or (def_values d outer) [])

-- how many prefixes the classes have
abbrev pub prefix_total : List ClassSpace → ℕ
prefix_total [] = 0
prefix_total (s ∷ ss) = length (prefixes_from s.defs []) + prefix_total ss

-- the next definition has values, and so have those after it under each value
abbrev pub IsSoundFrom : List Def → List ℤ → Type 0
IsSoundFrom [] outer = Unit {0}
IsSoundFrom (d ∷ ds) outer =
    IsOkAnd (def_values d outer) (λ vs. AllByRecursion (λ v. IsSoundFrom ds (outer ++ v ∷ [])) vs)

-- each definition of the class has a value under each prefix of the definitions before it
abbrev pub IsSound : ClassSpace → Type 0
IsSound s = IsSoundFrom s.defs []
