-- What clap keeps of the words agrees with their parts: each option occurs at most once, and the positionals are the
-- operands.
use Rattle.std.proofs.Common.{◌≡◌, ℕ, zero, suc, Bool, true, false, not, cond, ◌&&◌, ◌||◌, List, [], ◌∷◌, ◌++◌, length, map, Option, Some, None}
use Rattle.std.proofs.Common.{is_some, refl, sym, ap, ◌∙◌, subst, arith, codes}
use Rattle.std.specs.Prelude.{find, option_map, slice_get, nat_le}
use Rattle.std.specs.List.{list_any, list_all}
use Rattle.std.specs.Str.{bytes_eq}
use Rattle.clap.specs.Walk.{Row, Text, has_row}
use Rattle.ptg_words.specs.Parts.{NumberOption, Part, name_of, workers, shards, operand, given, lacking, preload, stray, operands, texts_of}
use Rattle.ptg_words.specs.Parts.{is_preload, is_lacking, is_stray, is_named, has_twice}
use Rattle.std.proofs.lemmas.Bool.Decides.{nat_tests}
use Rattle.ptg_words.proofs.ClapUses.{Use, use_row, fresh}
use Rattle.ptg_words.proofs.ClapStates.{good, uses}
use Rattle.list_lemmas.proofs.Truth.{second_false, first_false, or-false}
use Rattle.list_lemmas.proofs.Texts.{bytes_eq-self}

-- whether no id occurs twice
abbrev pub distinct : List Use → Bool
distinct [] = true
distinct (u ∷ us) = not (list_any (λ v. bytes_eq u.0 v.0) us) && distinct us

has_more : (id : Text) (rows : List Row) (u : Use) → has_row id (rows ++ use_row u ∷ []) ≡ (has_row id rows || bytes_eq u.0 id)
has_more id [] u = or-false (bytes_eq u.0 id)
has_more id (r ∷ rs) u = go (bytes_eq r.id id) (has_more id rs u)
  where
    go : (b : Bool) → has_row id (rs ++ use_row u ∷ []) ≡ (has_row id rs || bytes_eq u.0 id)
        → (b || has_row id (rs ++ use_row u ∷ [])) ≡ ((b || has_row id rs) || bytes_eq u.0 id)
    go true e = refl
    go false e = e

none_more : (us : List Use) (rows : List Row) (u : Use)
    → list_all (λ (v : Use). not (has_row v.0 (rows ++ use_row u ∷ []))) us
    ≡ (list_all (λ (v : Use). not (has_row v.0 rows)) us && not (list_any (λ (v : Use). bytes_eq u.0 v.0) us))
none_more [] rows u = refl
none_more (v ∷ vs) rows u =
    ap (λ b. not b && list_all (λ (v : Use). not (has_row v.0 (rows ++ use_row u ∷ []))) vs) (has_more v.0 rows u)
    ∙ ap (λ b. not (has_row v.0 rows || bytes_eq u.0 v.0) && b) (none_more vs rows u)
    ∙ go (has_row v.0 rows) (bytes_eq u.0 v.0) (list_all (λ (v : Use). not (has_row v.0 rows)) vs) (list_any (λ (v : Use). bytes_eq u.0 v.0) vs)
  where
    go : (a b x y : Bool) → (not (a || b) && (x && not y)) ≡ ((not a && x) && not (b || y))
    go true b x y = refl
    go false true true y = refl
    go false true false y = refl
    go false false x y = refl

fresh_is : (us : List Use) (rows : List Row) → fresh rows us ≡ (list_all (λ (u : Use). not (has_row u.0 rows)) us && distinct us)
fresh_is [] rows = refl
fresh_is (u ∷ us) rows =
    ap (λ b. not (has_row u.0 rows) && b) (fresh_is us (rows ++ use_row u ∷ []) ∙ ap (λ b. b && distinct us) (none_more us rows u))
    ∙ go (not (has_row u.0 rows)) (list_all (λ (v : Use). not (has_row v.0 rows)) us) (not (list_any (λ (v : Use). bytes_eq u.0 v.0) us)) (distinct us)
  where
    go : (a x y d : Bool) → (a && ((x && y) && d)) ≡ ((a && x) && (y && d))
    go false x y d = refl
    go true false y d = refl
    go true true y d = refl

no_rows : (us : List Use) → list_all (λ (u : Use). not (has_row u.0 [])) us ≡ true
no_rows [] = refl
no_rows (u ∷ us) = no_rows us

pub fresh_first : (us : List Use) → fresh [] us ≡ distinct us
fresh_first us = fresh_is us [] ∙ ap (λ b. b && distinct us) (no_rows us)

-- the ids of positionals differ from each other and from the names of options
abbrev pub Apart : List Text → Type 0
Apart [] = Unit {0}
Apart (i ∷ is) = ((s : NumberOption) → (bytes_eq (name_of s) i ≡ false) × (bytes_eq i (name_of s) ≡ false)) × (bytes_eq (codes "preload") i ≡ false)
    × (bytes_eq i (codes "preload") ≡ false) × (list_any (bytes_eq i) is ≡ false) × Apart is

-- no positional has this name as its id
abbrev pub IsOptionName : List Text → Text → Type 0
IsOptionName [] name = Unit {0}
IsOptionName (i ∷ is) name = (bytes_eq name i ≡ false) × IsOptionName is name

not_later : (i : Text) → ((s : NumberOption) → bytes_eq i (name_of s) ≡ false) → bytes_eq i (codes "preload") ≡ false
    → (is : List Text) (ps : List Part) → list_any (bytes_eq i) is ≡ false → list_any (λ (v : Use). bytes_eq i v.0) (uses is ps) ≡ false
not_later i a b is [] e = refl
not_later i a b [] (operand w ∷ ps) e = not_later i a b [] ps e
not_later i a b (j ∷ js) (operand w ∷ ps) e = go (bytes_eq i j) refl (not_later i a b js ps (second_false (bytes_eq i j) _ e))
  where
    go : (t : Bool) → bytes_eq i j ≡ t → list_any (λ (v : Use). bytes_eq i v.0) (uses js ps) ≡ false
        → (bytes_eq i j || list_any (λ (v : Use). bytes_eq i v.0) (uses js ps)) ≡ false
    go false t r = rw t r
    go true t r = let bad : true ≡ false = sym (rw t refl) ∙ e in absurd cc
not_later i a b is (given s t ∷ ps) e = rw (a s) (not_later i a b is ps e)
not_later i a b is (lacking s ∷ ps) e = not_later i a b is ps e
not_later i a b is (preload ∷ ps) e = rw b (not_later i a b is ps e)
not_later i a b is (stray ∷ ps) e = not_later i a b is ps e

names_any : (name : Text) (ids : List Text) (ps : List Part) → IsOptionName ids name → good ids ps ≡ true
    → list_any (λ (v : Use). bytes_eq name v.0) (uses ids ps) ≡ list_any (is_named name) ps
names_any name ids [] o g = refl
names_any name [] (operand w ∷ ps) o g = let bad : false ≡ true = g in absurd cc
names_any name (i ∷ is) (operand w ∷ ps) o g = rw (o.0) (names_any name is ps o.1 g)
names_any name ids (given s t ∷ ps) o g = ap (λ b. bytes_eq name (name_of s) || b) (names_any name ids ps o g)
names_any name ids (lacking s ∷ ps) o g = let bad : false ≡ true = g in absurd cc
names_any name ids (preload ∷ ps) o g = ap (λ b. bytes_eq name (codes "preload") || b) (names_any name ids ps o g)
names_any name ids (stray ∷ ps) o g = let bad : false ≡ true = g in absurd cc

number_option_name : (s : NumberOption) (ids : List Text) → Apart ids → IsOptionName ids (name_of s)
number_option_name s [] a = tt
number_option_name s (i ∷ is) a = ((a.0 s).0, number_option_name s is a.4)

preload_name : (ids : List Text) → Apart ids → IsOptionName ids (codes "preload")
preload_name [] a = tt
preload_name (i ∷ is) a = (a.1, preload_name is a.4)

not_or : (a b : Bool) → (not a && not b) ≡ not (a || b)
not_or true b = refl
not_or false b = refl

distinct_is : (ids : List Text) (ps : List Part) → Apart ids → good ids ps ≡ true → distinct (uses ids ps) ≡ not (has_twice ps)
distinct_is ids [] a g = refl
distinct_is [] (operand w ∷ ps) a g = let bad : false ≡ true = g in absurd cc
distinct_is (i ∷ is) (operand w ∷ ps) a g = rw (not_later i (λ s. (a.0 s).1) a.2 is ps a.3) (distinct_is is ps a.4 g)
distinct_is ids (given s t ∷ ps) a g =
    ap (λ b. not b && distinct (uses ids ps)) (names_any (name_of s) ids ps (number_option_name s ids a) g)
    ∙ ap (λ b. not (list_any (is_named (name_of s)) ps) && b) (distinct_is ids ps a g) ∙ not_or _ _
distinct_is ids (lacking s ∷ ps) a g = let bad : false ≡ true = g in absurd cc
distinct_is ids (preload ∷ ps) a g =
    ap (λ b. not b && distinct (uses ids ps)) (names_any (codes "preload") ids ps (preload_name ids a) g)
    ∙ ap (λ b. not (list_any (is_named (codes "preload")) ps) && b) (distinct_is ids ps a g) ∙ not_or _ _
distinct_is ids (stray ∷ ps) a g = let bad : false ≡ true = g in absurd cc

pub fresh_once : (ids : List Text) (ps : List Part) → Apart ids → good ids ps ≡ true → fresh [] (uses ids ps) ≡ not (has_twice ps)
fresh_once ids ps a g = fresh_first (uses ids ps) ∙ distinct_is ids ps a g

-- the first value of an id in these uses, if there is one
abbrev pub value_in : Text → List Use → Option Text
value_in id us = option_map (λ u. u.1) (find (λ u. bytes_eq u.0 id) us)

-- no positional's id is the name of an option
pub free_at : (ids : List Text) (k : ℕ) (id : Text) → Apart ids → slice_get ids k ≡ Some id
    → ((s : NumberOption) → bytes_eq (name_of s) id ≡ false) × (bytes_eq (codes "preload") id ≡ false)
free_at [] k id a e = absurd cc
free_at (i ∷ is) zero id a e = let here : i ≡ id = cc in
    subst (λ (x : Text). ((s : NumberOption) → bytes_eq (name_of s) x ≡ false)
    × (bytes_eq (codes "preload") x ≡ false)) here ((λ s. (a.0 s).0), a.1)
free_at (i ∷ is) (suc k) id a e = free_at is k id a.4 e

differs_at : (i : Text) (ids : List Text) (k : ℕ) (id : Text) → list_any (bytes_eq i) ids ≡ false → slice_get ids k ≡ Some id → bytes_eq i id ≡ false
differs_at i [] k id d e = absurd cc
differs_at i (j ∷ js) zero id d e = let here : j ≡ id = cc in ap (bytes_eq i) (sym here) ∙ first_false (bytes_eq i j) _ d
differs_at i (j ∷ js) (suc k) id d e = differs_at i js k id (second_false (bytes_eq i j) _ d) e

-- each operand is the first value of its id
pub operand_at : (ids : List Text) (ps : List Part) (k : ℕ) (id : Text) → Apart ids → slice_get ids k ≡ Some id
    → value_in id (uses ids ps) ≡ slice_get (operands ps) k
operand_at ids [] k id a e = refl
operand_at [] (operand w ∷ ps) k id a e = absurd cc
operand_at (i ∷ is) (operand w ∷ ps) zero id a e = let here : i ≡ id = cc in rw (ap (bytes_eq i) (sym here) ∙ bytes_eq-self i) refl
operand_at (i ∷ is) (operand w ∷ ps) (suc k) id a e = rw (differs_at i is k id a.3 e) (operand_at is ps k id a.4 e)
operand_at ids (given s t ∷ ps) k id a e = rw ((free_at ids k id a e).0 s) (operand_at ids ps k id a e)
operand_at ids (lacking s ∷ ps) k id a e = operand_at ids ps k id a e
operand_at ids (preload ∷ ps) k id a e = rw ((free_at ids k id a e).1) (operand_at ids ps k id a e)
operand_at ids (stray ∷ ps) k id a e = operand_at ids ps k id a e

zero_le : (n : ℕ) → nat_le 0 n ≡ true
zero_le n = grind (arith, nat_tests)

none_below : (n : ℕ) → nat_le (suc n) 0 ≡ false
none_below n = grind (arith, nat_tests)

le_suc : (a b : ℕ) (t : Bool) → nat_le a b ≡ t → nat_le (suc a) (suc b) ≡ t
le_suc a b true e = grind (arith, nat_tests)
le_suc a b false e = grind (arith, nat_tests)

both_more : (a b : ℕ) → nat_le (suc a) (suc b) ≡ nat_le a b
both_more a b = le_suc a b (nat_le a b) refl

-- so all ids have a value if and only if there are at least as many operands
pub all_there : (ids ops : List Text) (g : Text → Option Text) → ((k : ℕ) (id : Text) → slice_get ids k ≡ Some id → g id ≡ slice_get ops k)
    → list_all (λ i. is_some (g i)) ids ≡ nat_le (length ids) (length ops)
all_there [] ops g at = sym (zero_le (length ops))
all_there (i ∷ is) [] g at = rw (at 0 i refl, none_below (length is)) refl
all_there (i ∷ is) (w ∷ ws) g at =
    ap (λ o. is_some o && list_all (λ j. is_some (g j)) is) (at 0 i refl)
    ∙ all_there is ws g (λ k id e. at (suc k) id e) ∙ sym (both_more (length is) (length ws))

-- and the values are the operands if there are as many
pub all_values : (ids ops : List Text) (g : Text → Option Text) → length ops ≡ length ids
    → ((k : ℕ) (id : Text) → slice_get ids k ≡ Some id → g id ≡ slice_get ops k)
    → map g ids ≡ map Some ops
all_values [] [] g n at = refl
all_values [] (w ∷ ws) g n at = absurd (omega (arith, n))
all_values (i ∷ is) [] g n at = absurd (omega (arith, n))
all_values (i ∷ is) (w ∷ ws) g n at =
    let rest = all_values is ws g (omega (arith, n)) (λ k id e. at (suc k) id e) in
    let first : g i ≡ Some w = at 0 i refl in cc

-- no id in the list is the name
abbrev pub NoneIs : Text → List Text → Type 0
NoneIs name [] = Unit {0}
NoneIs name (i ∷ is) = (bytes_eq i name ≡ false) × NoneIs name is

pub number_option_value : (s : NumberOption) (ids : List Text) (ps : List Part) → NoneIs (name_of s) ids
    → value_in (name_of s) (uses ids ps) ≡ slice_get (texts_of s ps) 0
number_option_value s ids [] h = refl
number_option_value s [] (operand w ∷ ps) h = number_option_value s [] ps h
number_option_value s (i ∷ is) (operand w ∷ ps) h = rw (h.0) (number_option_value s is ps h.1)
number_option_value workers ids (given workers t ∷ ps) h = refl
number_option_value workers ids (given shards t ∷ ps) h = number_option_value workers ids ps h
number_option_value shards ids (given workers t ∷ ps) h = number_option_value shards ids ps h
number_option_value shards ids (given shards t ∷ ps) h = refl
number_option_value s ids (lacking t ∷ ps) h = number_option_value s ids ps h
number_option_value workers ids (preload ∷ ps) h = number_option_value workers ids ps h
number_option_value shards ids (preload ∷ ps) h = number_option_value shards ids ps h
number_option_value s ids (stray ∷ ps) h = number_option_value s ids ps h

pub preload_value : (ids : List Text) (ps : List Part) → NoneIs (codes "preload") ids
    → value_in (codes "preload") (uses ids ps) ≡ cond (list_any is_preload ps) (Some (codes "true")) None
preload_value ids [] h = refl
preload_value [] (operand w ∷ ps) h = preload_value [] ps h
preload_value (i ∷ is) (operand w ∷ ps) h = rw (h.0) (preload_value is ps h.1)
preload_value ids (given workers t ∷ ps) h = preload_value ids ps h
preload_value ids (given shards t ∷ ps) h = preload_value ids ps h
preload_value ids (lacking t ∷ ps) h = preload_value ids ps h
preload_value ids (preload ∷ ps) h = refl
preload_value ids (stray ∷ ps) h = preload_value ids ps h

both_false : (a b : Bool) → false ≡ (not a && (not b && false))
both_false true b = refl
both_false false true = refl
both_false false false = refl

-- `good`, stated by counts: no part is stray or lacking, and there are no more operands than positionals
pub good_is : (ids : List Text) (ps : List Part)
    → good ids ps ≡ (not (list_any is_stray ps) && (not (list_any is_lacking ps) && nat_le (length (operands ps)) (length ids)))
good_is ids [] = sym (zero_le (length ids))
good_is [] (operand w ∷ ps) = rw (none_below (length (operands ps))) (both_false (list_any is_stray ps) (list_any is_lacking ps))
good_is (i ∷ is) (operand w ∷ ps) = good_is is ps
    ∙ ap (λ b. not (list_any is_stray ps) && (not (list_any is_lacking ps) && b))
    (sym (both_more (length (operands ps)) (length is)))
good_is ids (given s t ∷ ps) = good_is ids ps
good_is ids (lacking s ∷ ps) = go (list_any is_stray ps)
  where
    go : (a : Bool) → false ≡ (not a && false)
    go true = refl
    go false = refl
good_is ids (preload ∷ ps) = good_is ids ps
good_is ids (stray ∷ ps) = refl
