-- The tables of globals after one more integer or collection of the data.
use Rattle.std.proofs.Common.{◌≡◌, ℕ, ℤ, ◌+◌, ◌<◌, Bool, true, false, cond, not, List, [], ◌∷◌, ◌++◌, length, take, get_or, Some, None, is_some}
use Rattle.std.proofs.Common.{if◌then◌else◌, bytes_eq, refl, sym, ◌∙◌, ap}
use Rattle.std.specs.Option.{option_or}
use Rattle.std.specs.List.{position}
use Rattle.name_table.specs.Names.{has_name, value_named}
use Rattle.coll_data.specs.declared.coll.Coll.{Coll}
use Rattle.type_rules.specs.Names.{coll_is}
use Rattle.type_check.specs.Globals.{with_value}
use Rattle.type_check.proofs.Tables.{if_named, table_step, table_skip, value_more, position_more}
use Rattle.list_lemmas.proofs.Texts.{bytes_eq-sym}

-- a choice by a test is the opposite choice by its negation
pub by_not : {A : Type 0} (b : Bool) (x y : A) → (if b then x else y) ≡ (if not b then y else x)
by_not true x y = refl
by_not false x y = refl

-- what adding a name leaves
pub added_name : (names u : List (List ℕ)) (name x : List ℕ) (new : Bool) → new ≡ not (has_name names name)
    → u ≡ (if new then names ++ name ∷ [] else names) → name ≡ x
    → u ≡ (if has_name names x then names else names ++ x ∷ [])
added_name names u name x new e s n =
    s ∙ (ap (λ b. if b then names ++ name ∷ [] else names) e
    ∙ (ap (λ m. if not (has_name names m) then names ++ m ∷ [] else names) n ∙ sym (by_not (has_name names x) names (names ++ x ∷ []))))

-- what adding a name and its value leaves
pub added_value : {V : Type 0} (table u : List (List ℕ × V)) (name : List ℕ) (x : List ℕ × V) (new : Bool)
    → new ≡ not (is_some (value_named table name)) → u ≡ (if new then table ++ (name, x.1) ∷ [] else table)
    → name ≡ x.0
    → u ≡ with_value table x
added_value {V} table u name x new e s n =
    s ∙ (ap (λ m. if new then table ++ (m, x.1) ∷ [] else table) n ∙ go (is_some (value_named table x.0)) (e ∙ ap (λ m. not (is_some (value_named table m))) n))
  where
    go : (b : Bool) → new ≡ not b → (if new then table ++ x ∷ [] else table) ≡ (if b then table else table ++ x ∷ [])
    go true h = ap (λ c. if c then table ++ x ∷ [] else table) h
    go false h = ap (λ c. if c then table ++ x ∷ [] else table) h

-- the values of the integers, after one that is declared and after one that is not
ints_more : (xs : List (List ℕ × ℤ)) (i : ℕ) (d : List ℕ × ℤ) → i < length xs → d ≡ get_or xs i d → (n : List ℕ)
    → value_named (take (i + 1) xs) n ≡ option_or (value_named (take i xs) n) (if_named d.0 d.1 n)
ints_more xs i d lt at n = value_more xs i d n lt ∙ ap (λ (y : List ℕ × ℤ). option_or (value_named (take i xs) n) (if_named y.0 y.1 n)) (sym at)

pub ints_step : (declared : List ℕ → Bool) (xs : List (List ℕ × ℤ)) (i : ℕ) (d : List ℕ × ℤ)
    (table after : List (List ℕ × ℤ)) → i < length xs → d ≡ get_or xs i d → declared d.0 ≡ true
    → ((n : List ℕ) → value_named table n ≡ cond (declared n) (value_named (take i xs) n) None)
    → after ≡ with_value table d
    → (n : List ℕ) → value_named after n ≡ cond (declared n) (value_named (take (i + 1) xs) n) None
ints_step declared xs i d table after lt at given tables s n =
    table_step declared (value_named (take i xs)) (value_named (take (i + 1) xs)) table after d.0 d.1
    (not (is_some (value_named table d.0))) tables (ints_more xs i d lt at) given
    refl (s ∙ by_not (is_some (value_named table d.0)) table (table ++ d ∷ [])) n

pub ints_skip : (declared : List ℕ → Bool) (xs : List (List ℕ × ℤ)) (i : ℕ) (d : List ℕ × ℤ)
    (table : List (List ℕ × ℤ)) → i < length xs → d ≡ get_or xs i d → declared d.0 ≡ false
    → ((n : List ℕ) → value_named table n ≡ cond (declared n) (value_named (take i xs) n) None)
    → (n : List ℕ) → value_named table n ≡ cond (declared n) (value_named (take (i + 1) xs) n) None
ints_skip declared xs i d table lt at other tables n =
    table_skip declared (value_named (take i xs)) (value_named (take (i + 1) xs)) table d.0 d.1 tables
    (ints_more xs i d lt at) other n

-- the numbers of the collections, after one that is declared and after one that is not
numbers_more : (xs : List Coll) (i : ℕ) (d : Coll) → i < length xs → d ≡ get_or xs i d → (n : List ℕ)
    → position (coll_is n) (take (i + 1) xs) ≡ option_or (position (coll_is n) (take i xs)) (if_named d.name i n)
numbers_more xs i d lt at n =
    position_more (coll_is n) xs i d lt
    ∙ (ap (λ (y : Coll). option_or (position (coll_is n) (take i xs)) (cond (bytes_eq y.name n) (Some i) None)) (sym at)
    ∙ ap (λ b. option_or (position (coll_is n) (take i xs)) (cond b (Some i) None)) (bytes_eq-sym d.name n))

pub numbers_step : (declared : List ℕ → Bool) (xs : List Coll) (i : ℕ) (d : Coll) (table after : List (List ℕ × ℕ))
    → i < length xs → d ≡ get_or xs i d → declared d.name ≡ true
    → ((n : List ℕ) → value_named table n ≡ cond (declared n) (position (coll_is n) (take i xs)) None)
    → after ≡ with_value table (d.name, i)
    → (n : List ℕ) → value_named after n ≡ cond (declared n) (position (coll_is n) (take (i + 1) xs)) None
numbers_step declared xs i d table after lt at given tables s n =
    table_step declared (λ m. position (coll_is m) (take i xs)) (λ m. position (coll_is m) (take (i + 1) xs)) table
    after d.name i (not (is_some (value_named table d.name))) tables
    (numbers_more xs i d lt at) given refl (s ∙ by_not (is_some (value_named table d.name)) table (table ++ (d.name, i) ∷ [])) n

pub numbers_skip : (declared : List ℕ → Bool) (xs : List Coll) (i : ℕ) (d : Coll) (table : List (List ℕ × ℕ))
    → i < length xs → d ≡ get_or xs i d → declared d.name ≡ false
    → ((n : List ℕ) → value_named table n ≡ cond (declared n) (position (coll_is n) (take i xs)) None)
    → (n : List ℕ) → value_named table n ≡ cond (declared n) (position (coll_is n) (take (i + 1) xs)) None
numbers_skip declared xs i d table lt at other tables n =
    table_skip declared (λ m. position (coll_is m) (take i xs)) (λ m. position (coll_is m) (take (i + 1) xs)) table
    d.name i tables (numbers_more xs i d lt at) other n
