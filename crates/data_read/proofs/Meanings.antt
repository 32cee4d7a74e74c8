-- The meanings of names, as integers, collections and tiles are added.
use Rattle.std.proofs.Common.{◌≡◌, ℕ, zero, suc, ◌+◌, ◌<◌, ℤ, Bool, true, false, not, cond, ◌||◌, List, [], ◌∷◌, ◌++◌, length, get_or, set, Option}
use Rattle.std.proofs.Common.{Some, None, is_some, option_map, bytes_eq, refl, sym, ◌∙◌, ap, subst, inl, inr, arith}
use Rattle.std.proofs.lemmas.Bool.{cases_Bool, cond-true, cond-false, or_right}
use Rattle.std.specs.List.{list_any}
use Rattle.std.specs.Cmp.Lexicographic.{bytes_decides}
use Rattle.name_table.specs.Names.{value_named}
use Rattle.data_read.specs.declared.growing.GrowingColl.{GrowingColl}
use Rattle.data_read.specs.declared.growing.Known.{Known}
use Rattle.data_read.specs.declared.growing.Known.TheVariants.{Integer, Collection}
use Rattle.data_read.specs.Draft.{coll_index}
use Rattle.data_read.specs.Growing.{coll_or_int, meaning}
use Rattle.list_lemmas.proofs.Truth.{chosen, or-false, or-assoc}
use Rattle.list_lemmas.proofs.Options.{none_from_option_map, some_from_one_more}

abbrev pub of_int : List ℕ → List ℕ × ℤ → Bool
of_int name int = bytes_eq name int.0

-- ---- one meaning

pub by_none : (o : Option ℕ) (b : Bool) → coll_or_int o b ≡ None → (o ≡ None) × (b ≡ false)
by_none (Some at) b same = absurd cc
by_none None true same = absurd cc
by_none None false same = (refl, refl)

pub by_collection : (o : Option ℕ) (b : Bool) (at : ℕ) → coll_or_int o b ≡ Some (Collection at) → Some at ≡ o
by_collection (Some m) b at same = cc
by_collection None true at same = absurd cc
by_collection None false at same = absurd cc

-- a new name has no meaning
pub no_meaning : (o : Option ℕ) (b : Bool) → not (is_some o || b) ≡ true → coll_or_int o b ≡ None
no_meaning (Some at) b e = absurd cc
no_meaning None true e = absurd cc
no_meaning None false e = refl

-- ---- the number of a collection

pub index_within : (name : List ℕ) (colls : List GrowingColl) (at : ℕ) → coll_index name colls ≡ Some at → at < length colls
index_within name [] at e = absurd cc
index_within name (c ∷ cs) at e = elim (chosen (bytes_eq name c.name) (Some 0) (option_map (λ n. n + 1) (coll_index name cs)) (Some at) e) [
  | inl here ↦ let first : 0 ≡ at = (let same : ◌≡◌ {A = Option ℕ} (Some 0) (Some at) = here.1 in cc) in omega arith
  | inr later ↦
      let m = some_from_one_more (coll_index name cs) at later.1 in
      let within = index_within name cs m.0 m.1 in
      let next : m.0 + 1 ≡ at = m.2 in
      omega arith
]

pub index_push_other : (name : List ℕ) (colls : List GrowingColl) (coll : GrowingColl)
    → bytes_eq name coll.name ≡ false → coll_index name (colls ++ coll ∷ []) ≡ coll_index name colls
index_push_other name [] coll other = cond-false (bytes_eq name coll.name) (Some 0) None other
index_push_other name (c ∷ cs) coll other = ap (λ o. cond (bytes_eq name c.name) (Some 0) (option_map (λ n. n + 1) o)) (index_push_other name cs coll other)

pub index_push_new : (name : List ℕ) (colls : List GrowingColl) (coll : GrowingColl) → coll_index name colls ≡ None
    → bytes_eq name coll.name ≡ true → coll_index name (colls ++ coll ∷ []) ≡ Some (length colls)
index_push_new name [] coll none same = cond-true (bytes_eq name coll.name) (Some 0) None same
index_push_new name (c ∷ cs) coll none same = elim (chosen (bytes_eq name c.name) (Some 0) (option_map (λ n. n + 1) (coll_index name cs)) None none) [
  | inl here ↦ absurd (let never : ◌≡◌ {A = Option ℕ} (Some 0) None = here.1 in cc)
  | inr later ↦
      let rest = index_push_new name cs coll (none_from_option_map (λ (n : ℕ). n + 1) (coll_index name cs) later.1) same in
      let one : length cs + 1 ≡ length (c ∷ cs) = omega arith in
      cond-false (bytes_eq name c.name) (Some 0) (option_map (λ n. n + 1) (coll_index name (cs ++ coll ∷ []))) later.0
      ∙ ap (option_map (λ n. n + 1)) rest ∙ ap (λ (n : ℕ). Some n) one
]

pub index_set : (name : List ℕ) (colls : List GrowingColl) (at : ℕ) (coll d : GrowingColl)
    → coll.name ≡ (get_or colls at d).name → coll_index name (set colls at coll) ≡ coll_index name colls
index_set name [] at coll d same = refl
index_set name (c ∷ cs) zero coll d same = ap (λ (n : List ℕ). cond (bytes_eq name n) (Some 0) (option_map (λ n. n + 1) (coll_index name cs))) same
index_set name (c ∷ cs) (suc at) coll d same = ap (λ o. cond (bytes_eq name c.name) (Some 0) (option_map (λ n. n + 1) o)) (index_set name cs at coll d same)

-- ---- tables and integers with one more

pub any_push : {X : Type 0} (p : X → Bool) (xs : List X) (x : X) → list_any p (xs ++ x ∷ []) ≡ (list_any p xs || p x)
any_push p [] x = elim (p x) as (λ b. (b || false) ≡ b) [ true ↦ refl | false ↦ refl ]
any_push p (y ∷ xs) x = ap (λ t. p y || t) (any_push p xs x) ∙ sym (or-assoc (p y) (list_any p xs) (p x))

named_push_other : (name : List ℕ) (table : List (List ℕ × Known)) (entry : List ℕ × Known)
    → bytes_eq name entry.0 ≡ false → value_named (table ++ entry ∷ []) name ≡ value_named table name
named_push_other name [] entry other = cond-false (bytes_eq name entry.0) (Some entry.1) None other
named_push_other name (e ∷ es) entry other = ap (λ o. cond (bytes_eq name e.0) (Some e.1) o) (named_push_other name es entry other)

named_push_new : (name : List ℕ) (table : List (List ℕ × Known)) (entry : List ℕ × Known)
    → value_named table name ≡ None → bytes_eq name entry.0 ≡ true
    → value_named (table ++ entry ∷ []) name ≡ Some entry.1
named_push_new name [] entry none same = cond-true (bytes_eq name entry.0) (Some entry.1) None same
named_push_new name (e ∷ es) entry none same = elim (chosen (bytes_eq name e.0) (Some e.1) (value_named es name) None none) [
  | inl here ↦ absurd (let never : ◌≡◌ {A = Option Known} (Some e.1) None = here.1 in cc)
  | inr later ↦ cond-false (bytes_eq name e.0) (Some e.1) (value_named (es ++ entry ∷ []) name) later.0 ∙ named_push_new name es entry later.1 same
]

-- ---- the table keeps the names

module _ (ints : List (List ℕ × ℤ)) (colls : List GrowingColl) (table : List (List ℕ × Known)) (was : (n : List ℕ) → value_named table n ≡ meaning ints colls n)
    (name : List ℕ) (new : meaning ints colls name ≡ None) where
  none_at : (n : List ℕ) → bytes_eq n name ≡ true → meaning ints colls n ≡ None
  none_at n here = let it : n ≡ name = (bytes_decides n name).0 here in subst (λ (m : List ℕ). meaning ints colls m ≡ None) (sym it) new

  int_added : (int : List ℕ × ℤ) (n : List ℕ) → int.0 ≡ name → value_named (table ++ (name, Integer) ∷ []) n ≡ meaning (ints ++ int ∷ []) colls n
  int_added int n named = elim (cases_Bool (bytes_eq n name)) [
    | inl here ↦
        let none = none_at n here in
        let parts = by_none (coll_index n colls) (list_any (of_int n) ints) none in
        let any : list_any (of_int n) (ints ++ int ∷ []) ≡ true =
        any_push (of_int n) ints int ∙ ap (λ t. list_any (of_int n) ints || t) (ap (bytes_eq n) named ∙ here) ∙ or_right (list_any (of_int n) ints) true refl in
        named_push_new n table (name, Integer) (was n ∙ none) here ∙ ap (λ b. coll_or_int None b) (sym any)
        ∙ ap (λ o. coll_or_int o (list_any (of_int n) (ints ++ int ∷ []))) (sym parts.0)
    | inr other ↦
        let any : list_any (of_int n) (ints ++ int ∷ []) ≡ list_any (of_int n) ints =
        any_push (of_int n) ints int ∙ ap (λ t. list_any (of_int n) ints || t) (ap (bytes_eq n) named ∙ other) ∙ or-false (list_any (of_int n) ints) in
        named_push_other n table (name, Integer) other ∙ was n ∙ ap (λ b. coll_or_int (coll_index n colls) b) (sym any)
  ]

  coll_added : (coll : GrowingColl) (n : List ℕ) → coll.name ≡ name
      → value_named (table ++ (name, Collection (length colls)) ∷ []) n ≡ meaning ints (colls ++ coll ∷ []) n
  coll_added coll n named = elim (cases_Bool (bytes_eq n name)) [
    | inl here ↦
        let none = none_at n here in
        let parts = by_none (coll_index n colls) (list_any (of_int n) ints) none in
        let index = index_push_new n colls coll parts.0 (ap (bytes_eq n) named ∙ here) in
        named_push_new n table (name, Collection (length colls)) (was n ∙ none) here ∙ ap (λ o. coll_or_int o (list_any (of_int n) ints)) (sym index)
    | inr other ↦
        let index = index_push_other n colls coll (ap (bytes_eq n) named ∙ other) in
        named_push_other n table (name, Collection (length colls)) other ∙ was n ∙ ap (λ o. coll_or_int o (list_any (of_int n) ints)) (sym index)
  ]

  -- a new name is added
  added_is : (entry : List ℕ × Known) (added : Bool) (after : List (List ℕ × Known)) → entry.0 ≡ name
      → added ≡ not (is_some (value_named table entry.0)) → after ≡ cond added (table ++ entry ∷ []) table
      → after ≡ table ++ entry ∷ []
  added_is entry added after named is kept =
      let none : value_named table entry.0 ≡ None = ap (value_named table) named ∙ was name ∙ new in
      let new_one : added ≡ true = is ∙ ap (λ (o : Option Known). not (is_some o)) none in
      kept ∙ cond-true added (table ++ entry ∷ []) table new_one

  pub int_keyed : (key : List ℕ) (int : List ℕ × ℤ) (added : Bool) (after : List (List ℕ × Known))
      (more : List (List ℕ × ℤ)) → key ≡ name → int.0 ≡ name → added ≡ not (is_some (value_named table key))
      → after ≡ cond added (table ++ (key, Integer) ∷ []) table → more ≡ ints ++ int ∷ [] → (n : List ℕ) → value_named after n ≡ meaning more colls n
  int_keyed key int added after more is_key is_int is kept pushed n =
      ap (λ t. value_named t n) (added_is (key, Integer) added after is_key is kept ∙ ap (λ (k : List ℕ). table ++ (k, Integer) ∷ []) is_key)
      ∙ int_added int n is_int ∙ ap (λ is. meaning is colls n) (sym pushed)

  pub coll_keyed : (key : List ℕ) (at : ℕ) (coll : GrowingColl) (added : Bool) (after : List (List ℕ × Known))
      (more : List GrowingColl) → key ≡ name → at ≡ length colls → coll.name ≡ name
      → added ≡ not (is_some (value_named table key))
      → after ≡ cond added (table ++ (key, Collection at) ∷ []) table → more ≡ colls ++ coll ∷ [] → (n : List ℕ)
      → value_named after n ≡ meaning ints more n
  coll_keyed key at coll added after more is_key is_at is_coll is kept pushed n =
      ap (λ t. value_named t n) (added_is (key, Collection at) added after is_key is kept
      ∙ ap (λ (k : List ℕ). table ++ (k, Collection at) ∷ []) is_key
      ∙ ap (λ m. table ++ (name, Collection m) ∷ []) is_at)
      ∙ coll_added coll n is_coll ∙ ap (λ cs. meaning ints cs n) (sym pushed)
