-- If no name is given twice, the names are distinct.
use Rattle.std.proofs.Common.{◌≡◌, ℕ, nat_eq, Bool, true, false, not, ◌||◌, List, [], ◌∷◌, ◌++◌, map, IsTrue, refl, sym, ◌∙◌, ap}
use Rattle.std.specs.List.{list_any}
use Rattle.std.specs.Str.{bytes_eq}
use Rattle.std.specs.Cmp.Lexicographic.{pointwise, bytes_decides}
use Rattle.std.proofs.lemmas.Bool.{false≢true, and_from, or_left, or_right}
use Rattle.ptg_base.specs.Lists.{are_distinct}
use Rattle.type_rules.specs.TreesAndFaults.{JdfCode, Word}
use Rattle.type_rules.specs.Repeats.{is_taken, repeats_after, repeats}
use Rattle.list_lemmas.proofs.Joins.{first_nil, rest_nil}
use Rattle.list_lemmas.proofs.Texts.{bytes_eq-self, bytes_eq-sym}
use Rattle.type_rules.proofs.GivenTwice.{taken_more}
use Rattle.type_rules.proofs.NoFaults.{holds_not}

-- if no name is given twice, no later name is one of those before
pub names_after : {A : Type 0} (word : A → Word) (code : JdfCode) (before xs : List A)
    → repeats_after word code before xs ≡ [] → (n : List ℕ) → is_taken word before n ≡ true
    → is_taken word xs n ≡ false
names_after word code before [] h n t = refl
names_after {A} word code before (x ∷ xs) h n t =
    let fresh = holds_not (is_taken word before (word x).text) (word x).spot code (first_nil _ _ h) in
    let later = names_after word code (before ++ x ∷ []) xs (rest_nil _ _ h) n
    (taken_more word before x n ∙ or_left (is_taken word before n) (bytes_eq (word x).text n) t) in
    go (bytes_eq (word x).text n) refl fresh later
  where
    go : (b : Bool) → bytes_eq (word x).text n ≡ b → is_taken word before (word x).text ≡ false → is_taken word xs n ≡ false → (b || is_taken word xs n) ≡ false
    go true e fresh later = absurd (false≢true (sym fresh ∙ (ap (λ m. is_taken word before m) ((bytes_decides (word x).text n).0 e) ∙ t)))
    go false e fresh later = later

name_among : {A : Type 0} (word : A → Word) (xs : List A) (name : List ℕ)
    → list_any (pointwise nat_eq name) (map (λ x. (word x).text) xs) ≡ is_taken word xs name
name_among word [] name = refl
name_among word (x ∷ xs) name = let first = bytes_eq-sym name (word x).text in let rest = name_among word xs name in λ i. first i || rest i

distinct_after : {A : Type 0} (word : A → Word) (code : JdfCode) (before xs : List A)
    → repeats_after word code before xs ≡ [] → IsTrue (are_distinct bytes_eq (map (λ x. (word x).text) xs))
distinct_after word code before [] h = refl
distinct_after word code before (x ∷ xs) h =
    let name = (word x).text in
    let later = rest_nil _ _ h in
    let taken : is_taken word (before ++ x ∷ []) name ≡ true = taken_more word before x name
    ∙ or_right (is_taken word before name) (bytes_eq name name) (bytes_eq-self name) in
    let none = names_after word code (before ++ x ∷ []) xs later name taken in
    and_from (not (list_any (pointwise nat_eq name) (map (λ y. (word y).text) xs)))
    (are_distinct bytes_eq (map (λ y. (word y).text) xs)) (ap not (name_among word xs name ∙ none))
    (distinct_after word code (before ++ x ∷ []) xs later)

pub distinct_names : {A : Type 0} (word : A → Word) (code : JdfCode) (xs : List A) → repeats word code xs ≡ []
    → IsTrue (are_distinct bytes_eq (map (λ x. (word x).text) xs))
distinct_names word code xs h = distinct_after word code [] xs h
