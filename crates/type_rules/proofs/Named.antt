-- Lists of names that grow by one.
use Rattle.std.proofs.Common.{◌≡◌, ℕ, ◌+◌, Bool, true, false, not, ◌||◌, List, [], ◌∷◌, ◌++◌, if◌then◌else◌, refl, sym, ◌∙◌, ap, subst}
use Rattle.std.specs.Str.{bytes_eq}
use Rattle.std.specs.Cmp.Lexicographic.{bytes_decides}
use Rattle.name_table.specs.Names.{has_name}
use Rattle.list_lemmas.proofs.Truth.{or-false, or-assoc}

-- one more name
pub has_pushed : (names : List (List ℕ)) (x n : List ℕ) → has_name (names ++ x ∷ []) n ≡ (has_name names n || bytes_eq x n)
has_pushed [] x n = or-false (bytes_eq x n)
has_pushed (m ∷ names) x n = ap (λ b. bytes_eq m n || b) (has_pushed names x n) ∙ sym (or-assoc (bytes_eq m n) (has_name names n) (bytes_eq x n))

-- a name that the list already has
has_same : (names : List (List ℕ)) (x n : List ℕ) → has_name names x ≡ true → has_name names n ≡ (has_name names n || bytes_eq x n)
has_same names x n there = go (bytes_eq x n) refl
  where
    go : (b : Bool) → bytes_eq x n ≡ b → has_name names n ≡ (has_name names n || b)
    go true same =
        let e : x ≡ n = (bytes_decides x n).0 same in
        let h : has_name names n ≡ true = subst (λ m. has_name names m ≡ true) e there in
        h ∙ sym (ap (λ b. b || true) h)
    go false differ = sym (or-false (has_name names n))

-- one more name in a set
pub has_added : (names after : List (List ℕ)) (x n : List ℕ) (new : Bool) → new ≡ not (has_name names x) → after ≡ (if new then names ++ x ∷ [] else names)
    → has_name after n ≡ (has_name names n || bytes_eq x n)
has_added names after x n new e s = go (has_name names x) refl
  where
    go : (b : Bool) → has_name names x ≡ b → has_name after n ≡ (has_name names n || bytes_eq x n)
    go true there =
        let same : after ≡ names = s ∙ ap (λ b. if b then names ++ x ∷ [] else names) (e ∙ ap not there) in
        ap (λ l. has_name l n) same ∙ has_same names x n there
    go false none =
        let more : after ≡ names ++ x ∷ [] = s ∙ ap (λ b. if b then names ++ x ∷ [] else names) (e ∙ ap not none) in
        ap (λ l. has_name l n) more ∙ has_pushed names x n
