-- The word of each trap of a body is one of the body's words.
use Rattle.std.proofs.Common.{◌≡◌, ℕ, Bool, ◌&&◌, List, [], ◌∷◌, ◌++◌, length, map, nat_lt, Some, slice_get, IsTrue, refl}
use Rattle.std.specs.List.{list_all}
use Rattle.std.proofs.lemmas.Bool.{lt-ltb, and_from}
use Rattle.term_core.specs.StatementList.{StatementList, Done, SetThen, PutThen, IfThen, ForThen, TrapThen}
use Rattle.plan_core.specs.Bodies.{has_words}
use Rattle.std.specs.Cmp.{first_so, second_so}
use Rattle.std.proofs.lemmas.Option.{slice_get_within}
use Rattle.body_lang.specs.TrapWords.{numbers_of}

-- numbers that all have a word are below the number of words
numbers_below : (words : List (List ℕ)) (ns : List ℕ) (ws : List (List ℕ))
    → map (λ (n : ℕ). slice_get words n) ns ≡ map (λ (w : List ℕ). Some w) ws
    → IsTrue (list_all (λ n. nat_lt n (length words)) ns)
numbers_below words [] ws e = refl
numbers_below words (n ∷ ns) [] e = absurd cc
numbers_below words (n ∷ ns) (w ∷ ws) e =
    let first : slice_get words n ≡ Some w = cc in
    let rest : map (λ (n : ℕ). slice_get words n) ns ≡ map (λ (w : List ℕ). Some w) ws = cc in
    and_from (nat_lt n (length words)) (list_all (λ n. nat_lt n (length words)) ns)
    (lt-ltb n (length words) (slice_get_within words n w first)) (numbers_below words ns ws rest)

all_first : {A : Type 0} (p : A → Bool) (xs ys : List A) → IsTrue (list_all p (xs ++ ys)) → IsTrue (list_all p xs)
all_first p [] ys h = refl
all_first p (x ∷ xs) ys h = and_from (p x) (list_all p xs) (first_so (p x) (list_all p (xs ++ ys)) h)
    (all_first p xs ys (second_so (p x) (list_all p (xs ++ ys)) h))

all_rest : {A : Type 0} (p : A → Bool) (xs ys : List A) → IsTrue (list_all p (xs ++ ys)) → IsTrue (list_all p ys)
all_rest p [] ys h = h
all_rest p (x ∷ xs) ys h = all_rest p xs ys (second_so (p x) (list_all p (xs ++ ys)) h)

words_of_numbers : (count : ℕ) (s : StatementList) → IsTrue (list_all (λ n. nat_lt n count) (numbers_of s)) → IsTrue (has_words count s)
words_of_numbers count Done h = refl
words_of_numbers count (SetThen n e rest) h = words_of_numbers count rest h
words_of_numbers count (PutThen flow at e rest) h = words_of_numbers count rest h
words_of_numbers count (IfThen c first second rest) h =
    let p : ℕ → Bool = λ n. nat_lt n count in
    let two = all_first p (numbers_of first ++ numbers_of second) (numbers_of rest) h in
    and_from (has_words count first && has_words count second) (has_words count rest)
    (and_from (has_words count first) (has_words count second)
    (words_of_numbers count first (all_first p (numbers_of first) (numbers_of second) two))
    (words_of_numbers count second (all_rest p (numbers_of first) (numbers_of second) two)))
    (words_of_numbers count rest (all_rest p (numbers_of first ++ numbers_of second) (numbers_of rest) h))
words_of_numbers count (ForThen n lo hi turn rest) h =
    let p : ℕ → Bool = λ n. nat_lt n count in
    and_from (has_words count turn) (has_words count rest)
    (words_of_numbers count turn (all_first p (numbers_of turn) (numbers_of rest) h))
    (words_of_numbers count rest (all_rest p (numbers_of turn) (numbers_of rest) h))
words_of_numbers count (TrapThen n rest) h =
    and_from (nat_lt n count) (has_words count rest) (first_so (nat_lt n count) (list_all (λ m. nat_lt m count) (numbers_of rest)) h)
    (words_of_numbers count rest (second_so (nat_lt n count) (list_all (λ m. nat_lt m count) (numbers_of rest)) h))

pub words_there : (words : List (List ℕ)) (s : StatementList) (ws : List (List ℕ))
    → map (λ (n : ℕ). slice_get words n) (numbers_of s) ≡ map (λ (w : List ℕ). Some w) ws
    → IsTrue (has_words (length words) s)
words_there words s ws e = words_of_numbers (length words) s (numbers_below words (numbers_of s) ws e)
