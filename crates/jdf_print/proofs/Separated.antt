-- Lists with a separator between each two: the first element, and then the later ones.
use Rattle.std.proofs.Common.{◌≡◌, ℕ, List, [], ◌∷◌, ◌++◌, map, refl, sym, ap, ◌∙◌, append_assoc}
use Rattle.std.specs.List.{flat_map}
use Rattle.std.proofs.lemmas.List.{append-nil}
use Rattle.std.proofs.lemmas.Grind.{flat_map-append}
use Rattle.jdf_print.specs.Fragments.{Fragment, bytes_of, text, separated, line}

pub separated_is : {A : Type 0} (s : List Fragment) (f : A → List Fragment) (x : A) (xs : List A)
    → separated s (map f (x ∷ xs)) ≡ f x ++ flat_map (λ a. s ++ f a) xs
separated_is s f x [] = sym (append-nil (f x))
separated_is s f x (y ∷ ys) =
    ap (λ (w : List Fragment). f x ++ (s ++ w)) (separated_is s f y ys)
    ∙ ap (λ (w : List Fragment). f x ++ w) (sym (append_assoc s (f y) (flat_map (λ a. s ++ f a) ys)))

-- The bytes appended to `old`: the first element, then the later ones, each after a separator.
pub all_written : {A : Type 0} (s : List Fragment) (f : A → List Fragment) (xs : List A) (x : A) (later : List A) (old first : List ℕ)
    → xs ≡ x ∷ later → first ≡ old ++ text (f x) → first ++ text (flat_map (λ a. s ++ f a) later) ≡ old ++ text (separated s (map f xs))
all_written s f xs x later old first e h =
    ap (λ (w : List ℕ). w ++ text (flat_map (λ a. s ++ f a) later)) h
    ∙ append_assoc old (text (f x)) (text (flat_map (λ a. s ++ f a) later))
    ∙ ap (λ (w : List ℕ). old ++ w) (sym (flat_map-append bytes_of (f x) (flat_map (λ a. s ++ f a) later)))
    ∙ ap (λ (w : List Fragment). old ++ text w) (sym (separated_is s f x later))
    ∙ ap (λ w. old ++ text (separated s (map f w))) (sym e)

-- The same for a line.
pub line_written : {A : Type 0} (s : List Fragment) (f : A → List Fragment) (x : A) (later : List A) (old first all : List ℕ)
    → first ≡ old ++ text (f x) → all ≡ first ++ text (flat_map (λ a. s ++ f a) later) → all ++ 10 ∷ [] ≡ old ++ text (line (separated s (map f (x ∷ later))))
line_written s f x later old first all h k =
    ap (λ (w : List ℕ). w ++ 10 ∷ []) (k ∙ all_written s f (x ∷ later) x later old first refl h)
    ∙ simp (append_assoc, flat_map-append)
