-- The last variable of a name, searched from the end.
use Rattle.std.proofs.Common.{◌≡◌, ℕ, true, false, cond, List, [], ◌∷◌, ◌++◌, refl, ap, ◌∙◌}
use Rattle.std.specs.Prelude.{Some, find}
use Rattle.std.specs.Str.{bytes_eq}
use Rattle.std.proofs.lemmas.List.{reverse-append}
use Rattle.body_lang.specs.declared.variable.Variable.{Variable}
use Rattle.body_lang.specs.Meanings.{last_named}

last_step : (front : List Variable) (last : Variable) (name : List ℕ)
    → last_named (front ++ last ∷ []) name ≡ cond (bytes_eq last.name name) (Some last) (last_named front name)
last_step front last name = ap (λ (l : List Variable). find (λ (v : Variable). bytes_eq v.name name) l) (reverse-append front (last ∷ []))

pub last_is : (seen front : List Variable) (last : Variable) (name : List ℕ) → seen ≡ front ++ last ∷ []
    → bytes_eq last.name name ≡ true → last_named seen name ≡ Some last
last_is seen front last name e h = ap (λ (l : List Variable). last_named l name) e ∙ (last_step front last name ∙ rw h refl)

pub last_is_before : (seen front : List Variable) (last : Variable) (name : List ℕ) → seen ≡ front ++ last ∷ []
    → bytes_eq last.name name ≡ false → last_named seen name ≡ last_named front name
last_is_before seen front last name e h = ap (λ (l : List Variable). last_named l name) e ∙ (last_step front last name ∙ rw h refl)
