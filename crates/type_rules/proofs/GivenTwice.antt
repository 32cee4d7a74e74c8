-- Names that are given twice, in lists that grow by one.
use Rattle.std.proofs.Common.{◌≡◌, ℕ, ◌+◌, ◌<◌, Bool, true, false, not, ◌||◌, List, [], ◌∷◌, ◌++◌, take, length, get_or, Some, Result, if◌then◌else◌}
use Rattle.std.proofs.Common.{sym, ◌∙◌, ap, subst}
use Rattle.std.specs.Str.{bytes_eq}
use Rattle.std.proofs.lemmas.List.{take_more, append-nil, append_assoc}
use Rattle.ptg_base.specs.declared.refusal.Refusal.{Refusal}
use Rattle.name_table.specs.Names.{has_name}
use Rattle.type_rules.specs.TreesAndFaults.{JdfCode, JdfFault, Word}
use Rattle.type_rules.specs.Faults.{fault_if}
use Rattle.type_rules.specs.Repeats.{is_taken, repeats_after, repeats}
use Rattle.type_rules.specs.Returns.{ReturnsChecked}
use Rattle.type_rules.proofs.Named.{has_added}
use Rattle.list_lemmas.proofs.Truth.{or-assoc, or-false}

pub taken_more : {A : Type 0} (word : A → Word) (xs : List A) (x : A) (n : List ℕ)
    → is_taken word (xs ++ x ∷ []) n ≡ (is_taken word xs n || bytes_eq (word x).text n)
taken_more word [] x n = or-false (bytes_eq (word x).text n)
taken_more word (y ∷ xs) x n = ap (λ b. bytes_eq (word y).text n || b) (taken_more word xs x n)
    ∙ sym (or-assoc (bytes_eq (word y).text n) (is_taken word xs n) (bytes_eq (word x).text n))

repeats_more : {A : Type 0} (word : A → Word) (code : JdfCode) (before xs : List A) (x : A)
    → repeats_after word code before (xs ++ x ∷ [])
    ≡ repeats_after word code before xs ++ fault_if (is_taken word (before ++ xs) (word x).text) (word x).spot
    code
repeats_more word code before [] x =
    append-nil (fault_if (is_taken word before (word x).text) (word x).spot code)
    ∙ ap (λ l. fault_if (is_taken word l (word x).text) (word x).spot code) (sym (append-nil before))
repeats_more word code before (y ∷ xs) x =
    let first = fault_if (is_taken word before (word y).text) (word y).spot code in
    ap (λ l. first ++ l)
    (repeats_more word code (before ++ y ∷ []) xs x
    ∙ ap (λ l. repeats_after word code (before ++ y ∷ []) xs ++ fault_if (is_taken word l (word x).text) (word x).spot code) (append_assoc before (y ∷ []) xs))
    ∙ sym (append_assoc first (repeats_after word code (before ++ y ∷ []) xs) (fault_if (is_taken word (before ++ y ∷ xs) (word x).text) (word x).spot code))

not_not : (b new : Bool) → new ≡ not b → not new ≡ b
not_not true new e = ap not e
not_not false new e = ap not e

-- the set of names after the next one
pub next_names : {A : Type 0} (word : A → Word) (xs : List A) (i : ℕ) (x : A) (name : List ℕ)
    (names after : List (List ℕ)) (new : Bool) → i < length xs → x ≡ get_or xs i x → name ≡ (word x).text
    → ((n : List ℕ) → has_name names n ≡ is_taken word (take i xs) n)
    → new ≡ not (has_name names name) → after ≡ (if new then names ++ name ∷ [] else names)
    → (n : List ℕ) → has_name after n ≡ is_taken word (take (i + 1) xs) n
next_names word xs i x name names after new lt at named before e s n =
    let more : take i xs ++ x ∷ [] ≡ take (i + 1) xs = ap (λ y. take i xs ++ y ∷ []) at ∙ sym (take_more xs i x lt) in
    has_added names after name n new e s
    ∙ (ap (λ b. b || bytes_eq name n) (before n)
    ∙ (ap (λ m. is_taken word (take i xs) n || bytes_eq m n) named
    ∙ (sym (taken_more word (take i xs) x n) ∙ ap (λ l. is_taken word l n) more)))

-- the faults after the next name
pub next_repeat : {A : Type 0} (word : A → Word) (code : JdfCode) (xs : List A) (i : ℕ) (x : A) (name : List ℕ)
    (names : List (List ℕ)) (new : Bool) (r : Result (Unit {0}) (Refusal JdfFault)) → i < length xs
    → x ≡ get_or xs i x → name ≡ (word x).text
    → ((n : List ℕ) → has_name names n ≡ is_taken word (take i xs) n)
    → new ≡ not (has_name names name)
    → ReturnsChecked r (Some tt) (repeats word code (take i xs) ++ fault_if (not new) (word x).spot code)
    → ReturnsChecked r (Some tt) (repeats word code (take (i + 1) xs))
next_repeat word code xs i x name names new r lt at named before e h =
    let more : take i xs ++ x ∷ [] ≡ take (i + 1) xs = ap (λ y. take i xs ++ y ∷ []) at ∙ sym (take_more xs i x lt) in
    let test : not new ≡ is_taken word (take i xs) (word x).text = not_not (has_name names name) new e
    ∙ (before name ∙ ap (λ m. is_taken word (take i xs) m) named) in
    subst (λ l. ReturnsChecked r (Some tt) (repeats word code l)) more
    (subst (λ l. ReturnsChecked r (Some tt) l) (sym (repeats_more word code [] (take i xs) x))
    (subst (λ b. ReturnsChecked r (Some tt) (repeats word code (take i xs) ++ fault_if b (word x).spot code)) test h))

-- the faults with that of a name, given the word that is the name
pub spelled_at : {A : Type 0} (word : A → Word) (r : Result (Unit {0}) (Refusal JdfFault)) (fs : List JdfFault)
    (new : Bool) (code : JdfCode) (x : A) (w : Word) → w ≡ word x
    → ReturnsChecked r (Some tt) (fs ++ fault_if (not new) w.spot code) → ReturnsChecked r (Some tt) (fs ++ fault_if (not new) (word x).spot code)
spelled_at word r fs new code x w e h = subst (λ (v : Word). ReturnsChecked r (Some tt) (fs ++ fault_if (not new) v.spot code)) e h
