-- Lists of the grammar, with a limit or with at least one element, as a loop reads them element by element.
use Rattle.std.proofs.Common.{◌≡◌, ℕ, suc, ◌<◌, Bool, true, false, cond, List, [], ◌∷◌, ◌++◌, length, Ok, Err, refl, sym, ap, ◌∙◌, arith}
use Rattle.std.specs.Prelude.{Option, Some, None, nat_le}
use Rattle.std.proofs.lemmas.Bool.{cond-true, cond-false, lt-leb, le-leb}
use Rattle.grammar_core.specs.declared.token.Token.{Token}
use Rattle.grammar_core.specs.Terminals.{Terminal}
use Rattle.grammar_core.specs.declared.code.Code.{Code}
use Rattle.ptg_base.specs.declared.refusal.Refusal.TheVariants as errors
use Rattle.ptg_base.specs.Returns.{ReturnsRefusal}
use Rattle.grammar_core.specs.Production.{seq, map, star}
use Rattle.grammar_core.specs.Reading.{◌>>=◌, Read, starts, reading, fault_from_end}
use Rattle.grammar_core.specs.Refusing.{ReadRefusal}
use Rattle.grammar_core.proofs.CallerLemmas.{IsListed, applied, many_begins, many_ends, many_fails, many_from, many_goes_on, many_is_full, many_step, regroup}
use Rattle.grammar_core.proofs.CallerLemmas.{so_far}
use Rattle.jdf_tree.specs.Nonterminal.{Grammar}
use Rattle.jdf_tree.specs.GrammarParts.{any}
use Rattle.jdf_tree.specs.ClassGrammar.{full_at}
use Rattle.jdf_tree.specs.Grammar.{productions}
use Rattle.jdf_tree.proofs.CallerLemmas.{again, rest_of}

-- the first element and the others as one list
abbrev joined : {A : Type 0} → A × List A → List A
joined x = x.0 ∷ x.1

pub rest_step : {A : Type 0} {g : Grammar A} {f : Terminal → Bool} → IsListed productions g f → (s : List Token)
    → rest_of g s ≡ cond (starts f s) (reading productions g s >>= λ a. rest_of g a.1 >>= applied
    (λ (more : List A). a.0 ∷ more)) (Ok ([], s))
unfolding rest_of
rest_step {A} {g} {f} l s = many_step productions any g f l 0 s ∙ ap (λ (r : Read (List A)). cond (starts f s) r (Ok ([], s))) (go (reading productions g s))
  where
    go : (r : Read A) → (r >>= λ a. many_from productions any g 1 a.1 >>= applied (λ (more : List A). a.0 ∷ more))
        ≡ (r >>= λ a. many_from productions any g 0 a.1 >>= applied (λ (more : List A). a.0 ∷ more))
    go (Ok a) = ap (λ (m : Read (List A)). m >>= applied (λ (more : List A). a.0 ∷ more)) (again g a.1)
    go (Err e) = refl

-- the first element before the others
joined_is : {A : Type 0} (x : A) (r : Read (List A)) → (r >>= applied (λ (l : List A). x ∷ l)) ≡ so_far (x ∷ []) r
unfolding so_far
joined_is x (Ok y) = refl
joined_is x (Err e) = refl

some_is : {A : Type 0} (full : ℕ → Option Code) (g h : Grammar A) (s : List Token)
    → reading productions (map joined (seq g (star full h))) s
    ≡ (reading productions g s >>= λ a. so_far (a.0 ∷ []) (many_from productions full h 0 a.1))
unfolding many_from
some_is {A} full g h s = regroup (reading productions g s) (reading productions (star full h)) joined ∙ go (reading productions g s)
  where
    go : (r : Read A) → (r >>= λ a. reading productions (star full h) a.1 >>= applied (λ (l : List A). a.0 ∷ l))
        ≡ (r >>= λ a. so_far (a.0 ∷ []) (reading productions (star full h) a.1))
    go (Ok a) = joined_is a.0 (reading productions (star full h) a.1)
    go (Err e) = refl

pub some_begin : {A : Type 0} (g h : Grammar A) (s : List Token) (x : A) (next : List Token) (list : List A)
    → list ≡ [] ++ x ∷ [] → reading productions g s ≡ Ok (x, next)
    → so_far list (rest_of h next) ≡ reading productions (map joined (seq g (star any h))) s
unfolding rest_of
some_begin {A} g h s x next list e r = ap (λ (l : List A). so_far l (many_from productions any h 0 next)) e ∙ sym (some_is any g h s ∙ rw r refl)

pub some_fail : {A : Type 0} (e : ReadRefusal) (full : ℕ → Option Code) (g h : Grammar A) (s : List Token)
    → ReturnsRefusal e (reading productions g s)
    → ReturnsRefusal e (reading productions (map joined (seq g (star full h))) s)
some_fail errors.OutOfMemory full g h s f = tt
some_fail (errors.Fault x) full g h s f = some_is full g h s ∙ rw f refl

-- the elements from index i on of a list that may have n
unfoldable pub counted : {A : Type 0} → ℕ → Code → Grammar A → ℕ → List Token → Read (List A)
counted n c g i s = many_from productions (full_at n c) g i s

pub counted_begins : {A : Type 0} (n : ℕ) (c : Code) (g : Grammar A) (s : List Token)
    → so_far [] (counted n c g 0 s) ≡ reading productions (star (full_at n c) g) s
unfolding counted
counted_begins n c g s = many_begins productions (full_at n c) g s

pub counted_goes_on : {A : Type 0} (n : ℕ) (c : Code) {g : Grammar A} {f : Terminal → Bool} (i j : ℕ) (old : List A)
    (s : List Token) (x : A) (next : List Token) (total : Read (List A)) (new : List A) → IsListed productions g f
    → new ≡ old ++ x ∷ [] → i < n → j ≡ suc i → starts f s ≡ true → reading productions g s ≡ Ok (x, next)
    → so_far old (counted n c g i s) ≡ total → so_far new (counted n c g j next) ≡ total
unfolding counted
counted_goes_on {A} n c {g} {f} i j old s x next total new l e room up t r before =
    ap (λ (k : ℕ). so_far new (many_from productions (full_at n c) g k next)) up
    ∙ many_goes_on productions (full_at n c) g f l i old s x next total new e
    (cond-false (nat_le n i) (Some c) None (lt-leb n i room)) t r before

pub counted_fails : {A : Type 0} (n : ℕ) (c : Code) {g : Grammar A} {f : Terminal → Bool} (e : ReadRefusal) (i : ℕ)
    (old : List A) (s : List Token) (total : Read (List A)) → IsListed productions g f → i < n → starts f s ≡ true
    → ReturnsRefusal e (reading productions g s) → so_far old (counted n c g i s) ≡ total → ReturnsRefusal e total
unfolding counted
counted_fails {A} n c {g} {f} e i old s total l room t h before =
    many_fails productions (full_at n c) g f l e i old s total
    (cond-false (nat_le n i) (Some c) None (lt-leb n i room)) t h before

pub counted_is_full : {A : Type 0} (n : ℕ) (c : Code) {g : Grammar A} {f : Terminal → Bool} (i : ℕ) (old : List A)
    (s : List Token) (total : Read (List A)) → IsListed productions g f → i ≡ n → starts f s ≡ true
    → so_far old (counted n c g i s) ≡ total → total ≡ Err (fault_from_end (length s) c)
unfolding counted
counted_is_full {A} n c {g} {f} i old s total l over t before =
    many_is_full productions (full_at n c) g f l c i old s total
    (cond-true (nat_le n i) (Some c) None (le-leb n i (omega (arith, over)))) t before

pub counted_ends : {A : Type 0} (n : ℕ) (c : Code) {g : Grammar A} {f : Terminal → Bool} (i : ℕ) (old : List A)
    (s : List Token) (total : Read (List A)) → IsListed productions g f → starts f s ≡ false
    → so_far old (counted n c g i s) ≡ total → total ≡ Ok (old, s)
unfolding counted
counted_ends {A} n c {g} {f} i old s total l t before = many_ends productions (full_at n c) g f l i old s total t before

pub counted_after_first : {A : Type 0} (n : ℕ) (c : Code) (g h : Grammar A) (s : List Token) (x : A)
    (next : List Token) (list : List A) → list ≡ [] ++ x ∷ [] → reading productions g s ≡ Ok (x, next)
    → so_far list (counted n c h 0 next) ≡ reading productions (map joined (seq g (star (full_at n c) h))) s
unfolding counted
counted_after_first {A} n c g h s x next list e r =
    ap (λ (l : List A). so_far l (many_from productions (full_at n c) h 0 next)) e
    ∙ sym (some_is (full_at n c) g h s ∙ rw r refl)
