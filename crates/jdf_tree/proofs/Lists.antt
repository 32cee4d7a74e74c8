-- Lists of the grammar, element by element, as a loop reads them.
use Rattle.std.proofs.Common.{◌≡◌, ℕ, zero, suc, ◌<◌, Bool, true, false, cond, List, [], ◌∷◌, ◌++◌, length, Ok, Err, refl, sym, ap, ◌∙◌}
use Rattle.ptg_base.specs.Returns.{ReturnsRefusal}
use Rattle.grammar_core.specs.declared.token.Token.{Token}
use Rattle.grammar_core.specs.Terminals.{Terminal}
use Rattle.grammar_core.specs.Production.{star}
use Rattle.grammar_core.specs.Reading.{◌>>=◌, Read, first, starts, many_at, reading}
use Rattle.grammar_core.specs.Refusing.{ReadRefusal}
use Rattle.grammar_core.proofs.CallerLemmas.{IsListed, applied, many_begins, many_ends, many_fails, many_from, many_goes_on, reading_consumes, so_far}
use Rattle.jdf_tree.specs.Nonterminal.{Grammar}
use Rattle.jdf_tree.specs.GrammarParts.{any}
use Rattle.jdf_tree.specs.Grammar.{productions}

pub list_moves : {A : Type 0} {g : Grammar A} {f : Terminal → Bool} (s : List Token) (x : A) (next : List Token)
    → IsListed productions g f → reading productions g s ≡ Ok (x, next) → length next < length s
list_moves {g = g} s x next l e = reading_consumes productions g l.full s x next e

-- ---- lists without a limit

-- if no element is too many, the index of the first one does not matter
any_index : {A : Type 0} (q : Terminal → Bool) (p : List Token → Read A) (n i j : ℕ) (s : List Token) → many_at any q p i n s ≡ many_at any q p j n s
unfolding many_at
any_index q p zero i j s = refl
any_index {A} q p (suc n) i j s = ap (λ (r : Read (List A)). cond (starts q s) r (Ok ([], s))) (go (λ t. any_index q p n (suc i) (suc j) t) (p s))
  where
    go : ((t : List Token) → many_at any q p (suc i) n t ≡ many_at any q p (suc j) n t) → (r : Read A)
        → (r >>= λ a. many_at any q p (suc i) n a.1 >>= applied (λ (l : List A). a.0 ∷ l))
        ≡ (r >>= λ a. many_at any q p (suc j) n a.1 >>= applied (λ (l : List A). a.0 ∷ l))
    go same (Ok a) = ap (λ (m : Read (List A)). m >>= applied (λ (l : List A). a.0 ∷ l)) (same a.1)
    go same (Err e) = refl

-- all elements from here on
unfoldable pub rest_of : {A : Type 0} → Grammar A → List Token → Read (List A)
rest_of g s = many_from productions any g 0 s

pub again : {A : Type 0} (g : Grammar A) (s : List Token) → many_from productions any g 1 s ≡ rest_of g s
unfolding rest_of many_from
again g s = any_index (first g) (reading productions g) (length s) 1 0 s

pub rest_begins : {A : Type 0} (g : Grammar A) (s : List Token) → so_far [] (rest_of g s) ≡ reading productions (star any g) s
unfolding rest_of
rest_begins g s = many_begins productions any g s

pub rest_goes_on : {A : Type 0} {g : Grammar A} {f : Terminal → Bool} (old : List A) (s : List Token) (x : A)
    (next : List Token) (total : Read (List A)) (new : List A) → IsListed productions g f → new ≡ old ++ x ∷ []
    → starts f s ≡ true → reading productions g s ≡ Ok (x, next)
    → so_far old (rest_of g s) ≡ total → so_far new (rest_of g next) ≡ total
unfolding rest_of
rest_goes_on {A} {g} {f} old s x next total new l e t r before =
    ap (λ (q : Read (List A)). so_far new q) (sym (again g next)) ∙ many_goes_on productions any g f l 0 old s x next total new e refl t r before

pub rest_fails : {A : Type 0} {g : Grammar A} {f : Terminal → Bool} (e : ReadRefusal) (old : List A)
    (s : List Token) (total : Read (List A)) → IsListed productions g f → starts f s ≡ true
    → ReturnsRefusal e (reading productions g s) → so_far old (rest_of g s) ≡ total → ReturnsRefusal e total
unfolding rest_of
rest_fails {g = g} {f = f} e old s total l t h before = many_fails productions any g f l e 0 old s total refl t h before

pub rest_ends : {A : Type 0} {g : Grammar A} {f : Terminal → Bool} (old : List A) (s : List Token)
    (total : Read (List A)) → IsListed productions g f → starts f s ≡ false → so_far old (rest_of g s) ≡ total
    → total ≡ Ok (old, s)
unfolding rest_of
rest_ends {g = g} {f = f} old s total l t before = many_ends productions any g f l 0 old s total t before

-- ---- one element, and a list after it

-- ---- lists with a limit
