-- Each text has a tree or a first fault, at most one of each, and not both.
use Rattle.std.proofs.Common.{◌≡◌, ℕ, ◌<◌, ◌≤◌, List, length, take, Ok, Err, sym, ap, ◌∙◌, subst, inl, inr, arith}
use Rattle.std.specs.Prelude.{Some, None, ◌⊎◌, slice_get}
use Rattle.std.proofs.lemmas.List.{take_all}
use Rattle.std.specs.Str.{IsUtf8}
use Rattle.std.proofs.lemmas.Option.{same_Some, none-some}
use Rattle.jdf_lex.specs.declared.fault.JdfCode.TheVariants as jdf
use Rattle.jdf_lex.specs.declared.fault.JdfFault.{JdfFault}
use Rattle.grammar_core.specs.declared.fault.ReadFault.{ReadFault}
use Rattle.grammar_core.specs.declared.token.Spot.{Spot}
use Rattle.grammar_core.specs.declared.token.Token.{Token}
use Rattle.jdf_lex.specs.Tokens.{spot_after}
use Rattle.jdf_lex.proofs.CallerLemmas.{no_fault, one_list}
use Rattle.jdf_lex.proofs.CallerLemmas as lex
use Rattle.grammar_core.specs.declared.code.Code.{Code}
use Rattle.grammar_core.specs.Reading.{whole}
use Rattle.grammar_core.proofs.CallerLemmas.{fault_index}
use Rattle.jdf_tree.specs.declared.tree.Jdf.{Jdf}
use Rattle.jdf_tree.specs.Grammar.{productions, file}
use Rattle.jdf_tree.specs.Jdf.{IsJdf}
use Rattle.jdf_tree.specs.Fault.{StopsBeingUtf8, code_at_token, IsGrammarFault, HasGrammarFault}
use Rattle.jdf_read.specs.Laws.{OneTree, OneFault, NotBoth}
use Rattle.jdf_read.proofs.Limits.{only, fault_read}
use Rattle.list_lemmas.proofs.Options.{same_Ok, same_Err, Ok≢Err}

pub one_tree : OneTree
one_tree bytes a b x y =
    let same = (one_list bytes x.tokens y.tokens x.end y.end x.lexed y.lexed).0 in
    let first : whole productions file x.tokens ≡ Ok a = only x.tokens a x.text in
    let second : whole productions file x.tokens ≡ Ok b = ap (whole productions file) same ∙ only y.tokens b y.text in
    same_Ok a b (sym first ∙ second)

-- ---- UTF-8

not_utf8 : (bytes : List ℕ) (at : ℕ) → StopsBeingUtf8 bytes at → IsUtf8 bytes → ⊥
not_utf8 bytes at stops u =
    let all : take (length bytes) bytes ≡ bytes = take_all (length bytes) bytes (omega arith) in
    let far = stops.longest (length bytes) (omega arith) (subst (λ (l : List ℕ). IsUtf8 l) (sym all) u) in
    let near = stops.within in
    omega (arith, far, near)

one_end_of_utf8 : (bytes : List ℕ) (a b : ℕ) → StopsBeingUtf8 bytes a → StopsBeingUtf8 bytes b → a ≡ b
one_end_of_utf8 bytes a b x y =
    let low = x.within in
    let high = y.within in
    let up = y.longest a (omega (arith, low)) x.before in
    let down = x.longest b (omega (arith, high)) y.before in
    omega (arith, up, down)

-- ---- no text has a tree and a fault

no_grammar_fault : (bytes : List ℕ) (a : Jdf) (f : JdfFault) → IsJdf bytes a → HasGrammarFault bytes f → ⊥
no_grammar_fault bytes a f x y =
    let same = (one_list bytes x.tokens y.tokens x.end y.end x.lexed y.lexed).0 in
    let read : whole productions file y.tokens ≡ Ok a = ap (whole productions file) (sym same) ∙ only x.tokens a x.text in
    Ok≢Err a _ (sym read ∙ fault_read y.tokens y.fault_is.token_index y.fault_is.code y.fault_is.first)

pub not_both : NotBoth
not_both bytes a f x (inl y) = let short = x.bytes_at_most in let long = y.long in omega (arith, short, long)
not_both bytes a f x (inr (inl y)) = not_utf8 bytes y.at y.stops x.utf8
not_both bytes a f x (inr (inr (inl y))) = no_fault bytes x.tokens x.end f x.lexed x.tokens_at_most y.fault_is
not_both bytes a f x (inr (inr (inr y))) = no_grammar_fault bytes a f x y

-- ---- one first fault

-- f is the JDF fault for this token index and this code of the grammar
abbrev IsNamed : List Token → Spot → ℕ → Code → JdfFault → Type 0
IsNamed tokens end token_index c f =
    ((token : Token) × (slice_get tokens token_index ≡ Some token) × (f ≡ record { spot = token.spot; code = code_at_token c }))
    ⊎ ((slice_get tokens token_index ≡ None) × (f ≡ record { spot = end; code = jdf.Truncated }))

too_short : (bytes : List ℕ) → 16777216 < length bytes → length bytes ≤ 16777216 → ⊥
too_short bytes a b = omega (arith, a, b)

-- there is one JDF fault for a token index and a code
same_named : (tokens : List Token) (end : Spot) (token_index : ℕ) (c : Code) (f g : JdfFault)
    → IsNamed tokens end token_index c f → IsNamed tokens end token_index c g → f ≡ g
same_named tokens end token_index c f g (inl x) (inl y) =
    let same : x.0 ≡ y.0 = same_Some x.0 y.0 (sym x.1 ∙ y.1) in
    x.2 ∙ (ap (λ (t : Token). record { spot = t.spot; code = code_at_token c }) same ∙ sym y.2)
same_named tokens end token_index c f g (inl x) (inr y) = absurd (none-some x.0 (sym y.0 ∙ x.1))
same_named tokens end token_index c f g (inr x) (inl y) = absurd (none-some y.0 (sym x.0 ∙ y.1))
same_named tokens end token_index c f g (inr x) (inr y) = x.1 ∙ sym y.1

same_wrong : (tokens : List Token) (end : Spot) (f g : JdfFault) → IsGrammarFault tokens end f → IsGrammarFault tokens end g → f ≡ g
same_wrong tokens end f g x y =
    let same = same_Err _ _ (sym (fault_read tokens x.token_index x.code x.first) ∙ fault_read tokens y.token_index y.code y.first) in
    let left = ap (λ (n : ReadFault). n.left) same in
    let code : x.code ≡ y.code = ap (λ (n : ReadFault). n.code) same in
    let a = fault_index productions file tokens x.token_index x.code x.first in
    let b = fault_index productions file tokens y.token_index y.code y.first in
    let token_index : x.token_index ≡ y.token_index = omega (arith, left, a, b) in
    same_named tokens end y.token_index y.code f g
    (subst (λ (c : Code). IsNamed tokens end y.token_index c f) code
    (subst (λ (p : ℕ). IsNamed tokens end p x.code f) token_index x.fault_is)) y.fault_is

same_no_text : (bytes : List ℕ) (f g : JdfFault) → HasGrammarFault bytes f → HasGrammarFault bytes g → f ≡ g
same_no_text bytes f g x y =
    let same = one_list bytes x.tokens y.tokens x.end y.end x.lexed y.lexed in
    let moved : IsGrammarFault y.tokens y.end f =
    subst (λ (e : Spot). IsGrammarFault y.tokens e f) same.1
    (subst (λ (t : List Token). IsGrammarFault t x.end f) same.0 x.fault_is) in
    same_wrong y.tokens y.end f g moved y.fault_is

pub one_fault : OneFault
one_fault bytes f g (inl x) (inl y) = x.fault_is ∙ sym y.fault_is
one_fault bytes f g (inl x) (inr (inl y)) = absurd (too_short bytes x.long y.bytes_at_most)
one_fault bytes f g (inl x) (inr (inr (inl y))) = absurd (too_short bytes x.long y.bytes_at_most)
one_fault bytes f g (inl x) (inr (inr (inr y))) = absurd (too_short bytes x.long y.bytes_at_most)
one_fault bytes f g (inr (inl x)) (inl y) = absurd (too_short bytes y.long x.bytes_at_most)
one_fault bytes f g (inr (inl x)) (inr (inl y)) = x.fault_is
    ∙ (ap (λ (n : ℕ). record { spot = spot_after (take n bytes); code = jdf.NotUtf8 })
    (one_end_of_utf8 bytes x.at y.at x.stops y.stops) ∙ sym y.fault_is)
one_fault bytes f g (inr (inl x)) (inr (inr (inl y))) = absurd (not_utf8 bytes x.at x.stops y.utf8)
one_fault bytes f g (inr (inl x)) (inr (inr (inr y))) = absurd (not_utf8 bytes x.at x.stops y.utf8)
one_fault bytes f g (inr (inr (inl x))) (inl y) = absurd (too_short bytes y.long x.bytes_at_most)
one_fault bytes f g (inr (inr (inl x))) (inr (inl y)) = absurd (not_utf8 bytes y.at y.stops x.utf8)
one_fault bytes f g (inr (inr (inl x))) (inr (inr (inl y))) = lex.one_fault bytes f g x.fault_is y.fault_is
one_fault bytes f g (inr (inr (inl x))) (inr (inr (inr y))) = absurd (no_fault bytes y.tokens y.end f y.lexed y.tokens_at_most x.fault_is)
one_fault bytes f g (inr (inr (inr x))) (inl y) = absurd (too_short bytes y.long x.bytes_at_most)
one_fault bytes f g (inr (inr (inr x))) (inr (inl y)) = absurd (not_utf8 bytes y.at y.stops x.utf8)
one_fault bytes f g (inr (inr (inr x))) (inr (inr (inl y))) = absurd (no_fault bytes x.tokens x.end g x.lexed x.tokens_at_most y.fault_is)
one_fault bytes f g (inr (inr (inr x))) (inr (inr (inr y))) = same_no_text bytes f g x y
