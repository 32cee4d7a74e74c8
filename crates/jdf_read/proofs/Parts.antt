-- The parts of a class are read one after another; some are skipped.
use Rattle.std.proofs.Common.{◌≡◌, List, Ok, Err, refl, ◌∙◌}
use Rattle.std.specs.Prelude.{Option}
use Rattle.grammar_core.specs.declared.token.Token.{Token}
use Rattle.grammar_core.specs.declared.token.Spot.{Spot}
use Rattle.jdf_lex.specs.declared.terminal.Terminal.TheVariants as terminal
use Rattle.jdf_lex.specs.Terminals.{is}
use Rattle.grammar_core.specs.Production.{seq, map, opt}
use Rattle.grammar_core.specs.Reading.{Read, ◌>>=◌, reading}
use Rattle.jdf_lex.specs.Sets.{token_at}
use Rattle.grammar_core.proofs.CallerLemmas.{applied, regroup}
use Rattle.jdf_tree.specs.declared.expression.Word.{Word}
use Rattle.jdf_tree.specs.declared.part.Part.TheVariants.{Class}
use Rattle.jdf_tree.specs.GrammarParts.{name, word, maybe}
use Rattle.jdf_tree.specs.ClassGrammar.{parameter_list, properties, head, Rest, rest, class_of, class, body_tokens, body_of, body}
use Rattle.jdf_tree.specs.Grammar.{productions}
use Rattle.jdf_read.specs.Next.{past, signature, class_rest}
use Rattle.jdf_read.proofs.Begins.{thrice}

-- a tree that was read, with the tokens after it
abbrev pub with_rest : {A : Type 0} → A → List Token → Read A
with_rest a s = Ok (a, s)

abbrev signed : Word × (List Word × Option (List Token)) → Word × List Word
signed x = (x.0, x.1.0)

abbrev snd : Token × (List Token × Spot) → List Token × Spot
snd x = x.1

abbrev kept : Word → List Word → Option (List Token) → Word × List Word
kept a b z = (a, b)

pub signature_reads : (s : List Token) → reading productions signature s
    ≡ (reading productions (name Class) s >>= λ a. reading productions parameter_list a.1 >>= λ b. past
    (opt properties) b.1 >>= λ r. with_rest (a.0, b.0) r)
unfolding head
signature_reads s = thrice (reading productions (name Class) s) (reading productions parameter_list)
    (reading productions (opt properties)) signed ∙ go (reading productions (name Class) s)
  where
    last : (a : Word) (b : List Word) (c : Read (Option (List Token))) → (c >>= applied (kept a b)) ≡ ((c >>= λ x. Ok x.1) >>= λ r. with_rest (a, b) r)
    last a b (Ok c) = refl
    last a b (Err e) = refl

    next : (a : Word) (b : Read (List Word))
        → (b >>= λ y. reading productions (opt properties) y.1 >>= applied (kept a y.0))
        ≡ (b >>= λ y. past (opt properties) y.1 >>= λ r. with_rest (a, y.0) r)
    next a (Ok b) = last a b.0 (reading productions (opt properties) b.1)
    next a (Err e) = refl

    go : (a : Read Word) → (a >>= λ x. reading productions parameter_list x.1 >>= λ y. reading productions (opt properties) y.1 >>= applied (kept x.0 y.0))
        ≡ (a >>= λ x. reading productions parameter_list x.1 >>= λ y. past (opt properties) y.1 >>= λ r. with_rest (x.0, y.0) r)
    go (Ok a) = next a.0 (reading productions parameter_list a.1)
    go (Err e) = refl

pub class_reads : (s : List Token) → reading productions class s ≡ (reading productions signature s >>= λ a. reading productions (class_rest a.0) a.1)
unfolding class
class_reads s = regroup (reading productions head s) (reading productions rest) class_of ∙ go (reading productions head s)
  where
    go : (a : Read (Word × (List Word × Option (List Token))))
        → (a >>= λ x. reading productions rest x.1 >>= applied (λ (y : Rest). class_of (x.0, y)))
        ≡ ((a >>= applied signed) >>= λ x. reading productions (class_rest x.0) x.1)
    go (Ok a) = refl
    go (Err e) = refl

-- skipping a part and then reading on is reading both without the tree of the first
passed_over : {A B : Type 0} (r : Read A) (q : List Token → Read B) → (r >>= λ a. q a.1) ≡ ((r >>= λ x. Ok x.1) >>= q)
passed_over (Ok a) q = refl
passed_over (Err e) q = refl

abbrev with_end : List Token → Token × List Token → Read (List Token × Spot)
with_end tokens x = Ok ((tokens, x.0.spot), x.1)

inside : List Token → Read (List Token × Spot)
inside t = reading productions (maybe body_tokens) t >>= λ b. token_at (is terminal.End) b.1 >>= with_end b.0

pub body_reads : (s : List Token) → reading productions body s
    ≡ (token_at (is terminal.Body) s >>= λ a. past (opt properties) a.1 >>= λ r. reading productions
    (maybe body_tokens) r >>= λ b. token_at (is terminal.End) b.1 >>= with_end b.0)
unfolding body inside
body_reads s = regroup (token_at (is terminal.Body) s)
    (reading productions (map body_of (seq (opt properties) (seq (maybe body_tokens) (word terminal.End))))) snd
    ∙ go (token_at (is terminal.Body) s)
  where
    same : (r : Read (List Token × Spot)) → (r >>= applied (λ (x : List Token × Spot). x)) ≡ r
    same (Ok x) = refl
    same (Err e) = refl

    go : (a : Read Token) → (a >>= λ x. reading productions
        (map body_of (seq (opt properties) (seq (maybe body_tokens) (word terminal.End)))) x.1 >>= applied
        (λ (y : List Token × Spot). y)) ≡ (a >>= λ x. past (opt properties) x.1 >>= inside)
    go (Ok a) =
        same (reading productions (map body_of (seq (opt properties) (seq (maybe body_tokens) (word terminal.End)))) a.1)
        ∙ (thrice (reading productions (opt properties) a.1) (reading productions (maybe body_tokens)) (token_at (is terminal.End)) body_of
        ∙ passed_over (reading productions (opt properties) a.1) inside)
    go (Err e) = refl
