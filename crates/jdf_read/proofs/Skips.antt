-- Parts of a text, as a loop skips them.
use Rattle.std.proofs.Common.{◌≡◌, ◌<◌, Bool, true, false, cond, List, [], ◌∷◌, length, Result, Ok, Err, refl, sym, ap, ◌∙◌}
use Rattle.grammar_core.specs.declared.fault.ReadFault.{ReadFault}
use Rattle.grammar_core.specs.declared.token.Token.{Token}
use Rattle.ptg_base.specs.declared.refusal.Refusal.TheVariants as errors
use Rattle.ptg_base.specs.Returns.{ReturnsRefusal}
use Rattle.grammar_core.specs.Production.{star}
use Rattle.grammar_core.specs.Reading.{◌>>=◌, Read, reading}
use Rattle.jdf_lex.specs.Sets.{starts}
use Rattle.grammar_core.specs.Refusing.{ReadRefusal}
use Rattle.grammar_core.proofs.CallerLemmas.{applied, many_from, reading_consumes, regroup}
use Rattle.jdf_tree.specs.declared.tree.ClassTree.{ClassTree}
use Rattle.jdf_tree.specs.GrammarParts.{any}
use Rattle.jdf_tree.specs.ClassGrammar.{class}
use Rattle.jdf_tree.specs.Grammar.{productions, skip, class_and_skips}
use Rattle.jdf_read.specs.Next.{past, is_skip}
use Rattle.jdf_tree.proofs.CallerLemmas.{rest_of}
use Rattle.jdf_read.proofs.ListSteps.{rest_step}
use Rattle.jdf_read.proofs.Listed.{skips_listed}
use Rattle.jdf_read.proofs.Parts.{with_rest}

-- the tokens after a text that was read
abbrev rest_after : {A : Type 0} → Read A → Result (List Token) ReadFault
rest_after r = r >>= λ x. Ok x.1

-- the tokens after all skipped parts
unfoldable pub past_all : List Token → Result (List Token) ReadFault
past_all s = rest_after (rest_of skip s)

pub past_all_is : (s : List Token) → past_all s ≡ past (star any skip) s
unfolding past_all rest_of many_from
past_all_is s = refl

past_step : (s : List Token) → past_all s ≡ cond (starts is_skip s) (past skip s >>= λ r. past_all r) (Ok s)
unfolding past_all
past_step s = ap (λ (r : Read (List Token)). rest_after r) (rest_step skips_listed s) ∙ go (starts is_skip s) (reading productions skip s)
  where
    next : (x : Token) (m : Read (List Token)) → rest_after (m >>= applied (λ (more : List Token). x ∷ more)) ≡ rest_after m
    next x (Ok y) = refl
    next x (Err e) = refl

    go : (b : Bool) (r : Read Token) → rest_after
        (cond b (r >>= λ a. rest_of skip a.1 >>= applied (λ (more : List Token). a.0 ∷ more)) (Ok ([], s)))
        ≡ cond b (rest_after r >>= λ t. rest_after (rest_of skip t)) (Ok s)
    go false r = refl
    go true (Ok a) = next a.0 (rest_of skip a.1)
    go true (Err e) = refl

pub skips_go_on : (s next : List Token) (total : Result (List Token) ReadFault) → starts is_skip s ≡ true
    → past skip s ≡ Ok next → past_all s ≡ total → past_all next ≡ total
skips_go_on s next total t e before = sym (past_step s ∙ rw (t, e) refl) ∙ before

pub skips_fail : (e : ReadRefusal) (s : List Token) (total : Result (List Token) ReadFault)
    → starts is_skip s ≡ true → ReturnsRefusal e (past skip s) → past_all s ≡ total → ReturnsRefusal e total
skips_fail errors.OutOfMemory s total t f before = tt
skips_fail (errors.Fault x) s total t f before = sym before ∙ (past_step s ∙ rw (t, f) refl)

pub skips_end : (s : List Token) (total : Result (List Token) ReadFault) → starts is_skip s ≡ false → past_all s ≡ total → total ≡ Ok s
skips_end s total t before = sym before ∙ (past_step s ∙ rw t refl)

pub skip_moves : (s next : List Token) → past skip s ≡ Ok next → length next < length s
skip_moves s next e = go (reading productions skip s) refl e
  where
    go : (r : Read Token) → reading productions skip s ≡ r → rest_after r ≡ Ok next → length next < length s
    go (Ok x) is h = let same : x.1 ≡ next = cc in rw (← same) (reading_consumes productions skip skips_listed.full s x.0 x.1 is)
    go (Err n) is h = absurd cc

abbrev first_of_two : ClassTree × List Token → ClassTree
first_of_two x = x.0

abbrev alone : ClassTree → List Token → ClassTree
alone a skipped = a

pub class_and_skips_reads : (s : List Token)
    → reading productions class_and_skips s
    ≡ (reading productions class s >>= λ a. past (star any skip) a.1 >>= λ r. with_rest a.0 r)
unfolding class_and_skips
class_and_skips_reads s = regroup (reading productions class s) (reading productions (star any skip)) first_of_two ∙ go (reading productions class s)
  where
    next : (a : ClassTree) (m : Read (List Token)) → (m >>= applied (alone a)) ≡ (rest_after m >>= λ r. with_rest a r)
    next a (Ok y) = refl
    next a (Err e) = refl

    go : (r : Read ClassTree) → (r >>= λ a. reading productions (star any skip) a.1 >>= applied (alone a.0))
        ≡ (r >>= λ a. past (star any skip) a.1 >>= λ r. with_rest a.0 r)
    go (Ok a) = next a.0 (reading productions (star any skip) a.1)
    go (Err e) = refl
