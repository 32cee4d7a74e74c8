-- Every list of words forms a command or breaks a rule.
use Rattle.std.proofs.Common.{◌≡◌, ℕ, Bool, true, false, not, List, [], ◌∷◌, length, Option, Some, None, refl, sym, ap, ◌∙◌, inl, inr, arith, ◌==◌}
use Rattle.std.specs.Prelude.{◌⊎◌, option_map}
use Rattle.std.specs.List.{All, Any, list_any}
use Rattle.ptg_words.specs.declared.order.Order.{Order}
use Rattle.ptg_words.specs.Parts.{Part, has_twice, is_lacking, is_stray, operands, parts}
use Rattle.ptg_words.specs.Readings.{is_read}
use Rattle.ptg_words.specs.declared.verbs.Verb.TheVariants as verbs
use Rattle.ptg_words.specs.declared.verbs.Verb.{Verb}
use Rattle.ptg_words.specs.Words.{IsProper, IsUsage, Orders, formed, has_bad_number, has_wrong_count, improper_word}
use Rattle.ptg_words.specs.Words.{lacking_number, no_verb, operand_count, operands_differ, option_twice, options_of}
use Rattle.ptg_words.specs.Words.{read, stray_word, verb_of}
use Rattle.ptg_words.proofs.CallerLemmas.{all_or_any, breaks_none, breaks_number, counted, to_rule}
use Rattle.word_laws.specs.Commands.{CommandOrUsage}

-- arguments whose parts break a rule are a usage error
pub breaks_rule : (ws : List (List ℕ)) (v : Verb) (ps : List Part) → read ws ≡ Some (v, ps) → is_read (operand_count v) ps ≡ false → IsUsage ws
breaks_rule ws v ps e h = go (list_any is_stray ps) (list_any is_lacking ps) (has_twice ps) (length (operands ps) == operand_count v) refl refl refl refl
  where
    go : (a b c d : Bool) → list_any is_stray ps ≡ a → list_any is_lacking ps ≡ b → has_twice ps ≡ c
        → (length (operands ps) == operand_count v) ≡ d → IsUsage ws
    go true b c d ea eb ec ed = stray_word (to_rule (λ v ps. list_any is_stray ps) ws v ps e ea)
    go false true c d ea eb ec ed = lacking_number (to_rule (λ v ps. list_any is_lacking ps) ws v ps e eb)
    go false false true d ea eb ec ed = option_twice (to_rule (λ v ps. has_twice ps) ws v ps e ec)
    go false false false false ea eb ec ed = operands_differ (to_rule has_wrong_count ws v ps e (ap not ed))
    go false false false true ea eb ec ed = let bad : true ≡ false = sym (rw (ea, eb, ec, ed) refl) ∙ h in absurd cc

-- ---- the command of parts that break no rule

all_formed : (v : Verb) (ops : List (List ℕ)) (ps : List Part) → length ops ≡ operand_count v → (order : Order) × (formed v ops ps ≡ Some order)
all_formed verbs.Run (jdf ∷ data_name ∷ []) ps n = (_, refl)
all_formed verbs.Show (jdf ∷ []) ps n = (_, refl)
all_formed verbs.Check (jdf ∷ data_name ∷ []) ps n = (_, refl)
all_formed verbs.Demo (rows ∷ []) ps n = (_, refl)
all_formed verbs.Trace (jdf ∷ data_name ∷ []) ps n = (_, refl)
all_formed verbs.Replay (jdf ∷ data_name ∷ list ∷ []) ps n = (_, refl)
all_formed verbs.Certify (jdf ∷ data_name ∷ []) ps n = (_, refl)
all_formed verbs.Ranks (jdf ∷ data_name ∷ count ∷ seed ∷ []) ps n = (_, refl)
all_formed v ops ps n = absurd (omega (arith, n))

by_rules : (ws : List (List ℕ)) (v : Verb) (ps : List Part) → read ws ≡ Some (v, ps) → All IsProper ws → (a b : Bool)
    → is_read (operand_count v) ps ≡ a → has_bad_number v ps ≡ b
    → ((order : Order) × Orders ws order) ⊎ IsUsage ws
by_rules ws v ps e all false b reads numbers = inr (breaks_rule ws v ps e reads)
by_rules ws v ps e all true true reads numbers = inr (breaks_number ws v ps e numbers)
by_rules ws v ps e all true false reads numbers =
    let f = all_formed v (operands ps) ps (counted (operand_count v) ps reads).0 in
    inl (f.0, record { verb = v; rest = ps; reads = e; asks = f.1; breaks_no_rule = breaks_none ws v ps e all reads numbers })

pub command_or_usage : CommandOrUsage
command_or_usage [] = inr (no_verb refl)
command_or_usage (w ∷ ws) = by_verb (verb_of w) refl
  where
    parts_of : Verb → Verb × List Part
    parts_of v = (v, parts (options_of v) ws)

    by_words : (v : Verb) → verb_of w ≡ Some v → All IsProper (w ∷ ws) ⊎ Any (λ x. IsProper x → ⊥) (w ∷ ws)
        → ((order : Order) × Orders (w ∷ ws) order) ⊎ IsUsage (w ∷ ws)
    by_words v e (inl all) = by_rules (w ∷ ws) v (parts (options_of v) ws) (ap (option_map parts_of) e) all _ _ refl refl
    by_words v e (inr any) = inr (improper_word any)

    by_verb : (o : Option Verb) → verb_of w ≡ o → ((order : Order) × Orders (w ∷ ws) order) ⊎ IsUsage (w ∷ ws)
    by_verb None e = inr (no_verb (ap (option_map parts_of) e))
    by_verb (Some v) e = by_words v e (all_or_any (w ∷ ws))
