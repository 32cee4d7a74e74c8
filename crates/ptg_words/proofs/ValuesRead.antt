-- From clap's clauses to what was read of the parts of the words.
use Rattle.std.proofs.Common.{◌≡◌, ◌≢◌, ℕ, Bool, true, false, not, ◌&&◌, List, [], ◌∷◌, length, Option, refl, sym, ap, ◌∙◌, arith}
use Rattle.std.specs.Prelude.{option_map, option_to_list, slice_get, ◌==◌}
use Rattle.std.specs.List.{list_any}
use Rattle.std.specs.Borrow.{Bor}
use Rattle.std.proofs.lemmas.Bool.Decides.{nat_tests}
use Rattle.clap.specs.Walk.{Text}
use Rattle.clap.specs.Kinds.{Kinds}
use Rattle.ptg_words.specs.Parts.{NumberOption, Part, name_of, workers, shards, operand, given, lacking, preload, stray, operands, texts_of}
use Rattle.ptg_words.specs.Parts.{is_lacking, is_stray, is_named, has_twice}
use Rattle.ptg_words.specs.Readings.{is_read, texts_in}
use Rattle.ptg_words.proofs.ClapUses.{none}
use Rattle.std.proofs.lemmas.Bool.{or_parts, not-true}

pub none_is : (k : Kinds) → k ≡ [] → none k ≡ true
unfolding none
none_is k e = rw e refl

pub some_is : (k : Kinds) → k ≢ [] → none k ≡ false
unfolding none
some_is [] h = absurd (h refl)
some_is (k ∷ ks) h = refl

-- ---- how many operands and texts there are

four : (a b c d : Bool) → (a && (b && (c && d))) ≡ true → (a ≡ true) × (b ≡ true) × (c ≡ true) × (d ≡ true)
four true true true true e = (refl, refl, refl, refl)
four true true true false e = absurd cc
four true true false d e = absurd cc
four true false c d e = absurd cc
four false b c d e = absurd cc

pub counted : (n : ℕ) (ps : List Part) → is_read n ps ≡ true → (length (operands ps) ≡ n) × (has_twice ps ≡ false)
counted n ps e =
    let f = four (not (list_any is_stray ps)) (not (list_any is_lacking ps)) (not (has_twice ps)) (length (operands ps) == n) e in
    let same : (length (operands ps) == n) ≡ true = f.3 in
    (grind (arith, nat_tests), not-true (has_twice ps) f.2)

-- an option that does not occur twice has at most one text
no_texts : (s : NumberOption) (ps : List Part) → list_any (is_named (name_of s)) ps ≡ false → texts_of s ps ≡ []
no_texts s [] e = refl
no_texts s (operand w ∷ ps) e = no_texts s ps e
no_texts workers (given workers t ∷ ps) e = absurd cc
no_texts workers (given shards t ∷ ps) e = no_texts workers ps e
no_texts shards (given workers t ∷ ps) e = no_texts shards ps e
no_texts shards (given shards t ∷ ps) e = absurd cc
no_texts workers (lacking workers ∷ ps) e = absurd cc
no_texts workers (lacking shards ∷ ps) e = no_texts workers ps e
no_texts shards (lacking workers ∷ ps) e = no_texts shards ps e
no_texts shards (lacking shards ∷ ps) e = absurd cc
no_texts workers (preload ∷ ps) e = no_texts workers ps e
no_texts shards (preload ∷ ps) e = no_texts shards ps e
no_texts s (stray ∷ ps) e = no_texts s ps e

once : (s : NumberOption) (ps : List Part) → has_twice ps ≡ false → texts_of s ps ≡ option_to_list (slice_get (texts_of s ps) 0)
once s [] e = refl
once s (operand w ∷ ps) e = once s ps e
once workers (given workers t ∷ ps) e = ap (λ xs. t ∷ xs) (no_texts workers ps (or_parts _ _ e).0)
once workers (given shards t ∷ ps) e = once workers ps (or_parts _ _ e).1
once shards (given workers t ∷ ps) e = once shards ps (or_parts _ _ e).1
once shards (given shards t ∷ ps) e = ap (λ xs. t ∷ xs) (no_texts shards ps (or_parts _ _ e).0)
once s (lacking t ∷ ps) e = once s ps (or_parts _ _ e).1
once s (preload ∷ ps) e = once s ps (or_parts _ _ e).1
once s (stray ∷ ps) e = once s ps e

pub text_of_number_option : (s : NumberOption) (ps : List Part) (o : Option (Bor Text)) → has_twice ps ≡ false
    → option_map (λ (x : Bor Text). x.now) o ≡ slice_get (texts_of s ps) 0 → texts_of s ps ≡ texts_in o
text_of_number_option s ps o e f = once s ps e ∙ ap (λ (x : Option Text). option_to_list x) (sym f)
