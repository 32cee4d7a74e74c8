-- Which rules the words break, from their parts.
use Rattle.std.proofs.Common.{◌≡◌, ℕ, Bool, true, false, not, ◌&&◌, List, [], ◌∷◌, ◌++◌, ◌+◌, take, length, get_or, Some, Result, Ok, Err, IfOk}
use Rattle.std.proofs.Common.{refl, sym, ap, ◌∙◌, subst, arith, ◌<◌, ◌≤◌}
use Rattle.std.specs.Prelude.{◌==◌, drop, option_map, nat_le}
use Rattle.std.specs.List.{All, list_any, list_all, slice_index_or, AllByRecursion}
use Rattle.std.specs.Option.{option_map_or}
use Rattle.std.proofs.lemmas.List.Elements.{All-drop, All-push}
use Rattle.std.proofs.lemmas.List.{take_more, map-append}
use Rattle.std.specs.Borrow.{Bor}
use Rattle.ptg_base.specs.Decimal.{decimal, is_decimal, is_digit}
use Rattle.ptg_words.specs.Parts.{Part, parts, operands, is_lacking, is_stray, has_twice}
use Rattle.ptg_words.specs.declared.options.Options.{Options}
use Rattle.ptg_words.specs.declared.order.Order.{Order}
use Rattle.ptg_words.specs.declared.verbs.Verb.{Verb}
use Rattle.ptg_words.specs.Words.{Breaks, Orders, IsProper, IsUsage, no_verb, improper_word, stray_word, lacking_number, option_twice}
use Rattle.ptg_words.specs.Words.{operands_differ, bad_number, formed, read, verb_of, options_of, operands_of, operand_count, has_bad_count}
use Rattle.ptg_words.specs.Words.{has_bad_operand, has_bad_number, has_wrong_count, is_number}
use Rattle.ptg_words.specs.Readings.{Forms, HasBadOperand, IsOf, IsReadOf, is_read, texts}
use Rattle.ptg_words.specs.declared.order.WordsRefusal.{WordsRefusal}
use Rattle.ptg_words.specs.declared.verb.ReadVerb.{ReadVerb}

pub all_proper : (ws : List (List ℕ)) → All IsProper ws → AllByRecursion IsProper ws
all_proper [] h = tt
all_proper (w ∷ ws) h = (h 0 w (omega arith), all_proper ws (All-drop IsProper 1 (w ∷ ws) h))

pub rest_proper : (ws : List (List ℕ)) → All IsProper ws → AllByRecursion IsProper (drop 1 ws)
rest_proper [] h = tt
rest_proper (w ∷ ws) h = all_proper ws (All-drop IsProper 1 (w ∷ ws) h)

-- if words break a rule, their parts do
by_parts : (rule : Verb → List Part → Bool) (ws : List (List ℕ)) (v : Verb) (ps : List Part) → read ws ≡ Some (v, ps) → Breaks rule ws → rule v ps ≡ true
by_parts rule ws v ps e h = sym (ap (λ o. option_map_or (λ r. rule r.0 r.1) o false) e) ∙ h

pub to_rule : (rule : Verb → List Part → Bool) (ws : List (List ℕ)) (v : Verb) (ps : List Part) → read ws ≡ Some (v, ps) → rule v ps ≡ true → Breaks rule ws
to_rule rule ws v ps e h = ap (λ o. option_map_or (λ r. rule r.0 r.1) o false) e ∙ h

clash : (b : Bool) → b ≡ true → not b ≡ true → ⊥
clash true e f = absurd cc
clash false e f = absurd cc

four : (a b c d : Bool) → (not a && (not b && (not c && d))) ≡ true → (not a ≡ true) × (not b ≡ true) × (not c ≡ true) × (d ≡ true)
four false false false true e = (refl, refl, refl, refl)
four false false false false e = absurd cc
four false false true d e = absurd cc
four false true c d e = absurd cc
four true b c d e = absurd cc

kept : (v : Verb) (ps : List Part) → is_read (operand_count v) ps ≡ true
    → (not (list_any is_stray ps) ≡ true) × (not (list_any is_lacking ps) ≡ true) × (not (has_twice ps) ≡ true)
    × ((length (operands ps) == operand_count v) ≡ true)
kept v ps good = four (list_any is_stray ps) (list_any is_lacking ps) (has_twice ps) (length (operands ps) == operand_count v) good

-- arguments whose parts break no rule break none
pub breaks_none : (ws : List (List ℕ)) (v : Verb) (ps : List Part) → read ws ≡ Some (v, ps) → All IsProper ws
    → is_read (operand_count v) ps ≡ true → has_bad_number v ps ≡ false
    → IsUsage ws → ⊥
breaks_none ws v ps e proper good number (no_verb h) = absurd cc
breaks_none ws v ps e proper good number (improper_word any) = any.4 (subst IsProper any.3 (proper any.0 any.1 any.2))
breaks_none ws v ps e proper good number (stray_word h) = clash _ (by_parts (λ v ps. list_any is_stray ps) ws v ps e h) (kept v ps good).0
breaks_none ws v ps e proper good number (lacking_number h) = clash _ (by_parts (λ v ps. list_any is_lacking ps) ws v ps e h) (kept v ps good).1
breaks_none ws v ps e proper good number (option_twice h) = clash _ (by_parts (λ v ps. has_twice ps) ws v ps e h) (kept v ps good).2
breaks_none ws v ps e proper good number (operands_differ h) =
    clash (length (operands ps) == operand_count v) (kept v ps good).3 (by_parts has_wrong_count ws v ps e h)
breaks_none ws v ps e proper good number (bad_number h) = let bad = by_parts has_bad_number ws v ps e h in absurd cc

pub breaks_number : (ws : List (List ℕ)) (v : Verb) (ps : List Part) → read ws ≡ Some (v, ps) → has_bad_number v ps ≡ true → IsUsage ws
breaks_number ws v ps e h = bad_number (to_rule has_bad_number ws v ps e h)

-- a number in decimal digits is at most the largest
pub at_most : (most : ℕ) (text : List ℕ) → is_decimal most text ≡ true → nat_le (decimal text) most ≡ true
unfolding is_decimal
at_most most [] h = absurd cc
at_most most (b ∷ bs) h = go (list_all is_digit (b ∷ bs)) (nat_le (decimal (b ∷ bs)) most) h
  where
    go : (x y : Bool) → (x && y) ≡ true → y ≡ true
    go true y e = e
    go false y e = absurd cc

pub number_at_most : (least most : ℕ) (text : List ℕ) → is_number least most text ≡ true → nat_le (decimal text) most ≡ true
number_at_most least most text h = at_most most text (go (nat_le (length text) 20) (is_decimal most text) (nat_le least (decimal text)) h)
  where
    go : (a b c : Bool) → (a && (b && c)) ≡ true → b ≡ true
    go true true c e = refl
    go true false c e = absurd cc
    go false b c e = absurd cc

-- proper words form the command that their parts form
module _ (v : Verb) (ws : List (List ℕ)) (of : IsOf v ws) where
  abbrev pub rest_of : List Part
  rest_of = parts (options_of v) (drop 1 ws)

  pub order_of : (order : Order) → is_read (operand_count v) rest_of ≡ true → has_bad_count rest_of ≡ false
      → has_bad_operand (operands_of v) (operands rest_of) ≡ false
      → formed v (operands rest_of) rest_of ≡ Some order → Orders ws order
  order_of order good counts numbers asks = record {
    verb = v;
    rest = rest_of;
    reads = of.reads;
    asks = asks;
    breaks_no_rule = breaks_none ws v rest_of of.reads of.proper good (rw (counts, numbers) refl);
  }

  -- the same for operands that are known to be those of the parts
  pub order_from : (order : Order) (ops : List (List ℕ)) → is_read (operand_count v) rest_of ≡ true → has_bad_count rest_of ≡ false → ops ≡ operands rest_of
      → has_bad_operand (operands_of v) ops ≡ false → formed v ops rest_of ≡ Some order → Orders ws order
  order_from order ops good counts same numbers asks =
      order_of order good counts (ap (has_bad_operand (operands_of v)) (sym same) ∙ numbers) (ap (λ xs. formed v xs rest_of) (sym same) ∙ asks)

  -- what was read with the ids and options of the verb
  pub read_with : (n : ℕ) (opts : Options) (r : ReadVerb) → n ≡ operand_count v → opts ≡ options_of v
      → IsReadOf n (parts opts (drop 1 ws)) r → IsReadOf (operand_count v) rest_of r
  read_with n opts r count options read =
      subst (λ m. IsReadOf m rest_of r) count (subst (λ o. IsReadOf n (parts o (drop 1 ws)) r) options read)

  -- the command of what was read
  pub orders : (r : ReadVerb) (result : Result Order WordsRefusal) → IsReadOf (operand_count v) rest_of r
      → IfOk result (Forms v r) → IfOk result (λ order. Orders ws order)
  orders r (Ok order) read forms = order_from order (texts r.operands.items) read.good read.counts
      read.operand_texts forms.good (forms.asks rest_of read.options)
  orders r (Err e) read forms = tt

  -- words with an operand that is a bad number are a usage error
  pub refused_operand : (r : ReadVerb) → IsReadOf (operand_count v) rest_of r → HasBadOperand v r → IsUsage ws
  refused_operand r read bad = breaks_number ws v rest_of of.reads (rw read.counts (ap (has_bad_operand (operands_of v)) (sym read.operand_texts) ∙ bad))

-- proper words whose first one names this verb
pub begins : (ws : List (Bor (List ℕ))) (d : Bor (List ℕ)) (v : Verb) → 1 ≤ length ws → All IsProper (texts ws)
    → Some v ≡ verb_of (get_or ws 0 d).now → IsOf v (texts ws)
begins [] d v some proper is = absurd (omega (arith, some))
begins (w ∷ ws) d v some proper is = record {
  reads = ap (option_map (λ verb. (verb, parts (options_of verb) (texts ws)))) (sym is);
  proper = proper;
}

-- one more word
pub texts_more : (xs ys : List (Bor (List ℕ))) (list : List (List ℕ)) (i : ℕ) (d : List ℕ) (x : Bor (List ℕ))
    → ys ≡ xs ++ x ∷ [] → texts xs ≡ take i list → i < length list → x.now ≡ slice_index_or list i d
    → texts ys ≡ take (i + 1) list
texts_more xs ys list i d x pushed same lt is =
    ap texts pushed ∙ map-append (λ (s : Bor (List ℕ)). s.now) xs (x ∷ []) ∙ ap (λ zs. zs ++ x.now ∷ []) same
    ∙ ap (λ z. take i list ++ z ∷ []) is ∙ sym (take_more list i d lt)

pub proper_more : (list : List (List ℕ)) (i : ℕ) (d : List ℕ) → All IsProper (take i list) → i < length list
    → IsProper (slice_index_or list i d) → All IsProper (take (i + 1) list)
proper_more list i d all lt p = subst (All IsProper) (sym (take_more list i d lt)) (All-push IsProper (take i list) (slice_index_or list i d) all p)
