-- Each production that passes the test is read soundly.
use Rattle.std.proofs.Common.{◌≡◌, Bool, true, false, List, [], ◌∷◌, ◌++◌, length, refl, inl, inr, arith}
use Rattle.std.specs.Prelude.{None, not}
use Rattle.std.proofs.lemmas.Bool.{and_parts, and_from, or_cases, not-true}
use Rattle.grammar_core.specs.Terminals.{Terminal}
use Rattle.grammar_core.specs.declared.token.Token.{Token}
use Rattle.grammar_core.specs.Terminals.{terminal_of, terminal_count, some_is, are_disjoint, is_within}
use Rattle.grammar_core.specs.Production.{Production, one_of, checked, seq, map, alt, opt, star, pick, after_token, limited, Language, then_fault}
use Rattle.grammar_core.specs.Production.{bad_unless, cut_at, taken, Derives}
use Rattle.grammar_core.specs.Reading.{Read, may_be_empty, first, starts, run}
use Rattle.grammar_core.specs.Predictive.{Claims, alone, second, both_first, is_fine, is_safe, has_plain}
use Rattle.grammar_core.proofs.Fuel.{Shrinks, run_shrinks}
use Rattle.grammar_core.proofs.Passes.{FaultsWithin, passes, safe_true}
use Rattle.grammar_core.proofs.Sound.{Sound, Text}
use Rattle.grammar_core.proofs.SoundTokens.{one_text, token_sound, checked_sound}
use Rattle.grammar_core.proofs.SoundSequences.{both_sound, both_text}
use Rattle.grammar_core.proofs.SoundChoices.{alt_sound, map_sound, opt_sound, pick_sound}
use Rattle.grammar_core.proofs.SoundLists.{many_sound}
use Rattle.grammar_core.proofs.SoundNonterminals.{after_token_sound}
use Rattle.grammar_core.proofs.SoundLimits.{limited_sound}

-- each production has a text
pub texts : {N : Type 0} {Tree : N → Type 0} (c : Claims N) (R : (n : N) → Language (Tree n))
    → ((n : N) → Text (R n)) → {A : Type 0} (g : Production N Tree A) → is_fine c g ≡ true → Text (Derives R g)
texts c R names (one_of q) fine = let one = one_text q fine in record { word = one.0 ∷ []; tree = one.0; fault = λ z. None; derives = λ z. (one.1 z, refl) }
texts c R names (checked q good d) fine = let one = one_text q (and_parts (some_is q terminal_count) _ fine).0 in
    record {
      word = one.0 ∷ [];
      tree = one.0;
      fault = λ z. bad_unless (good one.0) d;
      derives =
          λ z. (one.1 z, refl);
    }
texts c R names (limited l d g) fine = let t = texts c R names g fine in
    record {
      word = t.word;
      tree = t.tree;
      fault =
          λ z. cut_at (l.at (t.word ++ z)) d (taken (t.word ++ z) z) (t.fault z);
      derives =
          λ z. (t.fault z, t.derives z, refl);
    }
texts c R names (seq g h) fine =
    let f = and_parts (is_fine c g) _ fine in
    let f' = and_parts (is_fine c h) _ f.1 in
    both_text (Derives R g) (Derives R h) (texts c R names g f.0) (texts c R names h f'.0)
texts c R names (map f g) fine = let t = texts c R names g fine in
    record { word = t.word; tree = f t.tree; fault = t.fault; derives = λ z. (t.tree, t.derives z, refl) }
texts c R names (alt g h) fine = let t = texts c R names g (and_parts (is_fine c g) _ fine).0 in
    record { word = t.word; tree = t.tree; fault = t.fault; derives = λ z. inl (t.derives z) }
texts c R names (pick q g h) fine = let t = texts c R names g (and_parts (is_fine c g) _ fine).0 in
    record { word = t.word; tree = t.tree; fault = t.fault; derives = λ z. inl (t.derives z) }
texts c R names (opt g) fine = record { word = []; tree = None; fault = λ z. None; derives = λ z. (refl, refl) }
texts c R names (star full g) fine = record { word = []; tree = []; fault = λ z. None; derives = λ z. (refl, refl) }
texts c R names (after_token q n) fine =
    let one = one_text q fine in
    let text = names n in
    record {
      word = one.0 ∷ text.word;
      tree = (one.0, text.tree);
      fault =
          λ z. then_fault None 1 (text.fault z);
      derives =
          λ z. (text.word ++ z, text.fault z, one.1 (text.word ++ z), text.derives z, refl);
    }

-- and, if `has_plain`, a text without nonterminals
pub plain_text : {N : Type 0} {Tree : N → Type 0} (R : (n : N) → Language (Tree n)) {A : Type 0}
    (g : Production N Tree A) → has_plain g ≡ true → Text (Derives R g)
plain_text R (one_of q) h = let one = one_text q h in record { word = one.0 ∷ []; tree = one.0; fault = λ z. None; derives = λ z. (one.1 z, refl) }
plain_text R (checked q good d) h = let one = one_text q h in
    record {
      word = one.0 ∷ [];
      tree = one.0;
      fault = λ z. bad_unless (good one.0) d;
      derives =
          λ z. (one.1 z, refl);
    }
plain_text R (limited l d g) h = let t = plain_text R g h in
    record {
      word = t.word;
      tree = t.tree;
      fault =
          λ z. cut_at (l.at (t.word ++ z)) d (taken (t.word ++ z) z) (t.fault z);
      derives =
          λ z. (t.fault z, t.derives z, refl);
    }
plain_text R (seq g k) h = let a = and_parts (has_plain g) (has_plain k) h in both_text (Derives R g) (Derives R k) (plain_text R g a.0) (plain_text R k a.1)
plain_text R (map f g) h = let t = plain_text R g h in record { word = t.word; tree = f t.tree; fault = t.fault; derives = λ z. (t.tree, t.derives z, refl) }
plain_text R (alt g k) h =
    elim (or_cases (has_plain g) (has_plain k) h) [
      | inl u ↦ let t = plain_text R g u in record { word = t.word; tree = t.tree; fault = t.fault; derives = λ z. inl (t.derives z) }
      | inr u ↦ let t = plain_text R k u in record { word = t.word; tree = t.tree; fault = t.fault; derives = λ z. inr (t.derives z) }
    ]
plain_text R (pick q g k) h =
    elim (or_cases (has_plain g) (has_plain k) h) [
      | inl u ↦ let t = plain_text R g u in record { word = t.word; tree = t.tree; fault = t.fault; derives = λ z. inl (t.derives z) }
      | inr u ↦ let t = plain_text R k u in record { word = t.word; tree = t.tree; fault = t.fault; derives = λ z. inr (t.derives z) }
    ]
plain_text R (opt g) h = record { word = []; tree = None; fault = λ z. None; derives = λ z. (refl, refl) }
plain_text R (star full g) h = record { word = []; tree = []; fault = λ z. None; derives = λ z. (refl, refl) }
plain_text R (after_token q n) h = absurd cc

both_starts : {N : Type 0} {Tree : N → Type 0} {A : Type 0} (g h : Production N Tree A) (s : List Token)
    → starts (first g) s ≡ true → starts (first h) s ≡ true → starts (both_first g h) s ≡ true
both_starts g h [] a b = a
both_starts g h (x ∷ s) a b = and_from (first g (terminal_of x)) (first h (terminal_of x)) a b

pick_safe : {N : Type 0} {Tree : N → Type 0} (c : Claims N) (q : Terminal → Bool) {A : Type 0}
    (g h : Production N Tree A) → is_fine c (pick q g h) ≡ true
    → (is_safe false (both_first g h) g ≡ true) × (is_safe false (both_first g h) h ≡ true)
pick_safe c q g h fine =
    let both = both_first g h in
    let f1 = and_parts (is_fine c g) _ fine in
    let f2 = and_parts (is_fine c h) _ f1.1 in
    let f3 = and_parts (not (may_be_empty g)) _ f2.1 in
    let f4 = and_parts (not (may_be_empty h)) _ f3.1 in
    let f5 = and_parts (not (alone both g)) _ f4.1 in
    let f6 = and_parts (not (alone both h)) _ f5.1 in
    let f7 = and_parts (is_within (second c both g) q) _ f6.1 in
    let f8 = and_parts (are_disjoint (second c both h) q) _ f7.1 in
    and_parts (is_safe false both g) (is_safe false both h) f8.1

pub run_sound : {N : Type 0} {Tree : N → Type 0} (c : Claims N) (R : (n : N) → Language (Tree n)) (p : (n : N) → List Token → Read (Tree n))
    → ((n : N) → Shrinks (p n)) → ((n : N) → FaultsWithin (p n)) → ((n : N) → Text (R n)) → ((n : N) (s : List Token) → Sound (R n) (p n) s)
    → {A : Type 0} (g : Production N Tree A) → is_fine c g ≡ true → (s : List Token) → Sound (Derives R g) (run p g) s
run_sound c R p shrink faults names known (one_of q) fine s = token_sound q s fine
run_sound c R p shrink faults names known (checked q good d) fine s = checked_sound q good d s (and_parts (some_is q terminal_count) _ fine).0
run_sound c R p shrink faults names known (limited l d g) fine s =
    limited_sound l d (Derives R g) (run p g) (run_sound c R p shrink faults names known g fine) s
run_sound c R p shrink faults names known (seq g h) fine s =
    let f = and_parts (is_fine c g) _ fine in
    let f' = and_parts (is_fine c h) _ f.1 in
    both_sound (Derives R g) (Derives R h) (run p g) (run p h) s (run_sound c R p shrink faults names known g f.0 s)
    (run_sound c R p shrink faults names known h f'.0) (texts c R names h f'.0)
run_sound c R p shrink faults names known (map f g) fine s = map_sound f (Derives R g) (run p g) s (run_sound c R p shrink faults names known g fine s)
run_sound c R p shrink faults names known (alt g h) fine s =
    let f = and_parts (is_fine c g) _ fine in
    let f' = and_parts (is_fine c h) _ f.1 in
    alt_sound (Derives R g) (Derives R h) (run p g) (run p h) (first g) s
    (run_sound c R p shrink faults names known g f.0 s) (run_sound c R p shrink faults names known h f'.0 s)
run_sound c R p shrink faults names known (pick q g h) fine s =
    let f = and_parts (is_fine c g) _ fine in
    let f' = and_parts (is_fine c h) _ f.1 in
    let safe = pick_safe c q g h fine in
    pick_sound (Derives R g) (Derives R h) (run p g) (run p h) (first g) (first h) q s
    (run_sound c R p shrink faults names known g f.0 s) (run_sound c R p shrink faults names known h f'.0 s)
    (λ sa sb. passes c p shrink faults false (both_first g h) g f.0 safe.0 s (λ _. both_starts g h s sa sb) sa)
    (λ sb sa. passes c p shrink faults false (both_first g h) h f'.0 safe.1 s (λ _. both_starts g h s sa sb) sb)
run_sound c R p shrink faults names known (opt g) fine s =
    opt_sound (Derives R g) (run p g) (first g) s
    (run_sound c R p shrink faults names known g (and_parts (is_fine c g) _ fine).0 s)
run_sound c R p shrink faults names known (star full g) fine s =
    let f = and_parts (is_fine c g) _ fine in
    let never = not-true (may_be_empty g) (and_parts (not (may_be_empty g)) _ f.1).0 in
    many_sound full (Derives R g) (run p g) (first g) (λ s' x e. (run_shrinks p shrink g s' x e).1 never) (run_sound c R p shrink faults names known g f.0)
    (λ s' t. passes c p shrink faults true (λ _. false) g f.0 (safe_true (λ _. false) g) s' (λ e. absurd cc) t) (length s) 0 s (omega arith)
run_sound c R p shrink faults names known (after_token q n) fine s = after_token_sound q (R n) (p n) fine (known n) (names n) s
