-- What clap sees in a proper word: UTF-8 that is not empty, `-` or `--`.
use Rattle.std.proofs.Common.{◌≡◌, ℕ, suc, Bool, true, false, cond, List, [], ◌∷◌, ◌++◌, length, Option, Some, None, refl, sym, ap, ap₂, ◌∙◌, subst}
use Rattle.std.proofs.Common.{arith, codes}
use Rattle.std.specs.Prelude.{◌==◌, slice_get, drop, encode_utf8}
use Rattle.std.specs.List.{before_first}
use Rattle.std.specs.Str.{bytes_eq, chars, IsUtf8, encode_utf8_all}
use Rattle.std.proofs.lemmas.Bool.Decides.{nat_tests}
use Rattle.std.proofs.lemmas.Str.{encodes-chars, IsUtf8-past_char, encode_ascii}
use Rattle.std.proofs.lemmas.Slice.Eq.{bytes_eq-Decides}
use Rattle.std.specs.Option.{option_map_or}
use Rattle.clap.specs.Walk.{Held, Row, Rule, Text, arg_by_short, arg_by_long}
use Rattle.clap.specs.Faults.{flag_word_fault, flags_fault, bundle_fault, bundle_step_fault, short_fault, long_fault}
use Rattle.clap.specs.Lexer.{long_of, short_of}
use Rattle.ptg_words.specs.declared.options.Options.{Options}
use Rattle.ptg_words.specs.declared.options.Options.TheVariants.{NoOptions, Counts, CountsAndPreload}
use Rattle.ptg_words.specs.Parts.{NumberOption, name_of, workers, shards, named, form_of, text_after, has_counts}
use Rattle.ptg_words.specs.Words.{IsProper}
use Rattle.ptg_words.proofs.ClapStates.{Pend, IsValue, View, is_plain, is_name, is_text, is_flag, is_refused, held}
use Rattle.ptg_words.proofs.ClapUses.{none, number_option_rule, preload_rule}

pub first_char : (x : ℕ) (xs : List ℕ) → IsUtf8 (x ∷ xs) → (y : ℕ) × (slice_get (chars (x ∷ xs)) 0 ≡ Some y)
first_char x xs u = go (chars (x ∷ xs)) refl
  where
    go : (cs : List ℕ) → chars (x ∷ xs) ≡ cs → (y : ℕ) × (slice_get (chars (x ∷ xs)) 0 ≡ Some y)
    go [] e = let bad : [] ≡ x ∷ xs = sym (ap encode_utf8_all e) ∙ encodes-chars (x ∷ xs) u in absurd cc
    go (y ∷ ys) e = (y, ap (λ l. slice_get l 0) e)

module _ (c : List Rule) (no_short : (x : ℕ) → arg_by_short c x ≡ None) where
  bundle_fails : (x : ℕ) (xs : List ℕ) → IsUtf8 (x ∷ xs) → (k : ℕ) (h : Held) → none (flags_fault c false (suc k) (x ∷ xs) 0 h) ≡ false
  unfolding flags_fault none
  bundle_fails x xs u k h =
      let y = first_char x xs u in
      let rest = drop (length (encode_utf8 y.0)) (x ∷ xs) in
      ap (λ o. none (bundle_step_fault c false o (x ∷ xs) 0 h (flags_fault c false k))) y.1
      ∙ ap (λ r. none (short_fault c false r rest h (flags_fault c false k rest 0))) (no_short y.0)

  short_fails : (x : ℕ) (xs : List ℕ) → IsUtf8 (x ∷ xs) → (x == 45) ≡ false → (rows : List Row) (p : Pend)
      → none (flag_word_fault c false (long_of (45 ∷ x ∷ xs)) (45 ∷ x ∷ xs) (held rows p)) ≡ false
  short_fails x xs u e rows p =
      let long : long_of (45 ∷ x ∷ xs) ≡ None = rw e refl in
      let short : short_of (45 ∷ x ∷ xs) ≡ Some (x ∷ xs) = rw e refl in
      ap (λ o. none (flag_word_fault c false o (45 ∷ x ∷ xs) (held rows p))) long
      ∙ ap (λ o. none (option_map_or (λ flags. bundle_fault c false flags (held rows p)) o [])) short
      ∙ bundle_fails x xs u (length xs) (held rows p)

  module _ (opts : Options) (double : (y : ℕ) (ys : List ℕ) → View c opts (45 ∷ 45 ∷ y ∷ ys)) where
    dashed : (bs : List ℕ) → IsProper (45 ∷ bs) → View c opts (45 ∷ bs)
    dashed [] p = absurd (p.2 refl)
    dashed (x ∷ xs) p = go (x == 45) refl
      where
        go : (b : Bool) → (x == 45) ≡ b → View c opts (45 ∷ x ∷ xs)
        go false e = is_refused (rw e refl) (rw e refl)
            (short_fails x xs (IsUtf8-past_char (45 ∷ x ∷ xs) (x ∷ xs) 45 p.0
            (sym (ap (λ l. l ++ (x ∷ xs)) (encode_ascii 45 (omega arith))))) e)
        go true e =
            let is_dash : x ≡ 45 = grind (arith, nat_tests) in
            again xs (subst (λ z. IsProper (45 ∷ z ∷ xs)) is_dash p) (λ v. subst (λ z. View c opts (45 ∷ z ∷ xs)) (sym is_dash) v)
          where
            again : (zs : List ℕ) → IsProper (45 ∷ 45 ∷ zs) → (View c opts (45 ∷ 45 ∷ zs) → View c opts (45 ∷ x ∷ zs)) → View c opts (45 ∷ x ∷ zs)
            again [] q back = absurd (q.3 refl)
            again (y ∷ ys) q back = back (double y ys)

    pub view : (w : Text) → IsProper w → View c opts w
    view [] p = absurd (p.1 refl)
    view (b ∷ bs) p = go (b == 45) refl
      where
        go : (t : Bool) → (b == 45) ≡ t → View c opts (b ∷ bs)
        go false e = is_plain (rw e refl) (rw e refl) (rw e refl) (rw e refl)
        go true e =
            let is_dash : b ≡ 45 = grind (arith, nat_tests) in
            subst (λ z. View c opts (z ∷ bs)) (sym is_dash) (dashed bs (subst (λ z. IsProper (z ∷ bs)) is_dash p))

abbrev pub name_part : ℕ → List ℕ → Text
name_part y ys = before_first (λ b. b == 61) (y ∷ ys)

-- the rule of the option of this name, if these options have one
abbrev pub long_rule : Options → Text → Option Rule
long_rule NoOptions name = None
long_rule Counts name = cond (bytes_eq (codes "workers") name) (Some (number_option_rule workers))
    (cond (bytes_eq (codes "shards") name) (Some (number_option_rule shards)) None)
long_rule CountsAndPreload name = cond (bytes_eq (codes "workers") name) (Some (number_option_rule workers))
    (cond (bytes_eq (codes "shards") name) (Some (number_option_rule shards))
    (cond (bytes_eq (codes "preload") name) (Some preload_rule) None))

module _ (c : List Rule) where
  named_view : (opts : Options) (s : NumberOption) (y : ℕ) (ys : List ℕ) (text : Option Text) → text_after (y ∷ ys) ≡ text → name_of s ≡ name_part y ys
      → form_of opts (45 ∷ 45 ∷ y ∷ ys) ≡ named s (text_after (y ∷ ys)) → arg_by_long c (name_of s) ≡ Some (number_option_rule s) → IsValue c (name_of s)
      → View c opts (45 ∷ 45 ∷ y ∷ ys)
  named_view opts s y ys None e n f found value =
      is_name s (f ∙ ap (named s) e) refl (ap₂ (λ (a : Text) (t : Option Text). Some (a, t)) (sym n) e) found value
  named_view opts s y ys (Some t) e n f found value =
      is_text s t (f ∙ ap (named s) e) refl (ap₂ (λ (a : Text) (t : Option Text). Some (a, t)) (sym n) e) found

  -- a word that begins with `--`
  pub option_view : (opts : Options) → ((name : Text) → arg_by_long c name ≡ long_rule opts name)
      → (has_counts opts ≡ true → (s : NumberOption) → IsValue c (name_of s))
      → (y : ℕ) (ys : List ℕ) → View c opts (45 ∷ 45 ∷ y ∷ ys)
  unfolding none
  option_view NoOptions by_long by_id y ys = is_refused refl refl (λ rows p. rw (by_long (name_part y ys)) refl)
  option_view Counts by_long by_id y ys = go (bytes_eq (codes "workers") (name_part y ys)) (bytes_eq (codes "shards") (name_part y ys)) refl refl
    where
      go : (a b : Bool) → bytes_eq (codes "workers") (name_part y ys) ≡ a → bytes_eq (codes "shards") (name_part y ys) ≡ b → View c Counts (45 ∷ 45 ∷ y ∷ ys)
      go true b ea eb = named_view Counts workers y ys _ refl ((bytes_eq-Decides _ _).0 ea) (rw ea refl) (by_long (codes "workers")) (by_id refl workers)
      go false true ea eb = named_view Counts shards y ys _ refl ((bytes_eq-Decides _ _).0 eb) (rw (ea, eb) refl) (by_long (codes "shards")) (by_id refl shards)
      go false false ea eb = is_refused (rw (ea, eb) refl) refl (λ rows p. rw (by_long (name_part y ys), ea, eb) refl)
  option_view CountsAndPreload by_long by_id y ys =
      go (bytes_eq (codes "workers") (name_part y ys)) (bytes_eq (codes "shards") (name_part y ys))
      (bytes_eq (codes "preload") (name_part y ys)) (text_after (y ∷ ys)) refl refl refl refl
    where
      go : (a b d : Bool) (text : Option Text) → bytes_eq (codes "workers") (name_part y ys) ≡ a
          → bytes_eq (codes "shards") (name_part y ys) ≡ b → bytes_eq (codes "preload") (name_part y ys) ≡ d
          → text_after (y ∷ ys) ≡ text → View c CountsAndPreload (45 ∷ 45 ∷ y ∷ ys)
      go true b d text ea eb ed e = named_view CountsAndPreload workers y ys text e ((bytes_eq-Decides _ _).0 ea)
          (rw ea refl) (by_long (codes "workers")) (by_id refl workers)
      go false true d text ea eb ed e = named_view CountsAndPreload shards y ys text e ((bytes_eq-Decides _ _).0 eb)
          (rw (ea, eb) refl) (by_long (codes "shards")) (by_id refl shards)
      go false false true None ea eb ed e =
          is_flag (rw (ea, eb, ed, e) refl) refl
          (ap₂ (λ (a : Text) (t : Option Text). Some (a, t)) (sym ((bytes_eq-Decides _ _).0 ed)) e)
          (by_long (codes "preload"))
      go false false true (Some t) ea eb ed e =
          is_refused (rw (ea, eb, ed, e) refl) refl
          (λ rows p. ap (λ o. none (flag_word_fault c false o (45 ∷ 45 ∷ y ∷ ys) (held rows p)))
          (ap₂ (λ (a : Text) (t : Option Text). Some (a, t)) (sym ((bytes_eq-Decides _ _).0 ed)) e)
          ∙ ap (λ r. none (long_fault c false r (Some t) (held rows p))) (by_long (codes "preload")))
      go false false false text ea eb ed e =
          is_refused (rw (ea, eb, ed) refl) refl (λ rows p. rw (by_long (name_part y ys), ea, eb, ed) refl)
