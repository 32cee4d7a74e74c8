-- The parts before the first class, as a loop reads them.
use Rattle.std.proofs.Common.{◌≡◌, ◌<◌, Bool, true, false, cond, List, [], ◌∷◌, ◌++◌, length, Ok, Err, refl, sym, ap, ◌∙◌, append_assoc}
use Rattle.std.specs.Prelude.{Option, Some, None, ◌&&◌, ◌||◌}
use Rattle.std.proofs.lemmas.List.{append-nil}
use Rattle.grammar_core.specs.declared.token.Token.{Token}
use Rattle.jdf_lex.specs.declared.terminal.Terminal.{Terminal}
use Rattle.jdf_lex.specs.declared.terminal.Terminal.TheVariants as terminal
use Rattle.ptg_base.specs.declared.refusal.Refusal.TheVariants as errors
use Rattle.ptg_base.specs.Returns.{ReturnsRefusal}
use Rattle.jdf_lex.specs.Terminals.{is, terminal_of}
use Rattle.jdf_lex.specs.Counted.{is_name}
use Rattle.grammar_core.specs.Production.{star, opt}
use Rattle.jdf_lex.specs.Sets.{one_of, starts, token_at}
use Rattle.grammar_core.specs.Reading.{◌>>=◌, Read, nonterminal_at, reading}
use Rattle.grammar_core.specs.Refusing.{ReadRefusal}
use Rattle.grammar_core.proofs.CallerLemmas.{applied, nonterminal_is, pair_with, reading_consumes}
use Rattle.jdf_tree.specs.declared.expression.Word.{Word}
use Rattle.jdf_tree.specs.declared.part.Part.TheVariants.{Class}
use Rattle.jdf_tree.specs.declared.tree.ClassTree.{ClassTree}
use Rattle.jdf_tree.specs.declared.tree.Jdf.{Jdf}
use Rattle.jdf_tree.specs.Nonterminal.{a_file}
use Rattle.jdf_tree.specs.GrammarParts.{any, name, word_of}
use Rattle.jdf_tree.specs.ClassGrammar.{properties, head, class, is_no_right_bracket}
use Rattle.jdf_tree.specs.Grammar.{productions, skip, class_and_skips, classes, without_globals, with_global, file_after_extern, file_after_option}
use Rattle.jdf_tree.specs.Grammar.{file_after_properties, file_after_global, file}
use Rattle.jdf_read.specs.Next.{past, is_class, is_skip, leading}
use Rattle.jdf_read.proofs.Parts.{with_rest}

-- the result of reading a file
unfoldable pub opened : List Token → Read Jdf
opened s = nonterminal_at productions a_file s

pub opened_is : (s : List Token) → opened s ≡ reading productions file s
unfolding opened productions
opened_is s = nonterminal_is productions a_file s

-- a text with one more global before it, or none
abbrev pub led : Option Word → Jdf → Jdf
led None jdf = jdf
led (Some name) jdf = with_global name jdf

-- ---- one part before the first class, and the rest

abbrev last_of_four : Token × (Token × (Token × Jdf)) → Jdf
last_of_four x = x.1.1.1

abbrev first_of_three : Token × (Token × Token) → Token
first_of_three x = x.0

abbrev none_of : Token → Option Word
none_of x = None

after_raw : (x b : Token) (raw : Read Token) (later : List Token → Read Jdf)
    → ((((raw >>= λ r. later r.1 >>= pair_with r.0) >>= pair_with b) >>= pair_with x) >>= applied last_of_four)
    ≡ (((((raw >>= pair_with b) >>= pair_with x) >>= applied first_of_three) >>= applied none_of) >>= λ a. later a.1 >>= applied (led a.0))
after_raw x b (Err e) later = refl
after_raw x b (Ok r) later = go (later r.1)
  where
    go : (z : Read Jdf) → ((((z >>= pair_with r.0) >>= pair_with b) >>= pair_with x) >>= applied last_of_four) ≡ (z >>= applied (led None))
    go (Ok z) = refl
    go (Err e) = refl

extern_same : (x : Token) (quoted : Read Token) (raw : List Token → Read Token) (later : List Token → Read Jdf)
    → (((quoted >>= λ b. (raw b.1 >>= λ r. later r.1 >>= pair_with r.0) >>= pair_with b.0) >>= pair_with x) >>= applied last_of_four)
    ≡ (((((quoted >>= λ b. raw b.1 >>= pair_with b.0) >>= pair_with x) >>= applied first_of_three) >>= applied
    none_of) >>= λ a. later a.1 >>= applied (led a.0))
extern_same x (Ok b) raw later = after_raw x b.0 (raw b.1) later
extern_same x (Err e) raw later = refl

abbrev second_of_two : Token × Jdf → Jdf
second_of_two x = x.1

option_same : (x : Token) (read : Read Jdf) → ((read >>= pair_with x) >>= applied second_of_two) ≡ (read >>= applied (led None))
option_same x (Ok z) = refl
option_same x (Err e) = refl

abbrev global_before : Token × Jdf → Jdf
global_before x = with_global (word_of x.0) x.1

global_same : (x : Token) (read : Read Jdf) → ((read >>= pair_with x) >>= applied global_before) ≡ (read >>= applied (led (Some (word_of x))))
global_same x (Ok z) = refl
global_same x (Err e) = refl

abbrev last_of_five : Word × (Token × (List Token × (Token × Jdf))) → Jdf
last_of_five x = with_global x.0 x.1.1.1.1

abbrev front_of : List Token × Token → List Token
front_of x = x.0

abbrev back_of : Token × List Token → List Token
back_of x = x.1

abbrev global_of : Word × Option (List Token) → Option Word
global_of x = Some x.0

-- reading properties, from how their parts are read
abbrev props : Read Token → (List Token → Read (List Token)) → (List Token → Read Token) → Read (List Token)
props left tokens right = (left >>= λ b. ((tokens b.1 >>= λ c. right c.1 >>= pair_with c.0) >>= applied front_of) >>= pair_with b.0) >>= applied back_of

properties_same : (w : Word) (left : Read Token) (tokens : List Token → Read (List Token)) (right : List Token → Read Token) (later : List Token → Read Jdf)
    → (((left >>= λ b. (tokens b.1 >>= λ c. (right c.1 >>= λ d. later d.1 >>= pair_with d.0) >>= pair_with c.0) >>=
    pair_with b.0) >>= pair_with w) >>= applied last_of_five)
    ≡ ((((props left tokens right >>= applied Some) >>= pair_with w) >>= applied global_of) >>= λ a. later a.1 >>= applied (led a.0))
properties_same w (Err e) tokens right later = refl
properties_same w (Ok b) tokens right later = after_left (tokens b.1)
  where
    after_right : (c : List Token) (d : Token) (z : Read Jdf)
        → (((((z >>= pair_with d) >>= pair_with c) >>= pair_with b.0) >>= pair_with w) >>= applied last_of_five) ≡ (z >>= applied (led (Some w)))
    after_right c d (Ok z) = refl
    after_right c d (Err e) = refl

    after_tokens : (c : List Token) (r : Read Token)
        → (((((r >>= λ d. later d.1 >>= pair_with d.0) >>= pair_with c) >>= pair_with b.0) >>= pair_with w) >>= applied last_of_five)
        ≡ (((((((r >>= pair_with c) >>= applied front_of) >>= pair_with b.0) >>= applied back_of) >>= applied Some)
        >>= pair_with w) >>= applied global_of >>= λ a. later a.1 >>= applied (led a.0))
    after_tokens c (Ok d) = after_right c d.0 (later d.1)
    after_tokens c (Err e) = refl

    after_left : (t : Read (List Token))
        → ((((t >>= λ c. (right c.1 >>= λ d. later d.1 >>= pair_with d.0) >>= pair_with c.0) >>= pair_with b.0) >>= pair_with w) >>= applied last_of_five)
        ≡ (((((((t >>= λ c. right c.1 >>= pair_with c.0) >>= applied front_of) >>= pair_with b.0) >>= applied
        back_of) >>= applied Some) >>= pair_with w) >>= applied global_of >>= λ a. later a.1 >>= applied
        (led a.0))
    after_left (Ok c) = after_tokens c.0 (right c.1)
    after_left (Err e) = refl

-- ---- by the terminal of the first token

-- the three first terminals of a file: `extern`, an option and a name
pub record TerminalIs (k : Terminal) (extern option is_named : Bool) : Type 0 where
  pub extern_is : is terminal.Extern k ≡ extern
  pub option_is : is terminal.OptionLine k ≡ option
  pub named_is : is_name k ≡ is_named

pub data Kinds (k : Terminal) : Type 0 where
  an_extern : TerminalIs k true false false → Kinds k
  an_option : TerminalIs k false true false → Kinds k
  a_name : TerminalIs k false false true → Kinds k
  another : TerminalIs k false false false → Kinds k

kinds_of : (k : Terminal) → Kinds k
kinds_of terminal.Extern = an_extern (record { extern_is = refl; option_is = refl; named_is = refl })
kinds_of terminal.OptionLine = an_option (record { extern_is = refl; option_is = refl; named_is = refl })
kinds_of terminal.Name = a_name (record { extern_is = refl; option_is = refl; named_is = refl })
kinds_of terminal.TypeWord = a_name (record { extern_is = refl; option_is = refl; named_is = refl })
kinds_of terminal.Int = a_name (record { extern_is = refl; option_is = refl; named_is = refl })
kinds_of terminal.If = a_name (record { extern_is = refl; option_is = refl; named_is = refl })
kinds_of terminal.Else = a_name (record { extern_is = refl; option_is = refl; named_is = refl })
kinds_of terminal.For = a_name (record { extern_is = refl; option_is = refl; named_is = refl })
kinds_of terminal.Trap = a_name (record { extern_is = refl; option_is = refl; named_is = refl })
kinds_of _ = another (record { extern_is = refl; option_is = refl; named_is = refl })

abbrev led_by : Read (Option Word) → Read Jdf
led_by r = r >>= λ a. opened a.1 >>= applied (led a.0)

abbrev classes_alone : List Token → Read Jdf
classes_alone s = reading productions classes s >>= applied without_globals

-- the choices of a file, by the terminal of its first token and the terminals of the second
abbrev chosen : Bool → Bool → Bool → Bool → Bool → Read Jdf → Read Jdf → Read Jdf → Read Jdf → Read Jdf → Read Jdf
chosen extern option is_named paren bracket e o c p g =
    cond extern e (cond option o (cond (cond (is_named || is_named) (is_named && paren) is_named) c
    (cond (cond is_named (is_named && bracket) is_named) p g)))

abbrev paren_next : List Token → Bool
paren_next s = starts (is terminal.LeftParen) s

abbrev bracket_next : List Token → Bool
bracket_next s = starts (is terminal.LeftBracket) s

file_shape : (x : Token) (s : List Token) → reading productions file (x ∷ s)
    ≡ chosen (is terminal.Extern (terminal_of x)) (is terminal.OptionLine (terminal_of x)) (is_name (terminal_of x)) (paren_next s) (bracket_next s)
    (reading productions file_after_extern (x ∷ s)) (reading productions file_after_option (x ∷ s))
    (classes_alone (x ∷ s)) (reading productions file_after_properties (x ∷ s))
    (reading productions file_after_global (x ∷ s))
unfolding file file_after_extern file_after_option file_after_properties file_after_global classes class_and_skips class head
file_shape x s = refl

extern_led : (x : Token) (s : List Token) → TerminalIs (terminal_of x) true false false
    → reading productions file_after_extern (x ∷ s) ≡ led_by (reading productions leading (x ∷ s))
unfolding file_after_extern leading skip opened
extern_led x s t = rw t.extern_is (extern_same x (token_at (is terminal.Quoted) s) (token_at (is terminal.Raw)) (nonterminal_at productions a_file))

option_led : (x : Token) (s : List Token) → TerminalIs (terminal_of x) false true false
    → reading productions file_after_option (x ∷ s) ≡ led_by (reading productions leading (x ∷ s))
unfolding file_after_option leading skip opened
option_led x s t = rw (t.extern_is, t.option_is) (option_same x (nonterminal_at productions a_file s))

other_led : (x : Token) (s : List Token) → TerminalIs (terminal_of x) false false false
    → reading productions file_after_global (x ∷ s) ≡ led_by (reading productions leading (x ∷ s))
unfolding file_after_global leading skip
other_led x s t = rw (t.extern_is, t.option_is, t.named_is) refl

properties_led : (x : Token) (s : List Token) → TerminalIs (terminal_of x) false false true → bracket_next s ≡ true
    → reading productions file_after_properties (x ∷ s) ≡ led_by (reading productions leading (x ∷ s))
unfolding file_after_properties leading skip properties opened
properties_led x s t b = rw (t.extern_is, t.option_is, t.named_is, b)
    (properties_same (word_of x) (token_at (is terminal.LeftBracket) s)
    (reading productions (star any (one_of is_no_right_bracket))) (token_at (is terminal.RightBracket))
    (nonterminal_at productions a_file))

global_led : (x : Token) (s : List Token) → TerminalIs (terminal_of x) false false true → bracket_next s ≡ false
    → reading productions file_after_global (x ∷ s) ≡ led_by (reading productions leading (x ∷ s))
unfolding file_after_global leading skip properties opened
global_led x s t b = rw (t.extern_is, t.option_is, t.named_is, b) (global_same x (nonterminal_at productions a_file s))

-- the classes c if a name before "(" is next, else l
abbrev either : Bool → Bool → Read Jdf → Read Jdf → Read Jdf
either is_named paren c l = cond (is_named && paren) c l

by_kind : (is_named paren bracket : Bool) (e o c p g l : Read Jdf) → is_named ≡ true → (bracket ≡ true → p ≡ l)
    → (bracket ≡ false → g ≡ l) → chosen false false is_named paren bracket e o c p g ≡ either is_named paren c l
by_kind true true bracket e o c p g l n h k = refl
by_kind true false true e o c p g l n h k = h refl
by_kind true false false e o c p g l n h k = k refl
by_kind false paren bracket e o c p g l n h k = absurd cc

file_by : (x : Token) (s : List Token) → Kinds (terminal_of x)
    → reading productions file (x ∷ s) ≡ either (is_name (terminal_of x)) (paren_next s) (classes_alone (x ∷ s))
    (led_by (reading productions leading (x ∷ s)))
file_by x s (an_extern t) = file_shape x s ∙ rw (t.extern_is, t.named_is) (extern_led x s t)
file_by x s (an_option t) = file_shape x s ∙ rw (t.extern_is, t.option_is, t.named_is) (option_led x s t)
file_by x s (another t) = file_shape x s ∙ rw (t.extern_is, t.option_is, t.named_is) (other_led x s t)
file_by x s (a_name t) =
    file_shape x s
    ∙ rw (t.extern_is, t.option_is) (by_kind (is_name (terminal_of x)) (paren_next s) (bracket_next s)
    (reading productions file_after_extern (x ∷ s)) (reading productions file_after_option (x ∷ s))
    (classes_alone (x ∷ s)) (reading productions file_after_properties (x ∷ s))
    (reading productions file_after_global (x ∷ s)) (led_by (reading productions leading (x ∷ s))) t.named_is
    (properties_led x s t) (global_led x s t))

file_reads : (s : List Token) → reading productions file s ≡ cond (is_class s) (classes_alone s) (led_by (reading productions leading s))
unfolding file file_after_extern file_after_option file_after_properties file_after_global leading skip
file_reads [] = refl
file_reads (x ∷ s) = file_by x s (kinds_of (terminal_of x))

opened_step : (s : List Token) → opened s ≡ cond (is_class s) (classes_alone s) (led_by (reading productions leading s))
opened_step s = opened_is s ∙ file_reads s

-- ---- the loop

-- the globals that were read, followed by those of the rest
abbrev in_front : List Word → Jdf → Jdf
in_front front jdf = record { globals = front ++ jdf.globals; classes = jdf.classes }

unfoldable pub with_front : List Word → Read Jdf → Read Jdf
with_front front read = read >>= applied (in_front front)

with_nothing : (r : Read Jdf) → with_front [] r ≡ r
unfolding with_front
with_nothing (Ok x) = refl
with_nothing (Err e) = refl

pub file_begins : (s : List Token) → with_front [] (opened s) ≡ reading productions file s
file_begins s = with_nothing (opened s) ∙ opened_is s

-- the globals, with the one that was read if there is one
abbrev longer_by : List Word → Option Word → List Word
longer_by front None = front
longer_by front (Some name) = front ++ name ∷ []

one_more : (front : List Word) (a : Option Word) (r : Read Jdf) → with_front front (r >>= applied (led a)) ≡ with_front (longer_by front a) r
unfolding with_front
one_more front None (Ok x) = refl
one_more front None (Err e) = refl
one_more front (Some name) (Ok x) = ap (λ (l : List Word). Ok (record { globals = l; classes = x.0.classes }, x.1))
    (sym (append_assoc front (name ∷ []) x.0.globals))
one_more front (Some name) (Err e) = refl

pub file_goes_on : (front : List Word) (s : List Token) (a : Option Word) (next : List Token) (total : Read Jdf)
    → is_class s ≡ false → reading productions leading s ≡ Ok (a, next)
    → with_front front (opened s) ≡ total → with_front (longer_by front a) (opened next) ≡ total
file_goes_on front s a next total c e before =
    sym (ap (λ (r : Read Jdf). with_front front r) (opened_step s) ∙ rw (c, e) (one_more front a (opened next))) ∙ before

-- the same for a skipped part, and for a global
pub skipped_goes_on : (front : List Word) (s next : List Token) (total : Read Jdf) → is_class s ≡ false
    → reading productions leading s ≡ Ok (None, next) → with_front front (opened s) ≡ total
    → with_front front (opened next) ≡ total
skipped_goes_on front s next total c e before = file_goes_on front s None next total c e before

pub global_goes_on : (front : List Word) (s : List Token) (w : Word) (next : List Token) (total : Read Jdf)
    (new : List Word) → new ≡ front ++ w ∷ [] → is_class s ≡ false
    → reading productions leading s ≡ Ok (Some w, next)
    → with_front front (opened s) ≡ total → with_front new (opened next) ≡ total
global_goes_on front s w next total new n c e before = rw n (file_goes_on front s (Some w) next total c e before)

pub file_fails : (e : ReadRefusal) (front : List Word) (s : List Token) (total : Read Jdf) → is_class s ≡ false
    → ReturnsRefusal e (reading productions leading s) → with_front front (opened s) ≡ total
    → ReturnsRefusal e total
unfolding with_front
file_fails errors.OutOfMemory front s total c f before = tt
file_fails (errors.Fault x) front s total c f before = sym before ∙ (ap (λ (r : Read Jdf). with_front front r) (opened_step s) ∙ rw (c, f) refl)

pub file_ends : (front : List Word) (s : List Token) (found : List ClassTree) (next : List Token) (total : Read Jdf)
    → is_class s ≡ true → reading productions classes s ≡ Ok (found, next) → with_front front (opened s) ≡ total
    → total ≡ Ok (record { globals = front; classes = found }, next)
unfolding with_front
file_ends front s found next total c e before =
    sym before ∙ (ap (λ (r : Read Jdf). with_front front r) (opened_step s)
    ∙ rw (c, e) (ap (λ (l : List Word). Ok (record { globals = l; classes = found }, next)) (append-nil front)))

pub file_stops : (e : ReadRefusal) (front : List Word) (s : List Token) (total : Read Jdf) → is_class s ≡ true
    → ReturnsRefusal e (reading productions classes s) → with_front front (opened s) ≡ total
    → ReturnsRefusal e total
unfolding with_front
file_stops errors.OutOfMemory front s total c f before = tt
file_stops (errors.Fault x) front s total c f before = sym before ∙ (ap (λ (r : Read Jdf). with_front front r) (opened_step s) ∙ rw (c, f) refl)

pub leading_moves : (s : List Token) (a : Option Word) (next : List Token) → reading productions leading s ≡ Ok (a, next) → length next < length s
unfolding leading skip
leading_moves s a next e = reading_consumes productions leading refl s a next e

-- ---- how one part is read

leading_is : (s : List Token) → reading productions leading s
    ≡ cond (starts is_skip s) (reading productions skip s >>= applied none_of)
    ((reading productions (name Class) s >>= λ a. reading productions (opt properties) a.1 >>= pair_with a.0) >>=
    applied global_of)
unfolding leading skip
leading_is s = refl

pub leading_reads : (s : List Token) → reading productions leading s
    ≡ cond (starts is_skip s) (past skip s >>= λ r. with_rest None r)
    (reading productions (name Class) s >>= λ a. past (opt properties) a.1 >>= λ r. with_rest (Some a.0) r)
leading_reads s = leading_is s ∙ go (starts is_skip s) (reading productions skip s) (reading productions (name Class) s)
  where
    with_properties : (w : Word) (r : Read (Option (List Token)))
        → ((r >>= pair_with w) >>= applied global_of) ≡ ((r >>= λ x. Ok x.1) >>= λ t. with_rest (Some w) t)
    with_properties w (Ok x) = refl
    with_properties w (Err e) = refl

    go : (b : Bool) (r : Read Token) (n : Read Word)
        → cond b (r >>= applied none_of) ((n >>= λ a. reading productions (opt properties) a.1 >>= pair_with a.0) >>= applied global_of)
        ≡ cond b ((r >>= λ x. Ok x.1) >>= λ t. with_rest None t) (n >>= λ a. past (opt properties) a.1 >>= λ t. with_rest (Some a.0) t)
    go true (Ok x) n = refl
    go true (Err e) n = refl
    go false r (Ok a) = with_properties a.0 (reading productions (opt properties) a.1)
    go false r (Err e) = refl
