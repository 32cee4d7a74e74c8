-- Small productions from which the grammar is built.
use Rattle.std.specs.Prelude.{ℕ, Bool, List, [], ◌∷◌, Option, None, ◌||◌, unwrap_or}
use Rattle.grammar_core.specs.declared.token.Token.{Token}
use Rattle.jdf_lex.specs.declared.terminal.Terminal.{Terminal}
use Rattle.jdf_lex.specs.declared.terminal.Terminal.TheVariants as terminal
use Rattle.grammar_core.specs.declared.code.Code.{Code}
use Rattle.jdf_lex.specs.Terminals.{is}
use Rattle.jdf_lex.specs.Counted.{is_name}
use Rattle.grammar_core.specs.Production.{seq, map, opt, star}
use Rattle.jdf_lex.specs.Sets.{one_of}
use Rattle.jdf_tree.specs.declared.expression.Word.{Word}
use Rattle.jdf_tree.specs.declared.part.Part.{Part}
use Rattle.jdf_tree.specs.declared.part.Part.TheVariants.{Class, Body}
use Rattle.jdf_tree.specs.Nonterminal.{Grammar}

-- a token of one terminal
abbrev pub word : Terminal → Grammar Token
word k = one_of (is k)

-- g with this terminal before it, which is not kept
abbrev pub prefixed_by : {A : Type 0} → Terminal → Grammar A → Grammar A
prefixed_by k g = map (λ (before, kept). kept) (seq (word k) g)

-- g with this terminal after it, which is not kept
abbrev pub suffixed_by : {A : Type 0} → Terminal → Grammar A → Grammar A
suffixed_by k g = map (λ (kept, after). kept) (seq g (word k))

-- no element of a list is too many
abbrev pub any : ℕ → Option Code
any i = None

-- one or more, separated by commas
abbrev pub listed : {A : Type 0} → Grammar A → Grammar (List A)
listed g = map (λ (one, more). one ∷ more) (seq g (star any (prefixed_by terminal.Comma g)))

-- a list that may be left out and then is empty
abbrev pub maybe : {A : Type 0} → Grammar (List A) → Grammar (List A)
maybe g = map (λ o. unwrap_or o []) (opt g)

-- The terminals that are names: not the reserved words, and in a body not int, if, else, for and trap either.
abbrev pub names : Part → Terminal → Bool
names Class k = is_name k
names Body k = is terminal.Name k || is terminal.TypeWord k

-- the name of a token, with its spot
abbrev pub word_of : Token → Word
word_of x = record { text = x.text; spot = x.spot }

-- a name of this part of the text
abbrev pub name : Part → Grammar Word
name part = map word_of (one_of (names part))
