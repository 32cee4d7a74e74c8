-- The names at the front of a body whose text has its fault further on. Such a body has no tree, so each name is judged
-- by the tokens beside it.
-- Carried by: `front_fault`; law `body_laws::names_agree`.
-- Tested by: `body_broken.txt`.
use Rattle.std.specs.Prelude.{ℕ, suc, zero, ◌-◌, Bool, true, false, ◌&&◌, ◌||◌, List, [], ◌∷◌, ◌++◌, length, take, Option, Some, None, Ok}
use Rattle.std.specs.Prelude.{if◌then◌else◌, slice_get}
use Rattle.grammar_core.specs.declared.token.Token.{Token}
use Rattle.jdf_lex.specs.declared.terminal.Terminal.{Terminal}
use Rattle.jdf_lex.specs.declared.terminal.Terminal.TheVariants as terminal
use Rattle.jdf_lex.specs.Sets.{starts}
use Rattle.jdf_lex.specs.Terminals.{terminal_of, is}
use Rattle.ptg_base.specs.Returns.{and_then}
use Rattle.jdf_tree.specs.declared.expression.Word.{Word}
use Rattle.jdf_tree.specs.declared.part.Part.TheVariants.{Body}
use Rattle.jdf_tree.specs.GrammarParts.{names, word_of}
use Rattle.body_lang.specs.declared.role.Role.{Role}
use Rattle.body_lang.specs.declared.role.Role.TheVariants as role
use Rattle.body_lang.specs.Environment.{Environment}
use Rattle.body_lang.specs.Meanings.{meaning_of}
use Rattle.expr_names.specs.Symbols.{Resolved}
use Rattle.body_lang.specs.Expressions.{value_of, slot_of, read_flow, written_flow}
use Rattle.body_lang.specs.Bindings.{Bindings, no_bindings, block_opened, require_fresh}

-- what is known at a token of a body
pub record TokenScan : Type 0 where
  pub bindings : Bindings
  -- for each open block, the innermost last: how many variables were seen before it, and how many of those belonged to
  -- blocks around
  pub open_blocks : List (ℕ × ℕ)
  -- the name of the variable whose declaration has begun
  pub naming : Option (List ℕ)
  -- the terminal of the token before
  pub previous : Option Terminal

-- what is known at the first token
abbrev pub at_first : TokenScan
at_first = record { bindings = no_bindings; open_blocks = []; naming = None; previous = None }

-- ---- what is known after a token

-- a variable is seen from here on; its slot does not matter
abbrev pub with_seen : List ℕ → Bool → Bindings → Bindings
with_seen name is_loop_variable k =
    record k { seen = k.seen ++ record { name = name; slot = 0; is_loop_variable = is_loop_variable } ∷ [] }

-- the declaration of this name, if there is one, takes effect
abbrev pub declared_by : Option (List ℕ) → Bool → TokenScan → TokenScan
declared_by None is_loop_variable st = st
declared_by (Some name) is_loop_variable st =
    record st { bindings = with_seen name is_loop_variable st.bindings; naming = None }

-- the declaration that has begun takes effect, if one has
abbrev pub declared : Bool → TokenScan → TokenScan
declared is_loop_variable st = declared_by st.naming is_loop_variable st

-- a block opens
abbrev pub block_entered : TokenScan → TokenScan
block_entered st =
    record st {
      bindings = block_opened st.bindings;
      open_blocks = st.open_blocks ++ (length st.bindings.seen, st.bindings.outside) ∷ [];
    }

-- a block closes, given what its opening noted: as many variables are seen as before it
abbrev pub block_left_by : Option (ℕ × ℕ) → TokenScan → TokenScan
block_left_by None st = st
block_left_by (Some n) st =
    record st {
      bindings = record st.bindings { seen = take n.0 st.bindings.seen; outside = n.1 };
      open_blocks = take (length st.open_blocks - 1) st.open_blocks;
    }

-- the innermost block closes, if one is open
abbrev pub block_left : TokenScan → TokenScan
block_left st = block_left_by (slice_get st.open_blocks (length st.open_blocks - 1)) st

-- whether this is the terminal of the token before
abbrev pub previous_is : Terminal → Option Terminal → Bool
previous_is k None = false
previous_is k (Some j) = is k j

-- a name after `int` or `for` begins a declaration
abbrev pub named_by : List ℕ → TokenScan → TokenScan
named_by name st =
    if previous_is terminal.Int st.previous || previous_is terminal.For st.previous
    then record st { naming = Some name }
    else st

-- a variable is seen after the `;` of its declaration, and a loop's variable in the loop's block
abbrev pub after_terminal : Terminal → List ℕ → TokenScan → TokenScan
after_terminal terminal.Semicolon text st = declared false st
after_terminal terminal.LeftBrace text st = declared true (block_entered st)
after_terminal terminal.RightBrace text st = block_left st
after_terminal terminal.Name text st = named_by text st
after_terminal terminal.TypeWord text st = named_by text st
after_terminal _ text st = st

-- what is known after this token
abbrev pub after_token : Token → TokenScan → TokenScan
after_token x st = record (after_terminal (terminal_of x) x.text st) { previous = Some (terminal_of x) }

-- ---- the role of a name

-- a statement begins at the first token, and after a semicolon or a brace
abbrev pub begins_here : Option Terminal → Bool
begins_here None = true
begins_here (Some k) = is terminal.Semicolon k || is terminal.LeftBrace k || is terminal.RightBrace k

-- What a name is, by the token before it and the tokens after it, as a table: the first line that holds decides. If
-- none holds, the name stands for a number.
abbrev pub role_lines : Option Terminal → List Token → List (Bool × Role)
role_lines last s =
    (previous_is terminal.Int last, role.Declared)
    ∷ (previous_is terminal.For last, role.NotLookedUp)
    ∷ (previous_is terminal.Trap last, role.NotLookedUp)
    ∷ (begins_here last && starts (is terminal.LeftBracket) s, role.ElementAssigned)
    ∷ (begins_here last && starts (is terminal.Assign) s, role.Assigned)
    ∷ (begins_here last, role.NotLookedUp)
    ∷ (starts (is terminal.LeftBracket) s, role.Element)
    ∷ []

-- the role of the first line that holds
abbrev pub first_line : List (Bool × Role) → Role
first_line [] = role.Value
first_line ((holds, r) ∷ ls) = if holds then r else first_line ls

-- the role of a name, by the token before it and the tokens after it
abbrev pub role_of : Option Terminal → List Token → Role
role_of last s = first_line (role_lines last s)

-- the fault of a result, if it is one
abbrev pub fault_of : {A : Type 0} → Resolved A → Resolved (Unit {0})
fault_of r = and_then r (λ _. Ok tt)

-- judges a name in this role: no fault, or its fault
abbrev pub judged_as : Role → Environment → Bindings → Word → Resolved (Unit {0})
judged_as role.Declared scope k w = require_fresh w k
judged_as role.NotLookedUp scope k w = Ok tt
judged_as role.Assigned scope k w = fault_of (slot_of w (meaning_of scope k.seen w.text))
judged_as role.ElementAssigned scope k w = fault_of (written_flow scope w)
judged_as role.Element scope k w = fault_of (read_flow scope w)
judged_as role.Value scope k w = fault_of (value_of w (meaning_of scope k.seen w.text))

-- judges the first of the tokens, if it is a name
abbrev pub judged : Environment → TokenScan → List Token → Resolved (Unit {0})
judged scope st [] = Ok tt
judged scope st (x ∷ s) =
    if names Body (terminal_of x) then judged_as (role_of st.previous s) scope st.bindings (word_of x) else Ok tt

-- the first fault of a name among this many tokens from here on
abbrev pub judged_among : Environment → TokenScan → ℕ → List Token → Resolved (Unit {0})
judged_among scope st zero s = Ok tt
judged_among scope st (suc n) [] = Ok tt
judged_among scope st (suc n) (x ∷ s) =
    and_then (judged scope st (x ∷ s)) (λ _. judged_among scope (after_token x st) n s)

-- the first fault of a name among the first n tokens of a body
abbrev pub front_fault : Environment → List Token → ℕ → Resolved (Unit {0})
front_fault scope tokens n = judged_among scope at_first n tokens
