-- Whether a global of a JDF is missing from the tables of globals.
use Rattle.std.proofs.Common.{◌≡◌, ℕ, Bool, true, not, ◌||◌, List, [], ◌∷◌, None, is_some, if◌then◌else◌, refl, ◌∙◌, ap}
use Rattle.std.specs.List.{list_any, position}
use Rattle.name_table.specs.Names.{value_named}
use Rattle.coll_data.specs.Data.{Data}
use Rattle.type_rules.specs.declared.context.Globals.{Globals}
use Rattle.type_rules.specs.TreesAndFaults.{Word, Jdf}
use Rattle.type_rules.specs.Contexts.{AreGlobals}
use Rattle.type_rules.specs.Names.{word_is, coll_is}
use Rattle.std.proofs.lemmas.Bool.{or_left, or_right}
use Rattle.list_lemmas.proofs.Texts.{bytes_eq-self}
use Rattle.type_check.specs.Globals.{is_missing_here}
use Rattle.type_check.specs.Given.{is_given, is_missing}

-- two tests that agree on words with declared names agree on whether some word passes
any_declared : (p q : Word → Bool) (globals words : List Word)
    → ((name : List ℕ) → list_any (word_is name) words ≡ true → list_any (word_is name) globals ≡ true)
    → ((w : Word) → list_any (word_is w.text) globals ≡ true → p w ≡ q w) → list_any p words ≡ list_any q words
any_declared p q globals [] among same = refl
any_declared p q globals (w ∷ words) among same =
    let first = same w (among w.text (or_left (word_is w.text w) (list_any (word_is w.text) words) (bytes_eq-self w.text))) in
    let rest = any_declared p q globals words (λ name h. among name (or_right (word_is name w) (list_any (word_is name) words) h)) same in
    λ i. first i || rest i

missing_where_declared : (jdf : Jdf) (given : Data) (globals : Globals)
    → AreGlobals (record { jdf = jdf; given = given }) globals → (w : Word)
    → list_any (word_is w.text) jdf.globals ≡ true
    → is_missing_here globals w.text ≡ not (is_given given w.text)
missing_where_declared jdf given globals tables w declared =
    let ints = tables.ints w.text ∙ ap (λ b. if b then value_named given.ints w.text else None) declared in
    let colls = tables.colls w.text ∙ ap (λ b. if b then position (coll_is w.text) given.colls else None) declared in
    λ i. not (is_some (ints i) || is_some (colls i))

pub missing_is : (jdf : Jdf) (given : Data) (globals : Globals)
    → AreGlobals (record { jdf = jdf; given = given }) globals
    → list_any (λ (w : Word). is_missing_here globals w.text) jdf.globals ≡ is_missing jdf given
missing_is jdf given globals tables =
    any_declared (λ (w : Word). is_missing_here globals w.text) (λ (w : Word). not (is_given given w.text))
    jdf.globals jdf.globals (λ name h. h) (missing_where_declared jdf given globals tables)
