-- A body that was read is one that a plan may have.
use Rattle.std.proofs.Common.{◌≡◌, ℕ, ◌+◌, true, List, length, Ok, IsTrue, subst}
use Rattle.grammar_core.specs.declared.token.Token.{Token}
use Rattle.term_core.specs.declared.body.Body.{Body}
use Rattle.term_core.specs.StatementList.{StatementList}
use Rattle.term_core.specs.WellBody.{IsWellBody}
use Rattle.plan_core.specs.Bodies.{respects_kinds, has_words, keeps_loop_variables}
use Rattle.body_lang.specs.Environment.{Environment}
use Rattle.body_lang.specs.Bindings.{Bindings, no_bindings}
use Rattle.body_lang.specs.Statements.{resolved}
use Rattle.body_lang.proofs.CallerLemmas.{own_words, whole_well}
use Rattle.body_lang.specs.Body.{IsBody}
use Rattle.body_lang.specs.TrapWords.{words_of}
use Rattle.type_check.proofs.BodyParts.{good_of}
use Rattle.type_check.proofs.BodyKinds.{kinds_of, kinds_respected}
use Rattle.type_check.proofs.BodyLoops.{AreBelow, loops_kept}
use Rattle.type_check.proofs.BodyWords.{words_there}
use Rattle.list_lemmas.proofs.Options.{same_Ok, steps_of}

abbrev Read : Type 0
Read = Body × List (List ℕ)

abbrev body_from : Environment → StatementList × Bindings → Read
body_from scope x = (record { statements = x.0; slots = length scope.locals + x.1.declared }, x.1.words)

-- what a plan needs of the body of a class
pub record IsFitBody (scope : Environment) (y : Read) : Type 0 where
  pub well : IsWellBody (length scope.locals) (length scope.flows) y.0
  pub kinds : IsTrue (respects_kinds (kinds_of scope) y.0.statements)
  pub loops : IsTrue (keeps_loop_variables y.0.statements)

pub fit_body : (scope : Environment) (tokens : List Token) (y : Read) → IsBody scope tokens y → IsFitBody scope y
fit_body scope tokens y h =
    let r = steps_of (resolved scope h.tree no_bindings) (λ (x : StatementList × Bindings). Ok (body_from scope x)) y h.named in
    let kinds = good_of (λ (x : StatementList × Bindings). respects_kinds (kinds_of scope) x.0 ≡ true)
    (resolved scope h.tree no_bindings) r.0 (kinds_respected scope h.tree no_bindings) r.1 in
    let loops = good_of (λ (x : StatementList × Bindings). (keeps_loop_variables x.0 ≡ true) × AreBelow scope x.1)
    (resolved scope h.tree no_bindings) r.0 (loops_kept scope h.tree no_bindings tt) r.1 in
    subst (IsFitBody scope) (same_Ok (body_from scope r.0) y r.2)
    (record { well = (whole_well scope h.tree r.0 r.1).1; kinds = kinds; loops = loops.0 })

pub fit_words : (scope : Environment) (tokens : List Token) (y : Read) → IsBody scope tokens y → IsTrue (has_words (length y.1) y.0.statements)
fit_words scope tokens y h = words_there y.1 y.0.statements (words_of h.tree) (own_words scope h.tree y h.named)
