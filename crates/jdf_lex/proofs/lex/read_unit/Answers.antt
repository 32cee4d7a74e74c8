use Rattle.std.proofs.Common.{◌≡◌, drop, Result, Err, sym, ◌∙◌, ap, subst, arith}
use Rattle.std.proofs.lemmas.Result.{err_from_is_err_and}
use Rattle.jdf_lex.specs.declared.cursor.Cursor.{Cursor}
use Rattle.jdf_lex.specs.declared.fault.JdfFault.{JdfFault}
use Rattle.ptg_base.specs.declared.refusal.Refusal.{Refusal}
use Rattle.ptg_base.specs.declared.refusal.Refusal.TheVariants.{Fault}
use Rattle.jdf_lex.specs.declared.fault.JdfCode.TheVariants.{Unclosed}
use Rattle.jdf_lex.specs.declared.lexical_unit.LexicalUnit.TheVariants.{TokenOf}
use Rattle.jdf_lex.specs.Tokens.{IsTokenFault}
use Rattle.jdf_lex.specs.Reading.{front_unit}
use Rattle.jdf_lex.proofs.Fronts.{found_unit, nothing}
use Rattle.jdf_lex.proofs.Scanning.{found_at, unit_here, no_token_is_dropped, scanned_dropped, scanned_token, fault_unclosed, fault_many}
use Rattle.jdf_lex.proofs.lex.read_unit.Goals as goal
use Rattle.list_lemmas.proofs.Options.{same_Err}

same_fault : (f g : JdfFault) → Fault f ≡ Fault g → f ≡ g
same_fault f g same = cc

pub returns-in_default-clause-refused : goal.returns-in_default-clause-refused
returns-in_default-clause-refused c = λ f is.
    let text = c.args.text.now in
    let none : nothing ≡ front_unit (drop c.args.here.index text) = found_at text c.args.here.index nothing (sym c.in_default.is ∙ c.front_unit.ensures) in
    let same : Fault (record { spot = c.args.here.spot; code = Unclosed }) ≡ Fault f = sym c.fault_at.ensures ∙ same_Err c.fault_at.result (Fault f) is in
    let faults : record { spot = c.args.here.spot; code = Unclosed } ≡ f = same_fault (record { spot = c.args.here.spot; code = Unclosed }) f same in
    subst (λ g. IsTokenFault text g) faults (fault_unclosed text c.args.tokens.now c.args.here c.requires.scanned c.requires.inside (sym none))

pub advance-next-requires-clause-inside : goal.advance-next-requires-clause-inside
advance-next-requires-clause-inside c =
    let text = c.args.text.now in
    let found = found_at text c.args.here.index (found_unit c.in-Some.unit c.in-Some.len) (sym c.in-Some.is ∙ c.front_unit.ensures) in
    (unit_here text c.args.here.index c.in-Some.unit c.in-Some.len c.requires.scanned.cursor.within (sym found)).within

pub returns-in_err-add_token-clause-refused : goal.returns-in_err-add_token-clause-refused
returns-in_err-add_token-clause-refused c = λ f is.
    let text = c.args.text.now in
    let exit = err_from_is_err_and c.from_residual.result c.from_residual.ensures.1 in
    let whole : ◌≡◌ {A = Result Cursor (Refusal JdfFault)} (Err exit.0) (Err (Fault f)) = sym exit.1 ∙ is in
    let same : c.in_err-add_token.field-0.0 ≡ Fault f = sym exit.2 ∙ same_Err exit.0 (Fault f) whole in
    let refused = c.in_err-add_token.ensures.refused f (ap (λ e. Err e) same) in
    let found = found_at text c.args.here.index (found_unit c.in-Some.unit c.in-Some.len) (sym c.in-Some.is ∙ c.front_unit.ensures) in
    let token : front_unit (drop c.args.here.index text) ≡ found_unit (TokenOf c.in-TokenOf.kind) c.in-Some.len =
    sym found ∙ ap (λ p. found_unit p c.in-Some.len) c.in-TokenOf.is in
    subst (λ g. IsTokenFault text g) (sym refused.0)
    (fault_many text c.args.tokens.now c.args.here c.in-TokenOf.kind c.in-Some.len c.requires.scanned token
    refused.1)

pub returns-in-TokenOf-clause-progress : goal.returns-in-TokenOf-clause-progress
returns-in-TokenOf-clause-progress c =
    let text = c.args.text.now in
    let found = found_at text c.args.here.index (found_unit c.in-Some.unit c.in-Some.len) (sym c.in-Some.is ∙ c.front_unit.ensures) in
    omega (arith, (unit_here text c.args.here.index c.in-Some.unit c.in-Some.len c.requires.scanned.cursor.within (sym found)).nonempty)

pub returns-in-TokenOf-clause-scanned : goal.returns-in-TokenOf-clause-scanned
returns-in-TokenOf-clause-scanned c =
    let text = c.args.text.now in
    let found = found_at text c.args.here.index (found_unit c.in-Some.unit c.in-Some.len) (sym c.in-Some.is ∙ c.front_unit.ensures) in
    let token : front_unit (drop c.args.here.index text) ≡ found_unit (TokenOf c.in-TokenOf.kind) c.in-Some.len =
    sym found ∙ ap (λ p. found_unit p c.in-Some.len) c.in-TokenOf.is in
    scanned_token text c.args.tokens.now c.add_token.new.tokens c.args.here c.advance-next.result c.in-TokenOf.kind c.in-Some.len c.requires.scanned token
    c.in_ok-add_token.ensures.at_most c.in_ok-add_token.ensures.added c.advance-next.ensures.cursor c.advance-next.ensures.index

pub returns-clause-progress : goal.returns-clause-progress
returns-clause-progress c =
    let text = c.args.text.now in
    let found = found_at text c.args.here.index (found_unit c.in-Some.unit c.in-Some.len) (sym c.in-Some.is ∙ c.front_unit.ensures) in
    omega (arith, (unit_here text c.args.here.index c.in-Some.unit c.in-Some.len c.requires.scanned.cursor.within (sym found)).nonempty)

pub returns-clause-scanned : goal.returns-clause-scanned
returns-clause-scanned c =
    let text = c.args.text.now in
    let found = found_at text c.args.here.index (found_unit c.in-Some.unit c.in-Some.len) (sym c.in-Some.is ∙ c.front_unit.ensures) in
    scanned_dropped text c.args.tokens.now c.args.here c.advance-next.result c.in-Some.unit c.in-Some.len c.requires.scanned (sym found)
    (no_token_is_dropped c.in-Some.unit c.in_default-unit.not-TokenOf) c.advance-next.ensures.cursor c.advance-next.ensures.index
