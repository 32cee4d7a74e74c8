use Rattle.std.proofs.Common.{sym, ap, ◌∙◌, rules}
use Rattle.std.specs.Prelude.{Option}
use Rattle.jdf_tree.specs.declared.expression.Word.{Word}
use Rattle.jdf_read.proofs.BeforeClasses.{leading_moves, file_begins, skipped_goes_on, global_goes_on, file_fails, file_ends, file_stops}
use Rattle.jdf_read.proofs.Parts.{with_rest}
use Rattle.jdf_read.proofs.globals.file.Goals as goal

pub more-smaller : goal.more-smaller
more-smaller c = leading_moves _ _ _ c.in_ok-global.ensures

pub more-smaller-in_ok-push : goal.more-smaller-in_ok-push
more-smaller-in_ok-push c = leading_moves _ _ _ c.in_ok-global.ensures

pub more-init : goal.more-init
more-init c = rw c.new-globals.ensures (file_begins c.args.tokens.now)

pub more-preserved : goal.more-preserved
more-preserved c =
    skipped_goes_on c.more.globals c.more.rest.now c.in_ok-global.after.now _
    (sym c.is_class_next.ensures ∙ c.more-test.true)
    (c.in_ok-global.ensures ∙ ap (λ (global : Option Word). with_rest global c.in_ok-global.after.now)
    c.in_default.is) c.more.invariant

pub more-preserved-in_ok-push : goal.more-preserved-in_ok-push
more-preserved-in_ok-push c =
    global_goes_on c.more.globals c.more.rest.now c.in-Some.global c.in_ok-global.after.now _ c.push.new.self
    c.in_ok-push.ensures.ok (sym c.is_class_next.ensures ∙ c.more-test.true)
    (c.in_ok-global.ensures ∙ ap (λ (global : Option Word). with_rest global c.in_ok-global.after.now)
    c.in-Some.is) c.more.invariant

pub returns : goal.returns
returns c = file_ends c.more.globals c.more.rest.now c.in_ok-classes.classes c.in_ok-classes.rest.now _
    (sym c.is_class_next.ensures ∙ c.more-test.false) c.in_ok-classes.ensures c.more.invariant

pub returns-in_err-global : goal.returns-in_err-global
returns-in_err-global c =
    let fails = file_fails c.in_err-global.field-0.0 c.more.globals c.more.rest.now _
    (sym c.is_class_next.ensures ∙ c.more-test.true) c.in_err-global.ensures c.more.invariant in
    search rules

pub returns-in_err-classes : goal.returns-in_err-classes
returns-in_err-classes c =
    let fails = file_stops c.in_err-classes.field-0.0 c.more.globals c.more.rest.now _
    (sym c.is_class_next.ensures ∙ c.more-test.false) c.in_err-classes.ensures c.more.invariant in
    search rules
