use Rattle.std.proofs.Common.{◌≡◌, ◌≤◌, length, Ok, sym, ap, ◌∙◌, arith}
use Rattle.body_lang.specs.Environment.{environment_of}
use Rattle.body_lang.specs.Bindings.{Bindings, no_bindings, bindings_of}
use Rattle.body_lang.specs.Statements.{resolved}
use Rattle.body_lang.proofs.WellBlocks.{whole_well}
use Rattle.body_lang.proofs.names.resolve.Goals as goal

pub overflow_add-slots : goal.overflow_add-slots
overflow_add-slots c =
    let e : resolved (environment_of c.args.scope.now) c.args.tree.now no_bindings ≡ Ok (c.in_ok-statements.statements, bindings_of c.block.new.bindings) =
    ap (λ (k : Bindings). resolved (environment_of c.args.scope.now) c.args.tree.now k) (sym c.new-bindings.ensures) ∙ c.in_ok-statements.ensures in
    let at_most : c.block.new.bindings.declared ≤ 256 =
    (whole_well (environment_of c.args.scope.now) c.args.tree.now
    (c.in_ok-statements.statements, bindings_of c.block.new.bindings) e).0 in
    let locals : length c.args.scope.now.locals ≤ 16 = c.args.scope.now.locals_at_most in
    omega (arith, at_most, locals, c.len.ensures)

pub returns-clause-well : goal.returns-clause-well
returns-clause-well c =
    let e : resolved (environment_of c.args.scope.now) c.args.tree.now no_bindings ≡ Ok (c.in_ok-statements.statements, bindings_of c.block.new.bindings) =
    ap (λ (k : Bindings). resolved (environment_of c.args.scope.now) c.args.tree.now k) (sym c.new-bindings.ensures) ∙ c.in_ok-statements.ensures in
    rw c.len.ensures ((whole_well (environment_of c.args.scope.now) c.args.tree.now (c.in_ok-statements.statements, bindings_of c.block.new.bindings) e).1)
