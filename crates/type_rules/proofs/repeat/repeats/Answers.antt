use Rattle.std.proofs.Common.{◌∙◌, ap, take}
use Rattle.jdf_tree.specs.declared.expression.Word.{Word}
use Rattle.type_rules.specs.Repeats.{repeats}
use Rattle.type_rules.proofs.GivenTwice.{next_names, next_repeat, spelled_at}
use Rattle.type_rules.proofs.repeat.repeats.Goals as goal

pub loop-item-preserved : goal.loop-item-preserved
loop-item-preserved g c =
    let named = c.in_ok-of.ensures ∙ (c.bytes.ensures ∙ ap (λ (w : Word). w.text) c.word-word.ensures) in
    record {
      names =
          next_names g.T.HasName.word c.args.items.now c.loop-item.item-index c.item-item.result c.in_ok-of.field-0
          c.loop-item.names c.add.new.self c.in_ok-is_new.is_new c.loop-item-test.true c.item-item.is named
          c.loop-item.invariant.names c.in_ok-is_new.ensures.added c.in_ok-is_new.ensures.names;
      rules =
          next_repeat g.T.HasName.word c.args.code c.args.items.now c.loop-item.item-index c.item-item.result
          c.in_ok-of.field-0 c.loop-item.names c.in_ok-is_new.is_new c.and_rules-rules.result
          c.loop-item-test.true c.item-item.is named c.loop-item.invariant.names c.in_ok-is_new.ensures.added
          (spelled_at g.T.HasName.word c.and_rules-rules.result
          (repeats g.T.HasName.word c.args.code (take c.loop-item.item-index c.args.items.now))
          c.in_ok-is_new.is_new c.args.code c.item-item.result c.word-word.result.now c.word-word.ensures
          (c.and_rules-rules.ensures _ _ _ c.loop-item.invariant.rules c.fault_if.ensures));
    }
