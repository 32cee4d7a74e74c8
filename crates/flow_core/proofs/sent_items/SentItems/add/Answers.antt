use Rattle.std.proofs.Common.{◌≡◌, ◌∷◌, [], ◌++◌, cond, ap, sym, ◌∙◌}
use Rattle.flow_meaning.specs.Machine.{SentItem}
use Rattle.flow_core.specs.Kept.{SentAndKept, sent_as}
use Rattle.flow_core.proofs.sent_items.SentItems.add.Goals as goal

pub enter-requires : goal.enter-requires
enter-requires c =
    let s = c.args.self.now in
    let i = c.args.item in
    ap (λ (x : SentAndKept). sent_as i x.writes) c.self.view_is ∙ sym (ap (λ b. sent_as i (cond b s.writes s.edges)) (sym c.if-is_write.ensures)) ∙ c.requires

pub enter-requires-2 : goal.enter-requires-2
enter-requires-2 c =
    let s = c.args.self.now in
    let i = c.args.item in
    ap (λ (x : SentAndKept). sent_as i x.edges) c.self.view_is ∙ sym (ap (λ b. sent_as i (cond b s.writes s.edges)) (sym c.if-is_write.ensures)) ∙ c.requires

pub returns-then-is_write-clause-ok : goal.returns-then-is_write-clause-ok
returns-then-is_write-clause-ok c =
    let x : SentItem = record { item = c.args.item; tile = c.args.tile } in
    let s = c.args.self.now in
    let sends : c.with-history.result.sends ≡ s.sends ++ x ∷ [] = c.with-history.ensures ∙ ap (λ (y : SentAndKept). y.sends ++ x ∷ []) c.self.view_is in
    let edges = ap (λ (y : SentAndKept). y.edges) c.self.view_is in
    let writes = c.in_ok-enter.ensures.ok ∙ ap (λ (y : SentAndKept). y.writes ++ x ∷ []) c.self.view_is in
    λ j. record {
      sends = sends j;
      edges = cond (c.if-is_write.ensures j) (edges j) (s.edges ++ x ∷ []);
      writes = cond
          (c.if-is_write.ensures j) (writes j) s.writes;
    }

pub returns-clause-ok : goal.returns-clause-ok
returns-clause-ok c =
    let x : SentItem = record { item = c.args.item; tile = c.args.tile } in
    let s = c.args.self.now in
    let sends : c.with-history.result.sends ≡ s.sends ++ x ∷ [] = c.with-history.ensures ∙ ap (λ (y : SentAndKept). y.sends ++ x ∷ []) c.self.view_is in
    let edges = c.in_ok-enter-2.ensures.ok ∙ ap (λ (y : SentAndKept). y.edges ++ x ∷ []) c.self.view_is in
    let writes = ap (λ (y : SentAndKept). y.writes) c.self.view_is in
    λ j. record {
      sends = sends j;
      edges = cond (c.if-is_write.ensures j) s.edges (edges j);
      writes = cond
          (c.if-is_write.ensures j) (s.writes ++ x ∷ []) (writes j);
    }
