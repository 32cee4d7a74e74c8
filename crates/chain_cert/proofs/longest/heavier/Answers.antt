use Rattle.std.proofs.Common.{◌++◌, ◌∷◌, [], Some, sym, ◌∙◌, subst}
use Rattle.std.proofs.lemmas.Bool.{false≢true}
use Rattle.chain_cert.specs.Finding.{IsHeaviestRow}
use Rattle.chain_cert.proofs.Leasts.{heaviest_first, heaviest_new, heaviest_old}
use Rattle.chain_cert.proofs.longest.heavier.Goals as goal

pub returns-in_default : goal.returns-in_default
returns-in_default c = λ rows h.
    subst (λ u. IsHeaviestRow (rows ++ c.args.row.now ∷ []) (Some (u, c.args.row.now.1))) (sym c.copy.ensures)
    (heaviest_first rows c.args.row.now (subst (IsHeaviestRow rows) c.in_default.is h))

pub returns-then-is_heavier : goal.returns-then-is_heavier
returns-then-is_heavier c = λ rows h.
    subst (λ u. IsHeaviestRow (rows ++ c.args.row.now ∷ []) (Some (u, c.args.row.now.1))) (sym c.copy-then-is_heavier.ensures)
    (heaviest_new rows c.args.row.now c.in-Some.old (c.is_heavier.ensures.0 c.if-is_heavier.true) (subst (IsHeaviestRow rows) c.in-Some.is h))

pub returns : goal.returns
returns c = λ rows h. heaviest_old rows c.args.row.now c.in-Some.old
    (λ more. false≢true (sym c.if-is_heavier.false ∙ c.is_heavier.ensures.1 more))
    (subst (IsHeaviestRow rows) c.in-Some.is h)
