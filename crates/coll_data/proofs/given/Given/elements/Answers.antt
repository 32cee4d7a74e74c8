use Rattle.std.proofs.Common.{◌≡◌, ℕ, List, ◌∷◌, map, Some, slice_get, subst, arith}
use Rattle.coll_data.specs.Data.{Data}
use Rattle.coll_data.specs.WellMade.{is_element_count, elements_by_type}
use Rattle.list_lemmas.proofs.Places.{passes_at}
use Rattle.coll_data.proofs.Found.{element_at}
use Rattle.coll_data.proofs.given.Given.elements.Goals as goal

pub returns-else-datatype-eq0-clause-elements : goal.returns-else-datatype-eq0-clause-elements
returns-else-datatype-eq0-clause-elements c =
    subst (λ (d : Data). slice_get (elements_by_type d) c.args.datatype ≡ Some c.get.result.now.1) c.self.view_is
    (element_at c.self.inside.elems c.self.inside.types c.args.datatype c.get.result.now (omega (arith, c.if-datatype-eq0.false)) c.get.ensures.value)

pub returns-else-datatype-eq0-clause-within : goal.returns-else-datatype-eq0-clause-within
returns-else-datatype-eq0-clause-within c =
    passes_at is_element_count (c.self.inside.elems ∷ map (λ (t : List ℕ × ℕ). t.1) c.self.inside.types)
    c.args.datatype c.get.result.now.1 c.self.invariant.element_counts
    (element_at c.self.inside.elems c.self.inside.types c.args.datatype c.get.result.now (omega (arith, c.if-datatype-eq0.false)) c.get.ensures.value)
