use Rattle.std.proofs.Common.{sym, ◌∙◌, arith}
use Rattle.name_table.proofs.Found.{found_within, value_there, value_missing_there}
use Rattle.name_table.proofs.table.NameTable.get.Goals as goal

pub index-requires : goal.index-requires
index-requires g c =
    omega (
      arith,
      c.as_slice.ensures.len,
      found_within c.self.inside.pairs.items c.as_slice.result.now
          c.self.inside.index c.args.name.now c.in-Some.number c.self.invariant c.as_slice.ensures.value
          (sym c.number_of.ensures ∙ c.in-Some.is),
    )

pub returns-in-Some : goal.returns-in-Some
returns-in-Some g c =
    value_there c.args.self.now c.self.inside.pairs.items c.as_slice.result.now c.self.inside.index c.args.name.now
    c.in-Some.number c.index.result.now c.self.invariant c.self.view_is c.as_slice.ensures.value
    (sym c.number_of.ensures ∙ c.in-Some.is) c.index.ensures

pub returns-in-None : goal.returns-in-None
returns-in-None g c =
    value_missing_there c.args.self.now c.self.inside.pairs.items c.as_slice.result.now c.self.inside.index
    c.args.name.now c.self.invariant c.self.view_is c.as_slice.ensures.value
    (sym c.number_of.ensures ∙ c.in-None.is)
