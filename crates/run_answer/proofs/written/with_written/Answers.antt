use Rattle.std.proofs.Common.{◌≡◌, [], arith, ap, sym, ◌∙◌, subst}
use Rattle.std.proofs.lemmas.Grind.{common_steps}
use Rattle.std.specs.List.{All}
use Rattle.flow_meaning.specs.Final.{replaced_data}
use Rattle.run_answer.specs.Written.{IsWritable}
use Rattle.run_answer.proofs.Replacing.{no_more, one_more, still_all, written_to, last_of}
use Rattle.run_answer.proofs.written.with_written.Goals as goal

pub with_tile_at-given-requires-clause-exists : goal.with_tile_at-given-requires-clause-exists
with_tile_at-given-requires-clause-exists c = (last_of c.loop-write.given _ _ _ c.in-Some.ensures.items c.loop-write.invariant.writable).exists

pub with_tile_at-given-requires-clause-elements : goal.with_tile_at-given-requires-clause-elements
with_tile_at-given-requires-clause-elements c = (last_of c.loop-write.given _ _ _ c.in-Some.ensures.items c.loop-write.invariant.writable).elements

pub loop-write-preserved : goal.loop-write-preserved
loop-write-preserved c = record {
  writable = subst (λ d. All (IsWritable d) c.pop.new.self.items) (sym c.with_tile_at-given.ensures)
      (still_all c.loop-write.given c.in-Some.write.place c.in-Some.tile _ _ _ c.in-Some.ensures.items c.loop-write.invariant.writable);
  same =
      ap (replaced_data (written_to c.pop.new.self.items)) c.with_tile_at-given.ensures
      ∙ sym (one_more c.pop.new.self.items (c.in-Some.write, c.in-Some.tile) c.loop-write.given)
      ∙ ap (λ ws. replaced_data (written_to ws) c.loop-write.given) (sym c.in-Some.ensures.items)
      ∙ c.loop-write.invariant.same;
}

pub returns : goal.returns
returns c =
    let empty : c.loop-write.written.items ≡ [] = grind (arith, common_steps, c.in_default.ensures.cases) in
    sym (no_more c.loop-write.given) ∙ ap (λ ws. replaced_data (written_to ws) c.loop-write.given) (sym empty) ∙ c.loop-write.invariant.same
