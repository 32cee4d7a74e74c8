use Rattle.std.proofs.Common.{◌≤◌, ◌-◌, ◌∙◌, length-drop, arith}
use Rattle.std.proofs.lemmas.List.{length-take}
use Rattle.ptg_io.proofs.Pieces.{appended_more}
use Rattle.ptg_io.proofs.writing.write_all.Goals as goal

pub loop-done-preserved : goal.loop-done-preserved
loop-done-preserved g c =
    let e = c.in_ok-done.ensures in
    let bytes = c.args.bytes.now in
    let within = simp (length-take, length-drop) at e.within in
    let room : c.in_ok-done.field-0 ≤ c.min-end.result - c.loop-done.done = omega (arith, within) in
    record {
      within = omega (arith, within);
      written = appended_more _ _ _ bytes _ _ _ room c.loop-done.invariant.written e.ok;
      grows = omega (arith, e.grows);
      no_fault = e.no_fault ∙ c.loop-done.invariant.no_fault;
    }
