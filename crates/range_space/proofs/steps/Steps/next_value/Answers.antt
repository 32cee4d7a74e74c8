use Rattle.std.proofs.Common.{rules, FitsSigned, w64}
use Rattle.std.proofs.lemmas.Int.{to_z-of_z}
use Rattle.range_space.proofs.Stepping.{unfit_past}
use Rattle.range_space.proofs.steps.Steps.next_value.Goals as goal

pub returns-in-None : goal.returns-in-None
returns-in-None c =
    let s = c.args.self.now in
    let f : FitsSigned w64 c.args.v = search rules in
    let g : FitsSigned w64 s.hi = search rules in
    let k : FitsSigned w64 s.step = search rules in
    let n = simp to_z-of_z at c.in-None.ensures in
    unfit_past c.args.v s.hi s.step f g n
