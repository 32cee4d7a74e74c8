use Rattle.std.proofs.Common.{◌≡◌, ap, ◌∙◌, take, slice_set, FitsSigned, w64}
use Rattle.std.proofs.lemmas.Int.{to_z-of_z}
use Rattle.std.proofs.Math.Seq.{take-set-lt}
use Rattle.body_eval.specs.State.{Frame}
use Rattle.body_eval.proofs.scratch.Scratch.assign.Goals as goal

pub returns-then-number-self-clause-slots : goal.returns-then-number-self-clause-slots
returns-then-number-self-clause-slots c =
    let f : FitsSigned w64 c.args.v = c.ranges.v in
    let slots : take c.self.inside.used c.self.inside.slots ≡ c.args.self.now.slots = ap (λ (frame : Frame). frame.slots) c.self.view_is in
    simp to_z-of_z (take-set-lt c.self.inside.used c.self.inside.slots c.args.number c.args.v c.if-number-self.true
    ∙ ap (λ s. slice_set s c.args.number c.args.v) slots)
