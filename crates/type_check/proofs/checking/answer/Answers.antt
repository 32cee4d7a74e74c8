use Rattle.std.proofs.Common.{arith}
use Rattle.type_check.proofs.WellPlans.{well_plan}
use Rattle.type_check.proofs.checking.answer.Goals as goal

pub resolved-requires : goal.resolved-requires
resolved-requires c =
    record {
      globals = c.requires.globals;
      bounded = c.requires.limits;
      seen_at_most = omega arith;
      types_at_most = c.data_are_well_made.ensures.types_at_most;
    }

pub plan_of-requires : goal.plan_of-requires
plan_of-requires c =
    well_plan (record { jdf = c.args.jdf.now; given = c.args.given.now }) c.in-Ok.classes c.in-Ok.spaces
    c.requires.limits c.data_are_well_made.ensures c.in-Ok.ensures
