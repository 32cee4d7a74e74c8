-- How the names and the parameters of a consistent job of two texts are spelled.
-- Carried by: law `jobs_are_spelled`.
use Rattle.std.specs.Prelude.{ℕ, List, IsTrue}
use Rattle.std.specs.List.{list_all}
use Rattle.ptg_base.specs.Names.{is_name}
use Rattle.ptg_base.specs.Task.{Task}
use Rattle.term_core.specs.Arith.{is_number}
use Rattle.plan_core.specs.NamesByNumber.{class_name}
use Rattle.plan_core.specs.declared.plan.Plan.{Plan}
use Rattle.coll_data.specs.Data.{Data}
use Rattle.dep_iter.specs.Tasks.{IsTask}
use Rattle.job_stages.specs.Verdict.{TextsDenote}
use Rattle.job_stages.specs.declared.verdict.JobVerdict.TheVariants as verdicts

-- the names of the classes of its tasks are spelled as names
abbrev pub NamesAreSpelled : Type 0
NamesAreSpelled =
    (jdf_text data_text : List ℕ) (P : Plan) (given : Data)
    → TextsDenote jdf_text data_text (verdicts.Consistent P given)
    → (t : Task) → IsTask P t → IsTrue (is_name (class_name P t.class))

-- the parameters of its tasks have 64 bits
abbrev pub ParametersHave64Bits : Type 0
ParametersHave64Bits =
    (jdf_text data_text : List ℕ) (P : Plan) (given : Data)
    → TextsDenote jdf_text data_text (verdicts.Consistent P given)
    → (t : Task) → IsTask P t → IsTrue (list_all is_number t.params)
