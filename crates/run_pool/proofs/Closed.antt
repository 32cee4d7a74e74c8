-- The closed table of a run: its records are those of the passes on the desks.
use Rattle.std.proofs.Common.{◌≡◌, ℕ, List, map, ap, sym, ◌∙◌, subst}
use Rattle.ptg_base.specs.Task.{Task}
use Rattle.list_lemmas.proofs.Joins.{map-map}
use Rattle.dep_shard.specs.Content.{Content}
use Rattle.shard_meaning.specs.Calm.{HaveNoWork}
use Rattle.work_board.specs.declared.record.PassRecord.{PassRecord}
use Rattle.table_rule.specs.declared.table_job.TableJob.{TableJob}
use Rattle.table_rule.specs.Records.{joined}
use Rattle.dep_table.specs.ClosedMeaning.{HasTheMeaning}
use Rattle.dep_table.specs.ClosedTables.{ClosedView}
use Rattle.dep_table.specs.Closing.{IsClosedAt}
use Rattle.dep_table.specs.Views.{PassView, shown}
use Rattle.run_pool.specs.Gates.{AreLetThrough}
use Rattle.run_pool.specs.Seated.{PaddedDesk, pass_on, record_on}

-- records of passes that were on desks
pub seen_records : (ps : List PassView) (es : List PaddedDesk) (vs : List PassRecord) → ps ≡ map pass_on es
    → vs ≡ map shown ps → vs ≡ map record_on es
seen_records ps es vs passes records = records ∙ (ap (map shown) passes ∙ map-map shown pass_on es)

-- a table that was closed for this job
pub closed_at : (j : TableJob) (t : ClosedView) → t.job ≡ j → IsClosedAt j t.records t.shards
    → IsClosedAt t.job t.records t.shards
closed_at j t job at = subst (λ (i : TableJob). IsClosedAt i t.records t.shards) (sym job) at

-- what its passes did
pub ran_job : ((j : TableJob) (vs : List PassRecord) (ys : List Content) → IsClosedAt j vs ys → HaveNoWork ys
    → HasTheMeaning j.matched j.given (joined vs).state)
    → (t : ClosedView) → IsClosedAt t.job t.records t.shards → HaveNoWork t.shards
    → HasTheMeaning t.job.matched t.job.given (joined t.records).state
ran_job law t at none = law t.job t.records t.shards at none

-- the gate has let a worker run what they claimed
pub through_gate : (lets : ℕ → Task → Type 0) (workers : ℕ) (ps : List PassView) (es : List PaddedDesk)
    (vs : List PassRecord) → ps ≡ map pass_on es → vs ≡ map shown ps
    → AreLetThrough lets workers (joined (map record_on es)).state.claims
    → AreLetThrough lets workers (joined vs).state.claims
through_gate lets workers ps es vs passes records h =
    subst (λ (us : List PassRecord). AreLetThrough lets workers (joined us).state.claims)
    (sym (seen_records ps es vs passes records)) h
