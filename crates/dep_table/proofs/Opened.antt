-- A table that was opened.
use Rattle.std.proofs.Common.{◌≡◌, ℕ, zero, suc, ◌<◌, ◌≤◌, ◌==◌, true, List, [], ◌∷◌, length, ap, sym, ◌∙◌, Some, slice_get, eq-eqb, ne_eqb}
use Rattle.std.specs.List.{filter}
use mathlib.Core.Logic.{dite}
use mathlib.Core.Option.{some, some-injective, some-ne-none}
use native.Mathlib.Decide.{ℕ_discrete}
use lib.ListN.{get_elem?}
use Rattle.ptg_base.specs.Task.{Task}
use Rattle.plan_core.specs.declared.plan.Plan.{Plan}
use Rattle.dep_iter.specs.Consistent.{IsConsistent, roots}
use Rattle.dep_iter.specs.Edges.{goal}
use Rattle.dep_iter.specs.Tasks.{all_tasks}
use Rattle.dep_shard.specs.Content.{Content}
use Rattle.flow_meaning.specs.Machine.{opening_state}
use Rattle.flow_meaning.specs.Table.{is_ready, ready_tasks}
use Rattle.shard_calls.specs.Opened.{AreOpeningShards}
use Rattle.table_rule.specs.declared.table_job.TableJob.{TableJob}
use Rattle.table_rule.specs.Opening.{AreOpeningWords, IsOpening}
use Rattle.dep_table.specs.Opened.{HaveOpeningReserve}
use Rattle.shard_meaning.proofs.CallerLemmas.{none_arrived}

-- a look-up that finds something, in both forms
pub found_both : {A : Type 0} (xs : List A) (k : ℕ) (x : A) → get_elem? xs k ≡ some x → slice_get xs k ≡ Some x
found_both [] k x e = absurd (some-ne-none x (sym e))
found_both (y ∷ xs) zero x e = ap (λ z. Some z) (some-injective y x e)
found_both (y ∷ xs) (suc k) x e = found_both xs k x e

zero_first : (g : ℕ) → (0 == g) ≡ (g == 0)
zero_first g = dite (ℕ_discrete g 0) (λ z. eq-eqb 0 g (sym z) ∙ sym (eq-eqb g 0 z)) (λ ne. ne_eqb 0 g (λ z. ne (sym z)) ∙ sym (ne_eqb g 0 ne))

ready_first : (P : Plan) (t : Task) → is_ready P opening_state t ≡ (goal P t == 0)
ready_first P t = ap (λ n. n == goal P t) (none_arrived P t) ∙ zero_first (goal P t)

-- before the first event the ready tasks are those that no edge goes into
ready_at_opening : (P : Plan) → length (ready_tasks P opening_state) ≡ length (roots P)
unfolding ready_tasks
ready_at_opening P = λ i. length (filter (λ t. ready_first P t i) (all_tasks P))

pub opened : (j : TableJob) (words : List ℕ) (ys : List Content) → IsConsistent j.matched → 0 < j.shards
    → j.shards ≤ 256 → AreOpeningWords j.shards (length (roots j.matched)) words
    → AreOpeningShards j.matched j.shards ys
    → (j.preloaded ≡ true → HaveOpeningReserve j.matched j.shards ys) → IsOpening j words ys
opened j words ys consistent least few w shards spares = record {
  consistent = consistent;
  some_shards = least;
  shards_at_most = few;
  shard_count = shards.count;
  opening_words = record { long = w.long; live = w.live ∙ sym (ready_at_opening j.matched); zero = w.zero };
  each = λ k y at. shards.each k y (found_both ys k y at);
  spares = λ pre k y at. spares pre k y (found_both ys k y at);
}
