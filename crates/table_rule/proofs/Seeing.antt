-- What a pass that has taken the turn of a shard knows.
use Rattle.std.proofs.Common.{◌≡◌, ℕ, ℤ, zero, suc, ◌<◌, true, List, [], ◌∷◌, length, get_or, sym, ◌∙◌, subst, arith, Option}
use mathlib.Core.Logic.{dite}
use mathlib.Core.Option.{none, some, some-injective, some-ne-none}
use native.Mathlib.Decide.{ℕ_discrete}
use lib.ListN.{get_elem?}
use Rattle.ptg_base.specs.Task.{Task}
use Rattle.ptg_base.specs.declared.edge.Item.{Item}
use Rattle.dep_shard.specs.Content.{Content}
use Rattle.flow_meaning.specs.Machine.{MaySend}
use Rattle.shard_meaning.specs.Moment.{run_count}
use Rattle.work_board.specs.Sends.{IsNext}
use Rattle.work_board.specs.declared.record.PassRecord.{PassRecord}
use Rattle.table_rule.specs.declared.table_job.TableJob.{TableJob}
use Rattle.table_rule.specs.Plays.{WasSeen}
use Rattle.table_rule.specs.Records.{joined}
use Rattle.table_rule.specs.Rule.{Parts, Reserve, Share}
use Rattle.table_rule.specs.Words.{turn_word}
use Rattle.table_rule.proofs.Ending.{it_runs}
use Rattle.table_rule.proofs.SameMembers.{joined_parts}
use Rattle.table_rule.proofs.Sending.{may_send}

near_home : {A : Type 0} (l : List A) (k : ℕ) (a : A) → get_elem? l k ≡ some a → k < length l
near_home [] k a e = absurd (some-ne-none a (sym e))
near_home (x ∷ xs) zero a e = omega arith
near_home (x ∷ xs) (suc k) a e = omega (arith, near_home xs k a e)

module _ (j : TableJob) (k : ℕ) (v : PassRecord) (y : Content) (w : WasSeen j k v y) where
  seen_parts : Parts j w.table (joined w.table.views)
  seen_parts = joined_parts j w.table w.rule

  pub seen_shard : k < j.shards
  seen_shard = let r = seen_parts in omega (arith, near_home w.table.homes k (some y) w.home, r.slots)

  free : get_or w.table.words (turn_word k) 0 ≡ 0
  free = let r = seen_parts in let near = near_home w.table.homes k (some y) w.home in dite (ℕ_discrete (get_or w.table.words (turn_word k) 0) 0) (λ z. z)
      (λ nz. absurd (some-ne-none y (sym (some-injective none (some y) (sym (r.turns.out k near (omega (arith, r.turns.single k near))) ∙ w.home)))))

  same_shard : (Q : Content → Type 0) → (z : Content) × (get_elem? w.table.homes k ≡ some (some z)) × Q z → Q y
  same_shard Q t = subst Q (some-injective t.0 y (some-injective (some t.0) (some y) (sym t.1 ∙ w.home))) t.2

  pub seen_share : Share j (joined w.table.views) k y
  seen_share = let r = seen_parts in same_shard (Share j (joined w.table.views) k) (r.in_slots k (near_home w.table.homes k (some y) w.home) free)

  pub seen_reserve : j.preloaded ≡ true → Reserve j (joined w.table.views) k y
  seen_reserve pre = let r = seen_parts in same_shard (Reserve j (joined w.table.views) k)
      ((r.reserved pre).in_slots k (near_home w.table.homes k (some y) w.home) free)

  -- the task that the pass runs is among the running tasks of the moment
  pub seen_runs : (t : Task) → v.running ≡ t ∷ [] → 0 < run_count (joined w.table.views) t
  seen_runs t runs = it_runs w.table.views (joined w.table.views) (seen_parts).records w.id v w.mine t runs

  -- and what it may send next, by its own record, may be sent
  pub seen_next : (i : Item) (tile : Option (List ℤ)) → IsNext j.matched j.given i tile v → MaySend j.matched j.given (joined w.table.views).state i
  seen_next i tile next = may_send j w.table (joined w.table.views) seen_parts w.id v w.mine i tile next
