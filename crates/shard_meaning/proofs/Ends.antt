-- The end of a task changes its shard as the calls that end it do, and no other shard.
use Rattle.std.proofs.Common.{◌≡◌, ◌≢◌, ℕ, ◌+◌, ◌<◌, true, [], ◌∷◌, ◌++◌, cond, refl, ap, sym, ◌∙◌, arith, Option, Some, None, Ok, Err, eq-eqb, ne_eqb, IsTrue}
use Rattle.std.proofs.lemmas.Bool.{false≢true}
use Rattle.ptg_base.specs.Task.{Task}
use Rattle.term_core.specs.declared.trap.Trap.{Trap}
use Rattle.plan_core.specs.declared.plan.Plan.{Plan}
use Rattle.coll_data.specs.Data.{Data}
use Rattle.dep_shard.specs.Content.{Content, Ends, IsUnchanged, KeepsEntriesAndWritten, entry_in}
use Rattle.flow_meaning.specs.Backward.{ended}
use Rattle.list_lemmas.specs.Counting.{as_number, weigh}
use Rattle.flow_meaning.specs.Ending.{Ended, has_outputs}
use Rattle.list_lemmas.proofs.Counts.{weigh-push}
use Rattle.shard_meaning.specs.Moment.{Moment, run_count, with_end}
use Rattle.shard_meaning.specs.Share.{IsShardOf, Placement, ended_weight, is_of, trap_weight}
use Rattle.shard_meaning.proofs.Claims.{none_away, one_here}
use Rattle.shard_meaning.proofs.Listing.{weigh-without}

-- a shard of which nothing but the spares has changed
pub unchanged : (P : Plan) (G : Data) (of : Placement) (k : ℕ) (R : Moment) (y z : Content) → IsUnchanged y z → IsShardOf P G of k R y → IsShardOf P G of k R z
unchanged P G of k R y z same h = record {
  there = λ t job here. ap (λ l. entry_in l t) same.entries ∙ h.there t job here;
  only = λ t e is. h.only t e (sym (ap (λ l. entry_in l t) same.entries) ∙ is);
  written = λ f. ap (weigh f) same.written ∙ h.written f;
  trapped = λ f. omega (arith, ap (weigh f) same.trapped, h.trapped f);
  running = same.running ∙ h.running;
  ended = omega (arith, same.running, same.ended, h.ended);
  elems = same.elems ∙ h.elems;
}

-- a task with outputs has no weight as one that traps
no_trap : (f : Task × Trap → ℕ) (t : Task) (o : Option Ended) → has_outputs o ≡ true → ended_weight f t o ≡ 0
no_trap f t None h = refl
no_trap f t (Some (Ok tiles)) h = refl
no_trap f t (Some (Err cause)) h = absurd (false≢true h)

module _ (P : Plan) (G : Data) (of : Placement) (k : ℕ) (R : Moment) (t : Task) (runs : 0 < run_count R t) where
  -- the parts of a shard that an end changes, whether the task ends with or without a trap
  ends_here : (y z : Content) → of t ≡ k → Ends y z → KeepsEntriesAndWritten y z
      → ((f : Task × Trap → ℕ) → weigh f z.trapped ≡ weigh f y.trapped + trap_weight P G of k f t)
      → IsShardOf P G of k R y → IsShardOf P G of k (with_end R t) z
  ends_here y z at ends kept trapped h =
      let less = weigh-without (λ u. as_number (is_of of k u)) t R.running runs in
      let one = one_here of k t at in
      record {
        there = λ u job here. ap (λ l. entry_in l u) kept.entries ∙ h.there u job here;
        only = λ u e is. h.only u e (sym (ap (λ l. entry_in l u) kept.entries) ∙ is);
        written = λ f. ap (weigh f) kept.written ∙ h.written f;
        trapped = λ f. omega (arith, trapped f, h.trapped f, weigh-without (trap_weight P G of k f) t R.running runs);
        running = omega (arith, ends.running, h.running, less, one);
        ended = omega (arith, ends.running, ends.ended, h.ended);
        elems = kept.elems ∙ h.elems;
      }

  pub end_here : (y z : Content) → of t ≡ k → IsTrue (has_outputs (ended P G t)) → Ends y z → KeepsEntriesAndWritten y z
      → z.trapped ≡ y.trapped → IsShardOf P G of k R y → IsShardOf P G of k (with_end R t) z
  end_here y z at outs ends kept trapped h =
      ends_here y z at ends kept (λ f. omega (
        arith,
        ap (weigh f) trapped,
        ap
            (λ b. cond b (ended_weight f t (ended P G t)) 0) (eq-eqb (of t) k at),
        no_trap f t (ended P G t) outs,
      )) h

  pub trap_here : (y z : Content) (cause : Trap) → of t ≡ k → ended P G t ≡ Some (Err cause) → Ends y z
      → KeepsEntriesAndWritten y z → z.trapped ≡ y.trapped ++ (t, cause) ∷ [] → IsShardOf P G of k R y
      → IsShardOf P G of k (with_end R t) z
  trap_here y z cause at traps ends kept trapped h =
      ends_here y z at ends kept (λ f. omega (
        arith,
        ap (weigh f) trapped,
        weigh-push f y.trapped (t, cause),
        ap
            (λ b. cond b (ended_weight f t (ended P G t)) 0) (eq-eqb (of t) k at),
        ap (ended_weight f t) traps,
      )) h

  pub end_away : (y : Content) → of t ≢ k → IsShardOf P G of k R y → IsShardOf P G of k (with_end R t) y
  end_away y away h =
      let less = weigh-without (λ u. as_number (is_of of k u)) t R.running runs in
      let none = none_away of k t away in
      record {
        there = h.there;
        only = h.only;
        written = h.written;
        trapped = λ f. omega (
          arith,
          h.trapped f,
          weigh-without (trap_weight P G of k f) t R.running runs,
          ap
              (λ b. cond b (ended_weight f t (ended P G t)) 0) (ne_eqb (of t) k away),
        );
        running = omega (arith, h.running, less, none);
        ended = h.ended;
        elems = h.elems;
      }
