-- What the numbers of workers and of shards, and the seed of `ranks`, change.
use Rattle.std.proofs.Common.{◌≡◌, ℕ, List, refl, ◌∙◌, ap, subst, inl, inr}
use Rattle.std.specs.Prelude.{Bool, false, if◌then◌else◌}
use Rattle.plan_core.specs.declared.plan.Plan.{Plan}
use Rattle.flow_meaning.specs.Answer.{answer}
use Rattle.ptg_words.specs.Words.{Orders}
use Rattle.run_pool.specs.declared.settings.Settings.{Settings}
use Rattle.run_pool.specs.Runs.{is_too_large}
use Rattle.ptg_words.specs.declared.order.Order.{Order}
use Rattle.ptg_words.specs.declared.order.Order.TheVariants.{Ranks, Run}
use Rattle.ptg_top.specs.declared.verdict.Finding.TheVariants.{Answer}
use Rattle.ptg_top.specs.Denotation as verdicts
use Rattle.ptg_top.specs.Denotation.{Denotation}
use Rattle.ptg_top.specs.Operands.{Operands}
use Rattle.ptg_top.specs.Meaning.{CommandDenotes, Denotes}
use Rattle.top_laws.specs.Settings.{SeedsChangeNothing, ShardsChangeNothing, WorkersChangeNothing}
use Rattle.ptg_top.specs.Answering.{IsAnswer, OnConsistent}
use Rattle.job_stages.specs.declared.verdict.JobVerdict.TheVariants as jobs
use Rattle.ptg_words.proofs.CallerLemmas.{one_command}

-- settings with which the same preloads are too large
abbrev AreAlike : Settings → Settings → Type 0
AreAlike a b = (P : Plan) → is_too_large a P ≡ is_too_large b P

alike_on : (a b : Settings) → AreAlike a b → (checked v : Denotation) → OnConsistent (IsAnswer a) checked v → OnConsistent (IsAnswer b) checked v
alike_on a b same (verdicts.Job (jobs.Consistent P given)) v h = h ∙ ap (λ (large : Bool). answered large) (same P)
  where
    answered : Bool → Denotation
    answered large = if large then verdicts.PreloadTooLarge else verdicts.Ran P (Answer (answer P given))
alike_on a b same checked v h = h

module _ (one other : List (List ℕ)) (jdf data_name : List ℕ) (a b : Settings) (operands : Operands) (v : Denotation) where
  same_denoted : AreAlike a b → Orders one (Run jdf data_name a.workers a.shards a.preload) → Orders other (Run jdf data_name b.workers b.shards b.preload)
      → Denotes one operands v → Denotes other operands v
  same_denoted same first second (inl (none, e)) = absurd (none (Run jdf data_name a.workers a.shards a.preload) first)
  same_denoted same first second (inr (command, formed, h)) =
      let here : Order = Run jdf data_name a.workers a.shards a.preload in
      let is : CommandDenotes operands here v = subst (λ (c : Order). CommandDenotes operands c v) (one_command one command here formed first) h in
      inr (Run jdf data_name b.workers b.shards b.preload, second, (is.0, is.1, alike_on a b same is.0 v is.2))

pub shards_change_nothing : ShardsChangeNothing
shards_change_nothing one other jdf data_name w s t p operands v first second h =
    same_denoted one other jdf data_name (record { workers = w; shards = s; preload = p })
    (record { workers = w; shards = t; preload = p }) operands v (λ P. refl) first second h

pub workers_change_nothing : WorkersChangeNothing
workers_change_nothing one other jdf data_name w u s t operands v first second h =
    same_denoted one other jdf data_name (record { workers = w; shards = s; preload = false })
    (record { workers = u; shards = t; preload = false }) operands v (λ P. refl) first second h

pub seeds_change_nothing : SeedsChangeNothing
seeds_change_nothing one other jdf data_name r seed another operands v first second (inl (none, e)) = absurd (none (Ranks jdf data_name r seed) first)
seeds_change_nothing one other jdf data_name r seed another operands v first second (inr (command, formed, h)) =
    let here : Order = Ranks jdf data_name r seed in
    let is : CommandDenotes operands here v = subst (λ (c : Order). CommandDenotes operands c v) (one_command one command here formed first) h in
    inr (Ranks jdf data_name r another, second, is)
