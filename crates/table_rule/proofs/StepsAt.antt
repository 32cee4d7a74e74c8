-- The steps at the word that a function computed, about the event that it names.
use Rattle.std.proofs.Common.{◌≡◌, ◌⊎◌, ℕ, ◌+◌, ◌-◌, ◌%◌, ◌^◌, ◌<◌, List, [], ◌∷◌, false, Option, Some, inl, inr}
use mathlib.Core.Option.{none}
use Rattle.atomic_table.specs.Table.{Allows, step}
use Rattle.ptg_base.specs.Entry.{FlowTile}
use Rattle.ptg_base.specs.Task.{Task}
use Rattle.table_rule.specs.declared.table_job.TableJob.{TableJob}
use Rattle.table_rule.specs.GivingBack.{MayGiveBack, MayGiveClaim, MayGiveEnd, MayGiveEndAfterItems, MayGiveEndByTrap}
use Rattle.table_rule.specs.Live.{own_stamps}
use Rattle.table_rule.specs.Plays.{DrawsStamp, GivesBack, GivesClaim, GivesEnd, HasName, LowersLive, RaisesHalt}
use Rattle.table_rule.specs.Plays.{ReadsHalt, ReadsLive, Seated, TriesTurn}
use Rattle.table_rule.specs.Rule.{Rule}
use Rattle.table_rule.specs.Words.{halt_word, live_word, stamp_word, turn_word}
use Rattle.table_rule.proofs.Claiming.{claims}
use Rattle.table_rule.proofs.Ending.{ends_by_trap, ends_with_items}
use Rattle.table_rule.proofs.Giving.{leaves}
use Rattle.table_rule.proofs.Looking.{reads_halt, takes_turn}
use Rattle.table_rule.proofs.Stamping.{draws_stamp}
use Rattle.table_rule.proofs.WordSteps.{lowers_live, raises_halt, reads_live}

pub raises_halt_at : (j : TableJob) (word n id : ℕ) (m : Seated) → word ≡ halt_word j.shards → j.preloaded ≡ false
    → Allows (Rule j) n id m word (λ _. 1) (λ _. RaisesHalt (step n word 1 0 none) m 1)
raises_halt_at j word n id m at late = rw at (raises_halt j n id m late)

pub reads_halt_at : (e : Option TableJob) (j : TableJob) → e ≡ Some j → (word n id : ℕ) (m : Seated)
    → word ≡ halt_word j.shards → Allows (Rule j) n id m word (λ x. x) (ReadsHalt e (step n word 0 0 none) m)
reads_halt_at e j event word n id m at = rw (event, at) (reads_halt j n id m)

pub reads_live_at : (e : Option TableJob) (j : TableJob) → e ≡ Some j → (word n id : ℕ) (m : Seated)
    → word ≡ live_word j.shards → Allows (Rule j) n id m word (λ x. x) (ReadsLive e (step n word 0 0 none) m)
reads_live_at e j event word n id m at = rw (event, at) (reads_live j n id m)

pub lowers_at : (j : TableJob) (word n id : ℕ) (m : Seated) → word ≡ live_word j.shards → 0 < m.0.credit → HasName m.0
    → Allows (Rule j) n id m word (λ x. (x + (2 ^ 64 - 1)) % 2 ^ 64) (LowersLive (step n word 1 0 none) m)
lowers_at j word n id m at credit named = rw at (lowers_live j n id m credit named)

pub draws_at : (j : TableJob) (u t : Task) → u ≡ t → (word n id : ℕ) (m : Seated) → word ≡ stamp_word j.shards
    → m.0.running ≡ t ∷ [] → own_stamps m.0 t ≡ 0 → HasName m.0
    → Allows (Rule j) n id m word (λ x. (x + 1) % 2 ^ 64) (DrawsStamp u (step n word 1 0 none) m)
draws_at j u t task word n id m at runs none_yet named = rw (task, at) (draws_stamp j n id m t runs none_yet named)

pub takes_at : (e : Option TableJob) (j : TableJob) (k' k : ℕ) → e ≡ Some j → k' ≡ k → (word n id : ℕ) (m : Seated)
    → word ≡ turn_word k → k < j.shards → HasName m.0
    → Allows (Rule j) n id m word (λ _. 1) (TriesTurn e k' (step n word 1 0 none) m)
takes_at e j k' k event here word n id m at near named = rw (event, here, at) (takes_turn j n id m k near named)

pub leaves_at : (j : TableJob) (word n id k : ℕ) (m : Seated) → word ≡ turn_word k → MayGiveBack k m
    → Allows (Rule j) n id m word (λ _. 0) (λ _. GivesBack (step n word 0 0 none) m 0)
leaves_at j word n id k m at g = rw at (leaves j n id m k g.before g.after g.turn g.same g.spares)

pub claims_at : (e : Option TableJob) (j : TableJob) (u t : Task) (handed tiles : List FlowTile) → e ≡ Some j → u ≡ t
    → handed ≡ tiles → (word n id k : ℕ) (m : Seated) → word ≡ turn_word k → MayGiveClaim k t tiles m
    → Allows (Rule j) n id m word (λ _. 0) (λ _. GivesClaim e u handed (step n word 0 0 none) m 0)
claims_at e j u t handed tiles event task same word n id k m at g =
    rw (event, task, same, at) (claims j n id m k t g.before g.after tiles g.turn g.takes g.spares)

pub ends_at : (j : TableJob) (word n id k : ℕ) (m : Seated) → word ≡ turn_word k → MayGiveEnd j k m
    → Allows (Rule j) n id m word (λ _. 0) (λ _. GivesEnd (step n word 0 0 none) m 0)
ends_at j word n id k m at e = rw at (by e.how)
  where
    by : MayGiveEndAfterItems j k e.task m ⊎ MayGiveEndByTrap j k e.task m
        → Allows (Rule j) n id m (turn_word k) (λ _. 0) (λ _. GivesEnd (step n (turn_word k) 0 0 none) m 0)
    by (inl a) =
        ends_with_items j n id m k e.task a.before a.after a.turn a.may e.at e.stamped a.ends a.kept a.trapped a.spares
    by (inr b) =
        ends_by_trap j n id m k e.task b.cause b.before b.after b.turn b.may e.at e.stamped b.ends b.kept b.trapped
        b.spares
