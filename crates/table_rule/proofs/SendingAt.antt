-- The steps of a send at the word that a function computed, about the item that it names.
use Rattle.std.proofs.Common.{◌≡◌, ℕ, ℤ, ◌+◌, ◌%◌, ◌^◌, ◌<◌, List, length, sym, subst, Option}
use mathlib.Core.Option.{none}
use Rattle.atomic_table.specs.Table.{Allows, step}
use Rattle.ptg_base.specs.declared.edge.Item.{Item}
use Rattle.ptg_base.specs.declared.edge.Item.TheVariants as item
use Rattle.flow_meaning.specs.Machine.{SentItem}
use Rattle.work_board.specs.Sends.{IsNext}
use Rattle.table_rule.specs.declared.table_job.TableJob.{TableJob}
use Rattle.table_rule.specs.GivingBack.{MayGiveSend}
use Rattle.table_rule.specs.Plays.{GivesSend, HasName, RaisesLive, Seated}
use Rattle.table_rule.specs.Rule.{Rule}
use Rattle.table_rule.specs.Words.{live_word, turn_word}
use Rattle.table_rule.proofs.Sending.{sends_edge, sends_write}
use Rattle.table_rule.proofs.WordSteps.{raises_live}

pub raises_live_at : (j : TableJob) (word n id : ℕ) (m : Seated) → word ≡ live_word j.shards
    → m.0.credit < length m.0.turns → HasName m.0
    → Allows (Rule j) n id m word (λ x. (x + 1) % 2 ^ 64) (RaisesLive (step n word 1 0 none) m)
raises_live_at j word n id m at room named = rw at (raises_live j n id m room named)

-- the step gives the turn of the shard k back with this item
abbrev SendStep : TableJob → ℕ → ℕ → ℕ → ℕ → Seated → SentItem → Type 0
SendStep j word n id k m x = Allows (Rule j) n id m word (λ _. 0) (λ _. GivesSend x (step n word 0 0 none) m 0)

-- an edge, or a write-back
sends : (j : TableJob) (n id k : ℕ) (m : Seated) (i : Item) (tile : Option (List ℤ)) → MayGiveSend j k i tile m
    → SendStep j (turn_word k) n id k m record { item = i; tile = tile }
sends j n id k m (item.Edge e) tile s =
    let x = s.takes in
    sends_edge j n id m k e tile s.before s.after x.datatype s.turn s.next s.at s.stamped x.entries x.rest x.typed
    x.uses
sends j n id k m (item.Write w) tile s =
    let x = s.takes in
    let next = subst (λ (o : Option (List ℤ)). IsNext j.matched j.given (item.Write w) o m.0) x.carried s.next in
    subst (λ (o : Option (List ℤ)). SendStep j (turn_word k) n id k m record { item = item.Write w; tile = o })
    (sym x.carried)
    (sends_write j n id m k w x.content s.before s.after x.datatype s.turn next s.at s.stamped x.written x.rest x.typed
    x.uses)

pub sends_at : (j : TableJob) (x : SentItem) (i : Item) (tile : Option (List ℤ)) → x ≡ record { item = i; tile = tile }
    → (word n id k : ℕ) (m : Seated) → word ≡ turn_word k → MayGiveSend j k i tile m → SendStep j word n id k m x
sends_at j x i tile event word n id k m at s = rw (event, at) (sends j n id k m i tile s)
