-- What each kind of step does to the pass that makes it, and what the pass learns from it.
-- Carried by: laws of `table_rule`.
use Rattle.std.specs.Prelude.{◌≡◌, ◌≢◌, ℕ, ◌+◌, ◌<◌, ◌==◌, Bool, true, List, [], ◌∷◌, length, Option, IfSome}
use mathlib.Core.Option.{some}
use lib.ListN.{get_elem?}
use Rattle.atomic_table.specs.Table.{Me, Step, rest}
use Rattle.ptg_base.specs.Entry.{FlowTile}
use Rattle.ptg_base.specs.Task.{Task}
use Rattle.ptg_base.specs.declared.edge.Edge.{Edge}
use Rattle.plan_core.specs.declared.plan.Plan.{Plan}
use Rattle.dep_iter.specs.Edges.{goal}
use Rattle.dep_shard.specs.Content.{Content}
use Rattle.flow_meaning.specs.Machine.{SentItem}
use Rattle.work_board.specs.Claims.{MayStart}
use Rattle.work_board.specs.Word.{Halt, Live, Turn}
use Rattle.work_board.specs.declared.record.PassRecord.{PassRecord}
use Rattle.table_rule.specs.declared.table_job.TableJob.{TableJob}
use Rattle.table_rule.specs.Changes.{turn_left, with_credit, with_halt, with_look, with_own_claim, with_own_end, with_own_send, with_quiet}
use Rattle.table_rule.specs.Changes.{with_stamp, with_turn, without_credit}
use Rattle.table_rule.specs.Rule.{Rule, Table}
use Rattle.table_rule.specs.Words.{halt_word, live_word, turn_word}
use Rattle.shard_meaning.specs.Share.{entry_found}

-- a pass as its seat has it: its record, and the shards whose turns it holds, as they are now
abbrev pub Seated : Type 0
Seated = Me Content PassRecord

-- the pass has a name, so it was not joined to another
abbrev pub HasName : PassRecord → Type 0
HasName v = 0 < length v.names

-- the pass has a name, this credit and one turn, that of the shard k, which had y₀ when it was taken and has y now
pub record HasTurn (m : Seated) (k : ℕ) (y₀ y : Content) (credits : ℕ) : Type 0 where
  pub slot : m.1 ≡ (k, y) ∷ []
  pub turn : m.0.turns ≡ (k, y₀) ∷ []
  pub named : HasName m.0
  pub credit : m.0.credit ≡ credits

-- Some table meets the rule and has this record of a pass. The table is not named, since no clause can name the table
-- at the step itself.
pub record WasPass (j : TableJob) (v : PassRecord) : Type 0 where
  pub table : Table
  pub rule : Rule j table
  pub id : ℕ
  pub mine : get_elem? table.views id ≡ some v

-- some table meets the rule, has this record of a pass, and has the shard k with this content in its slot
pub record WasSeen (j : TableJob) (k : ℕ) (v : PassRecord) (y : Content) : Type 0 where
  pub table : Table
  pub rule : Rule j table
  pub id : ℕ
  pub mine : get_elem? table.views id ≡ some v
  pub home : get_elem? table.homes k ≡ some (some y)

-- These shards are left from some table that met the rule and had this record of a pass. A shard that was in its slot
-- is among them at its number.
pub record WereLeft (j : TableJob) (v : PassRecord) (ys : List Content) : Type 0 where
  pub table : Table
  pub rule : Rule j table
  pub id : ℕ
  pub mine : get_elem? table.views id ≡ some v
  pub count : length table.homes ≡ length ys
  pub shards : (k : ℕ) (y : Content) → get_elem? table.homes k ≡ some (some y) → get_elem? ys k ≡ some y

-- whether an edge is the last one that its target waits for, according to the entry in the shard
abbrev pub fires : Plan → Content → Edge → Bool
fires P y e = ((entry_found P e y).arrived + 1) == (entry_found P e y).goal

-- a turn is taken, or is found taken: the step is on the turn word of that shard, and what it finds there becomes the
-- pass's look
abbrev pub TriesTurn : Option TableJob → ℕ → Step Content → Seated → ℕ → Seated → Type 0
TriesTurn j k st m r n =
    (st.word ≡ turn_word k)
    × (r ≡ 0 → (y : Content) × (n ≡ (with_turn m.0 k y, (k, y) ∷ m.1)) × IfSome j (λ (i : TableJob). WasSeen i k m.0 y))
    × (r ≢ 0 → n ≡ (with_look m.0 (Turn k) r, m.1))

-- a turn is given back without an event
abbrev pub GivesBack : Step Content → Seated → ℕ → Seated → Type 0
GivesBack st m r n = n ≡ (turn_left m.0, rest m.1)

-- a turn is given back with the claim of a task that may start, on the tiles that are handed out with it
abbrev pub GivesClaim : Option TableJob → Task → List FlowTile → Step Content → Seated → ℕ → Seated → Type 0
GivesClaim j t tiles st m r n =
    (n ≡ (turn_left (with_own_claim m.0 t tiles), rest m.1))
    × IfSome j (λ (i : TableJob). MayStart i.matched i.given t tiles m.0)

-- a pass after it gave back, with a send, the turn that it took last: it has neither that turn nor its shard
abbrev pub after_send : SentItem → Seated → Seated
after_send x m = (turn_left (with_own_send m.0 x), rest m.1)

-- a turn is given back with a send
abbrev pub GivesSend : SentItem → Step Content → Seated → ℕ → Seated → Type 0
GivesSend x st m r n = n ≡ after_send x m

-- a turn is given back with the end of the running task
abbrev pub GivesEnd : Step Content → Seated → ℕ → Seated → Type 0
GivesEnd st m r n = n ≡ (turn_left (with_own_end m.0), rest m.1)

-- The halt word is raised. The step is on the halt word, which comes after the turn words of the slots.
abbrev pub RaisesHalt : Step Content → Seated → ℕ → Seated → Type 0
RaisesHalt st m r n = (st.word ≡ halt_word st.slots) × (n ≡ (with_halt m.0, m.1))

-- the halt word is read, and becomes the pass's look: in a preloaded table it is 0
abbrev pub ReadsHalt : Option TableJob → Step Content → Seated → ℕ → Seated → Type 0
ReadsHalt j st m r n =
    (st.word ≡ halt_word st.slots) × (n ≡ (with_look m.0 Halt r, m.1))
    × IfSome j (λ (i : TableJob). i.preloaded ≡ true → r ≡ 0)

-- the live word is raised
abbrev pub RaisesLive : Step Content → Seated → ℕ → Seated → Type 0
RaisesLive st m r n = n ≡ (with_credit m.0, m.1)

-- the live word is lowered
abbrev pub LowersLive : Step Content → Seated → ℕ → Seated → Type 0
LowersLive st m r n = n ≡ (without_credit m.0, m.1)

-- the live word is read, and becomes the pass's look: 0 is quiet
abbrev pub ReadsLive : Option TableJob → Step Content → Seated → ℕ → Seated → Type 0
ReadsLive j st m r n =
    (st.word ≡ live_word st.slots)
    × (r ≡ 0 → (n ≡ (with_quiet (with_look m.0 Live r), m.1))
    × IfSome j (λ (i : TableJob). WasPass i (with_quiet (with_look m.0 Live r))))
    × (r ≢ 0 → n ≡ (with_look m.0 Live r, m.1))

-- a stamp is drawn for a task
abbrev pub DrawsStamp : Task → Step Content → Seated → ℕ → Seated → Type 0
DrawsStamp t st m r n = n ≡ (with_stamp m.0 t r, m.1)
