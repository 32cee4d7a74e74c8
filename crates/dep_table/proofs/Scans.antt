-- A look at the shard of a turn, and the claim of its best ready task.
use Rattle.std.proofs.Common.{◌≡◌, ◌<◌, ℕ, List, [], ◌∷◌, sym, ap, ◌∙◌, subst, arith, refl, None}
use Rattle.ptg_base.specs.Entry.{FlowTile}
use Rattle.ptg_base.specs.Task.{Task}
use Rattle.dep_shard.specs.Content.{Content, HasNoReady, IsBest, IsUnchanged, Uses, entry_in}
use Rattle.work_board.specs.Claims.{FoundGone, FoundNoReady, HasClaimed, HasClaimedBest}
use Rattle.work_board.specs.Looks.{HasStamp}
use Rattle.work_board.specs.Records.{OnlyTook}
use Rattle.work_board.specs.declared.record.PassRecord.{PassRecord}
use Rattle.plan_core.specs.declared.plan.Plan.{Plan}
use Rattle.coll_data.specs.Data.{Data}
use Rattle.table_rule.specs.Changes.{with_turn}
use Rattle.shard_meaning.specs.Placing.{shard_of}
use Rattle.table_rule.specs.Plays.{WasSeen}
use Rattle.table_rule.proofs.CallerLemmas.{seen_share}
use Rattle.dep_table.specs.declared.table.DepTable.{DepTable}
use Rattle.dep_table.specs.declared.turn.Turn.{Turn}
use Rattle.dep_table.specs.Tables.{id_of, job_of}
use Rattle.dep_table.specs.Turns.{IsTurnOf}
use Rattle.dep_table.specs.Views.{PassView}

-- the turn after a look at its shard; u is the same turn of the same table
pub looked_turn : (t u : Turn) (v : PassRecord) (y z w : Content) → IsTurnOf t v y z → u.table.now ≡ t.table.now → u.shard ≡ t.shard
    → u.pass.now.table ≡ t.pass.now.table → u.pass.now.stamp ≡ t.pass.now.stamp → u.pass.now.me ≡ (t.pass.now.me.0, (t.shard, w) ∷ [])
    → IsUnchanged z w → Uses z.spare w.spare 0 None 0 0 → IsTurnOf u v y w
looked_turn t u v y z w h table shard of stamp me same spares = record {
  of = of ∙ (h.of ∙ ap id_of (sym table));
  within = subst (λ n. n < (job_of u.table.now).shards) (sym shard) (subst (λ b. t.shard < (job_of b).shards) (sym table) h.within);
  me = me ∙ ((λ i. ((h.me i).0, (t.shard, w) ∷ [])) ∙ ap (λ n. (with_turn v n y, (n, w) ∷ [])) (sym shard));
  same = record {
    entries = same.entries ∙ h.same.entries;
    written = same.written ∙ h.same.written;
    trapped = same.trapped ∙ h.same.trapped;
    running = same.running ∙ h.same.running;
    ended = same.ended ∙ h.same.ended;
    elems = same.elems ∙ h.same.elems;
  };
  spares = record {
    entries = omega (arith, h.spares.entries, spares.entries);
    tiles = λ d. omega (arith, h.spares.tiles d, spares.tiles d);
    writes = omega (arith, h.spares.writes, spares.writes);
    traps = omega (arith, h.spares.traps, spares.traps);
  };
  seen = subst (λ n. WasSeen (job_of u.table.now) n v y) (sym shard) (subst (λ b. WasSeen (job_of b) t.shard v y) (sym table) h.seen);
  clean = h.clean;
  one_name = h.one_name;
  stamp = λ x runs. subst (HasStamp v x) (sym stamp) (h.stamp x runs);
}

-- the same turn, lent to a call
pub relent : (t u : Turn) (v : PassRecord) (y z : Content) → u.table.now ≡ t.table.now → u.shard ≡ t.shard
    → u.pass.now ≡ t.pass.now → IsTurnOf t v y z → IsTurnOf u v y z
relent t u v y z table shard pass h = looked_turn t u v y z z h table shard (ap (λ (p : PassView). p.table) pass)
    (ap (λ (p : PassView). p.stamp) pass) (ap (λ (p : PassView). p.me) pass ∙ (λ i. (t.pass.now.me.0, (h.me i).1)))
    (record { entries = refl; written = refl; trapped = refl; running = refl; ended = refl; elems = refl })
    (record { entries = omega arith; tiles = λ d. omega arith; writes = omega arith; traps = omega arith })

-- no task of the shard is ready
abbrev pub NoneReady : Turn → Type 0
NoneReady t = (v : PassRecord) → (y z : Content) → IsTurnOf t v y z → HasNoReady y.entries

-- what a look says of the shard as it is, it says of the shard as it was
pub none_was : (t : Turn) (v : PassRecord) (y z : Content) → IsTurnOf t v y z → HasNoReady z.entries → HasNoReady y.entries
none_was t v y z h = subst HasNoReady h.same.entries

-- the best task of a shard is one of the shard's
pub best_at : (t : Turn) (v : PassRecord) (y z : Content) → IsTurnOf t v y z → (x : Task) → IsBest y.entries x
    → shard_of (job_of t.table.now).matched (job_of t.table.now).shards x ≡ t.shard
best_at t v y z h x best = ((seen_share (job_of t.table.now) t.shard v y h.seen).only x best.entry best.is).1

abbrev shard_in : Content → List (ℕ × Content) → Content
shard_in y [] = y
shard_in y (x ∷ xs) = x.1

-- the shard that a pass took last
same_shard : (k : ℕ) (a b : Content) (l : List (ℕ × Content)) → l ≡ (k, a) ∷ [] → l ≡ (k, b) ∷ [] → a ≡ b
same_shard k a b l p q = ap (shard_in a) (sym p ∙ q)

-- if the shard had y, a claim of its best task is a claim of the best, and is not refused
pub best_claimed : (P : Plan) (G : Data) (k : ℕ) (x : Task) (tiles : List FlowTile) (v w : PassRecord) (y : Content)
    → w.last ≡ (k, y) ∷ [] → IsBest y.entries x → HasClaimed P G k x tiles v w → HasClaimedBest P G k x tiles v w
best_claimed P G k x tiles v w y last best c = record {
  claimed = c;
  best = subst (λ (s : Content). IsBest s.entries x)
      (same_shard k y c.shard w.last last c.took.last) best;
}

pub best_goes : (k : ℕ) (x : Task) (v w : PassRecord) (y : Content) → w.last ≡ (k, y) ∷ [] → IsBest y.entries x → FoundGone k x v w → ⊥
best_goes k x v w y last best gone = gone.gone best.entry (ap (λ (s : Content). entry_in s.entries x)
    (same_shard k gone.shard y w.last gone.took.last last) ∙ best.is) best.ready

pub none_ready : (k : ℕ) (v w : PassRecord) (y : Content) → w.last ≡ (k, y) ∷ [] → HasNoReady y.entries → OnlyTook k v w → FoundNoReady k v w
none_ready k v w y last none o = record {
  shard = o.shard;
  took = o.took;
  empty = subst
      (λ (s : Content). HasNoReady s.entries) (same_shard k y o.shard w.last last o.took.last) none;
  still = o.still;
}

-- the same under another name of the table or of the shard
pub placed_at : (b c : DepTable) → b ≡ c → (k n : ℕ) → k ≡ n → (x : Task)
    → shard_of (job_of b).matched (job_of b).shards x ≡ k → shard_of (job_of c).matched (job_of c).shards x ≡ n
placed_at b c e k n f x h = ap (λ (d : DepTable). shard_of (job_of d).matched (job_of d).shards x) (sym e) ∙ (h ∙ f)

pub none_at : (k n : ℕ) → k ≡ n → (v w : PassRecord) → FoundNoReady k v w → FoundNoReady n v w
none_at k n f v w = subst (λ m. FoundNoReady m v w) f
