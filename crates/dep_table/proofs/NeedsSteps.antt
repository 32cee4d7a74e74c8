-- Needs over a walk through all tasks, and the spares of a shard that has what it needs.
use Rattle.std.proofs.Common.{◌≡◌, ℕ, ◌+◌, ◌<◌, ◌≤◌, List, [], ◌∷◌, ◌++◌, length, refl, ap, sym, ◌∙◌, subst, Some}
use Rattle.std.proofs.Common.{slice_get, slice_index, inl, inr, arith, length-append}
use Rattle.std.proofs.lemmas.Bool.{cases_eq}
use Rattle.ptg_base.specs.Task.{Task}
use Rattle.ptg_base.specs.declared.edge.WriteBack.{WriteBack}
use Rattle.plan_core.specs.declared.plan.Plan.{Plan}
use Rattle.dep_iter.specs.Tasks.{all_tasks}
use Rattle.dep_shard.specs.Content.{Content, Entries, HasSpares, IsUnchanged, entry_in}
use Rattle.shard_meaning.specs.Opening.{HasOpeningReserve, IsOpeningShard}
use Rattle.shard_meaning.specs.Share.{Placement}
use Rattle.shard_meaning.specs.Placing.{shard_of}
use Rattle.dep_table.specs.declared.needs.Needs.{Needs}
use Rattle.dep_table.specs.Needs.{AddsNeeds, AddsTaskAt, AddsTiles, AreNeedsOf, AreNoNeeds, AreReserved, FitShards}
use Rattle.dep_table.specs.Needs.{IsNeedOf, IsNoNeed, IsReservedFor, ReservesAt, write_tiles}
use Rattle.shard_calls.specs.Opened.{AreOpeningShards}
use Rattle.dep_table.specs.Opened.{HaveOpeningReserve}
use Rattle.dep_table.proofs.NeedsCounts.{need_other, need_own}
use Rattle.dep_table.proofs.NeedsRoom.{room_task}
use Rattle.shard_calls.proofs.CallerLemmas.{IsSoFar, one_more}
use Rattle.list_lemmas.proofs.Places.{slice_get_push, slice_get_there}
use Rattle.std.proofs.lemmas.Option.{slice_get_within}

module _ (P : Plan) (of : Placement) where
  -- what one task needs goes to its shard alone
  pub task_needs : (t : Task) (old new : List Needs) → of t < length old → AddsTaskAt P t (of t) old new → AddsNeeds P of t old new
  task_needs t old new near a =
      let m = slice_get_there old (of t) near in record {
        count = a.count;
        types = λ h k n at. elim (cases_eq k (of t)) [
          | inl here ↦ (a.here m.0 n m.1 (ap (slice_get new) (sym here) ∙ at)).types ∙ h (of t) m.0 m.1
          | inr other ↦ h k n (sym (a.others k other) ∙ at)
        ];
        needs = λ done h k n at. elim (cases_eq k (of t)) [
          | inl here ↦ need_own P of k t (sym here) done m.0 n (h k m.0 (ap (slice_get old) here ∙ m.1)) (a.here m.0 n m.1 (ap (slice_get new) (sym here) ∙ at))
          | inr other ↦ need_other P of k t (λ e. other (sym e)) done n (h k n (sym (a.others k other) ∙ at))
        ];
        room = λ others r. room_task P t (of t) old new others near a r;
      }

  -- no tasks need nothing
  pub no_task : (shards : ℕ) (ns : List Needs) → AreNoNeeds shards (length P.elems) ns → AreNeedsOf P of [] ns
  no_task shards ns z = λ k n at. let w = z.each k n at in record {
    entries = w.entries;
    types = w.types_count;
    tiles = λ d. omega (arith, w.tiles d);
    writes = w.writes;
    traps = w.traps;
  }

  -- a shard with spares for what it needs has those that it opens with
  pub enough : (k : ℕ) (n : Needs) (z : Content) → IsNeedOf P of k (all_tasks P) n
      → HasSpares z.spare n.entries n.tiles.items n.writes n.traps → HasOpeningReserve P of k z
  enough k n z w s = record {
    entries = omega (arith, w.entries, s.entries);
    tiles = λ d. omega (arith, w.tiles d, s.tiles d);
    writes = omega (arith, w.writes, s.writes);
    traps = omega (arith, w.traps, s.traps);
  }

  -- a shard that changed in its spares alone is still an opening shard
  pub still_opening : (k : ℕ) (y z : Content) → IsOpeningShard P of k y → IsUnchanged y z → IsOpeningShard P of k z
  still_opening k y z w same = record {
    there = λ t job own. ap (λ (l : Entries). entry_in l t) same.entries ∙ w.there t job own;
    only = λ t e is. w.only t e (sym (ap (λ (l : Entries). entry_in l t) same.entries) ∙ is);
    written = same.written ∙ w.written;
    trapped = same.trapped ∙ w.trapped;
    running = same.running ∙ w.running;
    ended = same.ended ∙ w.ended;
    elems = same.elems ∙ w.elems;
  }

-- one shard more, which needs nothing yet
pub none_more : (shards types : ℕ) (ns : List Needs) (n : Needs) (new : List Needs) → AreNoNeeds shards types ns
    → IsNoNeed types n → new ≡ ns ++ n ∷ [] → AreNoNeeds (shards + 1) types new
none_more shards types ns n new w none is = subst (AreNoNeeds (shards + 1) types) (sym is) (record {
  count = omega (arith, w.count, length-append ns (n ∷ []));
  each = λ k m at. elim (slice_get_push ns n k m at) [ inl before ↦ w.each k m before | inr same ↦ subst (IsNoNeed types) same none ];
})

-- the shards before this one have the spares that they need
pub record AreReservedBefore (counter : ℕ) (ns : List Needs) (old new : List Content) : Type 0 where
  pub count : length new ≡ length old
  pub before : (k : ℕ) (n : Needs) (y z : Content) → k < counter → slice_get ns k ≡ Some n → slice_get old k ≡ Some y
      → slice_get new k ≡ Some z → IsReservedFor n y z
  pub later : (k : ℕ) → counter ≤ k → slice_get new k ≡ slice_get old k

pub reserved_more : (counter : ℕ) (ns : List Needs) (n : Needs) (old mid new : List Content)
    → AreReservedBefore counter ns old mid → slice_get ns counter ≡ Some n → ReservesAt counter n mid new
    → AreReservedBefore (counter + 1) ns old new
reserved_more counter ns n old mid new w at r = record {
  count = r.count ∙ w.count;
  before = λ k m y z lt is from to. elim (cases_eq k counter) [
    | inl here ↦
        let same : m ≡ n = some_is m n (sym is ∙ (ap (slice_get ns) here ∙ at)) in
        subst (λ x. IsReservedFor x y z) (sym same)
        (r.here y z (w.later counter (omega arith) ∙ (ap (slice_get old) (sym here) ∙ from)) (ap (slice_get new) (sym here) ∙ to))
    | inr other ↦ w.before k m y z (omega (arith, lt, other)) is from (sym (r.others k other) ∙ to)
  ];
  later = λ k le. r.others k (λ e. omega (arith, le, e)) ∙ w.later k (omega arith);
}
  where
    some_is : (a b : Needs) → Some a ≡ Some b → a ≡ b
    some_is a b e = cc

pub all_reserved : (counter : ℕ) (ns : List Needs) (old new : List Content) → length ns ≤ counter
    → AreReservedBefore counter ns old new → AreReserved ns old new
all_reserved counter ns old new past w = record {
  count = w.count;
  each = λ k n y z is from to. w.before k n y z
      (omega (arith, past, slice_get_within ns k n is)) is from to;
}

module _ (P : Plan) (n : ℕ) where
  -- one task more is counted
  pub needs_more : (t : Task) (rest : List Task) (old new : List Needs) → length old ≡ n
      → AddsNeeds P (shard_of P (length old)) t old new → IsSoFar P (λ ts. AreNeedsOf P (shard_of P n) ts old)
      (t ∷ rest) → IsSoFar P (λ ts. AreNeedsOf P (shard_of P n) ts new) rest
  needs_more t rest old new count adds w =
      let here = subst (λ m. AddsNeeds P (shard_of P m) t old new) count adds in
      one_more P (λ ts. AreNeedsOf P (shard_of P n) ts old) (λ ts. AreNeedsOf P (shard_of P n) ts new) t rest here.needs w

  module _ (ns : List Needs) (ys zs : List Content) (count : length ns ≡ n) (shards : AreOpeningShards P n ys) (reserved : AreReserved ns ys zs) where
    -- each shard with its spares has a shard before it took them, and its needs
    before : (k : ℕ) (z : Content) → slice_get zs k ≡ Some z → (y : Content) × (m : Needs) × (slice_get ys k ≡ Some y) × (slice_get ns k ≡ Some m)
    before k z at =
        let lt = slice_get_within zs k z at in
        let y = slice_get_there ys k (omega (arith, lt, reserved.count)) in
        let m = slice_get_there ns k (omega (arith, lt, reserved.count, shards.count, count)) in
        (y.0, m.0, y.1, m.1)

    pub kept_shards : AreOpeningShards P n zs
    kept_shards = record {
      count = reserved.count ∙ shards.count;
      each = λ k z at. let b = before k z at in still_opening P (shard_of P n) k b.0 z (shards.each k b.0 b.2) (reserved.each k b.1 b.0 z b.3 b.2 at).same;
    }

    pub reserved_shards : AreNeedsOf P (shard_of P n) (all_tasks P) ns → HaveOpeningReserve P n zs
    reserved_shards needs = λ k z at. let b = before k z at in enough P (shard_of P n) k b.1 z (needs k b.1 b.3) (reserved.each k b.1 b.0 z b.3 b.2 at).spares

  pub types_fit : (ns : List Needs) (ys : List Content) → AreNeedsOf P (shard_of P n) (all_tasks P) ns → AreOpeningShards P n ys → FitShards ns ys
  types_fit ns ys needs shards = λ k m y at here. (needs k m at).types ∙ ap length (sym (shards.each k y here).elems)

-- so many of all tiles and write-backs are still to be added
pub record AreLeft (tiles_left tiles_all : ℕ → ℕ) (left all : ℕ) (old new : Needs) : Type 0 where
  pub entries : new.entries ≡ old.entries
  pub types : length new.tiles.items ≡ length old.tiles.items
  pub tiles : (d : ℕ) → slice_index new.tiles.items d + tiles_left d ≡ slice_index old.tiles.items d + tiles_all d
  pub writes : new.writes + left ≡ old.writes + all
  pub traps : new.traps ≡ old.traps

pub all_left : (f : ℕ → ℕ) (n : ℕ) (a : Needs) → AreLeft f f n n a a
all_left f n a = record { entries = refl; types = refl; tiles = λ d. refl; writes = refl; traps = refl }

less_left : (f g all : ℕ → ℕ) (h : ℕ → ℕ) (m n left total : ℕ) (a b c : Needs) → AreLeft f all left total a b
    → AddsTiles g m b c → ((d : ℕ) → f d ≡ g d + h d) → left ≡ m + n → AreLeft h all n total a c
less_left f g all h m n left total a b c w add tiles writes = record {
  entries = add.entries ∙ w.entries;
  types = add.types ∙ w.types;
  tiles = λ d. omega (arith, add.tiles d, w.tiles d, tiles d);
  writes = omega (arith, add.writes, w.writes, writes);
  traps = add.traps ∙ w.traps;
}

none_left : (f all : ℕ → ℕ) (left total : ℕ) (a b : Needs) → AreLeft f all left total a b → ((d : ℕ) → f d ≡ 0) → left ≡ 0 → AddsTiles all total a b
none_left f all left total a b w tiles writes = record {
  entries = w.entries;
  types = w.types;
  tiles = λ d. omega (arith, w.tiles d, tiles d);
  writes = omega (arith, w.writes, writes);
  traps = w.traps;
}

module _ (P : Plan) where
  abbrev pub WritesLeft : List WriteBack → List WriteBack → Needs → Needs → Type 0
  WritesLeft left all old new = AreLeft (write_tiles P left) (write_tiles P all) (length left) (length all) old new

  pub write_less : (all left : List WriteBack) (e : WriteBack) (a b c : Needs) → WritesLeft (e ∷ left) all a b
      → AddsTiles (write_tiles P (e ∷ [])) 1 b c → WritesLeft left all a c
  write_less all left e a b c w add =
      less_left (write_tiles P (e ∷ left)) (write_tiles P (e ∷ [])) (write_tiles P all) (write_tiles P left) 1
      (length left) (length (e ∷ left)) (length all) a b c w add
      (λ d. omega arith) (omega arith)

  pub no_write : (all : List WriteBack) (a b : Needs) → WritesLeft [] all a b → AddsTiles (write_tiles P all) (length all) a b
  no_write all a b w = none_left (write_tiles P []) (write_tiles P all) 0 (length all) a b w (λ d. refl) refl
