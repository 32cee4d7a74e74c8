-- The rule before the first step, and the first pass.
use Rattle.std.proofs.Common.{◌≡◌, ℕ, zero, suc, ◌<◌, true, List, [], ◌∷◌, ◌++◌, map, length, get_or, sym, refl, ◌∙◌, subst, arith}
use Rattle.std.proofs.lemmas.List.{length-map}
use mathlib.Core.Option.{some, some-injective, some-ne-none}
use lib.ListN.{get_elem?}
use Rattle.atomic_table.specs.Table.{opening}
use Rattle.ptg_base.specs.Lists.{IsIn}
use Rattle.dep_shard.specs.Content.{Content}
use Rattle.list_lemmas.proofs.Counts.{one_at_most}
use Rattle.flow_meaning.proofs.CallerLemmas.{opening_sound}
use Rattle.shard_meaning.specs.Moment.{opening_moment}
use Rattle.shard_meaning.proofs.CallerLemmas.{opening_finished, opening_reserve, opening_share}
use Rattle.work_board.specs.declared.record.PassRecord.{PassRecord}
use Rattle.table_rule.specs.declared.table_job.TableJob.{TableJob}
use Rattle.table_rule.specs.Changes.{first_pass}
use Rattle.table_rule.specs.Live.{OwnsLives}
use Rattle.table_rule.specs.Names.{is_named}
use Rattle.table_rule.specs.Opening.{IsOpening}
use Rattle.table_rule.specs.Owning.{OwnsWork}
use Rattle.shard_meaning.specs.Placing.{shard_of}
use Rattle.table_rule.specs.Records.{Each}
use Rattle.table_rule.specs.Rule.{Rule, WasHandedInputs}
use Rattle.table_rule.specs.Words.{halt_word, stamp_word, turn_word}
use Rattle.table_rule.proofs.Handing.{handed_none}
use Rattle.table_rule.proofs.Naming.{named-at, snoc_some}
use Rattle.table_rule.proofs.Splitting.{new_lives, new_owns}

single : (P : PassRecord → Type 0) (v : PassRecord) → P v → Each P (v ∷ [])
single P v p zero u e = subst P (some-injective v u e) p
single P v p (suc i) u e = absurd (some-ne-none u (sym e))

-- an index below the number of shards has a shard, also in its slot
some_shard : (ys : List Content) (k : ℕ) → k < length ys → (y : Content) × (get_elem? ys k ≡ some y) × (get_elem? (map some ys) k ≡ some (some y))
some_shard [] k l = absurd (omega arith)
some_shard (y ∷ ys) zero l = (y, refl, refl)
some_shard (y ∷ ys) (suc k) l = some_shard ys k (omega arith)

pub opens : (j : TableJob) (words : List ℕ) (shards : List Content) → IsOpening j words shards → Rule j (opening words shards first_pass)
opens j words shards o =
    let long : length (map some shards) ≡ j.shards = length-map shards some ∙ o.shard_count in
    let free : (k : ℕ) → k < length (map some shards) → get_or words (turn_word k) 0
    ≡ 0 = λ k l. o.opening_words.zero (turn_word k) (λ e. omega (arith, long)) in
    let near : (k : ℕ) → k < length (map some shards) → k < length shards = λ k l. omega (arith, length-map shards some) in (
      opening_moment,
      record {
        consistent = o.consistent;
        some_shards = o.some_shards;
        shards_at_most = o.shards_at_most;
        slots = long;
        words = o.opening_words.long;
        records = record { claims = λ f. refl; sends = λ f. refl; running = λ f. refl };
        sound = opening_sound j.matched j.given;
        owned = record {
          each = single OwnsWork first_pass (new_owns (([], 0) ∷ []));
          names = record {
            once = λ p. omega (arith, one_at_most (is_named p ([], 0)));
            parent = λ p k h. absurd (snoc_some p k (named-at (p ++ k ∷ []) ([], 0) (omega arith)));
          };
        };
        handed = single (WasHandedInputs j) first_pass (handed_none j.matched j.given);
        finished = opening_finished j.matched j.given;
        in_slots = λ k l z. let y = some_shard shards k (near k l) in
            (y.0, y.2, opening_share j.matched (shard_of j.matched j.shards) k y.0 (o.each k y.0 y.1) j.given);
        turns = record {
          counted = λ k l. omega (arith, free k l);
          single = λ k l. omega (arith, free k l);
          out = λ k l one. absurd (omega (arith, free k l));
          of_shards = single (λ (u : PassRecord). (k : ℕ) (y : Content) → IsIn (k, y) u.turns → k < length (map some shards)) first_pass (λ k y h. absurd h);
        };
        held = single (λ (u : PassRecord). (k : ℕ) (y : Content) → IsIn (k, y) u.turns → _) first_pass (λ k y h. absurd h);
        quieted = record {
          calm = single (λ (u : PassRecord). u.quiet ≡ true → _) first_pass (λ q. cc);
          low = λ z. o.opening_words.zero (halt_word j.shards) (λ e. omega arith);
          high = λ z. absurd (omega arith);
        };
        live = record {
          live = omega (arith, o.opening_words.live);
          each = single OwnsLives first_pass (new_lives (([], 0) ∷ []));
          stamps = [];
          theirs = λ f. refl;
          drawn = record {
            drawn = sym (o.opening_words.zero (stamp_word j.shards) (λ e. omega arith));
            differ = λ x. omega arith;
            below = λ t x i. absurd i;
            above_sources = λ e a b edge i k. absurd i;
            senders = λ x i. absurd i;
          };
        };
        reserved = λ pre. record {
          halt = o.opening_words.zero (halt_word j.shards) (λ e. omega arith);
          in_slots = λ k l z. let y = some_shard shards k (near k l) in (
            y.0,
            y.2,
            opening_reserve j.matched (shard_of j.matched j.shards) k y.0 (o.each k y.0 y.1)
                (o.spares pre k y.0 y.1),
          );
          held = single (λ (u : PassRecord). (k : ℕ) (y : Content) → IsIn (k, y) u.turns → _) first_pass (λ k y h. absurd h);
        };
      },
    )
