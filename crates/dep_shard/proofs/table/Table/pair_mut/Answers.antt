use Rattle.std.proofs.Common.{ℕ, refl, sym, ap, subst, ◌∙◌, slice_get}
use Rattle.std.specs.List.{IsDistinct}
use Rattle.std.specs.Map.{keys_of}
use Rattle.indexmap.specs.IndexMap.{set_value_at, spare}
use Rattle.indexmap.proofs.CallerLemmas.{index_map_len-with_value_at}
use Rattle.ptg_base.specs.TaskComparing.{same_task}
use Rattle.dep_shard.specs.Table.{TableContent, spare_of, with_entry_at}
use Rattle.dep_shard.proofs.table.Table.pair_mut.Goals as goal

pub returns : goal.returns
returns c =
    let t = c.self.inside in
    let i = c.args.index in (
      (
        refl,
        λ w.
            let at_len : ℕ → TableContent = λ len. record {
              entries = set_value_at t.used.entries i w;
              spare = spare_of
                  len (spare t.used) (spare t.reserved);
            } in
            ap at_len (index_map_len-with_value_at t.used i w) ∙ ap (λ (v : TableContent). with_entry_at v i w) c.self.view_is,
      ),
      record {
        writes_back = tt;
        value = ap (λ (v : TableContent). slice_get v.entries i) (sym c.self.view_is) ∙ c.pair_mut.ensures.value;
        distinct = subst (λ (v : TableContent). IsDistinct same_task (keys_of v.entries)) c.self.view_is c.pair_mut.ensures.unique;
      },
    )
