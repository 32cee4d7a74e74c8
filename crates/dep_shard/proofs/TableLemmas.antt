-- Entries that are moved into an empty map.
use Rattle.std.specs.Prelude.{◌≡◌, [], ◌∷◌, ◌++◌}
use Rattle.std.proofs.Common.{sym, ap, ◌∙◌, subst}
use Rattle.std.proofs.lemmas.List.{append_assoc, append-nil}
use Rattle.std.specs.List.{IsDistinct}
use Rattle.std.specs.Map.{keys_of}
use Rattle.indexmap.specs.IndexMap.{insert_entry, insert_all}
use Rattle.indexmap.proofs.MapLemmas.{absent_before, absent_from_lookup, insert_entry-absent}
use Rattle.ptg_base.specs.TaskComparing.{same_task}
use Rattle.dep_shard.specs.Content.{Entries}
use Rattle.dep_shard.proofs.QueueLemmas.{task_equivalence}

-- if all tasks are distinct, what is inserted comes after what was there
insert_all-distinct : (done es : Entries) → IsDistinct same_task (keys_of (done ++ es)) → insert_all same_task done es ≡ done ++ es
insert_all-distinct done [] distinct = sym (append-nil done)
insert_all-distinct done (e ∷ es) distinct =
    let last : insert_entry same_task done e.0 e.1 ≡ done ++ e ∷ [] =
    insert_entry-absent same_task e.0 e.1 done (absent_from_lookup (same_task e.0) done (absent_before task_equivalence done es e distinct)) in
    let split : done ++ e ∷ [] ++ es ≡ done ++ e ∷ es = append_assoc done (e ∷ []) es in
    ap (λ (ds : Entries). insert_all same_task ds es) last
    ∙ insert_all-distinct (done ++ e ∷ []) es (subst (λ (ds : Entries). IsDistinct same_task (keys_of ds)) (sym split) distinct)
    ∙ split

-- distinct entries that are inserted into an empty list give the list again
pub moved : (done es fs : Entries) → done ≡ [] → fs ≡ insert_all same_task done es → IsDistinct same_task (keys_of es) → fs ≡ es
moved done es fs empty is distinct = is ∙ ap (λ (ds : Entries). insert_all same_task ds es) empty ∙ insert_all-distinct [] es distinct
