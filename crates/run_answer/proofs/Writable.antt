-- A write-back that was sent has a tile of the size of its collection's type, and a place of the data.
use Rattle.std.proofs.Common.{◌≡◌, ℕ, ℤ, true, false, eqb, List, length, ap, sym, ◌∙◌, subst, Option, Some, None, slice_get, slice_index, IfSome}
use Rattle.std.proofs.lemmas.Bool.{eqb-true, false≢true}
use Rattle.std.proofs.lemmas.Option.{slice_get-map}
use Rattle.std.specs.Prelude.{option_map}
use Rattle.std.specs.Option.{option_map_or}
use Rattle.ptg_base.specs.Lists.{IsIn}
use Rattle.ptg_base.specs.declared.edge.WriteBack.{WriteBack}
use Rattle.ptg_base.specs.declared.edge.Item.TheVariants as item
use Rattle.list_lemmas.proofs.Options.{from_option_map}
use Rattle.plan_core.specs.declared.plan.Plan.{Plan}
use Rattle.plan_core.specs.declared.shape.Shape.{Shape}
use Rattle.coll_data.specs.declared.coll.Coll.{Coll}
use Rattle.coll_data.specs.Data.{Data}
use Rattle.coll_data.specs.WellMade.{IsTileOf, IsWellMade, elements_by_type}
use Rattle.plan_data.specs.Fit.{DataFit, shape_of}
use Rattle.plan_data.proofs.CallerLemmas.{same_places}
use Rattle.dep_iter.specs.Tasks.{IsTask}
use Rattle.dep_iter.specs.Items.{item_flow, items}
use Rattle.dep_iter.specs.Consistent.{IsConsistent}
use Rattle.flow_meaning.specs.Ending.{has_outputs, output_tile}
use Rattle.flow_meaning.specs.Backward.{ended}
use Rattle.flow_meaning.specs.Machine.{MachineState, SentItem, sender}
use Rattle.flow_meaning.proofs.CallerLemmas.{item_sized, writing_flow}
use Rattle.run_answer.specs.Written.{IsWritable}
use Rattle.dep_iter.proofs.CallerLemmas.{item_write}
use Rattle.flow_meaning.specs.Sound.{IsSoundState}

-- a tile of a collection's datatype may be a tile of that collection
tile_of_coll : (P : Plan) (G : Data) → DataFit P G → (coll datatype : ℕ) (tile : List ℤ)
    → option_map_or (λ (s : Shape). eqb s.datatype datatype) (slice_get P.colls coll) false ≡ true
    → length tile ≡ slice_index P.elems datatype → IsTileOf G coll tile
tile_of_coll P G fit coll datatype tile type long =
    by (slice_get G.colls coll)
    (subst (λ o. option_map_or (λ (s : Shape). eqb s.datatype datatype) o false ≡ true)
    (ap (λ cs. slice_get cs coll) (sym fit.collections) ∙ slice_get-map shape_of G.colls coll) type)
  where
    by : (o : Option Coll) → option_map_or (λ (s : Shape). eqb s.datatype datatype) (option_map shape_of o) false ≡ true
        → IfSome o (λ (c : Coll). length tile ≡ slice_index (elements_by_type G) c.datatype)
    by None h = absurd (false≢true h)
    by (Some c) h = long ∙ ap (λ es. slice_index es datatype) (sym fit.elements) ∙ ap (slice_index (elements_by_type G)) (sym (eqb-true c.datatype datatype h))

module _ (P : Plan) (G : Data) (con : IsConsistent P) (S : MachineState) (sound : IsSoundState P G S) (known : DataFit P G) (well : IsWellMade G) where
  -- a write-back that was sent has a tile, and may be made
  pub write_sent : (x : SentItem) → IsIn x S.sends → (w : WriteBack) → x.item ≡ item.Write w → (tile : List ℤ) × (x.tile ≡ Some tile) × IsWritable G (w, tile)
  write_sent x i w q =
      let out = sound.sent_are_outputs x i in
      let from : sender x.item ≡ w.from = ap sender q in
      let job : IsTask P w.from = subst (IsTask P) from (sound.claimed_have_all (sender x.item) out.claimed).task in
      let among : IsIn (item.Write w) (items P w.from) = subst (λ j. IsIn j (items P (sender j))) q out.is_item in
      let outputs : has_outputs (ended P G w.from) ≡ true = subst (λ t. has_outputs (ended P G t) ≡ true) from out.outputs in
      let f = writing_flow P w.from job w among in
      let size = item_sized P G con known well w.from job outputs (item.Write w) among f.flow f.here f.carries in
      let tile = from_option_map length (output_tile (ended P G w.from) w.flow) (slice_index P.elems f.flow.datatype) size in
      let exists = (con.connected w.from job).written_exist w (item_write (items P w.from) w among) in (
        tile.0,
        out.tile ∙ ap (λ j. output_tile (ended P G (sender j)) (item_flow j)) q ∙ tile.1,
        record { exists = (same_places P G w.place known).0 exists; elements = tile_of_coll P G known w.place.coll f.flow.datatype tile.0 f.same_type tile.2 },
      )
