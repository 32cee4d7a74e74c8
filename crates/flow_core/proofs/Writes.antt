-- What was written back: each write-back has a tile of the size of its collection's type, and a place of the data.
use Rattle.std.proofs.Common.{◌≡◌, ℤ, List, [], ◌∷◌, refl, ap, sym, ◌∙◌, subst, Some, inl, inr}
use Rattle.std.proofs.lemmas.List.Elements.{All-cons, All-nil}
use Rattle.std.specs.List.{All, cons_option, filter_map}
use Rattle.ptg_base.specs.Lists.{IsIn}
use Rattle.ptg_base.specs.declared.edge.WriteBack.{WriteBack}
use Rattle.ptg_base.specs.declared.edge.Item.{Item}
use Rattle.ptg_base.specs.declared.edge.Item.TheVariants as item
use Rattle.plan_core.specs.declared.plan.Plan.{Plan}
use Rattle.coll_data.specs.Data.{Data}
use Rattle.coll_data.specs.WellMade.{IsWellMade}
use Rattle.plan_data.specs.Fit.{DataFit}
use Rattle.dep_iter.specs.Consistent.{IsConsistent}
use Rattle.flow_meaning.specs.Final.{replaced_data}
use Rattle.flow_meaning.specs.Machine.{SentItem}
use Rattle.flow_meaning.specs.StateAnswer.{first_written, state_data}
use Rattle.flow_meaning.specs.Table.{written_by}
use Rattle.run_answer.specs.Written.{IsWritable, with_tiles}
use Rattle.run_answer.proofs.CallerLemmas.{write_sent}
use Rattle.flow_core.specs.RunState.{RunState, machine}
use Rattle.flow_core.specs.Fits.{Fits}
use Rattle.flow_core.specs.Rows.{write_with, writes_among}

module _ (P : Plan) (G : Data) (con : IsConsistent P) (r : RunState) (fits : Fits P G r) (known : DataFit P G) (well : IsWellMade G) where
  -- what holds of the write-backs among some items
  record HasWrites (sends : List SentItem) : Type 0 where
    writable : All (IsWritable G) (writes_among sends)
    are : with_tiles (writes_among sends) ≡ filter_map (λ (x : SentItem). written_by x.item x.tile) sends

  one_more : (x : SentItem) (xs : List SentItem) → HasWrites xs → IsIn x r.sends → (j : Item) → x.item ≡ j → HasWrites (x ∷ xs)
  one_more x xs rest i (item.Edge e) q =
      let one : writes_among (x ∷ xs) ≡ writes_among xs = ap (λ j. cons_option (write_with j x.tile) (writes_among xs)) q in
      let two : filter_map (λ (x : SentItem). written_by x.item x.tile) (x ∷ xs) ≡ filter_map (λ (x : SentItem). written_by x.item x.tile) xs =
      ap (λ j. cons_option (written_by j x.tile) (filter_map (λ (x : SentItem). written_by x.item x.tile) xs)) q in
      record { writable = subst (All (IsWritable G)) (sym one) rest.writable; are = ap with_tiles one ∙ rest.are ∙ sym two }
  one_more x xs rest i (item.Write w) q =
      let s = write_sent P G con (machine r) fits.sound known well x i w q in
      let one : writes_among (x ∷ xs) ≡ (w, s.0) ∷ writes_among xs = λ k. cons_option (write_with (q k) (s.1 k)) (writes_among xs) in
      let two : filter_map (λ (x : SentItem). written_by x.item x.tile) (x ∷ xs) ≡ (w, Some s.0) ∷ filter_map (λ (x : SentItem). written_by x.item x.tile) xs =
      λ k. cons_option (written_by (q k) (s.1 k)) (filter_map (λ (x : SentItem). written_by x.item x.tile) xs) in
      record {
        writable = subst (All (IsWritable G)) (sym one) (All-cons (IsWritable G) (w, s.0) (writes_among xs) s.2 rest.writable);
        are = ap with_tiles one ∙ ap (λ l. (w, Some s.0) ∷ l) rest.are ∙ sym two;
      }

  some_writes : (sends : List SentItem) → ((x : SentItem) → IsIn x sends → IsIn x r.sends) → HasWrites sends
  some_writes [] inside = record { writable = All-nil (IsWritable G); are = refl }
  some_writes (x ∷ xs) inside = one_more x xs (some_writes xs (λ y i. inside y (inr i))) (inside x (inl refl)) x.item refl

  pub all_writable : All (IsWritable G) (writes_among r.sends)
  all_writable = (some_writes r.sends (λ x i. i)).writable

  pub data_is : (writes : List (WriteBack × List ℤ)) (end : Data) → writes ≡ writes_among r.sends
      → end ≡ replaced_data (λ here. first_written here (with_tiles writes)) G → end ≡ state_data G (machine r)
  unfolding state_data
  data_is writes end are e = e ∙ ap (λ ws. replaced_data (λ here. first_written here ws) G) (ap with_tiles are ∙ (some_writes r.sends (λ x i. i)).are)
