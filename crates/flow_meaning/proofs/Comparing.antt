-- The test of sameness of items holds of one item alone.
use Rattle.std.proofs.Common.{◌≡◌, IsTrue, ◌↔◌, ap}
use Rattle.std.proofs.lemmas.Bool.{false≢true}
use Rattle.ptg_base.specs.declared.edge.Edge.{Edge}
use Rattle.ptg_base.specs.declared.edge.WriteBack.{WriteBack}
use Rattle.ptg_base.specs.declared.edge.Item.{Item}
use Rattle.ptg_base.specs.declared.edge.Item.TheVariants as item
use Rattle.ptg_base.proofs.CallerLemmas.{same_edge-decides, same_write_back-decides}
use Rattle.dep_iter.proofs.CallerLemmas.{Edge-injective, Write-injective}
use Rattle.flow_meaning.specs.Comparing.{same_item}

pub same_item-decides : (a b : Item) → IsTrue (same_item a b) ↔ (a ≡ b)
same_item-decides (item.Edge a) (item.Edge b) = (
  λ h. ap (λ (e : Edge). item.Edge e) ((same_edge-decides a b).0 h),
  λ e.
      (same_edge-decides a b).1 (Edge-injective a b e),
)
same_item-decides (item.Edge a) (item.Write b) = (λ h. absurd (false≢true h), λ e. absurd cc)
same_item-decides (item.Write a) (item.Edge b) = (λ h. absurd (false≢true h), λ e. absurd cc)
same_item-decides (item.Write a) (item.Write b) = (
  λ h. ap (λ (w : WriteBack). item.Write w)
      ((same_write_back-decides a b).0 h),
  λ e. (same_write_back-decides a b).1 (Write-injective a b e),
)
