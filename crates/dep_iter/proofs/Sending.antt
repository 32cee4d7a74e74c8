-- The items that a target stands for, and the first ones of a list.
use Rattle.std.proofs.Common.{◌≡◌, ℕ, ℤ, List, [], ◌∷◌, ◌++◌, map, refl, ap, Option, Some, None, is_some, slice_get, Bor, true, false}
use Rattle.std.specs.Iterator.{YieldsFirst}
use Rattle.std.specs.Option.{option_copied}
use Rattle.ptg_base.specs.Task.{Task}
use Rattle.ptg_base.specs.declared.edge.Item.TheVariants as item
use Rattle.plan_core.specs.declared.target.Arg.{Arg}
use Rattle.plan_core.specs.declared.target.Target.{Target}
use Rattle.plan_core.specs.declared.target.Target.TheVariants as target
use Rattle.term_core.specs.declared.direction.Direction.TheVariants.{Out}
use Rattle.ptg_base.specs.declared.edge.Item.{Item}
use Rattle.dep_iter.specs.declared.link.Link.{Link}
use Rattle.dep_iter.specs.declared.position.Position.{Position}
use Rattle.dep_iter.specs.Combining.{AddsOnly}
use Rattle.dep_iter.specs.Arguments.{combinations}
use Rattle.dep_iter.specs.Edges.{edge}
use Rattle.dep_iter.specs.Items.{items_to}
use Rattle.dep_iter.specs.Links.{link, links_to}
use Rattle.dep_iter.specs.Tasks.{task}
use Rattle.dep_iter.specs.Walking.{items_left, link_item, targets_left}

edges_to : (t : Task) (n class flow : ℕ) (cs : List (List ℤ))
    → map (λ params. item.Edge (edge t n (task class params) flow)) cs ≡ map (link_item t) (map (link n class flow) cs)
edges_to t n class flow [] = refl
edges_to t n class flow (c ∷ cs) =
    ap (λ l. item.Edge (edge t n (task class c) flow) ∷ l) (edges_to t n class flow cs)

-- a target that names tasks stands for its links as items
pub items_to-links : (t : Task) (env : List ℤ) (n class flow : ℕ) (args : List Arg)
    → items_to t env n (target.Task class flow args) ≡ map (link_item t) (links_to env n (target.Task class flow args))
items_to-links t env n class flow args = edges_to t n class flow (combinations args env)

-- the first of the mapped items is the mapped first item
pub first_some : {A B : Type 0} (h : A → B) (xs : List A) (x : A) → Some x ≡ slice_get xs 0
    → Some (h x) ≡ slice_get (map h xs) 0
first_some h [] x e = absurd cc
first_some h (y ∷ ys) x e = let same : x ≡ y = cc in ap (λ z. Some (h z)) same

pub first_none : {A B : Type 0} (h : A → B) (xs : List A) → None ≡ slice_get xs 0 → None ≡ slice_get (map h xs) 0
first_none h [] e = refl
first_none h (y ∷ ys) e = absurd cc

-- a mapped list has a first item if and only if the list has
pub has_first : {A B : Type 0} (h : A → B) (xs : List A) (o : Option (Bor A)) → option_copied o ≡ slice_get xs 0
    → is_some o ≡ is_some (slice_get (map h xs) 0)
has_first h [] None e = refl
has_first h [] (Some x) e = absurd cc
has_first h (y ∷ ys) None e = absurd cc
has_first h (y ∷ ys) (Some x) e = refl

-- what is taken first of a list is taken first of a longer one too, unless the list is empty
pub first_taken : {A B : Type 0} (h : A → B) (old new : List A) (rest : List B) (o : Option B)
    → is_some (slice_get old 0) ≡ true → YieldsFirst (λ l. l) (map h old) o (map h new)
    → YieldsFirst (λ l. l) (map h old ++ rest) o (map h new ++ rest)
first_taken h [] new rest o some y = absurd cc
first_taken h (x ∷ xs) new rest None some y = let none = y.0 in absurd cc
first_taken h (x ∷ xs) new rest (Some z) some y = ap (λ l. l ++ rest) y

-- a list without a first item is empty
pub none_first : {A : Type 0} (xs : List A) → is_some (slice_get xs 0) ≡ false → xs ≡ []
none_first [] e = refl
none_first (x ∷ xs) e = absurd cc

-- if neither a link nor a target is left, no item is
pub none_left : (t : Task) (env : List ℤ) (links : List Link) (p : Position) → links ≡ []
    → targets_left Out env p ≡ [] → items_left t env links p ≡ []
none_left t env links p none past = rw (none, past) refl

-- if no link is left, the items left are those of the next target, and then those of the targets after it
module _ (t : Task) (env : List ℤ) (links : List Link) (old new : Position) (n : ℕ) (x : Target) where
  pub one_left : (i : Item) → links ≡ [] → targets_left Out env old ≡ (n, x) ∷ targets_left Out env new
      → items_to t env n x ≡ i ∷ [] → items_left t env links old ≡ i ∷ items_left t env links new
  one_left i none found one = rw (none, found, one) refl

  pub links_left : (ls : List Link) → links ≡ [] → targets_left Out env old ≡ (n, x) ∷ targets_left Out env new
      → items_to t env n x ≡ map (link_item t) ls → items_left t env links old ≡ items_left t env ls new
  links_left ls none found same = rw (none, found, same) refl

-- a target whose arguments have one combination stands for one edge
pub only_link : (t : Task) (env : List ℤ) (n class flow : ℕ) (args : List Arg) (params : List ℤ)
    → AddsOnly (combinations args env) [] params
    → items_to t env n (target.Task class flow args) ≡ link_item t (link n class flow params) ∷ []
only_link t env n class flow args params only = rw (only.only, only.extends) refl
