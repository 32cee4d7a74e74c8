use Rattle.std.proofs.Common.{◌≡◌, ◌++◌, ◌∷◌, [], length, ap, sym, ◌∙◌, subst}
use Rattle.std.proofs.lemmas.List.{same_from_push}
use Rattle.std.specs.Prelude.{option_to_list}
use Rattle.task_run.specs.Pools.{AreBelow, Lent, without_last}
use Rattle.task_run.proofs.PoolLemmas.{below_along, below_less, given_back, pools_along, same_count, same_elems}
use Rattle.task_run.proofs.Lending.{elems_of, may_come_back}
use Rattle.task_run.proofs.pools.Pools.take_back.Goals as goal
use Rattle.list_lemmas.proofs.Joins.{last_from_push}

pub give_back-requires : goal.give_back-requires
give_back-requires c =
    let pools = c.self.inside.pools.items in
    let lent = c.self.inside.lent.items in
    let init = c.pop.new.self.items in
    let type = c.unwrap-lent.result in
    let split : lent ≡ init ++ type ∷ [] = c.pop.ensures.items
    ∙ ap (λ o. init ++ option_to_list o) c.unwrap-lent.ensures in
    let seen : lent ≡ c.args.self.now.lent = ap (λ (b : Lent). b.lent) c.self.view_is in
    let same : type ≡ c.requires.fits.type = last_from_push init (without_last c.args.self.now).lent type
    c.requires.fits.type (sym split ∙ seen ∙ ap (λ (b : Lent). b.lent) c.requires.fits.lent) in
    may_come_back pools lent c.args.self.now c.self.view_is init type c.args.tile split c.self.invariant.0
    c.self.invariant.1
    (λ k e. c.requires.fits.fits k (sym same ∙ e))

pub invariant_of-self : goal.invariant_of-self
invariant_of-self c =
    let pools = c.self.inside.pools.items in
    let new = c.give_back.new.pools.items in
    let init = c.pop.new.self.items in
    let type = c.unwrap-lent.result in
    let split : c.self.inside.lent.items ≡ init ++ type ∷ [] = c.pop.ensures.items
    ∙ ap (λ o. init ++ option_to_list o) c.unwrap-lent.ensures in (
      given_back pools new init type (pools_along pools (sym split) c.self.invariant.0) c.give_back.ensures,
      subst (λ n. AreBelow n init) (sym (same_count pools new type c.give_back.ensures))
          (below_less (length pools) init type (below_along (length pools) (sym split) c.self.invariant.1)),
    )

pub returns : goal.returns
returns c =
    let pools = c.self.inside.pools.items in
    let lent = c.self.inside.lent.items in
    let new = c.give_back.new.pools.items in
    let init = c.pop.new.self.items in
    let type = c.unwrap-lent.result in
    let split : lent ≡ init ++ type ∷ [] = c.pop.ensures.items
    ∙ ap (λ o. init ++ option_to_list o) c.unwrap-lent.ensures in
    let seen : lent ≡ c.args.self.now.lent = ap (λ (b : Lent). b.lent) c.self.view_is in
    let init_is : init ≡ (without_last c.args.self.now).lent =
    (same_from_push init (without_last c.args.self.now).lent type c.requires.fits.type
    (sym split ∙ seen ∙ ap (λ (b : Lent). b.lent) c.requires.fits.lent)).0 in
    let elems_are : elems_of new ≡ c.args.self.now.elems = same_elems pools new type c.give_back.ensures
    ∙ ap (λ (b : Lent). b.elems) c.self.view_is in
    λ i. record { elems = elems_are i; lent = init_is i }
