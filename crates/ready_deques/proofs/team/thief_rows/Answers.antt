use Rattle.std.proofs.Common.{◌≡◌, ◌+◌, ◌<◌, length, map, All, Vec, Global, sym, ap, subst, ◌∙◌, arith, length-append, rules}
use Rattle.std.proofs.lemmas.List.Elements.{All-nil}
use Rattle.ready_deques.specs.Ends.{Owner, Thief, less, new_thief}
use Rattle.ready_deques.proofs.Rows.{less-none, less-less, new_thief-less, more_than_one, all_more}
use Rattle.ready_deques.proofs.team.thief_rows.Goals as goal

pub loop-init : goal.loop-init
loop-init c =
    let none = c.new-rows.ensures.items in
    let long : c.len-end.result ≡ length c.args.owners.now.items = search rules in (
      sym (less-none c.args.owners.now.items),
      ap length none,
      subst (All (λ (row : Vec Thief Global). row.items ≡ map new_thief c.args.owners.now.items)) (sym none) (All-nil _),
      long,
    )

pub thieves-requires : goal.thieves-requires
thieves-requires c =
    let i = c.loop.invariant in
    let within : c.loop.counter < length c.args.owners.now.items = omega arith in
    subst (All (λ (b : Owner). 1 < b.parts)) (sym i.0) (more_than_one c.args.owners.now.items c.loop.counter (length c.args.owners.now.items) within c.requires)

pub loop-preserved : goal.loop-preserved
loop-preserved c =
    let i = c.loop.invariant in
    let init = c.args.owners.now.items in
    let made = c.in_ok-thieves.ensures in
    let added = c.in_ok-push.ensures.items in
    let row = made.0 ∙ (ap (map new_thief) i.0 ∙ new_thief-less init c.loop.counter) in (
      made.1 ∙ (ap (map (less 1)) i.0 ∙ less-less init c.loop.counter),
      ap length added ∙ (length-append c.loop.rows.items _ ∙ ap (λ n. n + 1) i.1),
      all_more (λ (r : Vec Thief Global). r.items ≡ map new_thief init) _ _ _ added i.2 row,
      i.3,
    )
