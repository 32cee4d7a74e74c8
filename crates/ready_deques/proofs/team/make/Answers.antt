use Rattle.std.proofs.Common.{◌≡◌, ◌≤◌, length, map, All, Vec, Global, sym, subst, ap, ◌∙◌, arith}
use Rattle.std.proofs.lemmas.List.{length-map}
use Rattle.ready_deques.specs.Ends.{Thief, IsNew, less, new_thief}
use Rattle.ready_deques.proofs.Rows.{given_away, new_thief-less}
use Rattle.ready_deques.proofs.team.make.Goals as goal

pub assemble-requires-clause-new : goal.assemble-requires-clause-new
assemble-requires-clause-new c =
    let owners = c.in_ok-owners.owners.items in
    let made = c.in_ok-owners.ensures in
    let given = c.in_ok-rows.ensures.2 in
    let at_most : length owners ≤ 64 = omega arith in
    let long : length c.thief_rows.new.owners.items ≡ length owners = ap length given ∙ length-map owners (less (length owners)) in
    subst (λ n. All (IsNew n) c.thief_rows.new.owners.items) (sym long)
    (subst (All (IsNew (length owners))) (sym given) (given_away owners (length owners) at_most made.1))

pub assemble-requires-clause-rows : goal.assemble-requires-clause-rows
assemble-requires-clause-rows c =
    let owners = c.in_ok-owners.owners.items in
    let made = c.in_ok-rows.ensures in
    let long : length c.thief_rows.new.owners.items ≡ length owners = ap length made.2 ∙ length-map owners (less (length owners)) in
    let same : map new_thief c.thief_rows.new.owners.items ≡ map new_thief owners = ap (map new_thief) made.2 ∙ new_thief-less owners (length owners) in
    (made.0 ∙ sym long, subst (λ r. All (λ (row : Vec Thief Global). row.items ≡ r) c.in_ok-rows.rows.items) (sym same) made.1)
