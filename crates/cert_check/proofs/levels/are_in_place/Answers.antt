use Rattle.std.proofs.Common.{ℕ, ◌≤◌, ◌↔◌, length, List, ◌∷◌, sym, ◌∙◌, subst, IsTrue, arith}
use Rattle.std.proofs.lemmas.Bool.{false≢true}
use Rattle.std.proofs.lemmas.List.{take_rest}
use Rattle.std.specs.Map.{keys_of}
use Rattle.ptg_base.specs.Task.{Task}
use Rattle.plan_core.specs.declared.plan.Plan.{Plan}
use Rattle.cert_check.specs.Checking.{AreInPlace, IsInPlace}
use Rattle.cert_check.proofs.Walks.{walk_ends, walk_fails, walk_on}
use Rattle.cert_check.proofs.levels.are_in_place.Goals as goal

abbrev All : Plan → List (Task × ℕ) → Type 0
All P rows = AreInPlace P (keys_of rows)

abbrev First : Plan → List (Task × ℕ) → Type 0
First P rows = IsInPlace P (keys_of rows)

split : (P : Plan) (row : Task × ℕ) (rows : List (Task × ℕ)) → All P (row ∷ rows) → First P (row ∷ rows) × All P rows
split P row rows h = (h.0, h.1)

join : (P : Plan) (row : Task × ℕ) (rows : List (Task × ℕ)) → First P (row ∷ rows) → All P rows → All P (row ∷ rows)
join P row rows r q = (r, q)

pub loop-at-init : goal.loop-at-init
loop-at-init c = (λ h. h, λ h. h)

pub returns-then-not-is_in_place : goal.returns-then-not-is_in_place
returns-then-not-is_in_place c =
    let P = c.args.plan.now in
    let rows = c.args.rows.now in
    let at = c.loop-at.at in
    let here = subst (λ l. IsTrue c.is_in_place.result ↔ First P l) (take_rest rows at) c.is_in_place.ensures in
    walk_fails (All P) (First P) tt (split P) (join P) rows at c.loop-at-test.true c.loop-at.invariant
    (λ h. false≢true (sym c.if-not-is_in_place.true ∙ here.1 h))

pub loop-at-preserved : goal.loop-at-preserved
loop-at-preserved c =
    let P = c.args.plan.now in
    let rows = c.args.rows.now in
    let at = c.loop-at.at in
    let here = subst (λ l. IsTrue c.is_in_place.result ↔ First P l) (take_rest rows at) c.is_in_place.ensures in
    walk_on (All P) (First P) tt (split P) (join P) rows at c.loop-at-test.true c.loop-at.invariant (here.0 c.if-not-is_in_place.false)

pub returns : goal.returns
returns c =
    let P = c.args.plan.now in
    let rows = c.args.rows.now in
    let all : length rows ≤ c.loop-at.at = omega arith in
    walk_ends (All P) (First P) tt (split P) (join P) rows c.loop-at.at all c.loop-at.invariant
