use Rattle.std.proofs.Common.{◌≡◌, ◌↔◌, ◌/◌, length, ◌++◌, ◌∷◌, sym, subst, refl, arith, ℕ, List}
use Rattle.std.specs.Map.{keys_of}
use Rattle.ptg_base.specs.Lists.{IsIn}
use Rattle.chain_cert.specs.Checking.{IsRising}
use Rattle.cert_check.proofs.Lookups.{LevelIs, at_row, left_of, level_moves, right_of, rising_left, rising_right, split_rows}
use Rattle.cert_check.proofs.levels.+level_of.Goals as goal
use Rattle.ptg_base.specs.Task.{Task}

pub level_of-requires : goal.level_of-requires
level_of-requires t c =
    let row = c.in-Some.row.now in
    let later = c.in-Some.later.now in
    let before = c.split_at.result.0.now in
    let whole = split_rows c.args.rows.now before c.split_at.result.1.now later row (length c.args.rows.now / 2)
    c.split_at.ensures.front c.split_at.ensures.back c.in-Some.ensures.cases.0 in
    let up = subst (λ (l : List (Task × ℕ)). IsRising (keys_of l)) (sym whole) c.requires in
    (omega (arith, c.decreases, c.split_at.ensures.front_len, c.split_at.ensures.back_len, c.in-Some.ensures.cases.1), rising_left before row later up)

pub level_of-requires-in-Greater : goal.level_of-requires-in-Greater
level_of-requires-in-Greater t c =
    let row = c.in-Some.row.now in
    let later = c.in-Some.later.now in
    let before = c.split_at.result.0.now in
    let whole = split_rows c.args.rows.now before c.split_at.result.1.now later row (length c.args.rows.now / 2)
    c.split_at.ensures.front c.split_at.ensures.back c.in-Some.ensures.cases.0 in
    let up = subst (λ (l : List (Task × ℕ)). IsRising (keys_of l)) (sym whole) c.requires in
    (omega (arith, c.decreases, c.split_at.ensures.front_len, c.split_at.ensures.back_len, c.in-Some.ensures.cases.1), (rising_right before row later up).1)

pub returns-in-Less : goal.returns-in-Less
returns-in-Less t c =
    let row = c.in-Some.row.now in
    let later = c.in-Some.later.now in
    let before = c.split_at.result.0.now in
    let whole = split_rows c.args.rows.now before c.split_at.result.1.now later row (length c.args.rows.now / 2)
    c.split_at.ensures.front c.split_at.ensures.back c.in-Some.ensures.cases.0 in
    let up = subst (λ (l : List (Task × ℕ)). IsRising (keys_of l)) (sym whole) c.requires in
    let less = c.in-Less.ensures.task_order.before.0 refl in
    subst (λ l. LevelIs l c.args.t.now c.level_of.result) whole
    (level_moves (before ++ row ∷ later) before c.args.t.now c.level_of.result (λ k. left_of before row later up c.args.t.now k less) c.level_of.ensures)

pub returns-in-Equal : goal.returns-in-Equal
returns-in-Equal t c =
    let row = c.in-Some.row.now in
    let later = c.in-Some.later.now in
    let before = c.split_at.result.0.now in
    let whole = split_rows c.args.rows.now before c.split_at.result.1.now later row (length c.args.rows.now / 2)
    c.split_at.ensures.front c.split_at.ensures.back c.in-Some.ensures.cases.0 in
    let up = subst (λ (l : List (Task × ℕ)). IsRising (keys_of l)) (sym whole) c.requires in
    let same = c.in-Equal.ensures.task_order.same.0 refl in
    λ k. subst (λ l. IsIn (c.args.t.now, k) l ↔ (k ≡ row.1)) whole (at_row before row later up c.args.t.now k same)

pub returns-in-Greater : goal.returns-in-Greater
returns-in-Greater t c =
    let row = c.in-Some.row.now in
    let later = c.in-Some.later.now in
    let before = c.split_at.result.0.now in
    let whole = split_rows c.args.rows.now before c.split_at.result.1.now later row (length c.args.rows.now / 2)
    c.split_at.ensures.front c.split_at.ensures.back c.in-Some.ensures.cases.0 in
    let up = subst (λ (l : List (Task × ℕ)). IsRising (keys_of l)) (sym whole) c.requires in
    let more = c.in-Greater.ensures.task_order.after.0 refl in
    subst (λ l. LevelIs l c.args.t.now c.level_of-in-Greater.result) whole
    (level_moves (before ++ row ∷ later) later c.args.t.now c.level_of-in-Greater.result
    (λ k. right_of before row later up c.args.t.now k more) c.level_of-in-Greater.ensures)
