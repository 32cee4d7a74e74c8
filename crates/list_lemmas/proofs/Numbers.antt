-- Numbers: a test of a number with itself, and a sum under a remainder.
use Rattle.std.proofs.Common.{arith, eqb, true, ℕ, ◌≡◌, ap, sym, ◌%◌, ◌*◌, ◌+◌, ◌/◌, ◌∙◌}
use Rattle.std.proofs.Math.Nat.{add-mul-mod_self_right, mod-add-div'}

pub eqb-self : (n : ℕ) → eqb n n ≡ true
eqb-self n = grind arith

pub mod_sum : (a b n : ℕ) → (a % n + b % n) % n ≡ (a + b) % n
mod_sum a b n =
    let x : ℕ = a / n * n in
    let y : ℕ = b / n * n in
    let p : a % n + x ≡ a = mod-add-div' a n in
    let q : b % n + y ≡ b = mod-add-div' b n in
    let first : (a % n + b % n + x) % n ≡ (a % n + b % n) % n = add-mul-mod_self_right (a % n + b % n) (a / n) n in
    let second : (a % n + b % n + x + y) % n ≡ (a % n + b % n + x) % n = add-mul-mod_self_right (a % n + b % n + x) (b / n) n in
    sym first ∙ (sym second ∙ ap (λ (z : ℕ). z % n) (omega (arith, p, q)))
