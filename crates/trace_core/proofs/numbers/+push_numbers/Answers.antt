use mir.Val.{of_z, to_z}
use Rattle.std.proofs.Common.{◌+◌, [], ◌∷◌, ◌++◌, length, ap, sym, ◌∙◌, append_assoc, length-append, w64, arith}
use Rattle.std.proofs.lemmas.Int.{to_z-of_z}
use Rattle.std.proofs.lemmas.List.{append-nil}
use Rattle.trace_core.proofs.Fields.{none_left, numbers_next}
use Rattle.trace_core.proofs.Spelled.{fits_signed}
use Rattle.trace_core.proofs.numbers.+push_numbers.Goals as goal

pub returns-in_default-clause-all : goal.returns-in_default-clause-all
returns-in_default-clause-all t c = λ ns a h.
    sym (append-nil c.args.numbers.now) ∙ ap (λ l. c.args.numbers.now ++ l) (sym (none_left c.args.fields.now ns c.in_default.ensures a))

pub returns-clause-all : goal.returns-clause-all
returns-clause-all t c = λ ns a h.
    let n = c.in-Some.n in
    let q = numbers_next c.args.fields.now c.in-Some.later.now n ns c.in-Some.ensures a in
    let value = to_z-of_z w64 n (fits_signed n c.in-Some.ensures.fits) in
    c.push_numbers.ensures.all q.0 q.2 h
    ∙ ap (λ l. l ++ q.0) (c.push.ensures ∙ ap (λ m. c.args.numbers.now ++ m ∷ []) value)
    ∙ append_assoc c.args.numbers.now (n ∷ []) q.0
    ∙ ap (λ l. c.args.numbers.now ++ l) (sym q.1)

pub returns-clause-more : goal.returns-clause-more
returns-clause-more t c = λ ns a h.
    let n = c.in-Some.n in
    let q = numbers_next c.args.fields.now c.in-Some.later.now n ns c.in-Some.ensures a in
    let more = c.push_numbers.ensures.more q.0 q.2 h in
    let one = ap length c.push.ensures in
    let all = ap length q.1 in
    omega (arith, more, one, all, length-append c.args.numbers.now (to_z w64 (of_z w64 n) ∷ []))
