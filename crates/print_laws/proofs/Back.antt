-- The canonical spelling reads back.
use Rattle.std.proofs.Common.{◌≡◌, ℕ, zero, suc, ◌<◌, true, List, [], ◌∷◌, get_or, arith}
use Rattle.std.specs.Prelude.{nat_lt}
use Rattle.std.proofs.lemmas.Bool.{and_parts, ltb-true}
use Rattle.std.proofs.lemmas.Str.{IsUtf8-from_ascii}
use Rattle.jdf_lex.specs.Tokens.{spot_after}
use Rattle.jdf_print.specs.Spelling.{fragments, spelling}
use Rattle.print_laws.specs.ReadsBack.{ReadsBack}
use Rattle.print_laws.proofs.Classes.{job_reads_back}
use Rattle.print_laws.proofs.WellFormedClasses.{job_well_formed}
use Rattle.print_laws.proofs.Lexing.{is_ascii, tokens_at, tokens_read, tokens_counted, text_ascii, lexed}
use Rattle.print_laws.proofs.Lexable.{job_lexes}
use Rattle.print_laws.proofs.Tokens.{tokens_known}

ascii_at : (bs : List ℕ) → is_ascii bs ≡ true → (i : ℕ) → get_or bs i 0 < 128
ascii_at [] h i = omega arith
ascii_at (b ∷ bs) h zero = ltb-true b 128 (and_parts (nat_lt b 128) (is_ascii bs) h).0
ascii_at (b ∷ bs) h (suc i) = ascii_at bs (and_parts (nat_lt b 128) (is_ascii bs) h).1 i

pub reads_back : ReadsBack
reads_back bytes jdf h short few =
    let formed = job_well_formed h.tokens jdf h.text (tokens_known bytes [] [] bytes h.tokens h.lexed.0) in
    let fits = job_lexes jdf formed in
    let ps = fragments jdf in
    let ts = tokens_at [] ps in
    let k = job_reads_back jdf formed ts [] (tokens_read ps []) in (
      k.tree,
      record {
        bytes_at_most = short;
        utf8 = IsUtf8-from_ascii (spelling jdf) (ascii_at (spelling jdf) (text_ascii ps [] fits));
        tokens = ts;
        end = spot_after (spelling jdf);
        lexed = lexed ps fits;
        tokens_at_most = omega (arith, tokens_counted ps [], few);
        text = k.derives;
      },
      k.like,
    )
