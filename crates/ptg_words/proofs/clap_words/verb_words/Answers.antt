use Rattle.std.proofs.Common.{◌≡◌, ◌∙◌, ℕ, true, false, Err, ap, subst, sym}
use Rattle.std.specs.Prelude.{drop}
use Rattle.clap.specs.Words.{app_of, found_of}
use Rattle.ptg_words.specs.Parts.{parts, shards, workers}
use Rattle.ptg_words.specs.Readings.{is_read, texts}
use Rattle.ptg_words.proofs.Building.{at_most_four, count_of, passed_up, same_values}
use Rattle.ptg_words.proofs.ClapCommands.{app_simple, flag_is, words_found, words_refused}
use Rattle.ptg_words.proofs.ValuesRead.{counted, text_of_number_option}
use Rattle.ptg_words.proofs.clap_words.verb_words.Goals as goal

pub parsed-requires : goal.parsed-requires
parsed-requires c =
    app_simple (app_of c.in_ok-verb_command.field-0) c.args.name.now (texts c.args.ids.now) c.args.options
    (texts c.args.words.now) c.in_ok-verb_command.ensures c.requires.ids
    (at_most_four c.args.ids.now c.requires.at_most) c.requires.proper

pub returns-in_err-matches-clause-usage : goal.returns-in_err-matches-clause-usage
returns-in_err-matches-clause-usage c e =
    let Unread : ℕ → Type 0 = λ n. is_read n (parts c.args.options (drop 1 (texts c.args.words.now))) ≡ false in
    subst Unread (count_of c.args.ids.now)
    (words_refused (app_of c.in_ok-verb_command.field-0) c.args.name.now (texts c.args.ids.now) c.args.options
    (texts c.args.words.now) c.in_ok-verb_command.ensures c.requires.ids
    (at_most_four c.args.ids.now c.requires.at_most) c.requires.proper
    (c.in_err-matches.ensures.fails (ap Err (passed_up _ _ _ c.from_residual-in_err-matches.ensures.1 e))))

pub returns-in_err-operands-clause-usage : goal.returns-in_err-operands-clause-usage
returns-in_err-operands-clause-usage c e =
    let w = words_found (app_of c.in_ok-verb_command.field-0) c.args.name.now (texts c.args.ids.now) c.args.options
    (texts c.args.words.now) c.in_ok-verb_command.ensures c.requires.ids
    (at_most_four c.args.ids.now c.requires.at_most) c.requires.proper (found_of c.in_ok-matches.matches)
    c.in_ok-matches.ensures.passes.0 c.in_ok-matches.ensures.passes.1 in
    absurd (c.in_err-operands.ensures.usage (ap Err (passed_up _ _ _ c.from_residual-in_err-operands.ensures.1 e)) _ w.operand_values)

pub returns-clause-found : goal.returns-clause-found
returns-clause-found c =
    let ps = parts c.args.options (drop 1 (texts c.args.words.now)) in
    let Read : ℕ → Type 0 = λ n. is_read n ps ≡ true in
    let w = words_found (app_of c.in_ok-verb_command.field-0) c.args.name.now (texts c.args.ids.now) c.args.options
    (texts c.args.words.now) c.in_ok-verb_command.ensures c.requires.ids
    (at_most_four c.args.ids.now c.requires.at_most) c.requires.proper (found_of c.in_ok-matches.matches)
    c.in_ok-matches.ensures.passes.0 c.in_ok-matches.ensures.passes.1 in
    let once = (counted _ ps w.good).1 in (
      subst Read (count_of c.args.ids.now) w.good,
      record {
        operand_texts = same_values _ _ (sym c.in_ok-operands.ensures.found ∙ w.operand_values);
        workers_text = text_of_number_option workers ps c.get_str-workers.result once (c.get_str-workers.ensures ∙ w.number_text workers);
        shards_text = text_of_number_option shards ps c.get_str-shards.result once (c.get_str-shards.ensures ∙ w.number_text shards);
        preloads = flag_is c.args.options _ _ _ c.get_flag-preload.ensures.none c.get_flag-preload.ensures.value
            c.get_flag-preload.ensures.other w.preload_text;
      },
    )
