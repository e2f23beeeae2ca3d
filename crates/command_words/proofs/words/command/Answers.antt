use Rattle.std.proofs.Common.{sym, ◌∙◌, ap, map, drop, option_map}
use Rattle.std.proofs.lemmas.List.{take_rest}
use Rattle.std.specs.String.{string_bytes}
use Rattle.command_words.specs.Command.{on, process_query}
use Rattle.command_words.proofs.LongWords.{long-command}
use Rattle.command_words.proofs.words.command.Goals as goal

pub returns-in-len4-up : goal.returns-in-len4-up
returns-in-len4-up c =
    let words = c.args.words.now in
    let rest = map string_bytes (drop 3 words) in
    let file = c.as_str-in-len4-up.result.now in
    c.of_file-in-len4-up.ensures
    ∙ ap (option_map (on file)) (c.process_query.ensures
    ∙ ap (λ ws. process_query c.as_str-in-len4-up-2.result.now c.as_str-in-len4-up-3.result.now (map string_bytes ws)) (take_rest words 3)
    ∙ ap (λ t. process_query t c.as_str-in-len4-up-3.result.now rest) c.as_str-in-len4-up-2.ensures.value
    ∙ ap (λ t. process_query (string_bytes c.name-item-2.result) t rest) c.as_str-in-len4-up-3.ensures.value)
    ∙ ap (λ t. option_map (on t) (process_query (string_bytes c.name-item-2.result) (string_bytes c.word-item-2.result) rest)) c.as_str-in-len4-up.ensures.value
    ∙ sym (long-command string_bytes words c.name-item-2.result c.file-item-2.result c.word-item-2.result c.in-len4-up.len_at_least c.name-item-2.is c.file-item-2.is c.word-item-2.is)
