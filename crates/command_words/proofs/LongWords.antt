-- A command of four words or more.
use Rattle.std.proofs.Common.{◌≡◌, ℕ, ◌≤◌, List, ◌∷◌, length, map, drop, get_or, option_map, sym, ◌∙◌, ap, arith}
use Rattle.command_words.specs.Command.{command, on, process_query}

-- the first three words and those behind them
pub long-command : {X : Type 0} (text : X → List ℕ) (words : List X) (name file pid : X) → 4 ≤ length words
    → name ≡ get_or words 0 name → file ≡ get_or words 1 file → pid ≡ get_or words 2 pid
    → command (map text words) ≡ option_map (on (text file)) (process_query (text name) (text pid) (map text (drop 3 words)))
long-command text (a ∷ b ∷ c ∷ d ∷ words) name file pid many first second third =
    let one : a ≡ name = sym first in
    let two : b ≡ file = sym second in
    let three : c ≡ pid = sym third in
    let rest = map text (d ∷ words) in
    ap (λ x. option_map (on (text b)) (process_query (text x) (text c) rest)) one
    ∙ ap (λ x. option_map (on (text x)) (process_query (text name) (text c) rest)) two
    ∙ ap (λ x. option_map (on (text file)) (process_query (text name) (text x) rest)) three
long-command text words name file pid many first second third = absurd (omega (arith, many))
