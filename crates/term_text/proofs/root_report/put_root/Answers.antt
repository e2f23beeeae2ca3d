use Rattle.std.proofs.Common.{◌≡◌, ℕ, ◌+◌, List, [], ◌∷◌, ◌++◌, decimal, ◌∙◌, ap, append_assoc}
use Rattle.dump_io.specs.Laws.Puts.{Puts-as, Puts-then, Puts-stopped}
use Rattle.root_views.specs.Seen.{root}
use Rattle.report_lines.specs.Lines.{line_of, newline, word_space}
use Rattle.term_text.specs.Roots.{answer_over, content_text}
use Rattle.term_text.proofs.root_report.put_root.Goals as goal

-- two parts with a space behind each, a third one, and the end of the line are a line
three-told : (a b c : List ℕ) → (a ++ (word_space ++ (b ++ (word_space ++ [])))) ++ (c ++ newline) ≡ line_of word_space (a ∷ b ∷ c ∷ [])
three-told a b c =
    append_assoc a (word_space ++ (b ++ (word_space ++ []))) (c ++ newline) ∙ ap (λ rest. a ++ (word_space ++ rest)) (append_assoc b (word_space ++ []) (c ++ newline))

pub returns-in_err-put_heading-clause-puts : goal.returns-in_err-put_heading-clause-puts
returns-in_err-put_heading-clause-puts g c =
    let found = root c.args.found.now in
    Puts-as (three-told (decimal (c.args.base + found.at)) found.label (content_text (answer_over c.args.walker.now c.args.budget c.args.marked) found.content))
    (Puts-stopped _ c.from_residual.ensures.0 c.in_err-put_heading.ensures)

pub returns-in_err-put_content-clause-puts : goal.returns-in_err-put_content-clause-puts
returns-in_err-put_content-clause-puts g c =
    let found = root c.args.found.now in
    Puts-as (three-told (decimal (c.args.base + found.at)) found.label (content_text (answer_over c.args.walker.now c.args.budget c.args.marked) found.content))
    (Puts-then c.in_ok-put_heading.ensures (Puts-stopped _ c.from_residual-in_err-put_content.ensures.0 c.in_err-put_content.ensures.puts))

pub returns-clause-puts : goal.returns-clause-puts
returns-clause-puts g c =
    let found = root c.args.found.now in
    Puts-as (three-told (decimal (c.args.base + found.at)) found.label (content_text (answer_over c.args.walker.now c.args.budget c.args.marked) found.content))
    (Puts-then c.in_ok-put_heading.ensures (Puts-then c.in_ok-put_content.ensures.puts c.write_all.ensures.puts))
