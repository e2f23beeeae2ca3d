-- How many roots a body has: at most two a line.
use Rattle.std.proofs.Common.{ℕ, ◌*◌, ◌≤◌, List, [], ◌∷◌, length, flat_map, arith, length-append}
use Rattle.std.proofs.lemmas.List.{length-map}
use Rattle.std.proofs.lemmas.List.Sums.{length-filter, count_by-le-length}
use Rattle.field_lines.specs.Lines.{TextLine, text_lines}
use Rattle.field_lines.specs.Laws.{length-text_lines}
use Rattle.root_views.specs.Roots.{has_text, root_lines, stack_root, dict_root, mail_line}
use Rattle.root_views.specs.declared.kinds.RootKind.{RootKind}
use Rattle.root_views.specs.declared.kinds.RootKind.TheVariants.{Stack, Dict, Mail}
use Rattle.root_views.specs.Kinds.{roots_in}
use Rattle.root_views.proofs.MailFacts.{mail_cases}

-- a line of a mailbox has one root or two
line-few : (line : TextLine) → length (mail_line line) ≤ 2
line-few line = mail_cases line (λ roots. length roots ≤ 2) (λ e colon read. omega arith) (λ e d n read. omega arith) (omega arith)

lines-few : (lines : List TextLine) → length (flat_map mail_line lines) ≤ 2 * length lines
lines-few [] = omega arith
lines-few (line ∷ lines) = omega (arith, length-append (mail_line line) (flat_map mail_line lines), line-few line, lines-few lines)

-- a body has at most one line for each byte, and a line has at most two roots
pub roots-few : (kind : RootKind) (body : List ℕ) → length (roots_in kind body) ≤ 2 * length body
roots-few Stack body =
    omega (arith, length-text_lines body, length-map (root_lines body) stack_root, length-filter has_text (text_lines body), count_by-le-length has_text (text_lines body))
roots-few Dict body =
    omega (arith, length-text_lines body, length-map (root_lines body) dict_root, length-filter has_text (text_lines body), count_by-le-length has_text (text_lines body))
roots-few Mail body =
    omega (arith, length-text_lines body, lines-few (root_lines body), length-filter has_text (text_lines body), count_by-le-length has_text (text_lines body))
