use Rattle.std.proofs.Common.{◌≡◌, ◌++◌, ◌∷◌, [], length, take, Some, None, sym, ◌∙◌, ap, subst, arith}
use Rattle.std.proofs.lemmas.List.{length-take-le}
use Rattle.dump_io.specs.Lines.{lf, text_of}
use Rattle.line_source.specs.Streams.{length_before_lf}
use Rattle.dump_sections.specs.Versions.{first_line}
use Rattle.section_index.proofs.FirstLine.{IsFirstLf, IsFirstLf-position, first_line-ended, before-ended, first_line-open, before-open, text-open, long-ended, long-open}
use Rattle.section_index.proofs.beginning.first_text.Goals.{in_default-via-in-Some+else-end-limit, in_default-via-in-None+else-first-limit}
use Rattle.section_index.proofs.beginning.first_text.Goals as goal

pub returns-in-Some : goal.returns-in-Some
returns-in-Some c more is =
    let bytes = c.args.first.now in
    let end = c.in-Some.end in
    let found : IsFirstLf bytes (Some end) = subst (IsFirstLf bytes) (sym (c.in-Some.ensures {u = tt})) (IsFirstLf-position bytes) in
    let line : first_line (bytes ++ more) ≡ take end bytes ++ lf ∷ [] = first_line-ended bytes more end found.2 found.1 in
    let size : length (take end bytes) ≡ end = length-take-le end bytes (omega (arith, found.0)) in
    let before : length_before_lf (first_line (bytes ++ more)) ≡ length (take end bytes) = ap length_before_lf line ∙ before-ended (take end bytes) in
    (omega (arith, before, size), c.text_before_lf.ensures ∙ ap text_of (sym line))

pub returns-in-None : goal.returns-in-None
returns-in-None c more is =
    let bytes = c.args.first.now in
    let lacks : IsFirstLf bytes None = subst (IsFirstLf bytes) (sym (c.in-None.ensures {u = tt})) (IsFirstLf-position bytes) in
    let none : more ≡ [] = is (omega arith) in
    let line : first_line (bytes ++ more) ≡ bytes = ap (λ m. first_line (bytes ++ m)) none ∙ first_line-open bytes lacks in
    let before : length_before_lf (first_line (bytes ++ more)) ≡ length bytes = ap length_before_lf line ∙ before-open bytes lacks in
    (omega (arith, before), sym (ap text_of line ∙ text-open bytes lacks))

pub returns-in_default : goal.returns-in_default
returns-in_default c more is =
    let bytes = c.args.first.now in
    elim c.in_default.branch [
      | in_default-via-in-Some+else-end-limit w ↦
          long-ended bytes more w.in-Some.end c.args.limit (subst (IsFirstLf bytes) (sym (w.in-Some.ensures {u = tt})) (IsFirstLf-position bytes)) w.if-end-limit.false
      | in_default-via-in-None+else-first-limit w ↦
          long-open bytes more c.args.limit (subst (IsFirstLf bytes) (sym (w.in-None.ensures {u = tt})) (IsFirstLf-position bytes)) w.if-first-limit.false
    ]
