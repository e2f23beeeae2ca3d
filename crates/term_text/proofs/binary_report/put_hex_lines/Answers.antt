use Rattle.std.proofs.Common.{◌<◌, ◌++◌, length, take, drop, sym, ◌∙◌, ap, rules, arith, length-drop, ◌≡◌, ℕ, suc, List}
use Rattle.std.proofs.lemmas.List.{append_assoc}
use Rattle.dump_io.specs.Laws.Puts.{HasPut-then, Puts-behind, Puts-stopped, Puts-as}
use Rattle.term_text.specs.Roots.{hex_line, hex_lines, line_count}
use Rattle.term_text.proofs.binary_report.put_hex_lines.Goals as goal

-- the lines behind the first are those of the bytes behind the first 32
count-step : (bytes : List ℕ) → 0 < length bytes → line_count bytes ≡ suc (line_count (drop 32 bytes))
count-step bytes some = omega (arith, some, length-drop 32 bytes)

hex-step : (bytes : List ℕ) → 0 < length bytes
    → hex_lines (line_count bytes) bytes ≡ hex_line (take 32 bytes) ++ hex_lines (line_count (drop 32 bytes)) (drop 32 bytes)
hex-step bytes some = ap (λ n. hex_lines n bytes) (count-step bytes some)

pub loop-rest-preserved : goal.loop-rest-preserved
loop-rest-preserved g c =
    let rest = c.loop-rest.rest.now in
    let behind = drop 32 rest in
    let line = hex_line (take 32 rest) in
    let some : 0 < length rest = search rules in
    let so_far = c.loop-rest.invariant in (
      so_far.0 ++ line,
      HasPut-then so_far.1 (Puts-as (ap hex_line c.split_line.ensures.line) c.in_ok-put_hex_line.ensures),
      ap (λ bytes. (so_far.0 ++ line) ++ hex_lines (line_count bytes) bytes) c.split_line.ensures.behind
          ∙ append_assoc so_far.0 line (hex_lines (line_count behind) behind) ∙ ap (λ text. so_far.0 ++ text) (sym (hex-step rest some)) ∙ so_far.2,
    )

pub returns-in_err-put_hex_line : goal.returns-in_err-put_hex_line
returns-in_err-put_hex_line g c =
    let rest = c.loop-rest.rest.now in
    let behind = drop 32 rest in
    let some : 0 < length rest = search rules in
    let so_far = c.loop-rest.invariant in
    Puts-as (ap (λ text. so_far.0 ++ text) (sym (hex-step rest some)) ∙ so_far.2)
    (Puts-behind so_far.1 (Puts-stopped (hex_lines (line_count behind) behind) c.from_residual.ensures.0
    (Puts-as (ap hex_line c.split_line.ensures.line) c.in_err-put_hex_line.ensures)))

pub loop-rest-smaller : goal.loop-rest-smaller
loop-rest-smaller g c =
    let rest = c.loop-rest.rest.now in
    let some : 0 < length rest = search rules in
    omega (arith, some, ap length c.split_line.ensures.behind, length-drop 32 rest)
