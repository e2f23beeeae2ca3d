use Rattle.std.proofs.Common.{◌≡◌, ◌-◌, ◌<◌, length, take, drop, sym, ◌∙◌, ap, subst, arith}
use Rattle.std.proofs.lemmas.List.{take_rest, drop-drop, length-take-le}
use Rattle.dump_io.specs.Laws.Reads.{take-two}
use Rattle.body_lines.specs.Lines.{AreWhole, HasNoLf}
use Rattle.body_lines.specs.Laws.{AreWhole-behind}
use Rattle.body_lines.proofs.Wholes.{free-both}
use Rattle.body_lines.proofs.whole_lines.line_start_behind.Goals as goal

pub returns-else-start-gt0-clause-behind : goal.returns-else-start-gt0-clause-behind
returns-else-start-gt0-clause-behind c =
    let bytes = c.args.bytes.now in
    let held = c.args.held in
    let hay = take (length bytes - held) (drop held bytes) in
    let none : c.line_start-start.result ≡ 0 = omega (arith, c.if-start-gt0.false) in
    let rest : HasNoLf hay = subst (λ n. HasNoLf (drop n hay)) none c.line_start-start.ensures.behind in
    free-both held bytes c.requires.free (subst HasNoLf (take_rest bytes held) rest)

pub returns-then-start-gt0-clause-whole : goal.returns-then-start-gt0-clause-whole
returns-then-start-gt0-clause-whole c =
    let bytes = c.args.bytes.now in
    let held = c.args.held in
    let start = c.line_start-start.result in
    let hay : take (length bytes - held) (drop held bytes) ≡ drop held bytes = take_rest bytes held in
    let size : length (take start (drop held bytes)) ≡ start = ap (λ l. length (take start l)) (sym hay) ∙ length-take-le start (take (length bytes - held) (drop held bytes)) c.line_start-start.ensures.within in
    let some : 0 < length (take start (drop held bytes)) = omega (arith, size, c.if-start-gt0.true) in
    subst AreWhole (sym (take-two held start bytes))
    (AreWhole-behind (take held bytes) (take start (drop held bytes)) c.requires.free some (subst AreWhole (ap (take start) hay) c.line_start-start.ensures.whole))

pub returns-then-start-gt0-clause-behind : goal.returns-then-start-gt0-clause-behind
returns-then-start-gt0-clause-behind c =
    let bytes = c.args.bytes.now in
    let held = c.args.held in
    let start = c.line_start-start.result in
    subst HasNoLf (ap (drop start) (take_rest bytes held) ∙ drop-drop start held bytes) c.line_start-start.ensures.behind
