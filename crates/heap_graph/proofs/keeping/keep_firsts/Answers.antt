use Rattle.std.proofs.Common.{take, ◌∙◌, ap, subst, arith}
use Rattle.std.proofs.lemmas.List.{take_all}
use Rattle.heap_graph.specs.Held.{first_lines, IsHeld}
use Rattle.heap_graph.specs.Laws.Elements.{references-all}
use Rattle.heap_graph.specs.Laws.Laid.{lines-count}
use Rattle.heap_graph.proofs.keeping.keep_firsts.Goals as goal

pub returns-clause-kept : goal.returns-clause-kept
returns-clause-kept c =
    let held = c.args.held.now in
    let mid = c.keep_part.new.kept in
    let first = c.in_ok-rest.ensures.kept (λ lines is. c.new-kept.ensures.held) in
    let both = c.in_ok-keep_part.ensures.kept first in
    record {
      held_is = λ lines is.
          let all = take_all c.len.result lines (let count = lines-count lines held is in omega (arith, count, c.len.ensures, held.parts.ok.0)) in
          subst (λ l. IsHeld (first_lines Rattle.std.proofs.Common.[] l) c.keep_part-2.new.kept) all (both lines is);
      alike = c.in_ok-keep_part.ensures.alike;
      own_is = λ lines is. c.len-kept_own.ensures ∙ mid.parts.ok.0 ∙ lines-count (first_lines Rattle.std.proofs.Common.[] (take c.args.own lines)) mid (first lines is);
    }

pub keep_part-requires-clause-left : goal.keep_part-requires-clause-left
keep_part-requires-clause-left c = λ lines is.
    c.addresses.ensures is.elements.fs is.elements.keeps ∙ references-all c.args.held.now.elements lines is.elements.fs is.elements.are
