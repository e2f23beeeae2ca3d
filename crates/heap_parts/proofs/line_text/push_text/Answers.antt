use Rattle.std.proofs.Common.{◌≡◌, ◌+◌, length, take, drop, ◌∙◌, ap, arith}
use Rattle.std.specs.List.{between}
use Rattle.dump_io.specs.Lines.{text_of}
use Rattle.heap_parts.specs.Places.{first_raw}
use Rattle.heap_parts.proofs.ReadFacts.{text-cut, longer-cut, whole-cut}
use Rattle.heap_parts.proofs.line_text.push_text.Goals as goal

pub returns-clause-pushed : goal.returns-clause-pushed
returns-clause-pushed g c = λ dump is.
    let lines = c.push_raw.new.lines.items in
    let len = c.text_len-len.result in
    let start : c.len-start.result ≡ length c.args.lines.now.items = cc (c.len-start.ensures, c.args.lines.now.ok.0) in
    text-cut c.args.lines.now.items lines (first_raw (between c.args.from c.args.upto dump)) c.truncate.new.self.items c.push_bytes.new.lines.items len
    (c.in_ok-push_raw.ensures.pushed dump is)
    (c.text_len-len.ensures.value ∙ ap (λ l. length (text_of (drop c.len-start.result l))) c.deref.ensures.value ∙ ap (λ n. length (text_of (drop n lines))) start)
    (c.truncate.ensures.items ∙ ap (λ n. take (n + len) lines) start)
    c.in_ok-push_bytes.ensures.pushed

pub returns-clause-longer : goal.returns-clause-longer
returns-clause-longer g c =
    let before = c.args.lines.now.items in
    let len = c.text_len-len.result in
    let start : c.len-start.result ≡ length before = cc (c.len-start.ensures, c.args.lines.now.ok.0) in
    longer-cut before c.push_raw.new.lines.items c.truncate.new.self.items c.push_bytes.new.lines.items (c.len-start.result + len)
    (omega (arith, start)) (omega (arith, c.text_len-len.ensures.within, ap length c.deref.ensures.value)) c.truncate.ensures.items c.in_ok-push_bytes.ensures.pushed

pub returns-clause-whole : goal.returns-clause-whole
returns-clause-whole g c = whole-cut c.truncate.new.self.items c.push_bytes.new.lines.items c.in_ok-push_bytes.ensures.pushed
