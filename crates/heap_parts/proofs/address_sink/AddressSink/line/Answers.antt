use Rattle.std.proofs.Common.{[], ◌∷◌, ◌++◌, if◌then◌else◌, sym, ◌∙◌, ap, append-nil}
use Rattle.std.proofs.lemmas.Result.{on_ok_weaker}
use Rattle.heap_parts.proofs.HearFacts.{none-binary, none-heard, one-binary, one-heard}
use Rattle.heap_parts.proofs.address_sink.AddressSink.line.Goals as goal

pub returns-in-Some : goal.returns-in-Some
returns-in-Some c = on_ok_weaker c.push_if.result (λ pushed size.
    let led = sym c.in-Some.ensures.exact in
    record {
      taken = c.in_ok-push.ensures.items ∙ ap (λ l. c.args.self.now.lines.items ++ l) (sym (one-heard c.args.at c.args.front.now c.in-Some.address _ size led));
      binaries =
          pushed ∙ ap (λ b. c.args.self.now.binaries.items ++ (if b then (c.in-Some.address, c.args.at) ∷ [] else [])) c.may_begin_binary.ensures
          ∙ ap (λ l. c.args.self.now.binaries.items ++ l) (sym (one-binary c.args.at c.args.front.now c.in-Some.address c.in-Some.spelled.now size led));
    })
    c.push_if.ensures

pub returns : goal.returns
returns c = λ size.
    let lacks = sym c.in_default.ensures.exact in
    record {
      taken = sym (append-nil c.args.self.now.lines.items) ∙ ap (λ l. c.args.self.now.lines.items ++ l) (sym (none-heard c.args.at c.args.front.now size lacks));
      binaries = sym (append-nil c.args.self.now.binaries.items) ∙ ap (λ l. c.args.self.now.binaries.items ++ l) (sym (none-binary c.args.at c.args.front.now size lacks));
    }
