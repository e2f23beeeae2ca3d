use Rattle.std.proofs.Common.{◌≡◌, sym, subst}
use Rattle.dump_redact.specs.Bodies.{redacted_body}
use Rattle.dump_redact.proofs.Sections.{keeps-others}
use Rattle.dump_redact.proofs.bodies.redact_body.Goals as goal

pub returns-in-Other : goal.returns-in-Other
returns-in-Other c =
    let body = c.args.body.now in
    subst (λ p. body ≡ redacted_body c.args.enc p body) (sym c.in-Other.is) (sym (keeps-others c.args.enc body))
