use Rattle.std.proofs.Common.{◌≡◌, ◌++◌, ◌-◌, length, take, drop, ◌∙◌, ap, ap₂, arith}
use Rattle.std.proofs.lemmas.List.{take_rest, length-take}
use Rattle.dump_redact.specs.declared.blanks.Stretch.TheVariants.{Payload}
use Rattle.dump_redact.specs.Inner.Copying.{copied, stretch_behind}
use Rattle.dump_redact.proofs.Leads.{piece-some, piece-none, piece-front, put-tail}
use Rattle.dump_redact.proofs.bodies.redact_lead.Goals as goal

pub returns-in-Some : goal.returns-in-Some
returns-in-Some c body is long =
    let piece = c.args.piece.now in
    let place = c.in-Some.place in
    let lead = c.in-Some.ensures in
    let tail : take (length piece - place) (drop place piece) ≡ drop place piece = take_rest piece place in
    let text : c.rewrite.new.piece ≡ copied (Payload c.args.enc) (drop place piece) = c.rewrite.ensures.text ∙ ap (copied (Payload c.args.enc)) tail in
    let behind : c.rewrite.result ≡ stretch_behind (Payload c.args.enc) (drop place piece) = c.rewrite.ensures.behind ∙ ap (stretch_behind (Payload c.args.enc)) tail in
    ap₂ (λ l s. l ++ copied s (drop (length piece) body)) (put-tail place piece c.rewrite.new.piece ∙ ap (λ l. take place piece ++ l) text) behind
    ∙ piece-some c.number_is_read.ensures c.args.enc piece body place is (omega (arith, lead.within, length-take c.min-front.result piece)) (lead.lead body (piece-front piece body c.min-front.result c.min-front.ensures is long))

pub returns-in-None : goal.returns-in-None
returns-in-None c body is long =
    let piece = c.args.piece.now in
    piece-none c.number_is_read.ensures c.args.enc piece body is (c.in-None.ensures.lead body (piece-front piece body c.min-front.result c.min-front.ensures is long))
