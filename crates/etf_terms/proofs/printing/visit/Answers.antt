use Rattle.std.proofs.Common.{◌++◌, length, ap, sym, ◌∙◌, subst, arith}
use Rattle.etf_terms.specs.Inner.Open.{Open}
use Rattle.etf_terms.specs.Inner.Parts.{head}
use Rattle.etf_terms.specs.Inner.Standing.{entered, Stands}
use Rattle.etf_terms.proofs.Loops.{head-is_shorter}
use Rattle.etf_terms.proofs.Stands.{closes, opened, room-for_next, room-for_own, entered-few, not-off, moves-ok, moves-err}
use Rattle.etf_terms.proofs.printing.visit.Goals as goal

pub returns-in-Ok-clause-moves : goal.returns-in-Ok-clause-moves
returns-in-Ok-clause-moves g c to_come s =
    let d = closes c.args.stack.now.room c.args.entry c.args.stack.now.entries c.args.rest.now to_come c.if-entry.true s in
    moves-ok _ to_come d.below _ _ c.args.rest _ c.in-Ok.ensures.puts (d.splits ∙ ap (λ l. l ++ d.below) (sym c.closing_text.ensures)) d.stands

pub returns-in-Err-clause-moves : goal.returns-in-Err-clause-moves
returns-in-Err-clause-moves g c to_come s =
    let d = closes c.args.stack.now.room c.args.entry c.args.stack.now.entries c.args.rest.now to_come c.if-entry.true s in
    moves-err _ to_come d.below _ _ _ c.in-Err.failed c.in-Err.ensures.puts (d.splits ∙ ap (λ l. l ++ d.below) (sym c.closing_text.ensures))

pub returns-in-Err-read_head-clause-moves : goal.returns-in-Err-read_head-clause-moves
returns-in-Err-read_head-clause-moves g c to_come s =
    absurd (not-off c.args.stack.now.room c.args.entry c.args.stack.now.entries c.args.rest.now to_come c.in-Err-read_head.field-0 c.if-entry.false c.in-Err-read_head.ensures s)

pub push-requires : goal.push-requires
push-requires g c =
    let next = room-for_next c.args.stack.now.room c.args.entry c.args.stack.now.entries c.args.rest.now c.requires.stands.0 c.requires.stands.1 in
    omega (arith, next)

pub enter-requires : goal.enter-requires
enter-requires g c some =
    let own = room-for_own c.args.stack.now.room c.args.entry c.args.stack.now.entries c.args.rest.now c.requires.stands.0 (head c.in-Ok-read_head.found.0) c.in-Ok-read_head.found.1.now
    c.if-entry.false c.in-Ok-read_head.ensures c.requires.stands.1 some in
    let count = ap (λ (o : Open). length o.entries) c.push.ensures in
    let room = ap (λ (o : Open). o.room) c.push.ensures in
    omega (arith, own, count, room)

pub returns-in-Ok-put_begun-clause-falls : goal.returns-in-Ok-put_begun-clause-falls
returns-in-Ok-put_begun-clause-falls g c =
    let h = head c.in-Ok-read_head.found.0 in
    let shorter = head-is_shorter c.args.rest.now h c.in-Ok-read_head.found.1.now c.in-Ok-read_head.ensures in
    let few = entered-few h c.push.new.self.entries in
    let one = ap (λ (o : Open). length o.entries) c.push.ensures in
    let two = ap (λ (o : Open). length o.entries) c.enter.ensures in
    omega (arith, shorter, few, one, two)

pub returns-in-Ok-put_begun-clause-moves : goal.returns-in-Ok-put_begun-clause-moves
returns-in-Ok-put_begun-clause-moves g c to_come s =
    let h = head c.in-Ok-read_head.found.0 in
    let behind = c.in-Ok-read_head.found.1 in
    let o = opened c.args.stack.now.room c.args.entry c.args.stack.now.entries c.args.rest.now to_come h behind.now c.if-entry.false c.in-Ok-read_head.ensures s in
    let room = ap (λ (o : Open). o.room) c.enter.ensures ∙ ap (λ (o : Open). o.room) c.push.ensures in
    let entries = ap (λ (o : Open). o.entries) c.enter.ensures ∙ ap (λ (o : Open). entered h o.entries) c.push.ensures in
    moves-ok _ to_come o.0 _ _ behind _ c.in-Ok-put_begun.ensures o.1
    (subst (λ r. Stands r c.enter.new.stack.entries behind.now o.0) (sym room) (subst (λ l. Stands c.args.stack.now.room l behind.now o.0) (sym entries) o.2))

pub returns-in-Err-put_begun-clause-moves : goal.returns-in-Err-put_begun-clause-moves
returns-in-Err-put_begun-clause-moves g c to_come s =
    let o = opened c.args.stack.now.room c.args.entry c.args.stack.now.entries c.args.rest.now to_come (head c.in-Ok-read_head.found.0) c.in-Ok-read_head.found.1.now c.if-entry.false c.in-Ok-read_head.ensures s in
    moves-err _ to_come o.0 _ _ _ c.in-Err-put_begun.failed c.in-Err-put_begun.ensures o.1
