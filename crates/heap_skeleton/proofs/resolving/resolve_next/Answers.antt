use Rattle.std.proofs.Common.{◌+◌, refl, sym, ◌∙◌, ap, subst}
use Rattle.std.specs.Prelude.{Some}
use Rattle.heap_graph.specs.Held.{addresses_of}
use Rattle.heap_skeleton.specs.Inner.Resolving.{IsResolving}
use Rattle.heap_skeleton.specs.Inner.Targets.{resolved}
use Rattle.heap_skeleton.proofs.ResolveFacts.{address-read, found-resolved, resolving-far, resolving-set, resolving-skip}
use Rattle.heap_skeleton.proofs.resolving.resolve_next.Goals as goal

pub returns-then-mark : goal.returns-then-mark
returns-then-mark c = λ leads before.
    resolving-skip (addresses_of c.args.parts.now) c.args.kinds.now leads c.args.i c.args.numbers.now c.args.references.now c.args.far.now c.requires.place before 0 c.if-mark.true

pub returns-in_default-find : goal.returns-in_default-find
returns-in_default-find c = λ leads before.
    let xs = addresses_of c.args.parts.now in
    let read = address-read xs c.args.kinds.now leads c.args.i c.args.numbers.now c.args.references.now c.args.far.now c.requires.place before _ c.in-Some.address.now c.in-Some.behind.now
    refl c.if-mark.false c.in-Some.ensures.cases.0 in
    subst (λ f. IsResolving xs c.args.kinds.now leads (c.args.i + 1) c.args.numbers.now c.in-Some.behind.now f) (sym c.in_ok-push.ensures)
    (resolving-far xs c.args.kinds.now leads c.args.i c.args.numbers.now c.args.references.now c.args.far.now c.requires.place before _ c.in-Some.address.now c.in-Some.behind.now read.0 read.1)

pub returns : goal.returns
returns c = λ leads before.
    let xs = addresses_of c.args.parts.now in
    let kinds = c.args.kinds.now in
    let read = address-read xs kinds leads c.args.i c.args.numbers.now c.args.references.now c.args.far.now c.requires.place before _ c.in-Some.address.now c.in-Some.behind.now
    refl c.if-mark.false c.in-Some.ensures.cases.0 in
    resolving-set xs kinds leads c.args.i c.args.numbers.now c.args.references.now c.args.far.now c.requires.place before c.number_for.result c.in-Some.behind.now
    (c.number_for.ensures ∙ found-resolved xs kinds _ c.in-Some.address.now (Some c.in-Some-find.number) (sym c.in-Some-find.ensures) ∙ ap (resolved xs kinds) (sym read.0)) read.1
