use Rattle.std.proofs.Common.{false, ◌++◌, [], ◌∷◌, ◌+◌, length, take, get_or, sym}
use Rattle.std.proofs.lemmas.List.{take_more}
use Rattle.binary_holders.specs.declared.texts.Reference.{Reference}
use Rattle.binary_holders.proofs.CountFacts.{Adds-as, Adds-then, keeps-then, room-kept}
use Rattle.binary_holders.proofs.scanning.count_references.Goals as goal

abbrev no_reference : Reference
no_reference = record { address = 0; number = 0; whole = false }

pub loop-reference-preserved : goal.loop-reference-preserved
loop-reference-preserved c =
    let before = c.loop-reference.invariant in
    let one = c.add.ensures in
    let binaries = c.args.targets.now in
    let references = c.args.references.now in
    let i = c.loop-reference.reference-index in
    let one_more = get_or references i no_reference in
    let old = c.args.counts.now in
    let mid = c.loop-reference.counts in
    let new = c.add.new.self in
    record {
      room = room-kept (length binaries) mid new before.room one.room;
      keeps = keeps-then old mid new before.keeps one.room;
      adds = Adds-as binaries old new (take i references ++ one_more ∷ []) (take (i + 1) references) (sym (take_more references i no_reference c.loop-reference-test.true))
          (Adds-then binaries old mid new (take i references) (one_more ∷ []) before.adds one.adds);
    }
