use Rattle.std.proofs.Common.{[], ◌∷◌, ◌++◌, map, take, sym, ◌∙◌, ap, arith}
use Rattle.std.proofs.lemmas.List.{map_push, map_more, take_all}
use Rattle.dump_io.specs.Laws.Reads.{ReadsAtMost-both}
use Rattle.binary_holders.specs.declared.targets.Binary.{Binary}
use Rattle.binary_holders.specs.declared.stored.StoredAt.{StoredAt}
use Rattle.binary_holders.specs.Usage.{sized_binary}
use Rattle.binary_holders.specs.Inner.Finding.{numbers_of, stored_of}
use Rattle.binary_holders.specs.Inner.Places.{numbers_in}
use Rattle.binary_holders.proofs.stored.read_sizes.Goals as goal

abbrev no_place : StoredAt
no_place = record { number = 0; section = 0 }

pub loop-binary-preserved : goal.loop-binary-preserved
loop-binary-preserved g c =
    let before = c.loop-binary.invariant in
    let one = c.in_ok-sized.ensures in
    let list = c.args.stored.now in
    let i = c.loop-binary.binary-index in
    let inside = c.loop-binary-test.true in
    let old = c.loop-binary.binaries.items in
    let x = c.in_ok-sized.sized in
    let items = c.in_ok-push_row.ensures.rows in
    record {
      reads = ReadsAtMost-both before.reads one.reads (omega arith);
      numbers = ap numbers_in items ∙ map_push (λ (b : Binary). b.number) old x ∙ ap (λ l. l ++ x.number ∷ []) before.numbers ∙ ap (λ n. numbers_of (take i list) ++ n ∷ []) one.number
          ∙ sym (map_more (λ (b : StoredAt). b.number) list i no_place inside);
      sizes = λ dump is.
          let f : StoredAt → Binary = λ b. sized_binary dump (stored_of c.args.index.now b) in
          items ∙ ap (λ l. l ++ x ∷ []) (before.sizes dump is) ∙ ap (λ y. map f (take i list) ++ y ∷ []) (one.size dump (before.reads.same_now ∙ is))
          ∙ sym (map_more f list i no_place inside);
    }

pub returns-clause-sizes : goal.returns-clause-sizes
returns-clause-sizes g c = λ dump is.
    c.loop-binary.invariant.sizes dump is ∙ ap (map (λ (b : StoredAt). sized_binary dump (stored_of c.args.index.now b))) (take_all c.loop-binary.binary-index c.args.stored.now c.loop-binary-test.false)
