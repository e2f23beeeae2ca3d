use Rattle.std.proofs.Common.{◌≡◌, ◌+◌, [], ◌∷◌, ◌++◌, get_or, length, map, not, take, true, None, sym, ◌∙◌, ap, subst, if◌then◌else◌}
use Rattle.std.specs.Prelude.{is_ok}
use Rattle.std.proofs.lemmas.List.{length-append, map-append, take_more}
use Rattle.dump_io.specs.Dumps.{ReadsAtMost}
use Rattle.dump_io.specs.Laws.Reads.{ReadsAtMost-then, ReadsAtMost-both}
use Rattle.dump_sections.specs.Index.{sections_in}
use Rattle.dump_audit.specs.Mailboxes.{mail_of}
use Rattle.dump_audit.proofs.MailPlaces.{bodies-more, bodies-upto}
use Rattle.dump_audit.proofs.messages.count_messages.Goals as goal

pub returns-in_err-count-clause-reads : goal.returns-in_err-count-clause-reads
returns-in_err-count-clause-reads g c =
    ReadsAtMost-both c.loop-place.invariant.reads c.in_err-count.ensures.reads
    (bodies-upto (sections_in c.args.index.now) c.args.places.now c.loop-place.place-index None c.loop-place-test.true)

pub returns-then-is_err-clause-reads : goal.returns-then-is_err-clause-reads
returns-then-is_err-clause-reads g c =
    ReadsAtMost-both c.loop-place.invariant.reads c.in_ok-count.ensures.reads
    (bodies-upto (sections_in c.args.index.now) c.args.places.now c.loop-place.place-index None c.loop-place-test.true)

pub loop-place-preserved : goal.loop-place-preserved
loop-place-preserved g c =
    let sections = sections_in c.args.index.now in
    let places = c.args.places.now in
    let i = c.loop-place.place-index in
    let place = get_or places i None in
    let counts = c.loop-place.counts.items in
    let count = c.in_ok-count.count in
    let ok : is_ok c.push.result ≡ true = c.is_err.ensures.negation ∙ ap not c.if-is_err.false in
    let items : c.push.new.self.items ≡ counts ++ count ∷ [] = subst (λ b. c.push.new.self.items ≡ (if b then counts ++ count ∷ [] else counts)) ok c.push.ensures.items in
    record {
      reads = subst (ReadsAtMost (g.D.Dumps.state c.args.dumps.now) (g.D.Dumps.state c.count_in.new.dumps))
          (sym (bodies-more sections places i None c.loop-place-test.true)) (ReadsAtMost-then c.loop-place.invariant.reads c.in_ok-count.ensures.reads);
      counts = λ bytes same.
          let mail = mail_of bytes c.args.index.now in
          items
          ∙ ap (λ l. l ++ count ∷ []) (c.loop-place.invariant.counts bytes same)
          ∙ ap (λ n. map mail (take i places) ++ n ∷ []) (c.in_ok-count.ensures.count bytes (c.loop-place.invariant.reads.same_now ∙ same))
          ∙ sym (map-append mail (take i places) (place ∷ []))
          ∙ ap (map mail) (sym (take_more places i None c.loop-place-test.true));
      all = ap length items ∙ length-append counts (count ∷ []) ∙ ap (λ n. n + 1) c.loop-place.invariant.all;
    }
