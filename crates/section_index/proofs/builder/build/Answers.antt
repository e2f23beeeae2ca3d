use Rattle.std.proofs.Common.{refl, sym, ◌∙◌, ap, subst, inl, inr, ⊎_elim, arith}
use Rattle.dump_io.specs.Dumps.{size_of}
use Rattle.section_index.proofs.Answering.{none-too_large, told-file, IsClosedOrNamed-named, present-named}
use Rattle.section_index.specs.Answers.{IsClosedOrNamed}
use Rattle.section_index.proofs.builder.build.Goals as goal

pub index_of-requires-clause-limits : goal.index_of-requires-clause-limits
index_of-requires-clause-limits g c = refl

pub returns-clause-answer : goal.returns-clause-answer
returns-clause-answer g c bytes file =
    let files = (g.D.Dumps.state c.args.dumps.now).files in
    c.index_of.ensures.answer bytes (told-file files c.args.name.now _ bytes c.in-Ok.ensures.named
    (⊎_elim (λ held. inl held) (λ now. inr (sym c.index_of.ensures.reads.same_now ∙ now)) file))

pub returns-clause-too_large : goal.returns-clause-too_large
returns-clause-too_large g c = none-too_large (g.D.Dumps.state c.index_of.new.dumps).now c.args.limits.now c.index_of.result c.index_of.ensures.fault

pub returns-clause-device : goal.returns-clause-device
returns-clause-device g c =
    let files = (g.D.Dumps.state c.args.dumps.now).files in
    let opened = c.in-Ok.ensures in
    let read = c.index_of.ensures.reads in
    record {
      same_files = read.same_files ∙ opened.same_files;
      now = subst (IsClosedOrNamed files c.args.name.now) (sym read.same_now) (IsClosedOrNamed-named files c.args.name.now _ opened.named);
      later = omega (arith, opened.later, read.later);
      taken_least = omega (arith, opened.same_taken, read.taken_least);
      taken_most = omega (arith, opened.same_taken, read.taken_most, ap size_of read.same_now, opened.opened.1);
    }

pub returns-clause-absent : goal.returns-clause-absent
returns-clause-absent g c gone =
    absurd (present-named (g.D.Dumps.state c.args.dumps.now).files c.args.name.now _ c.in-Ok.ensures.named gone)
