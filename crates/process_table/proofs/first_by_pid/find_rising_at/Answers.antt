use Rattle.std.proofs.Common.{◌≡◌, true, false, is_some, take, sym, ◌∙◌, ap, subst, refl}
use Rattle.std.specs.Prelude.{position}
use Rattle.dump_sections.specs.Bodies.{section_at}
use Rattle.dump_sections.specs.Index.{sections_in}
use Rattle.process_table.specs.Records.{placed_sections, pid_of}
use Rattle.process_table.specs.Inner.Finding.{found_rising, has_pid, is_behind, AreFoundRising, AreRising}
use Rattle.process_table.proofs.Firsts.{take-placed}
use Rattle.process_table.proofs.Hearing.{pid_in-none, pid_in-some, AreFound-passed, AreFound-new}
use Rattle.process_table.proofs.Rising.{AreRising-push, position-rising}
use Rattle.process_table.proofs.first_by_pid.find_rising_at.Goals as goal

pub returns-in_default : goal.returns-in_default
returns-in_default c = λ _.
    let sections = sections_in c.args.index.now in
    let s = section_at c.args.index.now c.args.i in
    let among = take c.args.i (placed_sections sections) in
    subst (AreFoundRising c.args.places.now) (sym (take-placed sections c.args.i s c.pid_of.ensures.section))
    (record {
      rising = c.requires.before.rising;
      found = AreFound-passed (found_rising c.args.places.now) among (c.args.i, s) c.requires.before.found (pid_in-none s (sym c.in_default.ensures.pid));
    })

pub returns : goal.returns
returns c = λ _.
    let sections = sections_in c.args.index.now in
    let s = section_at c.args.index.now c.args.i in
    let among = take c.args.i (placed_sections sections) in
    let places = c.args.places.now.items in
    let own = pid_in-some s c.in-Some.pid.now (sym c.in-Some.ensures.pid) in
    let gained = c.in_ok-push_place.ensures in
    let is = gained.same_pid ∙ sym own.1 in
    let behind : is_behind places gained.place.pid.items ≡ true =
    ap (is_behind places) gained.same_pid ∙ ap (λ l. is_behind l c.in-Some.pid.now) (sym c.as_slice.ensures.value) ∙ sym c.comes_behind.ensures ∙ c.if-not-comes_behind.false in
    let rising = AreRising-push places gained.place c.requires.before.rising behind in
    let absent : is_some (position (has_pid (pid_of s)) places) ≡ false =
    ap (λ pid. is_some (position (has_pid pid) places)) (sym is) ∙ ap is_some (position-rising places gained.place rising) in
    subst (AreFoundRising c.push_place.new.places) (sym (take-placed sections c.args.i s c.pid_of.ensures.section))
    (record {
      rising = subst AreRising (sym gained.behind) rising;
      found = AreFound-new (found_rising c.args.places.now) among (c.args.i, s) c.requires.before.found (found_rising c.push_place.new.places) gained.place own.0 absent is
          gained.same_section gained.behind refl;
    })
