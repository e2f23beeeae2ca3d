use Rattle.std.proofs.Common.{◌≡◌, ℕ, List, true, false, None, Some, is_some, take, sym, ◌∙◌, ap, subst, arith, refl}
use Rattle.std.specs.Prelude.{position}
use Rattle.std.specs.BTreeMap.{get_by}
use Rattle.std.specs.Cmp.Lexicographic.{slice_cmp}
use Rattle.std.specs.Map.{update}
use Rattle.std.specs.Ordering.{nat_cmp}
use Rattle.std.specs.Str.{bytes_eq}
use Rattle.std.proofs.lemmas.List.{length-take}
use Rattle.std.proofs.lemmas.Map.Text.{btree_map_updates_str}
use Rattle.dump_sections.specs.Bodies.{section_at}
use Rattle.dump_sections.specs.Index.{sections_in}
use Rattle.process_table.specs.Records.{placed_sections}
use Rattle.process_table.specs.Inner.Finding.{AreFound, AreNumbered, has_pid}
use Rattle.process_table.proofs.Firsts.{take-placed}
use Rattle.process_table.proofs.Hearing.{pid_in-none, pid_in-some, AreFound-passed, AreFound-repeated, AreFound-new, repeated-few, entries-few}
use Rattle.process_table.proofs.Ranking.{AreNumbered-push}
use Rattle.process_table.proofs.first_by_pid.find_at.Goals as goal
use Rattle.dump_io.specs.Laws.Options.{none-where}

pub returns-in_default-clause-found : goal.returns-in_default-clause-found
returns-in_default-clause-found c =
    let sections = sections_in c.args.index.now in
    let s = section_at c.args.index.now c.args.i in
    let among = take c.args.i (placed_sections sections) in
    subst (AreFound c.args.found.now) (sym (take-placed sections c.args.i s c.pid_of.ensures.section))
    (AreFound-passed c.args.found.now among (c.args.i, s) c.requires.before (pid_in-none s (sym c.in_default.ensures.pid)))

pub overflow_add-found : goal.overflow_add-found
overflow_add-found c =
    let sections = placed_sections (sections_in c.args.index.now) in
    omega (arith, c.requires.few, repeated-few c.args.found.now (take c.args.i sections) c.requires.before, length-take c.args.i sections)

-- whether the pid stands among those that were found
there : (found : _) (numbers : _) (own pid : List ℕ) (b : _) → AreNumbered numbers found → own ≡ pid → b ≡ is_some (get_by (λ key. slice_cmp nat_cmp pid key.now) numbers)
    → is_some (position (has_pid own) found) ≡ b
there found numbers own pid b are same asked = ap (λ (p : List ℕ). is_some (position (has_pid p) found)) same ∙ sym (ap is_some (are.found pid)) ∙ sym asked

pub returns-then-contains_key-clause-found : goal.returns-then-contains_key-clause-found
returns-then-contains_key-clause-found c =
    let sections = sections_in c.args.index.now in
    let s = section_at c.args.index.now c.args.i in
    let among = take c.args.i (placed_sections sections) in
    let own = pid_in-some s c.in-Some.pid.now (sym c.in-Some.ensures.pid) in
    subst (AreFound _) (sym (take-placed sections c.args.i s c.pid_of.ensures.section))
    (AreFound-repeated c.args.found.now among (c.args.i, s) c.requires.before _ own.0
    (there c.args.found.now.places.items c.args.numbers.now _ _ true c.requires.numbered own.1 (sym c.if-contains_key.true ∙ c.contains_key.ensures)) refl refl)

pub returns-clause-found : goal.returns-clause-found
returns-clause-found c =
    let sections = sections_in c.args.index.now in
    let s = section_at c.args.index.now c.args.i in
    let among = take c.args.i (placed_sections sections) in
    let own = pid_in-some s c.in-Some.pid.now (sym c.in-Some.ensures.pid) in
    let absent = there c.args.found.now.places.items c.args.numbers.now _ _ false c.requires.numbered own.1 (sym c.if-contains_key.false ∙ c.contains_key.ensures) in
    let gained = c.in_ok-push_place.ensures in
    subst (AreFound _) (sym (take-placed sections c.args.i s c.pid_of.ensures.section))
    (AreFound-new c.args.found.now among (c.args.i, s) c.requires.before _ gained.place own.0 absent (gained.same_pid ∙ sym own.1) gained.same_section gained.behind refl)

pub returns-clause-numbered : goal.returns-clause-numbered
returns-clause-numbered c =
    let pid = c.in-Some.pid.now in
    let places = c.args.found.now.places.items in
    let gained = c.in_ok-push_place.ensures in
    let none : position (has_pid pid) places ≡ None =
    none-where _ (there places c.args.numbers.now pid pid false c.requires.numbered refl (sym c.if-contains_key.false ∙ c.contains_key.ensures)) in
    subst (AreNumbered c.insert.new.self) (sym gained.behind)
    (AreNumbered-push c.args.numbers.now c.insert.new.self places gained.place pid c.requires.numbered gained.same_pid none
    (λ other. btree_map_updates_str pid c.args.numbers.now c.insert.new.self _ c.in_ok-insert.ensures.updates other
    ∙ ap (λ (o : _). update bytes_eq (λ t. get_by (λ key. slice_cmp nat_cmp t key.now) c.args.numbers.now) pid o other)
    (ap Some (omega (arith, c.len.ensures, c.args.found.now.places.ok.0)))))

pub overflow_cast-len : goal.overflow_cast-len
overflow_cast-len c =
    let sections = placed_sections (sections_in c.args.index.now) in
    omega (arith, c.requires.few, c.len.ensures, c.args.found.now.places.ok.0, entries-few c.args.found.now (take c.args.i sections) c.requires.before, length-take c.args.i sections)
