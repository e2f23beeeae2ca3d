use Rattle.std.proofs.Common.{◌≡◌, List, Option, ℕ, length, take, sym, subst, arith}
use Rattle.std.specs.Prelude.{codes}
use Rattle.std.proofs.lemmas.List.{length-take-le}
use Rattle.std.proofs.lemmas.Option.{slice_get_within}
use Rattle.dump_io.specs.Laws.Lists.{take-at}
use Rattle.dump_sections.specs.Index.{sections_in}
use Rattle.dump_sections.specs.Shown.{shown_section}
use Rattle.wait_requests.specs.Inner.Memories.{AreMemories, Notes}
use Rattle.wait_requests.specs.declared.memories.Memories.{Memories}
use Rattle.wait_requests.proofs.MemoryFacts.{noted-more}
use Rattle.wait_requests.proofs.memories.Memories.note.Goals as goal

pub returns : goal.returns
returns c =
    let sections = sections_in c.args.index.now in
    let processes = c.args.procs.now.processes in
    let old = c.args.self.now in
    let i = c.args.i in
    let s = shown_section c.section-section.result in
    let new : Memories = record { stacks = c.note_place.new.places; heaps = c.note_place-2.new.places } in
    let size : length (take i sections) ≡ i = length-take-le i sections (omega (arith, slice_get_within sections i s c.section-section.ensures.place)) in
    subst (λ taken. AreMemories taken processes new) (sym (take-at sections i s c.section-section.ensures.place))
    (record {
      stacks =
          noted-more (codes "proc_stack") (take i sections) s processes old.stacks.items new.stacks.items i c.requires.before.stacks (sym size) c.note_place.ensures.count
          (subst (λ (id : Option (List ℕ)). Notes processes old.stacks.items new.stacks.items id i) c.id_with.ensures c.note_place.ensures.notes);
      heaps =
          noted-more (codes "proc_heap") (take i sections) s processes old.heaps.items new.heaps.items i c.requires.before.heaps (sym size) c.note_place-2.ensures.count
          (subst (λ (id : Option (List ℕ)). Notes processes old.heaps.items new.heaps.items id i) c.id_with-2.ensures c.note_place-2.ensures.notes);
    })
