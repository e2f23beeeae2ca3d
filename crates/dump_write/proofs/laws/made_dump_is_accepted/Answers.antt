use Rattle.std.proofs.Common.{◌≡◌, ℕ, ◌^◌, ◌<◌, List, Some, arith, rules}
use Rattle.std.specs.Prelude.{◌↔◌}
use Rattle.dump_sections.specs.Sections.{sections}
use Rattle.heap_cells.specs.DumpHeaps.{payloads_of}
use Rattle.heap_cells.specs.Loading.{heap_section, literals_section}
use Rattle.term_forms.specs.Forms.{HeapForm, IsForm}
use Rattle.term_forms.specs.ReadingForms.{form_of}
use Rattle.dump_write.specs.Made.{made}
use Rattle.dump_write.proofs.HeapWeights.{for_both, weight-le}
use Rattle.dump_write.proofs.MadeDump.{made_accepted, made_whole, made_sections, made_bodies, made_size}
use Rattle.dump_write.proofs.laws.made_dump_is_accepted.Goals as goal

pub returns : goal.returns
returns c =
    let seed = c.args.seed in
    let count = c.args.count in
    let small : c.args.seed < 2 ^ 64 = search (rules, c.ranges.seed) in
    let some = c.requires.some in
    let few = c.requires.few in
    let forms = for_both (λ enc. (text : List ℕ) (f : HeapForm) → (form_of enc text ≡ Some f) ↔ IsForm enc text f) c.form_is_read.ensures.found c.form_is_read-2.ensures.found in
    record {
      accepted = made_accepted seed count small some few;
      whole = made_whole seed count small some few;
      sections = made_sections seed count small some few;
      bodies = made_bodies seed count small some few;
      heaps = λ pid. let bytes = made seed count in omega (arith, weight-le c.number_is_read.ensures forms (payloads_of bytes) bytes (heap_section pid (sections bytes)) (literals_section (sections bytes)), made_size seed count small some few);
    }
