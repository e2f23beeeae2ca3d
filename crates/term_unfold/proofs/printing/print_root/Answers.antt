use Rattle.std.proofs.Common.{◌≡◌, ◌-◌, ◌≤◌, suc, false, List, [], ◌++◌, length, refl, sym, ◌∙◌, ap, subst, append-nil, arith}
use Rattle.term_forms.specs.Seen.{element}
use Rattle.term_unfold.specs.Inner.Entries.{Entered, path_of}
use Rattle.term_unfold.specs.declared.path.Entry.{Entry}
use Rattle.term_unfold.specs.Inner.Coming.{entered_by}
use Rattle.term_unfold.specs.Inner.Openings.{IsOpened}
use Rattle.term_unfold.specs.Inner.Rest.{rest, child_text}
use Rattle.term_unfold.specs.Leaves.{leaf_text}
use Rattle.term_unfold.specs.Rules.{Term}
use Rattle.term_unfold.specs.Text.{show}
use Rattle.term_unfold.specs.Unfolding.{unfolding_of}
use Rattle.term_unfold.proofs.Stepping.{show-opened}
use Rattle.term_unfold.proofs.Turns_made.{opened-text}
use Rattle.term_unfold.proofs.Written.{Steps-text}
use Rattle.term_unfold.proofs.printing.print_root.Goals as goal

pub put_root-requires-clause-text : goal.put_root-requires-clause-text
put_root-requires-clause-text g c =
    let heap = c.args.heap.now.cells in
    opened-text heap (path_of heap c.args.path.now.entries) (Term (element c.args.root.now)) c.open_root-opened.result c.open_root-opened.ensures.found_is

pub returns-clause-step : goal.returns-clause-step
returns-clause-step g c =
    let heap = c.args.heap.now.cells in
    let leaf = leaf_text c.args.heap.now.enc c.args.heap.now.cells c.args.previews.now in
    let o = c.open_root-opened.result in
    let child = Term (element c.args.root.now) in
    let m = c.args.budget - 1 in
    let whole = show leaf (unfolding_of heap (element c.args.root.now)) c.args.budget in
    let own = child_text leaf heap child o in
    let count : c.args.budget ≡ suc (c.args.budget - 1) = omega (arith, c.requires.budget) in
    let opens : IsOpened heap [] child o = subst (λ es. IsOpened heap (path_of heap es) child o) c.requires.empty c.open_root-opened.ensures.found_is in
    let no_entries : List Entry = [] in
    let none : length no_entries ≤ length heap = omega arith in
    let now : c.enter.new.path.entries ≡ entered_by o false [] = ap (λ (p : Entered). p.entries) c.enter.ensures ∙ ap (entered_by o false) c.requires.empty in
    Steps-text whole own (rest leaf heap c.enter.new.path.entries) m c.put_root.result c.counted.result c.counted.ensures c.put_root.ensures
    (ap (show leaf (unfolding_of heap (element c.args.root.now))) count ∙ sym (append-nil _) ∙ show-opened leaf heap [] child o m none refl opens ∙ ap (λ es. own ++ rest leaf heap es m) (sym now))
