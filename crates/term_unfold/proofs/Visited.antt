-- The steps of the walk, by what the stack stands for.
use Rattle.std.proofs.Common.{◌≡◌, ℕ, zero, suc, ◌+◌, ◌-◌, ◌<◌, ◌≤◌, Bool, List, [], ◌∷◌, ◌++◌, length, take, drop, Option, Some, None, refl, sym, ◌∙◌, ap, append_assoc, arith}
use Rattle.std.specs.Prelude.{slice_get}
use Rattle.std.specs.Option.{option_and_then, option_or}
use Rattle.std.proofs.lemmas.List.{length-map}
use Rattle.term_forms.specs.Forms.{HeapForm, SubBin}
use Rattle.heap_cells.specs.Cells.{Cell}
use Rattle.heap_cells.specs.Targets.{number}
use Rattle.cell_records.specs.declared.cells.Why.{Why}
use Rattle.cell_records.specs.declared.cells.Why.TheVariants.{Missing}
use Rattle.term_unfold.specs.Maps.{address_of}
use Rattle.term_unfold.specs.declared.openings.Opened.{Opened}
use Rattle.term_unfold.specs.declared.openings.Opened.TheVariants as opened
use Rattle.term_unfold.specs.declared.path.Entry.{Entry}
use Rattle.term_unfold.specs.declared.verdict.Verdict.{Verdict}
use Rattle.term_unfold.specs.declared.verdict.Verdict.TheVariants as verdicts
use Rattle.term_unfold.specs.Inner.Coming.{to_come, entered_by, verdict_on, seen, or_else, asked_by, asked_on, gap_on, HasLeafIn, Visits}
use Rattle.term_unfold.specs.Inner.Entries.{path_of, stepped}
use Rattle.term_unfold.specs.Inner.Children.{children_of}
use Rattle.term_unfold.specs.Inner.Openings.{element_of, IsOpened}
use Rattle.term_unfold.specs.Parts.{Known, asked, if_lacking, gap_at, first_gap}
use Rattle.term_unfold.specs.Rules.{Child, Opening, opening}
use Rattle.term_unfold.specs.Trees.{Immediate, OfCell, Tree, Leaf, Bad, Branch, pre, pre_all, first_bad}
use Rattle.term_unfold.specs.Unfolding.{trees, grown_tree, unfolded}
use Rattle.term_unfold.proofs.Levels.{unfolded-rule}
use Rattle.dump_io.specs.Laws.Lists.{drop-at}

-- the tree of a child, by what it opens

pub path-few : (heap : List Cell) (entries : List Entry) → length entries ≤ length heap → length (path_of heap entries) ≤ length heap
path-few heap entries few = omega (arith, few, length-map entries (λ (e : Entry). address_of heap (number e.cell)))

pub unfolded-as : (heap : List Cell) (entries : List Entry) (child : Child) (o : Opening) → length entries ≤ length heap → opening heap (path_of heap entries) child ≡ o
    → unfolded heap (path_of heap entries) child ≡ grown_tree (λ a. unfolded heap (a ∷ path_of heap entries)) o
unfolded-as heap entries child o few is =
    unfolded-rule heap (path_of heap entries) child (path-few heap entries few) ∙ ap (grown_tree (λ a. unfolded heap (a ∷ path_of heap entries))) is

visits-as : (heap : List Cell) (before after : List Entry) (child : Child) (o : Opening) (found : Opened) (tree : Tree) → length before ≤ length heap → opening heap (path_of heap before) child ≡ o
    → pre (grown_tree (λ a. unfolded heap (a ∷ path_of heap before)) o) ++ to_come heap before ≡ tree ∷ to_come heap after → verdict_on found ≡ seen tree → asked_on heap found ≡ asked tree
    → Visits heap before after child found
visits-as heap before after child o found tree few is first says asks = record {
  node = tree;
  first = ap (λ t. pre t ++ to_come heap before) (unfolded-as heap before child o few is) ∙ first;
  seen = says;
  asks = asks;
}

form-asks : (a : ℕ) (form : HeapForm) → asked_by (Some form) ≡ asked (Leaf (OfCell a form))
form-asks a (SubBin address offset size) = refl
form-asks a form = refl

bad-asks : (heap : List Cell) (a : ℕ) (why : Why) → asked_on heap (opened.Bad a why) ≡ asked (Bad a why)
bad-asks heap a Missing = refl
bad-asks heap a why = refl

pub visits-opened : (heap : List Cell) (before after : List Entry) (child : Child) (o : Opened) (came : Bool) → length before ≤ length heap → IsOpened heap (path_of heap before) child o
    → after ≡ entered_by o came before → Visits heap before after child o
visits-opened heap before after child opened.Immediate came few is now =
    let tree : Tree = Leaf (Immediate (element_of child)) in
    visits-as heap before after child _ opened.Immediate tree few is.0 (ap (λ es. tree ∷ to_come heap es) (sym now)) refl refl
visits-opened heap before after child (opened.Leaf ix) came few is now =
    let a = address_of heap (number ix) in
    let tree : Tree = Leaf (OfCell a is.at.form) in
    visits-as heap before after child _ (opened.Leaf ix) tree few is.opens (ap (λ es. tree ∷ to_come heap es) (sym now)) refl (ap asked_by is.at.form_is ∙ form-asks a is.at.form)
visits-opened heap before after child (opened.Bad address why) came few is now =
    visits-as heap before after child _ (opened.Bad address why) (Bad address why) few is (ap (λ es. Bad address why ∷ to_come heap es) (sym now)) refl (bad-asks heap address why)
visits-opened heap before after child (opened.Node ix kind) came few is now =
    let tree : Tree = Branch kind (trees (unfolded heap (address_of heap (number ix) ∷ path_of heap before)) (children_of heap kind (number ix))) in
    visits-as heap before after child _ (opened.Node ix kind) tree few is.opens (ap (λ es. tree ∷ to_come heap es) (sym now)) refl refl

pub opened-inside : (heap : List Cell) (path : List ℕ) (child : Child) (o : Opened) → IsOpened heap path child o → HasLeafIn heap o
opened-inside heap path child (opened.Leaf ix) is = is.at.cell
opened-inside heap path child o is = tt

-- children by place

pub drop-past_get : {X : Type 0} → (xs : List X) (i : ℕ) → slice_get xs i ≡ None → drop i xs ≡ []
drop-past_get [] zero is = refl
drop-past_get [] (suc i) is = refl
drop-past_get (y ∷ ys) zero is = cc
drop-past_get (y ∷ ys) (suc i) is = drop-past_get ys i is

-- the innermost cell gives its next child
to_come-next : (heap : List Cell) (came : Bool) (e : Entry) (es : List Entry) (s : Child) → slice_get (children_of heap e.kind (number e.cell)) e.next ≡ Some s
    → to_come heap (e ∷ es) ≡ pre (unfolded heap (path_of heap (stepped came (e ∷ es))) s) ++ to_come heap (stepped came (e ∷ es))
to_come-next heap came e es s is =
    let tree : Child → Tree = unfolded heap (path_of heap (e ∷ es)) in
    let kids = children_of heap e.kind (number e.cell) in
    ap (λ ss. pre_all (trees tree ss) ++ to_come heap es) (drop-at kids e.next s is)
    ∙ append_assoc (pre (tree s)) (pre_all (trees tree (drop (e.next + 1) kids))) (to_come heap es)

pub to_come-step : (heap : List Cell) (came : Bool) (before after : List Entry) (e : Entry) (es : List Entry) (s : Child) → before ≡ e ∷ es → slice_get (children_of heap e.kind (number e.cell)) e.next ≡ Some s
    → after ≡ stepped came before → to_come heap before ≡ pre (unfolded heap (path_of heap after) s) ++ to_come heap after
to_come-step heap came before after e es s was at step =
    let now : after ≡ stepped came (e ∷ es) = step ∙ ap (stepped came) was in
    ap (to_come heap) was ∙ to_come-next heap came e es s at ∙ ap (λ es. pre (unfolded heap (path_of heap es) s) ++ to_come heap es) (sym now)

-- the innermost cell is left
pub to_come-pop : (heap : List Cell) (before after : List Entry) (e : Entry) → before ≡ e ∷ after → slice_get (children_of heap e.kind (number e.cell)) e.next ≡ None → to_come heap after ≡ to_come heap before
to_come-pop heap before after e was at =
    sym (ap (to_come heap) was ∙ ap (λ ss. pre_all (trees (unfolded heap (path_of heap (e ∷ after))) ss) ++ to_come heap after) (drop-past_get (children_of heap e.kind (number e.cell)) e.next at))

first_bad-first : (tree : Tree) (trees : List Tree) → or_else (seen tree) (first_bad trees) ≡ first_bad (tree ∷ trees)
first_bad-first (Bad address why) trees = refl
first_bad-first tree trees = refl

-- one node less
visited : (n : ℕ) (heap : List Cell) (before after : List Entry) (child : Child) (found : Opened) → Visits heap before after child found → 0 < n
    → or_else (verdict_on found) (first_bad (take (n - 1) (to_come heap after))) ≡ first_bad (take n (pre (unfolded heap (path_of heap before) child) ++ to_come heap before))
visited zero heap before after child found v some = absurd (omega (arith, some))
visited (suc m) heap before after child found v some =
    let less : suc m - 1 ≡ m = omega arith in
    ap (λ k. or_else (verdict_on found) (first_bad (take k (to_come heap after)))) less
    ∙ ap (λ w. or_else w (first_bad (take m (to_come heap after)))) v.seen
    ∙ first_bad-first v.node (take m (to_come heap after))
    ∙ ap (λ ts. first_bad (take (suc m) ts)) (sym v.first)

pub visited-next : (budget i : ℕ) (heap : List Cell) (es before after : List Entry) (child : Child) (old : Verdict) (found : Opened) → old ≡ verdicts.Clean → i < budget
    → to_come heap es ≡ pre (unfolded heap (path_of heap before) child) ++ to_come heap before → Visits heap before after child found
    → or_else (verdict_on found) (first_bad (take (budget - (i + 1)) (to_come heap after))) ≡ or_else old (first_bad (take (budget - i) (to_come heap es)))
visited-next budget i heap es before after child old found clean lt next v =
    let less : budget - (i + 1) ≡ budget - i - 1 = omega (arith, lt) in
    ap (λ k. or_else (verdict_on found) (first_bad (take k (to_come heap after)))) less
    ∙ visited (budget - i) heap before after child found v (omega (arith, lt))
    ∙ ap (λ ts. first_bad (take (budget - i) ts)) (sym next)
    ∙ ap (λ w. or_else w (first_bad (take (budget - i) (to_come heap es)))) (sym clean)

-- the same for gaps

gap-visited : (known : Known) (n : ℕ) (heap : List Cell) (before after : List Entry) (child : Child) (found : Opened) → Visits heap before after child found → 0 < n
    → option_or (gap_on known heap found) (first_gap (gap_at known heap) (take (n - 1) (to_come heap after)))
    ≡ first_gap (gap_at known heap) (take n (pre (unfolded heap (path_of heap before) child) ++ to_come heap before))
gap-visited known zero heap before after child found v some = absurd (omega (arith, some))
gap-visited known (suc m) heap before after child found v some =
    let less : suc m - 1 ≡ m = omega arith in
    ap (λ k. option_or (gap_on known heap found) (first_gap (gap_at known heap) (take k (to_come heap after)))) less
    ∙ ap (λ o. option_or (option_and_then (if_lacking known heap) o) (first_gap (gap_at known heap) (take m (to_come heap after)))) v.asks
    ∙ ap (λ ts. first_gap (gap_at known heap) (take (suc m) ts)) (sym v.first)

pub gap-next : (known : Known) (budget i : ℕ) (heap : List Cell) (es before after : List Entry) (child : Child) (old : Option ℕ) (found : Opened) → old ≡ None → i < budget
    → to_come heap es ≡ pre (unfolded heap (path_of heap before) child) ++ to_come heap before → Visits heap before after child found
    → option_or (gap_on known heap found) (first_gap (gap_at known heap) (take (budget - (i + 1)) (to_come heap after))) ≡ option_or old (first_gap (gap_at known heap) (take (budget - i) (to_come heap es)))
gap-next known budget i heap es before after child old found clear lt next v =
    let less : budget - (i + 1) ≡ budget - i - 1 = omega (arith, lt) in
    ap (λ k. option_or (gap_on known heap found) (first_gap (gap_at known heap) (take k (to_come heap after)))) less
    ∙ gap-visited known (budget - i) heap before after child found v (omega (arith, lt))
    ∙ ap (λ ts. first_gap (gap_at known heap) (take (budget - i) ts)) (sym next)
    ∙ ap (λ o. option_or o (first_gap (gap_at known heap) (take (budget - i) (to_come heap es)))) (sym clear)
