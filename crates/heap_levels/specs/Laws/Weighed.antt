-- The level of a cell is what is reported of the parts of this cell alone.
use Rattle.std.proofs.Common.{◌≡◌, ℕ, zero, suc, ◌==◌, Bool, true, false, if◌then◌else◌, nat_lt, List, [], ◌∷◌, map, Option, None, Some, option_map, refl, sym, ◌∙◌, ap, subst}
use Rattle.std.specs.Prelude.{slice_get}
use Rattle.std.specs.List.{position}
use Rattle.std.specs.Option.{option_map_or}
use Rattle.std.proofs.lemmas.Option.{none-some, same_Some, slice_get-map}
use Rattle.cell_parts.specs.Elements.{cell_elements}
use Rattle.dump_sections.specs.Index.{Contents}
use Rattle.heap_cells.specs.Cells.{Cell}
use Rattle.heap_skeleton.specs.Skeletons.{SkeletonMap, skeleton_for}
use Rattle.part_weights.specs.Weights.{Weighing, address_weighing, cell_weighing, keyed, weighing}
use Rattle.root_views.specs.declared.kinds.RootKind.{RootKind}
use Rattle.tuple_fronts.specs.Fronts.{cells_for}
use Rattle.heap_levels.specs.Levels.{KindWeighing, Level, Process, as_level, first_rows, heaviest, heaviest_kind, heavy_levels, level_of, level_zero, levels_below, levels_from, process_of}
use Rattle.heap_levels.specs.declared.levels.Subject.{Subject}
use Rattle.heap_levels.specs.declared.levels.Subject.TheVariants as of

-- its rows, in their order and with their labels, what two or more parts reach and what any reaches
pub level-is-weighed : (dump : List ℕ) (index : Contents) (pid : List ℕ) (most address : ℕ) (w : Weighing) → address_weighing dump index pid most address ≡ Some w
    → first_rows most (level_of (process_of dump index pid) (of.OfCell address)) ≡ as_level (of.OfCell address) w
level-is-weighed dump index pid most address w is = by (skeleton_for dump index pid) (cells_for dump index pid) (position (λ a. a == address) (skeleton_for dump index pid).addresses) is
  where
    by : (heap : SkeletonMap) (cells : List Cell) (found : Option ℕ) → option_map (cell_weighing heap cells most) found ≡ Some w
        → first_rows most (as_level (of.OfCell address) (weighing heap None (option_map_or (λ n. keyed cells n (cell_elements heap.kinds heap.leads n)) found []))) ≡ as_level (of.OfCell address) w
    by heap cells None missing = absurd (let e : None ≡ Some w = missing in cc)
    by heap cells (Some n) found = ap (λ o. option_map_or (as_level (of.OfCell address)) o (as_level (of.OfCell address) w)) found

-- ---- each level of a process

-- a level is that of its subject
own-from : (p : Process) (total n : ℕ) (s : Subject) (i : ℕ) (l : Level) → slice_get (levels_from n p total s) i ≡ Some l → l ≡ level_of p l.subject
own-from p total zero s i l is = absurd (none-some l is)
own-from p total (suc n) s i l is = by (nat_lt 0 (level_of p s).parts) (heaviest total (level_of p s).rows) i (λ address k. own-from p total n (of.OfCell address) k l) is
  where
    by : (b : Bool) (o : Option ℕ) (i : ℕ) → ((address k : ℕ) → slice_get (levels_from n p total (of.OfCell address)) k ≡ Some l → l ≡ level_of p l.subject)
        → slice_get (if b then level_of p s ∷ option_map_or (λ address. levels_from n p total (of.OfCell address)) o [] else []) i ≡ Some l → l ≡ level_of p l.subject
    by false o i later is = absurd (none-some l is)
    by true o zero later is = subst (λ (x : Level). x ≡ level_of p x.subject) (same_Some (level_of p s) l is) refl
    by true None (suc i) later is = absurd (none-some l is)
    by true (Some address) (suc i) later is = later address i is

own-below : (p : Process) (top : KindWeighing) (i : ℕ) (l : Level) → slice_get (levels_below p top) i ≡ Some l → l ≡ level_of p l.subject
own-below p top i l is = by (heaviest_kind top.reached.words top.rows) is
  where
    by : (o : Option RootKind) → slice_get (option_map_or (λ kind. levels_from 19 p top.reached.words (of.OfKind kind)) o []) i ≡ Some l → l ≡ level_of p l.subject
    by None is = absurd (none-some l is)
    by (Some kind) is = own-from p top.reached.words 19 (of.OfKind kind) i l is

shown-below : (p : Process) (most i : ℕ) (levels : List Level) (level : Level) → ((l : Level) → slice_get levels i ≡ Some l → l ≡ level_of p l.subject)
    → slice_get (map (first_rows most) levels) i ≡ Some level → level ≡ first_rows most (level_of p level.subject)
shown-below p most i levels level own is = by (slice_get levels i) refl (sym (slice_get-map (first_rows most) levels i) ∙ is)
  where
    by : (o : Option Level) → slice_get levels i ≡ o → option_map (first_rows most) o ≡ Some level → level ≡ first_rows most (level_of p level.subject)
    by None there is = absurd (none-some level is)
    by (Some l) there is = subst (λ (x : Level). x ≡ first_rows most (level_of p x.subject)) (same_Some (first_rows most l) level is) (ap (first_rows most) (own l there))

-- the levels of cells are what is reported of the parts of these cells alone
pub levels-are-weighed : (dump : List ℕ) (index : Contents) (pid : List ℕ) (most i address : ℕ) (level : Level) (w : Weighing)
    → slice_get (heavy_levels most (process_of dump index pid)).below i ≡ Some level → level.subject ≡ of.OfCell address → address_weighing dump index pid most address ≡ Some w
    → level ≡ as_level (of.OfCell address) w
levels-are-weighed dump index pid most i address level w there of_cell is =
    let p = process_of dump index pid in
    shown-below p most i (levels_below p (level_zero p)) level (own-below p (level_zero p) i) there
    ∙ ap (λ s. first_rows most (level_of p s)) of_cell
    ∙ level-is-weighed dump index pid most address w is
