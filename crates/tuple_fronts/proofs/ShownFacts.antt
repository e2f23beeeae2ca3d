-- The shapes of cells, from the skeleton of the heap and the first elements of tuples.
use Rattle.std.proofs.Common.{◌≡◌, ℕ, Bool, false, List, [], ◌∷◌, map, refl, sym, ◌∙◌, ap, ap₂, subst}
use Rattle.std.specs.Prelude.{Contains}
use Rattle.std.specs.List.Sorted.{IsStrictlyIncreasing}
use Rattle.std.proofs.lemmas.List.Elements.{Contains-append_right}
use Rattle.dump_sections.specs.Index.{Contents, sections_in}
use Rattle.heap_cells.specs.Loading.{heap_section, literals_section}
use Rattle.heap_skeleton.specs.Skeletons.{SkeletonMap, heap_in, lines_in, skeleton_for, skeleton_of}
use Rattle.tuple_fronts.specs.Fronts.{front_of, fronts_for}
use Rattle.tuple_fronts.specs.Shapes.{cell_shape_with, inner_shape}
use Rattle.tuple_fronts.specs.CellTexts.{inner_text, subject_text}
use Rattle.tuple_fronts.specs.Tuples.{TupleMap, needed, needed_at}
use Rattle.tuple_fronts.specs.CellShapes.{cell_shapes_with, inner_shapes}
use Rattle.tuple_fronts.specs.Laws.CellTexts.{flat-contained, head-contained, inner-is, subject-is}

-- ---- all of several cells

-- images are the same if they are for each of a list
same-images : (f g : ℕ → List ℕ) (xs : List ℕ) → ((n : ℕ) → Contains xs n → f n ≡ g n) → map f xs ≡ map g xs
same-images f g [] same = refl
same-images f g (x ∷ xs) same =
    ap₂ (λ a b. a ∷ b) (same x (head-contained x xs)) (same-images f g xs (λ n has. same n (Contains-append_right (x ∷ []) xs n has)))

-- the shapes inside messages, from what was kept of the heap
pub inner-shown : (dump : List ℕ) (index : Contents) (pid : List ℕ) (s : SkeletonMap) (t : TupleMap) (numbers : List ℕ) (texts : List (List ℕ))
    → s ≡ skeleton_for dump index pid → IsStrictlyIncreasing numbers → t.cells ≡ numbers → t.fronts ≡ fronts_for dump index pid numbers → texts ≡ map (inner_text false s t) t.cells
    → texts ≡ inner_shapes dump index pid numbers
inner-shown dump index pid s t numbers texts s_is rising numbers_are fronts_are texts_are =
    let sections = sections_in index in
    let heap = heap_in dump index (heap_section pid sections) (literals_section sections) in
    let lines = lines_in dump (heap_section pid sections) (literals_section sections) in
    texts_are
    ∙ ap₂ (λ (k : SkeletonMap) cells. map (inner_text false k t) cells) s_is numbers_are
    ∙ same-images (inner_text false (skeleton_of heap lines) t) (inner_shape heap.cells) numbers
    (λ n has. inner-is false heap lines t (subst IsStrictlyIncreasing (sym numbers_are) rising) (fronts_are ∙ ap (map (front_of heap.cells)) (sym numbers_are)) n
    (λ tuple. subst (λ l. Contains l n) (sym numbers_are) has))

-- the shapes of messages that refer to cells, from what was kept of the heap
pub subjects-shown : (pids : Bool) (dump : List ℕ) (index : Contents) (pid : List ℕ) (s : SkeletonMap) (t : TupleMap) (subjects numbers : List ℕ) (texts : List (List ℕ))
    → s ≡ skeleton_for dump index pid → IsStrictlyIncreasing numbers → ((m : ℕ) → Contains (needed s subjects) m → Contains numbers m)
    → t.cells ≡ numbers → t.fronts ≡ fronts_for dump index pid numbers → texts ≡ map (subject_text pids s t) subjects
    → texts ≡ cell_shapes_with pids dump index pid subjects
subjects-shown pids dump index pid s t subjects numbers texts s_is rising has numbers_are fronts_are texts_are =
    let sections = sections_in index in
    let heap = heap_in dump index (heap_section pid sections) (literals_section sections) in
    let lines = lines_in dump (heap_section pid sections) (literals_section sections) in
    let whole : SkeletonMap = skeleton_of heap lines in
    let there : (m : ℕ) → Contains (needed whole subjects) m → Contains t.cells m =
    λ m inside. subst (λ l. Contains l m) (sym numbers_are) (has m (subst (λ k. Contains (needed k subjects) m) (sym s_is) inside)) in
    texts_are
    ∙ ap (λ (k : SkeletonMap). map (subject_text pids k t) subjects) s_is
    ∙ same-images (subject_text pids whole t) (cell_shape_with pids heap.cells) subjects
    (λ n one. subject-is pids heap lines t (subst IsStrictlyIncreasing (sym numbers_are) rising) (fronts_are ∙ ap (map (front_of heap.cells)) (sym numbers_are)) n
    (λ m inside. there m (flat-contained (needed_at whole) subjects n m one inside)))
