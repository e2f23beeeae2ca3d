-- Messages with the shapes of the cells to which they refer.
use Rattle.std.proofs.Common.{◌≡◌, ℕ, ◌==◌, Bool, List, [], ◌∷◌, map, Option, None, Some, refl, sym, ◌∙◌, ap, ap₂, subst, arith}
use Rattle.std.specs.Prelude.{codes, filter, Contains}
use Rattle.std.specs.Option.{option_map_or}
use Rattle.std.specs.List.Sorted.{IsStrictlyIncreasing}
use Rattle.std.proofs.lemmas.List.Elements.{Contains-append_left, Contains-append_right}
use Rattle.dump_io.specs.Laws.Lists.{position-map}
use Rattle.dump_sections.specs.Index.{Contents}
use Rattle.heap_cells.specs.Cells.{Cell, addresses}
use Rattle.heap_cells.specs.HeapMap.{form_at, number_at}
use Rattle.heap_skeleton.specs.Skeletons.{SkeletonMap, skeleton_for}
use Rattle.root_views.specs.Roots.{BodyRoot, Content, Term, Info, Dist, Unread, is_message}
use Rattle.term_forms.specs.Elements.{Ref}
use Rattle.tuple_fronts.specs.CellSets.{cell_with}
use Rattle.tuple_fronts.specs.CellShapes.{cell_shapes_with}
use Rattle.tuple_fronts.specs.Fronts.{cells_for}
use Rattle.tuple_fronts.specs.Laws.CellSets.{at-place}
use Rattle.tuple_fronts.specs.Shapes.{cell_shape_with, subject_with}
use Rattle.message_shapes.specs.Messages.{Message, mail_roots, message_of, messages_of}
use Rattle.message_shapes.specs.Shapes.{message_shape}
use Rattle.message_shapes.specs.Inner.Shaped.{messages_with, shape_with}
use Rattle.message_shapes.specs.Inner.Telling.{content_origin, origin_cells, root_told, roots_told, told_cells, OfCell, OfText, Told}

head-contained : (n : ℕ) (xs : List ℕ) → Contains (n ∷ xs) n
head-contained n xs = (0, omega arith, refl)

module _ (pids : Bool) (cells : List Cell) (subjects : List ℕ) (ascending : IsStrictlyIncreasing subjects) where
  abbrev shapes : List (List ℕ)
  shapes = map (cell_shape_with pids cells) subjects

  -- the number of the cell with an address
  number-in : (address : ℕ) → cell_with (addresses cells) address ≡ number_at cells address
  number-in address = position-map (λ a. a == address) (λ (cell : Cell). cell.address) cells

  cell-shown : (n : ℕ) → Contains subjects n → shape_with subjects shapes (OfCell n) ≡ subject_with pids cells (form_at cells n)
  cell-shown n one = at-place (cell_shape_with pids cells) subjects n [] ascending one

  reference-shown : (o : Option ℕ) → ((n : ℕ) → Contains (origin_cells (option_map_or OfCell o (OfText (codes "missing()")))) n → Contains subjects n)
      → shape_with subjects shapes (option_map_or OfCell o (OfText (codes "missing()"))) ≡ option_map_or (λ n. subject_with pids cells (form_at cells n)) o (codes "missing()")
  reference-shown None among = refl
  reference-shown (Some n) among = cell-shown n (among n (head-contained n []))

  content-shown : (content : Content) → ((n : ℕ) → Contains (origin_cells (content_origin pids (addresses cells) content)) n → Contains subjects n)
      → shape_with subjects shapes (content_origin pids (addresses cells) content) ≡ message_shape pids cells content
  content-shown (Term (Ref address)) among =
      ap (λ o. shape_with subjects shapes (option_map_or OfCell o (OfText (codes "missing()")))) (number-in address)
      ∙ reference-shown (number_at cells address)
      (λ n there. among n (subst (λ o. Contains (origin_cells (option_map_or OfCell o (OfText (codes "missing()")))) n) (sym (number-in address)) there))
  content-shown (Term e) among = refl
  content-shown (Dist text) among = refl
  content-shown (Info text) among = refl
  content-shown Unread among = refl

  roots-shown : (roots : List BodyRoot) → ((n : ℕ) → Contains (told_cells (map (root_told pids (addresses cells)) roots)) n → Contains subjects n)
      → messages_with subjects shapes (map (root_told pids (addresses cells)) roots) ≡ map (message_of pids cells) roots
  roots-shown [] among = refl
  roots-shown (root ∷ roots) among =
      let first = origin_cells (content_origin pids (addresses cells) root.content) in
      let rest = told_cells (map (root_told pids (addresses cells)) roots) in
      ap₂ (λ shape messages. (let one : Message = record { at = root.at; shape = shape } in one) ∷ messages)
      (content-shown root.content (λ n here. among n (Contains-append_left first rest n here)))
      (roots-shown roots (λ n there. among n (Contains-append_right first rest n there)))

-- the messages of a mailbox, from what was kept of it and the shapes of the cells
pub mail-shown : (pids : Bool) (dump : List ℕ) (index : Contents) (pid : List ℕ) (s : SkeletonMap) (heard : List Told) (subjects : List ℕ) (texts : List (List ℕ))
    → s ≡ skeleton_for dump index pid → heard ≡ roots_told pids s.addresses (mail_roots dump index pid)
    → IsStrictlyIncreasing subjects → ((n : ℕ) → Contains (told_cells heard) n → Contains subjects n)
    → texts ≡ cell_shapes_with pids dump index pid subjects
    → messages_with subjects texts heard ≡ messages_of pids (cells_for dump index pid) (mail_roots dump index pid)
mail-shown pids dump index pid s heard subjects texts s_is heard_is ascending among texts_are =
    let cells = cells_for dump index pid in
    let roots = mail_roots dump index pid in
    let told_is : heard ≡ roots_told pids (addresses cells) roots = heard_is ∙ ap (λ (k : SkeletonMap). roots_told pids k.addresses roots) s_is in
    ap₂ (messages_with subjects) texts_are told_is
    ∙ roots-shown pids cells subjects ascending (filter is_message roots)
    (λ n there. among n (subst (λ l. Contains (told_cells l) n) (sym told_is) there))
