-- Roots that are kept with their lines, and what is read of them.
use Rattle.std.proofs.Common.{◌≡◌, ℕ, ◌+◌, ◌-◌, ◌<◌, ◌^◌, Bool, true, false, List, [], ◌∷◌, ◌++◌, length, map, get_or, if◌then◌else◌, refl, sym, ◌∙◌, ap, ap₂, subst, append_assoc, append-nil, length-append, arith}
use Rattle.std.specs.Prelude.{◌&&◌, nat_le, nat_lt, slice_get, All, OnOk, Some, Result, Ok, Err}
use Rattle.std.specs.Option.{option_map}
use Rattle.std.proofs.Math.Seq.{get_or-append_seam}
use Rattle.std.proofs.lemmas.List.{length-map, map-append}
use Rattle.std.proofs.lemmas.Option.{get_or_from_slice_get, slice_get-map, slice_get_read}
use Rattle.std.proofs.lemmas.List.Elements.{All-nil, All-append, All-cons, All-head, All-tail}
use Rattle.dump_io.specs.Laws.Lists.{between-grown}
use Rattle.root_views.specs.Kinds.{roots_in}
use Rattle.root_views.specs.Roots.{BodyRoot}
use Rattle.root_views.specs.declared.kinds.RootKind.{RootKind}
use Rattle.root_views.specs.Shown.{some_of, IsPlaced}
use Rattle.root_views.specs.Inner.Keeping.{all_counted_from, counted_from, kept_all, kept_line, kept_one, no_root, HasLine, IsKept, Keeps}
use Rattle.root_views.specs.Placed.{placed}
use Rattle.root_views.specs.declared.kept_roots.KeptRoot.{KeptRoot}
use Rattle.root_views.specs.declared.kept_roots.KeptRoots.{KeptRoots}
use Rattle.root_views.proofs.SomeFacts.{some-nil, some-one}

-- ---- a line more among the kept lines

line-grown : (kind : RootKind) (lines more : List ℕ) (one : KeptRoot) → IsKept kind lines one → kept_line (lines ++ more) one ≡ kept_line lines one
line-grown kind lines more one is = between-grown lines more one.start one.end is.ordered is.within

pub all-grown : (kind : RootKind) (lines more : List ℕ) (ones : List KeptRoot) → All (IsKept kind lines) ones → map (kept_one kind (lines ++ more)) ones ≡ map (kept_one kind lines) ones
all-grown kind lines more [] all = refl
all-grown kind lines more (one ∷ ones) all =
    let is = All-head (IsKept kind lines) one ones all in
    ap₂ (λ r rs. r ∷ rs)
    (ap (λ l. record (get_or (roots_in kind l) one.place no_root) { at = one.at }) (line-grown kind lines more one is))
    (all-grown kind lines more ones (All-tail (IsKept kind lines) one ones all))

pub kept-grown : (kind : RootKind) (lines more : List ℕ) (ones : List KeptRoot) → All (IsKept kind lines) ones → All (IsKept kind (lines ++ more)) ones
kept-grown kind lines more ones all = λ k d inside.
    let is = all k d inside in
    let one = get_or ones k d in record {
      ordered = is.ordered;
      within = omega (arith, is.within, length-append lines more);
      stands = subst (λ l. one.place < length (roots_in kind l)) (sym (line-grown kind lines more one is)) is.stands;
      small = is.small;
    }

-- ---- the roots of a line are kept

-- of the roots of a line those that were seen so far are kept, if they are asked for
pub record IsKeeping (kind : RootKind) (lines : List ℕ) (before : List BodyRoot) (raw : List ℕ) (at skip most place : ℕ)
    (left : List BodyRoot) (ones : List KeptRoot) : Type 0 where
  pub kept : All (IsKept kind lines) ones
  pub seen : List BodyRoot
  pub parts : seen ++ left ≡ roots_in kind raw
  pub count : length seen ≡ place
  pub all : map (kept_one kind lines) ones ≡ before ++ some_of skip most (map (placed at) seen)

pub IsKeeping-none : (kind : RootKind) (lines raw : List ℕ) (at skip most : ℕ) (ones : List KeptRoot) → All (IsKept kind lines) ones
    → IsKeeping kind lines (map (kept_one kind lines) ones) raw at skip most 0 (roots_in kind raw) ones
IsKeeping-none kind lines raw at skip most ones kept = record {
  kept = kept;
  seen = [];
  parts = refl;
  count = refl;
  all = let before = map (kept_one kind lines) ones in sym (ap (λ l. before ++ l) (some-nil skip most) ∙ append-nil before);
}

pub IsKeeping-more : (kind : RootKind) (lines : List ℕ) (before : List BodyRoot) (raw : List ℕ) (at skip most place start upto : ℕ) (root : BodyRoot) (left : List BodyRoot)
    (ones : List KeptRoot) → at + root.at < 2 ^ 64 → HasLine lines start upto raw → IsKeeping kind lines before raw at skip most place (root ∷ left) ones
    → IsKeeping kind lines before raw at skip most (place + 1) left
    (ones ++ (if nat_le skip place && nat_lt (place - skip) most then record { at = at + root.at; start = start; end = upto; place = place } ∷ [] else []))
IsKeeping-more kind lines before raw at skip most place start upto root left ones fits line so_far = record {
  kept = All-append (IsKept kind lines) ones (if shown then one ∷ [] else []) so_far.kept (one_kept shown);
  seen = so_far.seen ++ root ∷ [];
  parts = append_assoc so_far.seen (root ∷ []) left ∙ so_far.parts;
  count = length-append so_far.seen (root ∷ []) ∙ ap (λ n. n + 1) so_far.count;
  all =
      map-append (kept_one kind lines) ones (if shown then one ∷ [] else [])
      ∙ ap₂ (λ a b. a ++ b) so_far.all (one_read shown)
      ∙ append_assoc before (some_of skip most (map (placed at) so_far.seen)) (if shown then placed at root ∷ [] else [])
      ∙ ap (λ l. before ++ l) (
      ap (λ n. some_of skip most (map (placed at) so_far.seen) ++ (if nat_le skip n && nat_lt (n - skip) most then placed at root ∷ [] else [])) (sym size)
      ∙ sym (some-one skip most (map (placed at) so_far.seen) (placed at root))
      ∙ ap (some_of skip most) (sym (map-append (placed at) so_far.seen (root ∷ [])))
      );
}
  where
    shown : Bool
    shown = nat_le skip place && nat_lt (place - skip) most

    one : KeptRoot
    one = record { at = at + root.at; start = start; end = upto; place = place }

    size : length (map (placed at) so_far.seen) ≡ place
    size = length-map so_far.seen (placed at) ∙ so_far.count

    are : roots_in kind (kept_line lines one) ≡ so_far.seen ++ root ∷ left
    are = ap (roots_in kind) line.stands ∙ sym so_far.parts

    here : get_or (roots_in kind (kept_line lines one)) place no_root ≡ root
    here =
        ap (λ l. get_or l place no_root) are ∙ ap (λ n. get_or (so_far.seen ++ root ∷ left) n no_root) (sym so_far.count)
        ∙ get_or-append_seam so_far.seen root left no_root

    one_kept : (b : Bool) → All (IsKept kind lines) (if b then one ∷ [] else [])
    one_kept false = All-nil (IsKept kind lines)
    one_kept true =
        let stands : place < length (roots_in kind (kept_line lines one)) = omega (arith, ap length are, length-append so_far.seen (root ∷ left), so_far.count) in
        let is : IsKept kind lines one = record { ordered = line.ordered; within = line.within; stands = stands; small = fits } in
        All-cons (IsKept kind lines) one [] is (All-nil (IsKept kind lines))

    one_read : (b : Bool) → map (kept_one kind lines) (if b then one ∷ [] else []) ≡ (if b then placed at root ∷ [] else [])
    one_read false = refl
    one_read true = ap (λ (r : BodyRoot). record r { at = at + root.at } ∷ []) here

-- a line more was kept before
pub keeps-behind : {E : Type 0} (old mid new : KeptRoots) (roots : List BodyRoot) (r : Result (Unit {0}) E) → mid.kind ≡ old.kind → kept_all mid ≡ kept_all old
    → OnOk r (Keeps mid new roots) → OnOk r (Keeps old new roots)
keeps-behind old mid new roots (Ok done) kind all keeps = record { kind = keeps.kind ∙ kind; all = keeps.all ∙ ap (λ l. l ++ roots) all }
keeps-behind old mid new roots (Err lack) kind all keeps = tt

-- ---- what is read of a kept root

-- a root of a line that is kept is read from the line
pub read-back : (kept : KeptRoots) (from i : ℕ) (one : KeptRoot) (root : BodyRoot) → i < length kept.roots.items → one ≡ get_or kept.roots.items i one
    → slice_get (roots_in kept.kind (kept_line kept.lines.items one)) one.place ≡ Some root
    → slice_get (all_counted_from from (kept_all kept)) i ≡ Some (record root { at = one.at - from })
read-back kept from i one root inside is read =
    let all = kept.roots.items in
    slice_get-map (counted_from from) (kept_all kept) i
    ∙ ap (option_map (counted_from from)) (
    slice_get-map (kept_one kept.kind kept.lines.items) all i
    ∙ ap (option_map (kept_one kept.kind kept.lines.items)) (slice_get_read all (length all) i one refl inside is)
    )
    ∙ ap (λ (r : BodyRoot). Some (record r { at = one.at - from })) (get_or_from_slice_get (roots_in kept.kind (kept_line kept.lines.items one)) one.place root no_root read)

-- so its offset in the file is one of 64 bits
pub kept-placed : (kind : RootKind) (lines : List ℕ) (from : ℕ) (ones : List KeptRoot) → from < 2 ^ 64 → All (IsKept kind lines) ones
    → All (IsPlaced from) (all_counted_from from (map (kept_one kind lines) ones))
kept-placed kind lines from [] small all = All-nil (IsPlaced from)
kept-placed kind lines from (one ∷ ones) small all =
    let is = All-head (IsKept kind lines) one ones all in
    All-cons (IsPlaced from) (counted_from from (kept_one kind lines one)) (all_counted_from from (map (kept_one kind lines) ones)) (omega (arith, small, is.small))
    (kept-placed kind lines from ones small (All-tail (IsKept kind lines) one ones all))
