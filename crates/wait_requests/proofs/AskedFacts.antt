-- The places of requests by what stands behind the first numbers of their references.
use Rattle.std.proofs.Common.{◌≡◌, ℕ, ◌+◌, Bool, true, false, cond, not, List, [], ◌∷◌, ◌++◌, length, None, Some, refl, sym, ◌∙◌, ap, ap₂, arith}
use Rattle.std.specs.Prelude.{slice_get, take, position, bytes_eq}
use Rattle.std.specs.BTreeMap.{BTreeMap}
use Rattle.std.specs.List.{filter_map, position_or_len}
use Rattle.std.specs.Map.{update}
use Rattle.std.specs.Option.{option_to_list, option_map_or, option_or}
use denote.Ref.{Bor}
use Rattle.std.proofs.lemmas.Grind.{common_steps}
use Rattle.std.proofs.lemmas.List.Folds.{position_or_len_push}
use Rattle.std.proofs.lemmas.List.Sums.{prefix_len-le-length}
use Rattle.dump_io.specs.Laws.Options.{or-none}
use Rattle.dump_io.specs.Laws.Texts.{bytes_eq-same, bytes_eq-swap}
use Rattle.std.proofs.lemmas.List.Elements.{filter_map-append}
use Rattle.dump_io.specs.Laws.Lists.{filter_map-one, take-at}
use Rattle.link_graph.specs.Entries.{LinkEntry}
use Rattle.link_graph.specs.Requests.{Request, request_in}
use Rattle.wait_requests.specs.References.{behind_first, has_tail}
use Rattle.wait_requests.specs.Inner.Asking.{is_tail, place_in, IsNoted, IsRequestTree}

abbrev Tree : Type 0
Tree = BTreeMap (Bor (List ℕ)) ℕ

-- ---- noting a place

pub noted-none : (tree : Tree) (reference : List ℕ) (place : ℕ) → behind_first reference ≡ None → IsNoted tree tree reference place
noted-none tree reference place none = record {
  each = λ tail. sym (ap (λ o. option_or (place_in tree tail) (cond (option_map_or (bytes_eq tail) o false) (Some place) None)) none ∙ or-none (place_in tree tail));
}

module _ (reference behind : List ℕ) (place : ℕ) (is : behind_first reference ≡ Some behind) where
  has : (tail : List ℕ) (b : Bool) → bytes_eq tail behind ≡ b → has_tail tail reference ≡ b
  has tail b at = ap (λ o. option_map_or (bytes_eq tail) o false) is ∙ at

  pub noted-before : (tree : Tree) (n : ℕ) → place_in tree behind ≡ Some n → IsNoted tree tree reference place
  noted-before tree n before = record { each = λ tail. by tail (bytes_eq tail behind) refl }
    where
      by : (tail : List ℕ) (b : Bool) → bytes_eq tail behind ≡ b → place_in tree tail ≡ option_or (place_in tree tail) (cond (has_tail tail reference) (Some place) None)
      by tail true at =
          let here : place_in tree tail ≡ Some n = ap (place_in tree) (bytes_eq-same tail behind at) ∙ before in
          here ∙ sym (ap (λ o. option_or o (cond (has_tail tail reference) (Some place) None)) here)
      by tail false at = sym (ap (λ b. option_or (place_in tree tail) (cond b (Some place) None)) (has tail false at) ∙ or-none (place_in tree tail))

  pub noted-new : (old new : Tree) → place_in old behind ≡ None → ((other : List ℕ) → place_in new other ≡ update bytes_eq (place_in old) behind (Some place) other) → IsNoted old new reference place
  noted-new old new none grown = record { each = λ tail. grown tail ∙ by tail (bytes_eq behind tail) refl }
    where
      by : (tail : List ℕ) (b : Bool) → bytes_eq behind tail ≡ b → cond b (Some place) (place_in old tail) ≡ option_or (place_in old tail) (cond (has_tail tail reference) (Some place) None)
      by tail true at =
          let here : place_in old tail ≡ None = ap (place_in old) (sym (bytes_eq-same behind tail at)) ∙ none in
          sym (ap₂ (λ o b. option_or o (cond b (Some place) None)) here (has tail true (bytes_eq-swap tail behind ∙ at)))
      by tail false at =
          sym (ap (λ b. option_or (place_in old tail) (cond b (Some place) None)) (has tail false (bytes_eq-swap tail behind ∙ at)) ∙ or-none (place_in old tail))

-- ---- one more request

position-push : {X : Type 0} (p : X → Bool) (xs : List X) (x : X) → position p (xs ++ x ∷ []) ≡ option_or (position p xs) (cond (p x) (Some (length xs)) None)
position-push p xs x = grind (arith, common_steps, position_or_len_push, prefix_len-le-length (λ y. not (p y)) xs)

pub tree-more : (old new : Tree) (requests more : List Request) (request : Request) → IsRequestTree old requests → IsNoted old new request.reference (length requests) → more ≡ requests ++ request ∷ [] → IsRequestTree new more
tree-more old new requests more request is noted are = record {
  each = λ tail.
      noted.each tail ∙ ap (λ o. option_or o (cond (is_tail tail request) (Some (length requests)) None)) (is.each tail)
      ∙ sym (position-push (is_tail tail) requests request) ∙ ap (position (is_tail tail)) (sym are);
}

-- ---- looking up

pub found-place : (tree : Tree) (requests : List Request) (tail : List ℕ) (n : ℕ) → IsRequestTree tree requests → place_in tree tail ≡ Some n → n ≡ position_or_len (is_tail tail) requests
found-place tree requests tail n is at = place (position_or_len (is_tail tail) requests) (sym at ∙ is.each tail)
  where
    place : (m : ℕ) → Some n ≡ position (is_tail tail) requests → n ≡ position_or_len (is_tail tail) requests
    place m e = grind (arith, common_steps)

pub no-place : (tree : Tree) (requests : List Request) (tail : List ℕ) → IsRequestTree tree requests → place_in tree tail ≡ None → length requests ≡ position_or_len (is_tail tail) requests
no-place tree requests tail is at = place (sym at ∙ is.each tail)
  where
    place : None ≡ position (is_tail tail) requests → length requests ≡ position_or_len (is_tail tail) requests
    place e = grind (arith, common_steps, prefix_len-le-length (λ y. not (is_tail tail y)) requests)

-- ---- the requests among entries

pub requests-more : (entries : List LinkEntry) (n : ℕ) (entry : LinkEntry) → slice_get entries n ≡ Some entry
    → filter_map request_in (take (n + 1) entries) ≡ filter_map request_in (take n entries) ++ option_to_list (request_in entry)
requests-more entries n entry is =
    ap (filter_map request_in) (take-at entries n entry is) ∙ filter_map-append request_in (take n entries) (entry ∷ [])
    ∙ ap (λ l. filter_map request_in (take n entries) ++ l) (filter_map-one request_in entry)
