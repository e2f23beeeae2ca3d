-- What is heard of a heap.
use Rattle.std.proofs.Common.{◌≡◌, ℕ, ◌+◌, ◌≤◌, List, [], ◌∷◌, ◌++◌, length, take, drop, map, Option, None, Some, refl, sym, ◌∙◌, ap, ap₂, append_assoc, append-nil, take-take, arith}
use Rattle.std.specs.Prelude.{Result, Ok, Err, IfErr, min, option_map}
use Rattle.std.specs.List.{cons_option}
use Rattle.std.specs.declared.alloc.AllocError.{AllocError}
use Rattle.std.proofs.lemmas.List.{drop-drop, drop_all, length-take-le, take_min}
use Rattle.std.proofs.lemmas.List.Elements.{filter_map-append}
use Rattle.body_lines.specs.Hearing.{Hears, StopsAmong}
use Rattle.body_lines.specs.Lines.{CutLine, cut, cut_lines, one_line}
use Rattle.dump_io.specs.Lines.{lines_from, raw_lines, text_of}
use Rattle.link_graph.specs.Requests.{Request}
use Rattle.wait_requests.specs.Inner.Asking.{before_held, before_words}
use Rattle.wait_requests.specs.Inner.Hearing.{before_among, before_lines, before_with, line_words, text_words, words_among, HearsFirst, KeepsAsked, LooksUp, TakesLines}
use Rattle.wait_requests.specs.declared.heap_sink.HeapSink.{HeapSink}
use Rattle.wait_requests.proofs.PlaceFacts.{held-more}

-- ---- the slots and the requests stay

pub keeps-same : (sink : HeapSink) → KeepsAsked sink sink
keeps-same sink = record { enc = refl; slots = refl; asked = refl }

pub keeps-then : (old mid new : HeapSink) → KeepsAsked old mid → KeepsAsked mid new → KeepsAsked old new
keeps-then old mid new had more = record { enc = more.enc ∙ had.enc; slots = more.slots ∙ had.slots; asked = more.asked ∙ had.asked }

-- ---- one text

pub looks-none : (sink new : HeapSink) (words : Option (List ℕ)) → KeepsAsked sink new → new.first ≡ sink.first → words ≡ None → LooksUp sink new words
looks-none sink new words keeps first none = record { keeps = keeps; first = first ∙ sym (ap (before_with sink.asked.now sink.first) none) }

found-words : (requests : List Request) (place : ℕ) (words : Option (List ℕ)) → Some place ≡ option_map (before_words requests) words → (first : ℕ) → min first place ≡ before_with requests first words
found-words requests place None is first = cc
found-words requests place (Some words) is first = let e : place ≡ before_words requests words = cc in ap (min first) e

pub looks-found : (sink new : HeapSink) (words found : Option (List ℕ)) (place : ℕ) → KeepsAsked sink new → new.first ≡ min sink.first place → Some place ≡ option_map (before_words sink.asked.now) found → words ≡ found
    → LooksUp sink new words
looks-found sink new words found place keeps first at is = record {
  keeps = keeps;
  first = first ∙ found-words sink.asked.now place found at sink.first ∙ ap (before_with sink.asked.now sink.first) (sym is);
}

pub none-found : (requests : List Request) (found : Option (List ℕ)) → None ≡ option_map (before_words requests) found → found ≡ None
none-found requests None is = refl
none-found requests (Some words) is = cc

-- ---- several lines

with-one : (requests : List Request) (first : ℕ) (words : Option (List ℕ)) (helds : List (List ℕ)) → before_among requests (before_with requests first words) helds ≡ before_among requests first (cons_option words helds)
with-one requests first None helds = refl
with-one requests first (Some words) helds = refl

among-append : (requests : List Request) (first : ℕ) (xs ys : List (List ℕ)) → before_among requests (before_among requests first xs) ys ≡ before_among requests first (xs ++ ys)
among-append requests first [] ys = refl
among-append requests first (words ∷ xs) ys = among-append requests (before_with requests first (Some words)) xs ys

-- what stands before the first of some stands before the first of all once the others were looked up
pub held-all : (requests : List Request) (helds more : List (List ℕ)) (first : ℕ) → first ≡ before_held requests helds → before_among requests first more ≡ before_held requests (helds ++ more)
held-all requests helds [] first is = is ∙ ap (before_held requests) (sym (append-nil helds))
held-all requests helds (words ∷ more) first is =
    held-all requests (helds ++ words ∷ []) more (min first (before_words requests words)) (ap (λ n. min n (before_words requests words)) is ∙ sym (held-more requests helds words))
    ∙ ap (before_held requests) (append_assoc helds (words ∷ []) more)

pub hears-lines : (old new : HeapSink) (lines : List CutLine) → TakesLines old new lines → Hears TakesLines old new lines
hears-lines old new lines takes = record {
  later = λ first earlier had.
      let requests = first.asked.now in
      let already = words_among first.enc first.slots.now earlier in
      record {
        keeps = keeps-then first old new had.keeps takes.keeps;
        first =
            takes.first
            ∙ ap₂ (λ rs n. before_among rs n (words_among old.enc old.slots.now lines)) had.keeps.asked had.first
            ∙ ap₂ (λ e s. before_among requests (before_among requests first.first already) (words_among e s lines)) had.keeps.enc had.keeps.slots
            ∙ among-append requests first.first already (words_among first.enc first.slots.now lines)
            ∙ ap (before_among requests first.first) (sym (filter_map-append (line_words first.enc first.slots.now) earlier lines));
      };
}

-- a line by itself
pub hears-one : (old new : HeapSink) (at size : ℕ) (front : List ℕ) → LooksUp old new (text_words old.enc old.slots.now (text_of front)) → Hears TakesLines old new (one_line at front size)
hears-one old new at size front looks =
    hears-lines old new (one_line at front size)
    (record { keeps = looks.keeps; first = looks.first ∙ with-one old.asked.now old.first (text_words old.enc old.slots.now (text_of front)) [] })

-- it stopped for want of memory, whatever it had heard
pub stops-any : {V : Type 0} (old new : HeapSink) (lines : List CutLine) (result : Result V AllocError) → IfErr result (StopsAmong TakesLines (λ _ _ _ _. Unit {0}) old new lines)
stops-any old new lines (Ok x) = tt
stops-any old new lines (Err stop) = record { heard = []; rest = lines; parts = refl; stopped = record { later = λ first earlier heard. tt } }

-- ---- the lines of a run

-- the first line, of which these bytes were looked at
pub first-heard : (old new : HeapSink) (run : List ℕ) (n m : ℕ) → n ≤ length run → raw_lines run ≡ take n run ∷ raw_lines (drop n run) → m ≡ min n 4134
    → LooksUp old new (text_words old.enc old.slots.now (text_of (take m run))) → HearsFirst old new run n
first-heard old new run n m within first few looks = record {
  keeps = looks.keeps;
  rest = λ at.
      let line = take n run in
      let size : length line ≡ n = length-take-le n run within in
      let count : m ≡ min 4134 (length line) = omega (arith, few, size) in
      let front : take m run ≡ take 4134 line = sym (take-take m n run (omega (arith, few))) ∙ ap (λ k. take k line) count ∙ take_min 4134 line in
      let requests = old.asked.now in
      let words = text_words old.enc old.slots.now (text_of (take 4134 line)) in
      let heard : new.first ≡ before_with requests old.first words = looks.first ∙ ap (λ f. before_with requests old.first (text_words old.enc old.slots.now (text_of f))) front in
      ap₂ (λ rs k. before_among rs k (words_among new.enc new.slots.now (cut_lines 4134 (at + n) (drop n run)))) looks.keeps.asked heard
      ∙ ap₂ (λ e s. before_among requests (before_with requests old.first words) (words_among e s (cut_lines 4134 (at + n) (drop n run)))) looks.keeps.enc looks.keeps.slots
      ∙ with-one requests old.first words (words_among old.enc old.slots.now (cut_lines 4134 (at + n) (drop n run)))
      ∙ ap (λ k. before_among requests old.first (cons_option words (words_among old.enc old.slots.now (cut_lines 4134 (at + k) (drop n run))))) (sym size)
      ∙ ap (λ l. before_among requests old.first (words_among old.enc old.slots.now (map (cut 4134) (lines_from at l)))) (sym first);
}

-- one line more
pub rest-more : (old mid new : HeapSink) (at : ℕ) (run hay : List ℕ) (done n : ℕ) → hay ≡ drop done run → before_lines mid (at + done) (drop done run) ≡ before_lines old at run → HearsFirst mid new hay n
    → before_lines new (at + (done + n)) (drop (done + n) run) ≡ before_lines old at run
rest-more old mid new at run hay done n same so_far one =
    let place : at + (done + n) ≡ at + done + n = omega arith in
    ap₂ (λ k l. before_lines new k l) place (sym (ap (drop n) same ∙ drop-drop n done run)) ∙ one.rest (at + done) ∙ ap (before_lines mid (at + done)) same ∙ so_far

-- all of them
pub all-heard : (old new : HeapSink) (at : ℕ) (run : List ℕ) (done : ℕ) → length run ≤ done → KeepsAsked old new → before_lines new (at + done) (drop done run) ≡ before_lines old at run
    → Hears TakesLines old new (cut_lines 4134 at run)
all-heard old new at run done past keeps so_far =
    hears-lines old new (cut_lines 4134 at run) (record { keeps = keeps; first = ap (before_lines new (at + done)) (sym (drop_all done run past)) ∙ so_far })
