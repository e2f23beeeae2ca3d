-- A mailbox has no more messages than its body has bytes.
use Rattle.std.proofs.Common.{◌≡◌, ℕ, ◌+◌, ◌-◌, ◌<◌, ◌≤◌, ◌^◌, ◌&&◌, Bool, true, false, List, [], ◌∷◌, length, drop, Option, None, Some, cond, if◌then◌else◌, refl, arith}
use Rattle.std.specs.Prelude.{IfSome, codes, count_by, flat_map, nat_eq, slice_index_or, unwrap_or}
use Rattle.std.specs.List.{after_last, before_last, between, starts_with}
use Rattle.std.specs.Option.{option_and_then, option_map, option_or}
use Rattle.std.proofs.lemmas.List.{length-drop, length-map, length-take}
use Rattle.std.proofs.lemmas.List.Elements.{All-map}
use Rattle.std.proofs.lemmas.List.Sums.{count_by-le-length, length-filter, sum_by-append}
use Rattle.std.proofs.lemmas.Option.{IfSome_then}
use Rattle.dump_io.specs.Colons.{has_colon, is_colon}
use Rattle.dump_io.specs.Lines.{headers, lines_from, raw_lines}
use Rattle.dump_io.specs.Laws.Lines.{length-lines_from, length-raw_lines}
use Rattle.field_lines.specs.Lines.{TextLine, text_line, text_lines}
use Rattle.dump_sections.specs.Index.{dump_state}
use Rattle.dump_sections.specs.Sections.{Section, sections}
use Rattle.dump_sections.specs.declared.index.State.{State}
use Rattle.term_forms.specs.Elements.{Element}
use Rattle.term_forms.specs.Reading.{front, whole_of}
use Rattle.root_views.specs.Roots.{BodyRoot, Content, Dist, Term, Unread, behind_colon, dist_roots, has_text, is_message, mail_line, message, message_count, pair_roots, root_lines, token}
use Rattle.dump_audit.specs.Mailboxes.{mail_in, mailbox_places, mails}
use Rattle.dump_sections.specs.Bodies.{at_place}
use Rattle.dump_audit.specs.Findings.{is_cut}
use Rattle.json_report.specs.Laws.{AreCounts, ReadsBack}
use Rattle.dump_laws.specs.Laws.{AuditsReadBack}

-- ---- lines

roots-few : (body : List ℕ) → length (root_lines body) ≤ length body
roots-few body =
    omega (
      arith,
      length-filter has_text (text_lines body),
      count_by-le-length has_text (text_lines body),
      length-map (lines_from 0 (raw_lines body)) text_line,
      length-lines_from 0 (raw_lines body),
      length-raw_lines body,
    )

-- ---- messages

abbrev AtMostOne : List BodyRoot → Type 0
AtMostOne roots = count_by is_message roots ≤ 1

one-message : (at after : ℕ) (content : Content) (e : Element) → AtMostOne (message at content ∷ token after e ∷ [])
one-message at after content e = let is : count_by is_message (message at content ∷ token after e ∷ []) ≡ 1 = refl in omega (arith, is)

with-token : (at after : ℕ) (content : Content) (e : Option Element) → IfSome (option_map (λ e. message at content ∷ token after e ∷ []) e) AtMostOne
with-token at after content None = tt
with-token at after content (Some e) = one-message at after content e

if-some : (b : Bool) (roots : Option (List BodyRoot)) → IfSome roots AtMostOne → IfSome (if b then roots else None) AtMostOne
if-some true roots one = one
if-some false roots one = tt

pair-one : (at : ℕ) (text : List ℕ) (found : Option (Element × ℕ))
    → IfSome (option_and_then (λ found. option_map (λ e. message at (Term found.0) ∷ token (at + found.1 + 1) e ∷ [])
    (option_and_then whole_of (behind_colon (drop found.1 text)))) found) AtMostOne
pair-one at text None = tt
pair-one at text (Some found) = with-token at (at + found.1 + 1) (Term found.0) (option_and_then whole_of (behind_colon (drop found.1 text)))

or-unread : (at : ℕ) (first second : Option (List BodyRoot)) → IfSome first AtMostOne → IfSome second AtMostOne
    → AtMostOne (unwrap_or (option_or first second) (message at Unread ∷ []))
or-unread at None None one other = let is : count_by is_message (message at Unread ∷ []) ≡ 1 = refl in omega (arith, is)
or-unread at None (Some roots) one other = other
or-unread at (Some roots) second one other = one

line-one : (line : TextLine) → AtMostOne (mail_line line)
line-one line =
    let dist = before_last is_colon line.text in
    or-unread line.at (dist_roots line) (pair_roots line)
    (if-some (starts_with nat_eq line.text (codes "D") && has_colon line.text) _
    (with-token line.at (line.at + length dist + 1) (Dist dist) (whole_of (after_last is_colon line.text))))
    (pair-one line.at line.text (front line.text))

messages-few : (lines : List TextLine) → count_by is_message (flat_map mail_line lines) ≤ length lines
messages-few [] = omega arith
messages-few (line ∷ lines) =
    omega (arith, sum_by-append (λ root. cond (is_message root) 1 0) (mail_line line) (flat_map mail_line lines), line-one line, messages-few lines)

messages-short : (body : List ℕ) → message_count body ≤ length body
messages-short body = omega (arith, messages-few (root_lines body), roots-few body)

length-between : (from upto : ℕ) (bytes : List ℕ) → length (between from upto bytes) ≤ length bytes
length-between from upto bytes = omega (arith, length-take (upto - from) (drop from bytes), length-drop from bytes)

-- ---- a dump

mail-short : (bytes : List ℕ) (state : State) (ss : List Section) (place : Option ℕ) → IfSome (mail_in bytes state ss place) (λ n. n ≤ length bytes)
mail-short bytes state ss None = tt
mail-short bytes state ss (Some place) = of (is_cut state place)
  where
    of : (b : Bool) → IfSome (if b then None else Some (message_count (between (at_place ss place).body (at_place ss place).end bytes))) (λ n. n ≤ length bytes)
    of true = tt
    of false =
        let body = between (at_place ss place).body (at_place ss place).end bytes in
        omega (arith, messages-short body, length-between (at_place ss place).body (at_place ss place).end bytes)

mail-small : (bytes : List ℕ) (state : State) (ss : List Section) (place : Option ℕ) → length bytes < 2 ^ 64 → IfSome (mail_in bytes state ss place) (λ n. n < 2 ^ 64)
mail-small bytes state ss place size = IfSome_then (mail_in bytes state ss place) (mail-short bytes state ss place) (λ n short. omega (arith, short, size))

counts : (bytes : List ℕ) (full : Bool) → length bytes < 2 ^ 64 → AreCounts (if full then Some (mails bytes) else None)
counts bytes true size =
    All-map (λ count. IfSome count (λ n. n < 2 ^ 64)) (mail_in bytes (dump_state (headers bytes)) (sections bytes)) (mailbox_places (sections bytes))
    (λ k d l. mail-small bytes (dump_state (headers bytes)) (sections bytes) (slice_index_or (mailbox_places (sections bytes)) k d) size)
counts bytes false size = tt

pub audits-read-back : ReadsBack → AuditsReadBack
audits-read-back reads bytes limit full file = reads bytes limit (if full then Some (mails bytes) else None) file (counts bytes full file.size)
