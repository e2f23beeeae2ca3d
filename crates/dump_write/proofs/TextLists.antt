-- Texts of lines, with how many of them are headers and how many bytes their lines have at most.
use Rattle.std.proofs.Common.{◌≡◌, ℕ, zero, suc, ◌+◌, ◌*◌, ◌^◌, ◌<◌, ◌≤◌, Bool, true, false, cond, List, [], ◌∷◌, ◌++◌, length, replicate, refl, ◌∙◌, ap, arith, length-append, zero-add}
use Rattle.std.specs.Prelude.{◌==◌, not, nat_le, decimal, count_by}
use Rattle.std.specs.List.{list_all, flat_map, range_with_len}
use Rattle.std.proofs.lemmas.Bool.{and_from, and_parts, le-leb, leb-true}
use Rattle.std.proofs.lemmas.Fmt.{length-decimal-le}
use Rattle.std.proofs.lemmas.List.Concat.{flat_map-append}
use Rattle.std.proofs.lemmas.List.Folds.{list_all-append}
use Rattle.std.proofs.lemmas.List.Sums.{sum_by-cons, sum_by-append}
use Rattle.dump_io.specs.Lines.{lf, equals_sign}
use Rattle.dump_io.specs.Numbers.{hexadecimal}
use Rattle.dump_io.specs.Laws.Digits.{length-hexadecimal-le}
use Rattle.line_source.specs.Streams.{begins_with_equals}
use Rattle.dump_write.specs.Written.{line, lines_of}
use Rattle.dump_write.proofs.Numerals.{IsPlain, is_plain, decimal_is_plain, hexadecimal_is_plain}
use Rattle.dump_io.specs.Laws.Lists.{list_all-weaker}

-- a byte that is no control byte
abbrev pub is_printed : ℕ → Bool
is_printed c = nat_le 32 c

-- a text without control bytes, of so many bytes at most
pub record IsPart (text : List ℕ) (most : ℕ) : Type 0 where
  pub printed : list_all is_printed text ≡ true
  pub short : length text ≤ most

pub none : IsPart [] 0
none = record { printed = refl; short = omega arith }

pub literal : (text : List ℕ) → list_all is_printed text ≡ true → IsPart text (length text)
literal text printed = record { printed = printed; short = omega arith }

pub before : {p q : List ℕ} {a b : ℕ} → IsPart p a → IsPart q b → IsPart (p ++ q) (a + b)
before {p = p} {q = q} first second =
    record {
      printed = list_all-append is_printed p q ∙ and_from (list_all is_printed p) (list_all is_printed q) first.printed second.printed;
      short = omega (arith, first.short, second.short, length-append p q);
    }

pub within : {p : List ℕ} {a b : ℕ} → a ≤ b → IsPart p a → IsPart p b
within few part = record { printed = part.printed; short = omega (arith, few, part.short) }

plain_is_printed : (c : ℕ) → is_plain c ≡ true → is_printed c ≡ true
plain_is_printed c plain = let high = leb-true 48 c (and_parts (nat_le 48 c) (not (c == equals_sign)) plain).0 in le-leb 32 c (omega (arith, high))

plain_text_is_printed : (text : List ℕ) → IsPlain text → list_all is_printed text ≡ true
plain_text_is_printed text is = list_all-weaker is_plain is_printed plain_is_printed text is.plain

-- a number of at most so many digits
pub decimal_part : (k n : ℕ) → 0 < k → n < 10 ^ k → n < 2 ^ 64 → IsPart (decimal n) k
decimal_part k n some below small =
    record { printed = plain_text_is_printed (decimal n) (decimal_is_plain n small); short = length-decimal-le k n some below small }

pub hexadecimal_part : (k n : ℕ) → 0 < k → n < 16 ^ k → n < 2 ^ 64 → IsPart (hexadecimal n) k
hexadecimal_part k n some below small =
    record { printed = plain_text_is_printed (hexadecimal n) (hexadecimal_is_plain n small); short = length-hexadecimal-le k n some below }

-- texts without control bytes and of at most 4096 bytes each, of which so many begin with an equals sign, and whose lines
-- have so many bytes together at most
pub record AreTexts (texts : List (List ℕ)) (heads bytes : ℕ) : Type 0 where
  pub printed : list_all (list_all is_printed) texts ≡ true
  pub short : list_all (λ text. nat_le (length text) 4096) texts ≡ true
  pub heads_are : count_by begins_with_equals texts ≡ heads
  pub most : length (lines_of texts) ≤ bytes

pub no_texts : AreTexts [] 0 0
no_texts = record { printed = refl; short = refl; heads_are = refl; most = omega arith }

-- a text in front of others
text_then : {text : List ℕ} {a : ℕ} {texts : List (List ℕ)} {heads bytes : ℕ} (head : Bool) → IsPart text a → nat_le a 4096 ≡ true → begins_with_equals text ≡ head
    → AreTexts texts heads bytes → AreTexts (text ∷ texts) (cond head 1 0 + heads) (a + 1 + bytes)
text_then {text = text} {a = a} {texts = texts} head part few begins rest =
    record {
      printed = and_from (list_all is_printed text) (list_all (list_all is_printed) texts) part.printed rest.printed;
      short = and_from (nat_le (length text) 4096) (list_all (λ text. nat_le (length text) 4096) texts)
          (le-leb (length text) 4096 (omega (arith, part.short, leb-true a 4096 few))) rest.short;
      heads_are = sum_by-cons (λ text. cond (begins_with_equals text) 1 0) text texts ∙ ap (λ b. cond b 1 0 + count_by begins_with_equals texts) begins
          ∙ ap (λ n. cond head 1 0 + n) rest.heads_are;
      most = omega (arith, part.short, rest.most, length-append (line text) (lines_of texts), length-append text (lf ∷ []));
    }

-- a header
pub head : {text : List ℕ} {a : ℕ} {texts : List (List ℕ)} {heads bytes : ℕ} → IsPart text a → nat_le a 4096 ≡ true → begins_with_equals text ≡ true
    → AreTexts texts heads bytes → AreTexts (text ∷ texts) (1 + heads) (a + 1 + bytes)
head part few begins rest = text_then true part few begins rest

-- another line
pub body : {text : List ℕ} {a : ℕ} {texts : List (List ℕ)} {heads bytes : ℕ} → IsPart text a → nat_le a 4096 ≡ true → begins_with_equals text ≡ false
    → AreTexts texts heads bytes → AreTexts (text ∷ texts) heads (a + 1 + bytes)
body {text = text} {a = a} {texts = texts} {heads = heads} {bytes = bytes} part few begins rest =
    let all = text_then false part few begins rest in
    record { printed = all.printed; short = all.short; heads_are = all.heads_are ∙ zero-add heads; most = all.most }

-- texts behind texts
pub texts_then : {xs ys : List (List ℕ)} {a b c d : ℕ} → AreTexts xs a b → AreTexts ys c d → AreTexts (xs ++ ys) (a + c) (b + d)
texts_then {xs = xs} {ys = ys} {a = a} {c = c} first second =
    let short = λ (text : List ℕ). nat_le (length text) 4096 in
    let sum = sum_by-append (λ text. cond (begins_with_equals text) 1 0) xs ys in
    record {
      printed = list_all-append (list_all is_printed) xs ys ∙ and_from (list_all (list_all is_printed) xs) (list_all (list_all is_printed) ys) first.printed second.printed;
      short = list_all-append short xs ys ∙ and_from (list_all short xs) (list_all short ys) first.short second.short;
      heads_are = sum ∙ ap (λ n. n + count_by begins_with_equals ys) first.heads_are ∙ ap (λ n. a + n) second.heads_are;
      most = omega (arith, first.most, second.most, ap length (flat_map-append line xs ys), length-append (lines_of xs) (lines_of ys));
    }

pub texts_with_heads : {texts : List (List ℕ)} {a b bytes : ℕ} → a ≡ b → AreTexts texts a bytes → AreTexts texts b bytes
texts_with_heads same are = record { printed = are.printed; short = are.short; heads_are = are.heads_are ∙ same; most = are.most }

pub texts_within : {texts : List (List ℕ)} {heads a b : ℕ} → a ≤ b → AreTexts texts heads a → AreTexts texts heads b
texts_within few are = record { printed = are.printed; short = are.short; heads_are = are.heads_are; most = omega (arith, few, are.most) }

-- the same text so many times
pub copies : {text : List ℕ} {a : ℕ} (n : ℕ) → IsPart text a → nat_le a 4096 ≡ true → begins_with_equals text ≡ false → AreTexts (replicate n text) 0 (n * (a + 1))
copies zero part few begins = texts_within (omega arith) no_texts
copies {a = a} (suc n) part few begins = let e : a + 1 + n * (a + 1) ≡ suc n * (a + 1) = omega arith in texts_within (omega (arith, e)) (body part few begins (copies n part few begins))

-- the texts of the numbers from `first` on, each of which has so many headers and bytes
pub texts_for : (texts : ℕ → List (List ℕ)) (heads bytes first n : ℕ) → ((i : ℕ) → first ≤ i → i < first + n → AreTexts (texts i) heads bytes)
    → AreTexts (flat_map texts (range_with_len first n)) (n * heads) (n * bytes)
texts_for texts heads bytes first zero each = texts_with_heads (omega arith) (texts_within (omega arith) no_texts)
texts_for texts heads bytes first (suc n) each =
    texts_with_heads (let e : heads + n * heads ≡ suc n * heads = omega arith in e)
    (texts_within (let e : bytes + n * bytes ≡ suc n * bytes = omega arith in omega (arith, e))
    (texts_then (each first (omega arith) (omega arith)) (texts_for texts heads bytes (first + 1) n (λ i low high. each i (omega (arith, low)) (omega (arith, high))))))
