-- The words at a text's front, as they are read.
use Rattle.std.proofs.Common.{◌≡◌, ℕ, suc, ◌+◌, ◌-◌, ◌<◌, ◌≤◌, ◌==◌, true, false, ◌&&◌, List, [], ◌∷◌, ◌++◌, length, take, drop, Some, None, refl, sym, ◌∙◌, ap, arith, if◌then◌else◌, inl, inr}
use Rattle.std.specs.Prelude.{nat_lt, nat_eq, ◌⊎◌}
use Rattle.std.specs.List.{list_all, prefix_len, starts_with}
use Rattle.std.specs.Char.{is_ascii_digit}
use Rattle.std.proofs.lemmas.Bool.{and_parts, and_from, ltb-true, eqb-true, eqb-false, lt-ltb, false≢true, ne_eqb, cond-true, cond-false}
use Rattle.std.proofs.lemmas.Bool.Decides.{Decides-eqb}
use Rattle.std.proofs.lemmas.List.{length-append, take-append-drop, append_assoc, drop_at}
use Rattle.std.proofs.lemmas.List.Sums.{prefix_len-le-length}
use Rattle.std.proofs.lemmas.List.Folds.{length-prefix_len}
use Rattle.std.proofs.lemmas.Slice.Eq.{starts_is}
use Rattle.std.proofs.Math.Seq.{take-append-add}
use Rattle.dump_io.specs.Numbers.{is_digits}
use Rattle.term_forms.specs.Words.{is_integer, is_number_byte, IsBracketed}
use Rattle.term_forms.specs.Reading.{◌>>=◌, digits_len, integer_len, bracketed_len, minus, less, greater}
use Rattle.term_forms.proofs.Steps.{bind_some, bind_from, chosen, guard_some, guard_from}
use Rattle.term_forms.proofs.Runs.{run_over, run_passes}

-- what begins as a word begins so, and what begins so has it in front
pub starts_parts : (text word : List ℕ) → starts_with nat_eq text word ≡ true → text ≡ word ++ drop (length word) text
starts_parts text word h = (starts_is Decides-eqb text word (starts_with nat_eq text word) refl).0 h

pub starts_from : (word rest : List ℕ) → starts_with nat_eq (word ++ rest) word ≡ true
starts_from word rest = (starts_is Decides-eqb (word ++ rest) word (starts_with nat_eq (word ++ rest) word) refl).1 rest refl

-- digits are read up to the last of them
pub digits_full : (text rest : List ℕ) → is_digits text ≡ true → digits_len (text ++ rest) ≡ Some (length text + prefix_len is_ascii_digit rest)
unfolding digits_len
digits_full text rest h =
    let parts = and_parts (nat_lt 0 (length text)) (list_all is_ascii_digit text) h in
    let some : 0 < length text = ltb-true 0 (length text) parts.0 in
    let over = run_over is_ascii_digit text rest parts.1 in
    ap (λ n. if n == 0 then None else Some n) over
    ∙ ap (λ b. if b then None else Some (length text + prefix_len is_ascii_digit rest)) (ne_eqb (length text + prefix_len is_ascii_digit rest) 0 (λ e. absurd (omega (arith, e, some))))

pub digits_sound : (text : List ℕ) (n : ℕ) → digits_len text ≡ Some n → (0 < n) × (n ≤ length text) × (is_digits (take n text) ≡ true)
unfolding digits_len
digits_sound text n h = of (chosen (prefix_len is_ascii_digit text == 0) None (Some (prefix_len is_ascii_digit text)) (Some n) h)
  where
    of : ((prefix_len is_ascii_digit text == 0) ≡ true) × (None ≡ Some n) ⊎ ((prefix_len is_ascii_digit text == 0) ≡ false) × (Some (prefix_len is_ascii_digit text) ≡ Some n)
        → (0 < n) × (n ≤ length text) × (is_digits (take n text) ≡ true)
    of (inl p) = absurd (let e : None ≡ Some n = p.1 in cc)
    of (inr p) =
        let run : ℕ = prefix_len is_ascii_digit text in
        let e : run ≡ n = cc in
        let some : 0 < run = omega (arith, eqb-false run 0 p.0) in
        let count : 0 < length (take run text) = omega (arith, some, length-prefix_len is_ascii_digit text) in
        let within : run ≤ length text = prefix_len-le-length is_ascii_digit text in
        let digits : is_digits (take run text) ≡ true = and_from (nat_lt 0 (length (take run text))) (list_all is_ascii_digit (take run text)) (lt-ltb 0 (length (take run text)) count) (run_passes is_ascii_digit text) in
        (omega (arith, e, some), omega (arith, e, within), ap (λ k. is_digits (take k text)) (sym e) ∙ digits)

-- an integer is read up to its last digit
pub integer_full : (text rest : List ℕ) → is_integer text ≡ true → integer_len (text ++ rest) ≡ Some (length text + prefix_len is_ascii_digit rest)
unfolding integer_len
integer_full [] rest h = absurd (false≢true h)
integer_full (c ∷ text) rest h = of (chosen (c == minus) (is_digits text) (is_digits (c ∷ text)) true h)
  where
    of : ((c == minus) ≡ true) × (is_digits text ≡ true) ⊎ ((c == minus) ≡ false) × (is_digits (c ∷ text) ≡ true)
        → (if c == minus then (digits_len (text ++ rest) >>= λ n. Some (n + 1)) else digits_len (c ∷ (text ++ rest))) ≡ Some (length (c ∷ text) + prefix_len is_ascii_digit rest)
    of (inl p) =
        let run : ℕ = prefix_len is_ascii_digit rest in
        let more : length text + run + 1 ≡ length (c ∷ text) + run = omega arith in
        cond-true (c == minus) (digits_len (text ++ rest) >>= λ n. Some (n + 1)) (digits_len (c ∷ (text ++ rest))) p.0
        ∙ bind_from (digits_len (text ++ rest)) (λ n. Some (n + 1)) (length text + run) (length (c ∷ text) + run) (digits_full text rest p.1) (ap Some more)
    of (inr p) =
        cond-false (c == minus) (digits_len (text ++ rest) >>= λ n. Some (n + 1)) (digits_len (c ∷ (text ++ rest))) p.0
        ∙ digits_full (c ∷ text) rest p.1

pub integer_sound : (text : List ℕ) (n : ℕ) → integer_len text ≡ Some n → (n ≤ length text) × (is_integer (take n text) ≡ true)
unfolding integer_len
integer_sound [] n h = absurd (let e : None ≡ Some n = h in cc)
integer_sound (c ∷ text) n h = of (chosen (c == minus) (digits_len text >>= λ n. Some (n + 1)) (digits_len (c ∷ text)) (Some n) h)
  where
    of : ((c == minus) ≡ true) × ((digits_len text >>= λ n. Some (n + 1)) ≡ Some n) ⊎ ((c == minus) ≡ false) × (digits_len (c ∷ text) ≡ Some n)
        → (n ≤ length (c ∷ text)) × (is_integer (take n (c ∷ text)) ≡ true)
    of (inl p) =
        let found = bind_some (digits_len text) (λ n. Some (n + 1)) n p.1 in
        let is = digits_sound text found.0 found.1 in
        let e : found.0 + 1 ≡ n = cc in
        let more : suc found.0 ≡ n = omega (arith, e) in (
          omega (arith, more, is.1),
          ap (λ k. is_integer (take k (c ∷ text))) (sym more)
              ∙ cond-true (c == minus) (is_digits (take found.0 text)) (is_digits (c ∷ take found.0 text)) p.0 ∙ is.2,
        )
    of (inr p) =
        let is = digits_sound (c ∷ text) n p.1 in
        let more : n ≡ suc (n - 1) = omega (arith, is.0) in (
          is.1,
          ap (λ k. is_integer (take k (c ∷ text))) more
              ∙ cond-false (c == minus) (is_digits (take (n - 1) text)) (is_digits (c ∷ take (n - 1) text)) p.0
              ∙ ap (λ k. is_digits (take k (c ∷ text))) (sym more) ∙ is.2,
        )

-- how a text in brackets is read, by where its dotted bytes end
bracketed_at : (c : ℕ) (text : List ℕ) (n : ℕ) → prefix_len is_number_byte text ≡ n → (c == less) ≡ true → 0 < n → starts_with nat_eq (drop n text) (greater ∷ []) ≡ true
    → bracketed_len (c ∷ text) ≡ Some (n + 2)
unfolding bracketed_len
bracketed_at c text n run first some last =
    let both = and_from ((c == less) && nat_lt 0 n) (starts_with nat_eq (drop n text) (greater ∷ [])) (and_from (c == less) (nat_lt 0 n) first (lt-ltb 0 n some)) last in
    ap (λ n. if c == less && nat_lt 0 n && starts_with nat_eq (drop n text) (greater ∷ []) then Some (n + 2) else None) run
    ∙ guard_from ((c == less) && nat_lt 0 n && starts_with nat_eq (drop n text) (greater ∷ [])) (Some (n + 2)) both

-- a bracketed number is read up to its `>`
pub bracketed_full : (text rest : List ℕ) → IsBracketed text → bracketed_len (text ++ rest) ≡ Some (length text)
bracketed_full text rest is =
    let inner = is.0 in
    let split : text ++ rest ≡ less ∷ (inner ++ greater ∷ rest) = ap (λ t. t ++ rest) is.3 ∙ ap (λ t. less ∷ t) (append_assoc inner (greater ∷ []) rest) in
    let size : length inner + 2 ≡ length text = omega (arith, ap length is.3, length-append inner (greater ∷ [])) in
    let over : prefix_len is_number_byte (inner ++ greater ∷ rest) ≡ length inner + 0 = run_over is_number_byte inner (greater ∷ rest) is.2 in
    let run : prefix_len is_number_byte (inner ++ greater ∷ rest) ≡ length inner = omega (arith, over) in
    let last : starts_with nat_eq (drop (length inner) (inner ++ greater ∷ rest)) (greater ∷ []) ≡ true = ap (λ t. starts_with nat_eq t (greater ∷ [])) (drop_at inner (greater ∷ rest) (length inner) refl) in
    ap bracketed_len split ∙ bracketed_at less (inner ++ greater ∷ rest) (length inner) run refl is.1 last ∙ ap Some size

bracketed_split : (c : ℕ) (text : List ℕ) (n : ℕ) (inner rest : List ℕ) → text ≡ inner ++ greater ∷ rest → c ≡ less → 0 < length inner → list_all is_number_byte inner ≡ true → length inner + 2 ≡ n
    → (n ≤ length (c ∷ text)) × IsBracketed (take n (c ∷ text))
bracketed_split c text n inner rest split first some dotted size =
    let count : length text ≡ length inner + suc (length rest) = ap length split ∙ length-append inner (greater ∷ rest) in
    let more : n ≡ suc (length inner + 1) = omega (arith, size) in (
      omega (arith, count, size),
      (
        inner,
        some,
        dotted,
        ap (λ k. take k (c ∷ text)) more ∙ ap (λ t. c ∷ take (length inner + 1) t) split
            ∙ ap (λ t. c ∷ t) (take-append-add inner (greater ∷ rest) 1) ∙ ap (λ c. c ∷ (inner ++ greater ∷ [])) first,
      ),
    )

pub bracketed_sound : (text : List ℕ) (n : ℕ) → bracketed_len text ≡ Some n → (n ≤ length text) × IsBracketed (take n text)
unfolding bracketed_len
bracketed_sound [] n h = absurd (let e : None ≡ Some n = h in cc)
bracketed_sound (c ∷ text) n h =
    let found = guard_some ((c == less) && nat_lt 0 (prefix_len is_number_byte text) && starts_with nat_eq (drop (prefix_len is_number_byte text) text) (greater ∷ [])) (prefix_len is_number_byte text + 2) n h in
    let outer = and_parts ((c == less) && nat_lt 0 (prefix_len is_number_byte text)) (starts_with nat_eq (drop (prefix_len is_number_byte text) text) (greater ∷ [])) found.0 in
    let both = and_parts (c == less) (nat_lt 0 (prefix_len is_number_byte text)) outer.0 in
    let split : text ≡ take (prefix_len is_number_byte text) text ++ (greater ∷ drop 1 (drop (prefix_len is_number_byte text) text)) =
    sym (take-append-drop (prefix_len is_number_byte text) text)
    ∙ ap (λ t. take (prefix_len is_number_byte text) text ++ t) (starts_parts (drop (prefix_len is_number_byte text) text) (greater ∷ []) outer.1) in
    let count : length (take (prefix_len is_number_byte text) text) ≡ prefix_len is_number_byte text = length-prefix_len is_number_byte text in
    let some : 0 < prefix_len is_number_byte text = ltb-true 0 (prefix_len is_number_byte text) both.1 in
    let size : prefix_len is_number_byte text + 2 ≡ n = found.1 in
    bracketed_split c text n (take (prefix_len is_number_byte text) text) (drop 1 (drop (prefix_len is_number_byte text) text)) split (eqb-true c less both.0)
    (omega (arith, count, some)) (run_passes is_number_byte text) (omega (arith, size, count))
