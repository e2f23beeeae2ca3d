use Rattle.etf_terms.specs.Text.{dotted, words_text}
use Rattle.etf_terms.proofs.Words.{word-first, word-shorter, word-none}
use Rattle.etf_terms.proofs.Written.{part-more, part-broken, part-whole}
use Rattle.etf_terms.proofs.printing.put_words.Goals as goal

pub returns-in_err-put_dotted : goal.returns-in_err-put_dotted
returns-in_err-put_dotted g c =
    let rest = c.loop-word.rest.now in
    let behind = c.in-Ok.behind.now in
    part-broken _ (words_text rest) (dotted c.in-Ok.word) (words_text behind) _ _
    c.loop-word.invariant.part (word-first rest c.in-Ok.word behind c.in-Ok.ensures) c.from_residual.ensures.0 c.in_err-put_dotted.ensures

pub loop-word-smaller : goal.loop-word-smaller
loop-word-smaller g c = word-shorter c.loop-word.rest.now c.in-Ok.word c.in-Ok.behind.now c.in-Ok.ensures

pub loop-word-preserved : goal.loop-word-preserved
loop-word-preserved g c =
    let rest = c.loop-word.rest.now in
    let behind = c.in-Ok.behind.now in
    record {
      part = part-more _ (words_text rest) (dotted c.in-Ok.word) (words_text behind) _
          c.loop-word.invariant.part c.in_ok-put_dotted.ensures (word-first rest c.in-Ok.word behind c.in-Ok.ensures);
    }

pub returns : goal.returns
returns g c =
    part-whole _ (words_text c.loop-word.rest.now) _ c.loop-word.invariant.part
    (word-none c.loop-word.rest.now c.in_default.field-0 c.in_default.ensures)
