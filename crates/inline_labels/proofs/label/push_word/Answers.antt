use Rattle.std.proofs.Common.{◌++◌, string_bytes, sym, subst, ap, ap₂, ◌∙◌, append_assoc}
use Rattle.std.proofs.lemmas.List.{append-nil}
use Rattle.std.specs.Str.{IsUtf8}
use Rattle.std.specs.Str.Chunks.{utf8_chunks_rest, utf8_chunk_valid, utf8_chunk_invalid}
use Rattle.definition_inline.specs.LabelMatch.{case_fold, fold_word}
use Rattle.inline_labels.specs.Chunks.{replacement_of}
use Rattle.inline_labels.proofs.Chunks.{folded_chunk, folded_end}
use Rattle.inline_labels.proofs.label.push_word.Goals as goal

pub loop-chunk-preserved : goal.loop-chunk-preserved
loop-chunk-preserved g c =
    let step = c.in-Some.ensures.steps in
    let so_far = string_bytes c.loop-chunk.normal in
    let text = utf8_chunk_valid c.in-Some.chunk in
    let no_text = utf8_chunk_invalid c.in-Some.chunk in
    let left = utf8_chunks_rest c.next.new.self in
    let chunk = folded_chunk (utf8_chunks_rest c.loop-chunk.chunk-iterator) text no_text left
    (subst IsUtf8 c.valid.ensures c.valid.utf8) step.0 step.3.0 step.3.1 step.2 in
    ap (λ t. t ++ fold_word left) (c.in_ok-push_chunk.ensures ∙ ap₂ (λ t n. so_far ++ (case_fold t ++ replacement_of n)) c.valid.ensures c.invalid.ensures)
    ∙ append_assoc so_far (case_fold text ++ replacement_of no_text) (fold_word left)
    ∙ ap (λ t. so_far ++ t) (sym chunk)
    ∙ c.loop-chunk.invariant

pub returns : goal.returns
returns g c =
    sym (append-nil (string_bytes c.loop-chunk.normal))
    ∙ ap (λ t. string_bytes c.loop-chunk.normal ++ t) (sym (folded_end (utf8_chunks_rest c.loop-chunk.chunk-iterator) c.in-None.ensures.steps.0))
    ∙ c.loop-chunk.invariant
