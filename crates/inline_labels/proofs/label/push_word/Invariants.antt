use Rattle.std.proofs.Common.{◌≡◌, ◌++◌, string_bytes}
use Rattle.definition_inline.specs.LabelMatch.{fold_word}
use Rattle.std.specs.Str.Chunks.{utf8_chunks_rest}
use Rattle.inline_labels.proofs.label.push_word.Given as goal

abbrev pub invariant-loop-chunk : goal.invariant-loop-chunk
invariant-loop-chunk g l =
    string_bytes l.normal ++ fold_word (utf8_chunks_rest l.chunk-iterator) ≡ string_bytes l.fn.normal ++ fold_word l.word
