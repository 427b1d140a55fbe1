use denote.Shadow.{shadow}
use denote.Text.{Utf8}
use Rattle.std.proofs.Common.{◌≡◌, ◌++◌, [], string_bytes}
use Rattle.definition_inline.specs.LabelMatch.{words}
use Rattle.inline_labels.proofs.Joined.{joined}
use Rattle.inline_labels.proofs.label.normalize_label.Given as goal

abbrev pub invariant-loop-word : goal.invariant-loop-word
invariant-loop-word g l = record {
  so_far : string_bytes l.normal ++ joined l.separator (words l.word-iterator.label.now) ≡ joined [] (words l.label);
  text : shadow (Utf8 l.separator);
}
