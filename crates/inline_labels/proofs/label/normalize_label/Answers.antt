use Rattle.std.proofs.Common.{◌++◌, string_bytes, sym, ap, ◌∙◌}
use Rattle.std.proofs.lemmas.List.{append-nil}
use Rattle.definition_inline.specs.LabelMatch.{words}
use Rattle.inline_labels.proofs.LabelWords.{space_is_text}
use Rattle.inline_labels.proofs.Joined.{joined, joined-normal, joined-step}
use Rattle.inline_labels.proofs.label.normalize_label.Goals as goal

pub loop-word-preserved : goal.loop-word-preserved
loop-word-preserved g c = record {
  so_far =
      joined-step (string_bytes c.loop-word.normal) _ _ c.loop-word.separator.now c.in-Some.word.now
      (words c.next.new.self.label.now) c.in_ok-push_str.ensures.bytes c.in_ok-push_word.ensures
      ∙ ap (λ left. string_bytes c.loop-word.normal ++ joined c.loop-word.separator.now left) (sym c.in-Some.ensures.steps)
      ∙ c.loop-word.invariant.so_far;
  text = space_is_text;
}

pub returns : goal.returns
returns g c =
    sym (append-nil (string_bytes c.loop-word.normal))
    ∙ ap (λ left. string_bytes c.loop-word.normal ++ joined c.loop-word.separator.now left) (sym c.in-None.ensures.steps.0)
    ∙ c.loop-word.invariant.so_far
    ∙ joined-normal c.args.label.now
