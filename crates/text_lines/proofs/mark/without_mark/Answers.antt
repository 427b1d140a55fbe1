use Rattle.std.proofs.Common.{sym, ap, ◌∙◌}
use Rattle.std.proofs.lemmas.Bool.{cond-false}
use Rattle.definition_text.specs.Lines.{kind_before_text, without_mark}
use Rattle.text_lines.proofs.MarkBytes.{no_mark}
use lib.Utf8.{encode}
use Rattle.text_lines.proofs.mark.without_mark.Goals as goal

pub returns-in-Some-clause-kind : goal.returns-in-Some-clause-kind
unfolding lib.Utf8.encode
returns-in-Some-clause-kind c = sym (ap kind_before_text c.in-Some.ensures.cases.1.split)

pub returns-in-Some-clause-text : goal.returns-in-Some-clause-text
unfolding lib.Utf8.encode
returns-in-Some-clause-text c =
    let h = c.in-Some.ensures.cases in
    h.2 ∙ sym (ap without_mark h.1.split)

pub returns-in-None-clause-kind : goal.returns-in-None-clause-kind
unfolding lib.Utf8.encode
returns-in-None-clause-kind c = sym (cond-false _ _ _ (no_mark c.args.value.now c.in-None.ensures.cases))

pub returns-in-None-clause-text : goal.returns-in-None-clause-text
unfolding lib.Utf8.encode
returns-in-None-clause-text c = sym (cond-false _ _ _ (no_mark c.args.value.now c.in-None.ensures.cases))
