use Rattle.std.proofs.Common.{List, ℕ, sym, ap, ◌∙◌}
use Rattle.block_definitions.proofs.Prelude.{after_spaces, begins_label, content_codes}
use Rattle.block_definitions.proofs.Starts.{may_begin_not, first_begins}
use Rattle.block_definitions.proofs.front.may_begin.Goals as goal

pub returns-in-Some-clause-none : goal.returns-in-Some-clause-none
returns-in-Some-clause-none c = λ none clean.
    may_begin_not c.args.lines.now c.in-Some.line.now (sym c.in-Some.ensures.value) clean
    (ap (λ (bytes : List ℕ). begins_label (after_spaces (content_codes bytes))) (sym c.as_bytes.ensures.value) ∙ sym c.begins_label.ensures ∙ none)

pub returns-in-Some-clause-bracket : goal.returns-in-Some-clause-bracket
returns-in-Some-clause-bracket c =
    c.begins_label.ensures ∙ ap (λ (bytes : List ℕ). begins_label (after_spaces (content_codes bytes))) c.as_bytes.ensures.value
    ∙ first_begins c.args.lines.now c.in-Some.line.now (sym c.in-Some.ensures.value)
