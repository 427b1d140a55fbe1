use Rattle.std.proofs.Common.{◌≡◌, ◌++◌, List, ℕ, OnOk, string_bytes, sym, ap, ◌∙◌, subst, append_assoc, lit<, rules}
use Rattle.std.proofs.lemmas.Str.Pattern.{split_parts}
use Rattle.definition_text.specs.Encode.{plain}
use Rattle.html_heading_text.specs.HeadingLines.{ending_says, lines_say}
use Rattle.html_heading_text.proofs.HeadingTexts.{line_said, lines_said}
use Rattle.html_heading_text.proofs.heading_text.push_lines.Goals as goal

pub loop-line-preserved : goal.loop-line-preserved
loop-line-preserved g c =
    let endings = c.args.endings in
    let rest = c.loop-line.rest.now in
    let out = string_bytes c.loop-line.out in
    let line = c.in-Some.line.now in
    let others = c.in-Some.others.now in
    let later = lines_say endings others in
    let cut = rw c.in-Some.is at (split_parts 10 rest c.split_once.result c.split_once.ensures.cases (lit< tt)) in
    record {
      utf8 = search rules;
      said =
          ap (λ (s : List ℕ). s ++ later) (c.in_ok-push_ending.ensures ∙ ap (λ (s : List ℕ). s ++ ending_says endings 10) c.in_ok-push_raw.ensures)
          ∙ append_assoc (out ++ plain line) (ending_says endings 10) later
          ∙ append_assoc out (plain line) (ending_says endings 10 ++ later)
          ∙ ap (λ (s : List ℕ). out ++ s) (sym (lines_said endings rest line others cut.0 cut.1))
          ∙ c.loop-line.invariant.said;
    }

pub returns : goal.returns
returns g c =
    let endings = c.args.endings in
    let rest = c.loop-line.rest.now in
    let none = rw c.in_default.is at (split_parts 10 rest c.split_once.result c.split_once.ensures.cases (lit< tt)) in
    subst (λ (s : List ℕ). OnOk c.push_raw-2.result (string_bytes c.push_raw-2.new.out ≡ s))
    (ap (λ (s : List ℕ). string_bytes c.loop-line.out ++ s) (sym (line_said endings rest none)) ∙ c.loop-line.invariant.said)
    c.push_raw-2.ensures
