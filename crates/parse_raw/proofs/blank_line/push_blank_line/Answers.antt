use Rattle.std.proofs.Common.{◌-◌, ap, ◌∙◌, length}
use Rattle.parse_raw.proofs.Prelude.{end_at, line_after, on_ok_weaker, Standing}
use Rattle.parse_raw.proofs.Blank.{blank_exact, blank_written}
use Rattle.parse_raw.proofs.NextLines.{all_ok}
use Rattle.parse_raw.proofs.blank_line.push_blank_line.Goals as goal

pub returns-clause-written : goal.returns-clause-written
returns-clause-written g c =
    let all = c.in_ok-all.ensures in
    all_ok c.ending.result
    (λ ends written kept. λ text ending here left to st at order laid.
    blank_written text ending here left to c.args.walk.now c.in_line.new.self c.all.new.self c.ending.new.self (c.in_ok-in_line.ensures.stays st.line.begun) st at
    order laid all.stays all.end all.written ends written kept)
    c.ending.ensures.ends c.ending.ensures.written c.ending.ensures.around

pub returns-clause-after : goal.returns-clause-after
returns-clause-after g c begun =
    on_ok_weaker c.ending.result
    (λ line. line ∙ ap (λ (s : Standing). end_at (s.size - length s.left) 0) c.in_ok-all.ensures.stays ∙ ap line_after (c.in_ok-in_line.ensures.stays begun))
    c.ending.ensures.line

pub returns-clause-exact : goal.returns-clause-exact
returns-clause-exact g c =
    let all = c.in_ok-all.ensures in
    all_ok c.ending.result
    (λ ends written after. λ r text ending here left to st at order laid.
    blank_exact text r ending here left to c.args.walk.now c.in_line.new.self c.all.new.self c.ending.new.self (c.in_ok-in_line.ensures.stays st.line.begun) st at
    order laid all.stays all.end all.written ends written after)
    c.ending.ensures.ends c.ending.ensures.written c.ending.ensures.line
