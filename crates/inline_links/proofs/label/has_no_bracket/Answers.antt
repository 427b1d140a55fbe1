use Rattle.std.proofs.Common.{◌≡◌, ℕ, ◌+◌, ◌-◌, ◌&&◌, Bool, false, eqb, sym, ◌∙◌, ap, drop, arith}
use Rattle.inline_links.proofs.Prelude.{content_codes, has_no_bracket, is_unmarked, prefix_len}
use Rattle.inline_links.proofs.Unmarked.{test_goes_on, next_passed, run_passed}
use Rattle.inline_links.proofs.label.has_no_bracket.Goals as goal

from_start : (n : ℕ) → 0 + n ≡ n
from_start n = omega arith

pub loop-read-init : goal.loop-read-init
loop-read-init c =
    let text = c.args.text.now in
    let at = c.after_unmarked-at.ensures.end in
    record {
      within = c.after_unmarked-at.ensures.within;
      same =
          ap (λ k. has_no_bracket false (content_codes (drop k text))) (at ∙ from_start (prefix_len is_unmarked text))
          ∙ sym (run_passed Bool has_no_bracket test_goes_on false text);
    }

pub loop-read-preserved : goal.loop-read-preserved
loop-read-preserved c =
    let text = c.args.text.now in
    let read = c.in-Some.read in
    let next = c.after_unmarked-at-in-Some.result in
    record {
      within = c.after_unmarked-at-in-Some.ensures.within;
      same =
          ap (λ t. has_no_bracket t (content_codes (drop next text))) (c.stays-escaped.ensures ∙ ap (λ t. t && eqb (next - read.next) 0) c.may_escape.ensures)
          ∙ next_passed Bool has_no_bracket test_goes_on c.loop-read.escaped read.code text
          (content_codes (drop c.loop-read.at text)) read.next next c.in-Some.ensures.codes
          (sym c.ends_label.ensures ∙ c.if-ends_label.false) c.after_unmarked-at-in-Some.ensures.end
          ∙ c.loop-read.invariant.same;
    }
