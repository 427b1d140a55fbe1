use Rattle.std.proofs.Common.{◌≡◌, ℕ, ◌+◌, ◌-◌, ◌&&◌, List, false, eqb, Option, refl, sym, ◌∙◌, ap, subst, drop, arith}
use Rattle.inline_links.proofs.Prelude.{content_codes, is_unmarked, IsCut, label_end, prefix_len}
use Rattle.inline_links.proofs.Bare.{cut_after_run}
use Rattle.inline_links.proofs.Unmarked.{end_goes_on, next_passed, run_passed}
use Rattle.inline_links.proofs.label.label_text.Goals as goal

from_start : (n : ℕ) → 0 + n ≡ n
from_start n = omega arith

pub loop-read-init : goal.loop-read-init
loop-read-init c =
    let content = c.args.content.now in
    let end = c.after_unmarked-end.ensures.end in
    record {
      within = c.after_unmarked-end.ensures.within;
      cut = subst (IsCut content) (sym end) (cut_after_run is_unmarked refl content 0 (omega arith) refl);
      same =
          ap (λ k. label_end false (content_codes (drop k content))) (end ∙ from_start (prefix_len is_unmarked content))
          ∙ sym (run_passed (Option (List ℕ)) label_end end_goes_on false content);
    }

pub loop-read-preserved : goal.loop-read-preserved
loop-read-preserved c =
    let content = c.args.content.now in
    let read = c.in-Some.read in
    let reads = c.in-Some.ensures in
    let next = c.after_unmarked-end-in-Some.result in
    let end = c.after_unmarked-end-in-Some.ensures.end in
    record {
      within = c.after_unmarked-end-in-Some.ensures.within;
      cut = subst (IsCut content) (sym end) (cut_after_run is_unmarked refl content read.next reads.within reads.cut);
      same =
          ap (λ t. label_end t (content_codes (drop next content))) (c.stays-escaped.ensures ∙ ap (λ t. t && eqb (next - read.next) 0) c.may_escape.ensures)
          ∙ next_passed (Option (List ℕ)) label_end end_goes_on c.loop-read.escaped read.code content
          (content_codes (drop c.loop-read.end content)) read.next next reads.codes
          (sym c.ends_label.ensures ∙ c.if-ends_label.false) end
          ∙ c.loop-read.invariant.same;
    }
