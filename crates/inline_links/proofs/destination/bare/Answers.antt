use Rattle.std.proofs.Common.{◌≡◌, ℕ, ◌+◌, ◌-◌, ◌&&◌, false, eqb, Some, refl, sym, ◌∙◌, ap, subst, drop, arith}
use Rattle.inline_links.proofs.Prelude.{bare_end, content_codes, if_any, is_plain, is_too_deep, IsCut, may_escape, open_after, part_of, prefix_len, up_to}
use Rattle.inline_links.proofs.Bare.{ends_before, ends_with, any_there, flat, open_more, run_passed, cut_after_run, next_passed}
use Rattle.inline_links.proofs.destination.bare.Goals as goal
use Rattle.inline_links.proofs.destination.bare.Goals.{in-Some+then-ends_bare, in_default}

pub returns-then-end-gt0-clause-read : goal.returns-then-end-gt0-clause-read
returns-then-end-gt0-clause-read c =
    let content = c.args.content.now in
    let codes = content_codes content in
    let rest = content_codes (drop c.loop-read.end content) in
    let here : bare_end c.args.depth c.loop-read.escaped c.loop-read.opened rest ≡ Some rest =
    elim c.match-next_code.branch [
      | in-Some+then-ends_bare w ↦ ends_before c.args.depth c.loop-read.escaped c.loop-read.opened _ _ rest w.in-Some.ensures.codes c.if-opened-eq0.true
          (sym w.ends_bare.ensures ∙ w.if-ends_bare.true)
      | in_default w ↦ ends_with c.args.depth c.loop-read.escaped c.loop-read.opened rest w.in_default.ensures c.if-opened-eq0.true
    ] in
    sym (any_there (part_of c.up_to.result) c.loop-read.end content (omega arith) (omega arith) (ap content_codes c.up_to.ensures.text))
    ∙ ap if_any c.up_to.ensures.codes
    ∙ ap (λ end. if_any (up_to codes end)) (sym here ∙ c.loop-read.invariant.same)

from_start : (n : ℕ) → 0 + n ≡ n
from_start n = omega arith

pub loop-read-init : goal.loop-read-init
loop-read-init c =
    let content = c.args.content.now in
    let end = c.after_plain-end.ensures.end in
    record {
      within = c.after_plain-end.ensures.within;
      few = omega arith;
      shallow = flat c.args.depth;
      cut = subst (IsCut content) (sym end) (cut_after_run is_plain refl content 0 (omega arith) refl);
      same =
          ap (λ k. bare_end c.args.depth false 0 (content_codes (drop k content))) (end ∙ from_start (prefix_len is_plain content))
          ∙ sym (run_passed c.args.depth false 0 content (flat c.args.depth));
    }

pub loop-read-preserved : goal.loop-read-preserved
loop-read-preserved c =
    let content = c.args.content.now in
    let read = c.in-Some.read in
    let reads = c.in-Some.ensures in
    let escaped = c.loop-read.escaped in
    let opened = c.loop-read.opened in
    let end = c.after_plain-end-in-Some.ensures.end in
    let opens = c.open_after-opened.ensures in
    let shallow : is_too_deep c.args.depth (open_after escaped opened read.code) ≡ false =
    sym (ap (is_too_deep c.args.depth) opens) ∙ sym c.is_too_deep.ensures ∙ c.if-is_too_deep.false in
    record {
      within = c.after_plain-end-in-Some.ensures.within;
      few = omega (arith, c.loop-read.invariant.few, reads.forward, end, opens, open_more escaped opened read.code);
      shallow = ap (is_too_deep c.args.depth) opens ∙ shallow;
      cut = subst (IsCut content) (sym end) (cut_after_run is_plain refl content read.next reads.within reads.cut);
      same =
          ap (λ t. bare_end c.args.depth t c.open_after-opened.result (content_codes (drop c.after_plain-end-in-Some.result content)))
          (c.stays-escaped.ensures ∙ ap (λ t. t && eqb (c.after_plain-end-in-Some.result - read.next) 0) c.may_escape.ensures)
          ∙ ap (λ o. bare_end c.args.depth (may_escape escaped read.code && eqb (c.after_plain-end-in-Some.result - read.next) 0) o
          (content_codes (drop c.after_plain-end-in-Some.result content))) opens
          ∙ next_passed c.args.depth escaped opened read.code content (content_codes (drop c.loop-read.end content)) read.next c.after_plain-end-in-Some.result
          reads.codes
          (sym c.ends_bare.ensures ∙ c.if-ends_bare.false) shallow end
          ∙ c.loop-read.invariant.same;
    }
