use Rattle.std.proofs.Common.{◌++◌, List, string_bytes, sym, ap, ◌∙◌, append_assoc, drop, rules}
use Rattle.html_inline.proofs.Prelude.{content_codes, first_bytes, flat_map, html_lines, HtmlLine, later_bytes}
use Rattle.html_inline.proofs.HtmlLines.{later_printed, lines_printed}
use Rattle.html_inline.proofs.html_text.push_html_text.Goals as goal

pub loop-rest-init : goal.loop-rest-init
loop-rest-init g c =
    let described = c.args.described in
    let options = c.args.compile.now in
    let out = string_bytes c.args.out.now in
    let ls = html_lines (content_codes c.args.html.now) in
    let later = λ (ls : List HtmlLine). flat_map (later_bytes described options) ls in (
      search rules,
      ap (λ rest. string_bytes c.push_line.new.out ++ later rest) c.in_ok-rest.ensures.rest
          ∙ ap (λ s. s ++ later (drop 1 ls)) c.in_ok-rest.ensures.printed
          ∙ append_assoc out (first_bytes described options ls) (later (drop 1 ls))
          ∙ ap (λ s. out ++ s) (sym (lines_printed described options ls)),
    )

pub loop-rest-preserved : goal.loop-rest-preserved
loop-rest-preserved g c =
    let described = c.args.described in
    let options = c.args.compile.now in
    let out = string_bytes c.loop-rest.out in
    let shown = c.without_indent.result.now in
    let rest = c.in_ok-rest-2.rest.now in
    let front = first_bytes described options (html_lines (content_codes shown)) in
    let after = flat_map (later_bytes described options) (html_lines (content_codes rest)) in (
      search rules,
      ap (λ s. s ++ after) c.in_ok-rest-2.ensures.printed
          ∙ append_assoc out front after
          ∙ ap (λ ls. out ++ (front ++ flat_map (later_bytes described options) ls)) c.in_ok-rest-2.ensures.rest
          ∙ ap (λ cs. out ++ (first_bytes described options (html_lines cs) ++ flat_map (later_bytes described options) (drop 1 (html_lines cs))))
          c.without_indent.ensures.codes
          ∙ ap (λ s. out ++ s) (sym (later_printed described options (content_codes c.loop-rest.rest.now)))
          ∙ c.loop-rest.invariant.1,
    )
