use Rattle.std.proofs.Common.{◌∙◌, ap, sym, codes}
use Rattle.std.specs.Option.{option_copied, option_or}
use Rattle.html_safe_page.specs.Reader.{strip}
use Rattle.html_safe_page.proofs.Passed.{no_and, copied_any}
use Rattle.html_safe_page.proofs.letters.after_reference.Goals as goal

pub returns-then-not-starts_with : goal.returns-then-not-starts_with
returns-then-not-starts_with c = no_and c.args.bytes.now (sym c.starts_with.ensures.value ∙ c.if-not-starts_with.true)

pub returns : goal.returns
returns c =
    let bytes = c.args.bytes.now in
    ap option_copied (c.or-3.ensures ∙ ap (λ x. option_or x c.strip-4.result) (c.or-2.ensures ∙ ap (λ x. option_or x c.strip-3.result) c.or.ensures))
    ∙ copied_any c.strip.result c.strip-2.result c.strip-3.result c.strip-4.result (strip (codes "&amp;") bytes) (strip (codes "&quot;") bytes)
    (strip (codes "&lt;") bytes) (strip (codes "&gt;") bytes) c.strip.ensures c.strip-2.ensures c.strip-3.ensures c.strip-4.ensures
