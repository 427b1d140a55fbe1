use Rattle.std.proofs.Common.{◌∙◌, ap, sym, codes}
use Rattle.std.specs.Option.{option_and_then, option_copied}
use Rattle.html_safe_page.specs.Reader.{strip}
use Rattle.html_safe_page.proofs.Places.{start_is}
use Rattle.html_safe_page.proofs.tags.after_start.Goals as goal

pub returns-in_err-named : goal.returns-in_err-named
returns-in_err-named c =
    let name = c.args.name.now in
    let last = strip (codes "=\"") in
    let spaced = c.in_ok-spaced.spaced.now in
    ap option_copied c.from_residual-in_err-named.ensures
    ∙ sym (start_is name c.args.bytes.now
    ∙ ap (λ o. option_and_then last (option_and_then (strip name) o)) (sym c.in_ok-spaced.ensures)
    ∙ ap (option_and_then last) (ap (λ n. strip n spaced) (sym c.as_bytes.ensures.value) ∙ sym c.in_err-named.ensures))

pub returns : goal.returns
returns c =
    let name = c.args.name.now in
    let last = strip (codes "=\"") in
    let spaced = c.in_ok-spaced.spaced.now in
    c.strip-3.ensures
    ∙ sym (start_is name c.args.bytes.now
    ∙ ap (λ o. option_and_then last (option_and_then (strip name) o)) (sym c.in_ok-spaced.ensures)
    ∙ ap (option_and_then last) (ap (λ n. strip n spaced) (sym c.as_bytes.ensures.value) ∙ sym c.in_ok-named.ensures))
