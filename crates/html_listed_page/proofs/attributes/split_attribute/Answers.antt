use Rattle.std.proofs.Common.{◌∷◌, ◌++◌, None, Some, codes, sym, subst, ap, lit<, ◌∙◌}
use Rattle.std.proofs.lemmas.Str.Pattern.{split_parts, strip_prefix_char}
use Rattle.html_listed_page.specs.Tags.{IsQuoted}
use Rattle.html_listed_page.proofs.Cuts.{same_back}
use Rattle.html_listed_page.proofs.Quoted.{after_start, start_is, quoted_in}
use Rattle.html_listed_page.proofs.attributes.split_attribute.Goals as goal

pub returns-in_err-spaced : goal.returns-in_err-spaced
returns-in_err-spaced c =
    let name = c.args.name.now in
    let text = c.args.text.now in
    subst (IsQuoted name text) (sym c.from_residual.ensures)
    (λ value after e. strip_prefix_char 32 text None c.in_err-spaced.ensures.cases (lit< tt) ((name ++ codes "=\"") ++ (value ++ (34 ∷ after))) (sym e))

pub returns-in_err-named : goal.returns-in_err-named
returns-in_err-named c =
    let name = c.args.name.now in
    let text = c.args.text.now in
    let spaced = strip_prefix_char 32 text (Some c.in_ok-spaced.spaced) c.in_ok-spaced.ensures.cases (lit< tt) in
    subst (IsQuoted name text) (sym c.from_residual-in_err-named.ensures)
    (λ value after e. c.in_err-named.ensures.cases (codes "=\"" ++ (value ++ (34 ∷ after)))
    (sym (after_start name text c.in_ok-spaced.spaced.now (value ++ (34 ∷ after)) spaced e)))

pub returns-in_err-quoted : goal.returns-in_err-quoted
returns-in_err-quoted c =
    let name = c.args.name.now in
    let text = c.args.text.now in
    let spaced = strip_prefix_char 32 text (Some c.in_ok-spaced.spaced) c.in_ok-spaced.ensures.cases (lit< tt) in
    let named = c.in_ok-named.ensures.cases in
    let is = named.1.1 ∙ ap (λ z. name ++ z) (sym named.2) in
    subst (IsQuoted name text) (sym c.from_residual-in_err-quoted.ensures)
    (λ value after e. c.in_err-quoted.ensures.cases (value ++ (34 ∷ after))
    (sym (same_back name (codes "=\"" ++ (value ++ (34 ∷ after))) c.in_ok-named.named.now
    (after_start name text c.in_ok-spaced.spaced.now (value ++ (34 ∷ after)) spaced e ∙ is))))

pub returns : goal.returns
returns c =
    let name = c.args.name.now in
    let text = c.args.text.now in
    let spaced = strip_prefix_char 32 text (Some c.in_ok-spaced.spaced) c.in_ok-spaced.ensures.cases (lit< tt) in
    let named = c.in_ok-named.ensures.cases in
    let quoted = c.in_ok-quoted.ensures.cases in
    let bytes = c.in_ok-quoted.quoted.now in
    quoted_in name text bytes c.split_once.result
    (start_is name text c.in_ok-spaced.spaced.now c.in_ok-named.named.now bytes spaced
    (named.1.1 ∙ ap (λ z. name ++ z) (sym named.2)) (quoted.1.1 ∙ ap (λ z. codes "=\"" ++ z) (sym quoted.2)))
    (split_parts 34 bytes c.split_once.result c.split_once.ensures.cases (lit< tt))
