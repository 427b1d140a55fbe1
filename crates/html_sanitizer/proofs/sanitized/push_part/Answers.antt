use Rattle.std.proofs.Common.{string_bytes, arith, ap, subst, lit<, ◌∙◌}
use Rattle.std.proofs.lemmas.Str.Pattern.{strip_prefix_char}
use Rattle.html_safe_page.specs.Views.{open_names}
use Rattle.html_sanitizer.specs.Page.{page_state}
use Rattle.html_sanitizer.specs.Sanitized.{page_after}
use Rattle.html_sanitizer.proofs.Tokens.{AreBytes}
use Rattle.html_sanitizer.proofs.Marks.{are_bytes, token_begins, token_printed}
use Rattle.html_sanitizer.proofs.Rests.{sign_first}
use Rattle.html_sanitizer.proofs.Parts.{no_other, leaf_token, sign_printed, known_printed, known_passed}
use Rattle.html_sanitizer.proofs.sanitized.push_part.Goals as goal

pub returns-in-Some-clause-printed : goal.returns-in-Some-clause-printed
returns-in-Some-clause-printed g c =
    let rest = c.args.rest.now in
    let is = rw c.in-Some.is at (strip_prefix_char 38 rest c.strip_prefix.result c.strip_prefix.ensures.cases (lit< tt)) in
    let all = subst AreBytes is (are_bytes rest (λ k. omega (arith, c.type_inv.rest k))) in
    known_printed (g.T.Tables.reference_of c.args.tables.now) c.args.options.now (page_state c.args.page.now) (string_bytes c.args.page.now.out) (string_bytes c.push_reference.new.out) rest
    c.in-Some.after.now c.in_ok-next.next.now (open_names c.args.page.now.level.names.items) all.1 is c.in_ok-next.ensures.printed c.in_ok-next.ensures.rest

pub returns-in-Some-clause-shorter : goal.returns-in-Some-clause-shorter
returns-in-Some-clause-shorter g c =
    let rest = c.args.rest.now in
    let is = rw c.in-Some.is at (strip_prefix_char 38 rest c.strip_prefix.result c.strip_prefix.ensures.cases (lit< tt)) in
    known_passed (g.T.Tables.reference_of c.args.tables.now) rest c.in-Some.after.now c.in_ok-next.next.now is c.in_ok-next.ensures.rest

pub push_sign-requires : goal.push_sign-requires
push_sign-requires g c =
    let rest = c.args.rest.now in
    let other = rw c.in_default.is at (strip_prefix_char 38 rest c.strip_prefix.result c.strip_prefix.ensures.cases (lit< tt)) in
    sign_first rest c.requires.marked other

pub returns-in_default-html_text_at-clause-printed : goal.returns-in_default-html_text_at-clause-printed
returns-in_default-html_text_at-clause-printed g c =
    sign_printed (g.T.Tables.reference_of c.args.tables.now) c.args.options.now c.args.on.now (page_state c.args.page.now) (string_bytes c.args.page.now.out)
    (string_bytes c.push_sign.new.out)
    c.args.rest.now c.in_ok-next-2.next.now (open_names c.args.page.now.level.names.items) c.requires.on c.in_default-html_text_at.ensures.read
    c.in_ok-next-2.ensures.rest c.in_ok-next-2.ensures.printed

pub returns-in_default-part : goal.returns-in_default-part
returns-in_default-part g c =
    absurd (no_other c.args.on.now c.args.rest.now c.in-Some-html_text_at.found c.requires.on c.in-Some-html_text_at.ensures.read c.in_default-part.not-Html)

pub returns-clause-printed : goal.returns-clause-printed
returns-clause-printed g c =
    let names = g.T.Tables.reference_of c.args.tables.now in
    let options = c.args.options.now in
    let rest = c.args.rest.now in
    let html = c.in-Html.html.now in
    let after = c.in-Some-html_text_at.found.after.now in
    let place = c.in-Some-html_text_at.ensures.place in
    let token = leaf_token c.args.on.now rest c.in-Some-html_text_at.found c.in-Html.html c.requires.on c.in-Some-html_text_at.ensures.read c.in-Html.is in
    let are = are_bytes html c.push_html.ensures.bytes in
    ap (λ t. page_after names options t after) (c.in_ok-push_html.ensures.printed (token_begins rest html after are token place))
    ∙ token_printed names options (page_state c.args.page.now) rest html after are token place
