use Rattle.std.proofs.Common.{◌≡◌, ◌++◌, List, ℕ, string_bytes, sym, subst}
use Rattle.html_inline.proofs.Prelude.{OnOk}
use Rattle.definition_page.specs.Urls.{href_protocols}
use Rattle.html_inline.proofs.TagTexts.{url_with}
use Rattle.html_inline.proofs.url.push_link_url.Goals as goal

pub returns-else-compile : goal.returns-else-compile
unfolding href_protocols
returns-else-compile g c =
    subst (λ (s : List ℕ). OnOk c.push_sanitized_with_protocols.result (string_bytes c.push_sanitized_with_protocols.new.out
    ≡ string_bytes c.args.out.now ++ s))
    (sym (url_with c.args.compile.now.allow_dangerous_protocol href_protocols c.args.url.now c.if-compile.false)) c.push_sanitized_with_protocols.ensures
