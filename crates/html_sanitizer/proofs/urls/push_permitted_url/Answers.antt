use Rattle.std.proofs.Common.{◌≡◌, ◌++◌, List, ℕ, string_bytes, sym, subst}
use Rattle.std.specs.Prelude.{OnOk}
use Rattle.html_safe_page.specs.Views.{names_of}
use Rattle.html_sanitizer.proofs.UrlTexts.{url_with}
use Rattle.html_sanitizer.proofs.urls.push_permitted_url.Goals as goal

pub returns-else-all : goal.returns-else-all
returns-else-all g c =
    subst (λ (s : List ℕ). OnOk c.push_sanitized_with_protocols.result (string_bytes c.push_sanitized_with_protocols.new.out
    ≡ string_bytes c.args.out.now ++ s))
    (sym (url_with c.args.all (names_of c.args.protocols.now) c.args.url.now c.if-all.false)) c.push_sanitized_with_protocols.ensures
