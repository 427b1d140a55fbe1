use Rattle.std.proofs.Common.{string_bytes, ap, ◌∙◌}
use Rattle.html_sanitizer.specs.Page.{page_state}
use Rattle.html_safe_page.specs.Views.{open_names}
use Rattle.html_safe_page.proofs.Follow.{open_push}
use Rattle.html_sanitizer.proofs.Ends.{page_in}
use Rattle.html_sanitizer.proofs.page.Page.open.Goals as goal

pub returns : goal.returns
returns g c =
    ap (page_in (page_state c.args.self.now) (string_bytes c.args.self.now.out)) (ap open_names c.in_ok-push.ensures.items ∙ open_push c.args.self.now.level.names.items c.args.name)
