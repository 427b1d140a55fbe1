use Rattle.std.proofs.Common.{sym, ap, ◌∙◌}
use Rattle.std.specs.Prelude.{map}
use Rattle.std.specs.Option.{option_map}
use Rattle.std.specs.Str.{bytes_eq}
use Rattle.definition_text.specs.Bytes.{lower}
use Rattle.definition_page.specs.Urls.{is_permitted}
use Rattle.html_escape.proofs.Protocols.{any_now}
use Rattle.html_escape.proofs.url.is_permitted.Goals as goal

pub returns-in-Some : goal.returns-in-Some
returns-in-Some c =
    let protocols = map (λ p. p.now) c.args.protocols.now in
    c.is_one_of.ensures
    ∙ any_now (λ p. bytes_eq p (lower c.in-Some.name.now)) c.args.protocols.now
    ∙ ap (is_permitted protocols) (ap (option_map (λ x. x.now)) (sym c.in-Some.is) ∙ c.protocol.ensures)
