use Rattle.std.proofs.Common.{string_bytes}
use Rattle.compile_strings.proofs.Prelude.{IsUtf8-string_bytes, own_from, string_first}
use Rattle.engine_events.specs.declared.event.Name.TheVariants as n
use Rattle.compile_strings.proofs.JoinedLaw.{resource_target}
use Rattle.compile_strings.proofs.spelled.read_resource.Goals as goal

pub returns : goal.returns
returns g c = λ at inside held.
    let names = g.T.Tables.reference_of c.args.texts.now.tables.now in
    let bytes = c.args.texts.now.bytes.now in
    let destination = own_from n.ResourceDestinationString 0 inside in
    let title = own_from n.ResourceTitleString 0 inside in
    resource_target at (string_bytes c.args.text.now) (string_bytes c.push_string.new.text) (string_bytes c.push_string-2.new.text)
    (string_first names bytes destination) (string_first names bytes title) c.in_ok-destination.destination c.in_ok-title.title
    (IsUtf8-string_bytes c.args.text.now) (IsUtf8-string_bytes c.push_string.new.text) (IsUtf8-string_bytes c.push_string-2.new.text)
    (c.in_ok-destination.ensures destination held.destination) (c.in_ok-title.ensures title held.title)
