use Rattle.std.proofs.Common.{◌∙◌, ap, subst, List}
use Rattle.compile_written.proofs.Prelude.{definitions_in, Event, HasDefinitions, PlacesFit}
use Rattle.compile_written.proofs.DefinitionLaw.{definitions_law}
use Rattle.compile_written.proofs.PlaceTexts.{texts_law}
use Rattle.compile_written.proofs.definition.read_definitions.Goals as goal

pub returns : goal.returns
returns g c = λ ns at nodes events places.
    let names = g.T.Tables.reference_of c.args.tables.now in
    let bytes = c.args.bytes.now in
    subst (HasDefinitions c.in_ok-found.found)
    (ap (definitions_in names bytes) events
    ∙ definitions_law names bytes ns nodes (texts_law bytes ns at (subst (λ (es : List Event). PlacesFit bytes at es) events places)))
    c.in_ok-found.ensures
