-- What a text is read by, as the constructs that are on and the names of characters.
use Rattle.markdown_options.specs.declared.configuration.Constructs.{Constructs}
use Rattle.definition_inline.specs.CharacterReference.{Names}
use Rattle.definition_page.specs.Read.{Reading}

abbrev pub on_of : Reading → Constructs
on_of r = r.parse.constructs

abbrev pub names_of : Reading → Names
names_of r = r.tables.names
