use Rattle.laws_options.proofs.GfmFootnoteDefinition.{footnote_definition_off_law}
use Rattle.laws_options.proofs.gfm_footnote_definition.footnote_definition_off_law.Goals as goal

pub returns : goal.returns
returns c = footnote_definition_off_law
