-- What the labels of a document lead to, as its rows say it (CommonMark 4.7).
use Rattle.std.proofs.Common.{◌≡◌, true, not, List, [], ◌∷◌, refl}
use Rattle.parse_events.proofs.Prelude.{All-head, All-tail, and_parts, ArePrintable, BlockRow, Blocks, document_definitions, document_targets, EnterFootnote}
use Rattle.parse_events.proofs.Prelude.{EnterItem, EnterQuote, Exit, is_space, IsPrintableRow, list_any, Single}
use Rattle.std.proofs.lemmas.Bool.{and_from}
use Rattle.definition_inline.specs.Label.{is_label}
use Rattle.definition_block.specs.Definitions.{footnotes}
use Rattle.block_targets.specs.declared.definitions.Definitions.{Definitions}
use Rattle.block_targets.specs.declared.gfm_footnote_definition.Footnotes.{Footnotes}
use Rattle.block_targets.specs.GfmFootnoteDefinition.{HasLabelsSoFar, are_bare_rows, is_bare_row, labels_so_far}
use Rattle.block_targets.specs.Read.{HasDefinitions}
use Rattle.inline_parser.specs.Scanned.{HasTargets}

-- the labels of footnote definitions that are printed have no white space
bare_row : (r : BlockRow) → IsPrintableRow r → is_bare_row r ≡ true
bare_row (Single b) h = refl
bare_row EnterQuote h = refl
bare_row (EnterItem marker number) h = refl
bare_row (EnterFootnote label) h = (and_parts (is_label label) (not (list_any is_space label)) h).1
bare_row Exit h = refl

pub bare_rows : (rows : List BlockRow) → ArePrintable rows → are_bare_rows rows ≡ true
bare_rows [] h = refl
bare_rows (r ∷ rows) h =
    and_from (is_bare_row r) (are_bare_rows rows) (bare_row r (All-head IsPrintableRow r rows h)) (bare_rows rows (All-tail IsPrintableRow r rows h))

-- the tables of labels are those of a document
pub knows_targets : {A : Type 0} (found : Definitions A) (noted : Footnotes A) (bs : Blocks) → HasDefinitions found (document_definitions bs)
    → HasLabelsSoFar noted (labels_so_far (footnotes bs) []) → HasTargets found.labels noted.labels (document_targets bs)
knows_targets found noted bs has ended = record { defined = has.has_labels; noted = ended.ended.has_labels }
