-- What is written of a heading, as the definition reads it (CommonMark 4.2 and 4.3).
use Rattle.std.specs.Prelude.{ℕ, List, []}
use Rattle.definition_text.specs.BlockLines.{BlockLine}
use Rattle.definition_page.specs.Page as page
use Rattle.definition_page.specs.Read.{Reading, read_text}
use Rattle.parse_laid.specs.Leaves.{IsAtxLaid, IsSetextLaid}
use Rattle.parse_lines.specs.declared.walk.Walk.{Walk}
use Rattle.parse_raw.specs.Reads.{WritesWhere}

-- a heading by `#` (CommonMark 4.2)
abbrev pub WritesAtxHeading : {A : Type 0} → Reading → ℕ → List BlockLine → Walk A → Walk A → Type 0
WritesAtxHeading r rank ls old new =
    WritesWhere (λ on around from to. IsAtxLaid on around rank ls from to) r (λ top. page.Heading rank (read_text r ls)) [] old new

-- and one by an underline (CommonMark 4.3)
abbrev pub WritesSetextHeading : {A : Type 0} → Reading → ℕ → List BlockLine → Walk A → Walk A → Type 0
WritesSetextHeading r rank ls old new =
    WritesWhere (λ on around from to. IsSetextLaid on around rank ls from to) r (λ top. page.Heading rank (read_text r ls)) [] old new
