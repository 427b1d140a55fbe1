-- The section of footnotes at a page's end.
use Rattle.std.proofs.Common.{zero, [], map, reverse}
use Rattle.std.proofs.lemmas.List.Sums.{fold-append}
use Rattle.definition_page.specs.Pieces.{print}
use Rattle.definition_page.specs.Layout.{named_calls, first_calls, with_calls, content, contents, layout, called_footnotes}
use Rattle.definition_page.specs.GfmFootnoteDefinition.{section_pieces}
use Rattle.laws_footnotes.specs.Section.{SectionLaw}

pub section_law : SectionLaw
section_law options default ps =
    let calls = named_calls ps in
    let shown = with_calls options (first_calls calls) [] ps in
    fold-append (print default) [] (content zero (reverse shown))
    (section_pieces options (called_footnotes calls (map (layout default) (contents [] shown))))
