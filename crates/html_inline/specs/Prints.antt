-- What a printer adds to a text, and what it prints by.
use Rattle.std.specs.Prelude.{ℕ, List, Option}
use Rattle.definition_inline.specs.Inline.{LinkTexts}
use Rattle.definition_page.specs.InlinePieces.{Meaning}
pub use Rattle.html_escape.specs.Prints.{Prints}
use Rattle.html_inline.specs.declared.printing.Printing.{Printing}

-- where each label leads that is defined
abbrev pub Definitions : Type 0
Definitions = List ℕ → Option LinkTexts

-- what inline structure means by what names stand for, and by the labels of the document's footnotes
abbrev pub meaning_by : {A T : Type 0} → (List ℕ → Option (List ℕ)) → Printing A T → Definitions → List (List ℕ) → Meaning
meaning_by names printing definition footnotes =
    record { on = printing.on.now; compile = printing.compile.now; names = names; definition = definition; footnotes = footnotes }
