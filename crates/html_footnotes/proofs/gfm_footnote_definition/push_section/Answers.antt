use Rattle.std.proofs.Common.{◌≡◌, [], ◌∷◌, List, map, length, false, eqb, subst, sym, refl, ◌∙◌}
use Rattle.std.proofs.lemmas.Bool.{false≢true}
use Rattle.html_footnotes.proofs.Prelude.{CompileOptions, ending_bytes, Footnote, note_view}
use Rattle.definition_page.specs.GfmFootnoteDefinition.{section_pieces, listed_pieces}
use Rattle.html_footnotes.specs.Footnotes.{LaysOut}
use Rattle.html_footnotes.proofs.gfm_footnote_definition.push_section.Goals as goal

-- footnotes that are there
some_listed : (options : CompileOptions) (notes : List Footnote) → eqb (length notes) 0 ≡ false
    → section_pieces options (map note_view notes) ≡ listed_pieces options (map note_view notes)
some_listed options [] h = absurd (false≢true (sym h))
some_listed options (note ∷ notes) h = refl

pub returns : goal.returns
returns g c =
    subst (LaysOut (ending_bytes c.args.ending) c.push_listed.result c.args.out.now c.push_listed.new.out)
    (sym (some_listed c.args.compile.now c.args.notes.now (sym c.is_empty.ensures ∙ c.if-is_empty.false)))
    c.push_listed.ensures
