-- Footnotes that are off.
use Rattle.std.specs.Prelude.{◌≡◌, ℕ, true, false, List}
use Rattle.markdown_compile_options.specs.declared.configuration.CompileOptions.{CompileOptions}
use Rattle.markdown_compile_options.specs.declared.configuration.Options.{Options}
use Rattle.definition_page.specs.TextTables.{TextTables}
use Rattle.definition_page.specs.GfmLabelStartFootnote.{id_prefix}
use Rattle.laws_options.specs.Laws.{printing_by, AreSamePages}

-- the same options, with the options of footnotes that these have
abbrev pub with_footnotes_by : CompileOptions → Options → Options
with_footnotes_by other options =
    printing_by
    (record options.compile {
      gfm_footnote_back_label = other.gfm_footnote_back_label;
      gfm_footnote_clobber_prefix = other.gfm_footnote_clobber_prefix;
      gfm_footnote_label = other.gfm_footnote_label;
      gfm_footnote_label_attributes = other.gfm_footnote_label_attributes;
      gfm_footnote_label_tag_name = other.gfm_footnote_label_tag_name;
    })
    options

-- the ids of headings avoid those of footnotes: where headings have ids, these options begin the ids of footnotes alike
abbrev pub AvoidAlike : CompileOptions → CompileOptions → Type 0
AvoidAlike other options = options.heading_ids ≡ true → id_prefix other ≡ id_prefix options

-- where footnote definitions are off, a page is the same by any options of footnotes (in neither standard)
abbrev pub FootnoteDefinitionOffLaw : Type 0
FootnoteDefinitionOffLaw =
    (tables : TextTables) (text : List ℕ) (options : Options) (other : CompileOptions) → options.parse.constructs.gfm_footnote_definition ≡ false
    → AvoidAlike other options.compile
    → AreSamePages tables text (with_footnotes_by other options) options
