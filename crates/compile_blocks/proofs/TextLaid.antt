-- The rows of a text, printed by a source.
use Rattle.std.proofs.Common.{◌≡◌, ℕ, List, sym, ap, ◌∙◌, slice_index_or}
use Rattle.std.specs.Prelude.{map}
use Rattle.std.proofs.Math.ListN.{get_or-map}
use mathlib.Core.Path.{fun_ext}
use Rattle.compile_blocks.proofs.Prelude.{linked_at, linked_by, Meaning, meaning_by, Names, place_target}
use Rattle.definition_inline.specs.Definition.{Definition}
use Rattle.definition_inline.specs.Targets.{no_definition}
use Rattle.compile_written.specs.Definition.{leads}
use Rattle.html_inline.specs.Opens.{nowhere}
use Rattle.html_inline.specs.Prints.{Definitions}
use Rattle.html_inline.specs.declared.printing.Printing.{Printing}
use Rattle.inline_links.specs.View.{link_texts_view}
use Rattle.inline_links.specs.declared.text.LinkTexts.{LinkTexts}
use Rattle.markdown_compile_options.specs.declared.configuration.CompileOptions.{CompileOptions}
use Rattle.markdown_options.specs.declared.configuration.Constructs.{Constructs}
use Rattle.compile_blocks.specs.Meant.{IsMeant}
use Rattle.compile_blocks.specs.declared.source.Source.{Source}

-- links lead where the definitions do, at each place
pub places_law : (links : List LinkTexts) (ds : List Definition) → map link_texts_view links ≡ map leads ds → place_target links ≡ linked_at ds
places_law links ds e = fun_ext (λ place. ap (λ l. slice_index_or l place nowhere) e ∙ get_or-map leads ds place no_definition)

abbrev meaning_of : Constructs → CompileOptions → Names → Definitions → List (List ℕ) → Meaning
meaning_of on compile names definition footnotes =
    record { on = on; compile = compile; names = names; definition = definition; footnotes = footnotes }

-- what is printed by is the meaning of the source
pub meaning_law : {T A : Type 0} (names : Names) (source : Source T A) (ds : List Definition) (m : Meaning) (printing : Printing A T) (told : Names)
    → IsMeant names source ds m → printing.on.now ≡ source.on.now → printing.compile.now ≡ source.options.now → told ≡ names
    → meaning_by told printing (linked_by ds) m.footnotes ≡ m
meaning_law names source ds m printing told h on compile named =
    let is_on = on ∙ h.source_on ∙ sym h.on in
    let is_compile = compile ∙ sym h.compile in
    let is_names = named ∙ sym h.names_are in
    ap (λ (x : Constructs). meaning_of x printing.compile.now told (linked_by ds) m.footnotes) is_on
    ∙ ap (λ (x : CompileOptions). meaning_of m.on x told (linked_by ds) m.footnotes) is_compile
    ∙ ap (λ (x : Names). meaning_of m.on m.compile x (linked_by ds) m.footnotes) is_names
    ∙ ap (λ (x : Definitions). meaning_of m.on m.compile m.names x m.footnotes) (sym h.definition)
