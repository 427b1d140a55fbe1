-- The nodes of a text spell its page.
use Rattle.std.proofs.Common.{◌≡◌, ℕ, false, List, [], refl, sym, ◌∙◌}
use Rattle.parse_open.proofs.Prelude.{AreMeanings, bare_blocks, document_targets, ends_blank, ends_in_blank, group_items, growth, IsFront, IsSpelledPage}
use Rattle.parse_open.proofs.Prelude.{Nodes, opened, ParseOptions, reading, Spells, TextTables}
use Rattle.definition_page.specs.Page as page
use Rattle.event_meaning.specs.Spelled.{page_of}
use Rattle.parse_alike.specs.Spelled.{IsPageOfText, meaning_read, meaning_spelled}
use Rattle.parse_open.proofs.BareRead.{bare_blocks_read}
use Rattle.parse_open.specs.Texts.{TextsAreSpelled, text_blocks}
use Rattle.parse_open.proofs.Page.{pages_are_spelled}

module _ (tables : TextTables) (options : ParseOptions) (text : List ℕ) where
  text_meanings : (p : page.Page) → AreMeanings options.constructs tables.names (meaning_read tables options text) (meaning_spelled tables options text p)
  text_meanings p = record { on = refl; names = refl; spelled_on = refl; spelled_names = refl }

  nodes_spelled : (front ns : Nodes) (line : ℕ) → IsFront options.constructs tables.names text front (text_blocks options text)
      → Spells (reading tables options (document_targets (text_blocks options text))) text front
      (opened (group_items (bare_blocks (text_blocks options text))) [] []) (growth ns []) line
      → ends_in_blank ns ≡ ends_blank false (group_items (bare_blocks (text_blocks options text)))
      → IsPageOfText tables options text (page_of tables.names text ns)
  nodes_spelled front ns line is spells ends =
      let bs = text_blocks options text in
      let p = page_of tables.names text ns in
      let m = meaning_read tables options text in
      let m' = meaning_spelled tables options text p in
      let all : IsSpelledPage tables options text bs p = pages_are_spelled tables options text bs front ns line is spells in
      record {
        blocks = all.blocks m m' (text_meanings p);
        definitions = all.defined m m' (text_meanings p);
        footnotes = refl;
        ends_blank = sym (bare_blocks_read.blank bs) ∙ sym ends;
      }

pub texts_are_spelled : TextsAreSpelled
texts_are_spelled = λ tables options text front ns line is spells ends. nodes_spelled tables options text front ns line is spells ends
