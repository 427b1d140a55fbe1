-- Where footnote definitions are off, nothing is called, and no option of footnotes makes a difference.
use Rattle.std.proofs.Common.{◌≡◌, ℕ, false, not, ◌||◌, List, [], ◌∷◌, ◌++◌, codes, if◌then◌else◌, refl, sym, ap, subst, ◌∙◌}
use Rattle.std.proofs.lemmas.Bool.{or_parts, false≢true}
use Rattle.markdown_compile_options.specs.declared.configuration.CompileOptions.{CompileOptions}
use Rattle.definition_text.specs.Lines.{without_mark, kind_before_text}
use Rattle.definition_inline.specs.LabelMatch.{normal_label, first_match}
use Rattle.definition_block.specs.Container.{Footnote}
use Rattle.definition_block.specs.Tree as tree
use Rattle.definition_block.specs.Tree.{blocks}
use Rattle.definition_block.specs.Definitions.{block_footnotes, footnotes}
use Rattle.std.specs.Str.{bytes_eq}
use Rattle.definition_text.specs.Bytes.{begins_with}
use Rattle.definition_page.specs.Tags.{Words, Attribute}
use Rattle.definition_page.specs.Destinations.{heading_prefix}
use Rattle.definition_page.specs.GfmLabelStartFootnote.{id_prefix}
use Rattle.definition_page.specs.HeadingIds.{id_attributes}
use Rattle.definition_page.specs.InlinePieces.{Meaning, call_at, count_at}
use Rattle.definition_page.specs.Page.{Page}
use Rattle.definition_page.specs.BlockPieces.{document_pieces}
use Rattle.definition_page.specs.DocumentPieces.{meaning_of, default_ending}
use Rattle.definition_page.specs.Layout.{page_layout}
use Rattle.definition_page.specs.Read.{read}
use Rattle.definition_page.proofs.PagePieces.{Prints, any_blocks, page_good}
use Rattle.laws_block.specs.Occurs.{block_has, has, is_footnote_definition}
use Rattle.laws_block.proofs.Occurs.{no_footnote_definitions}
use Rattle.laws_options.specs.GfmFootnoteDefinition.{with_footnotes_by, FootnoteDefinitionOffLaw}
use Rattle.laws_options.proofs.Alike.{Alike, same_document}
use Rattle.laws_options.proofs.Layouts.{IsUncalled, AreUncalled, uncalled_layout}
use Rattle.laws_options.proofs.SamePages.{same_html}

-- ---- blocks without footnote definitions have no labels of them

mutual
  no_label : (b : tree.Block) → block_has is_footnote_definition b ≡ false → block_footnotes b ≡ []
  no_label (tree.Holds (Footnote label) kids) h = absurd (false≢true (sym h))
  no_label (tree.Holds c kids) h = ap (λ labels. labels ++ []) (no_labels kids h)
  no_label (tree.Items items) h = no_labels items h
  no_label b h = refl

  no_labels : (bs : tree.Blocks) → has is_footnote_definition bs ≡ false → footnotes bs ≡ []
  no_labels tree.Nil h = refl
  no_labels (tree.Cons b bs) h =
      let parts = or_parts (block_has is_footnote_definition b) (has is_footnote_definition bs) h in
      ap (λ labels. labels ++ footnotes bs) (no_label b parts.0) ∙ no_labels bs parts.1

-- ---- where no label is that of a footnote, nothing is called

module _ (m : Meaning) (none : m.footnotes ≡ []) where
  uncalled : Prints IsUncalled m
  uncalled =
      record {
        opens = λ t own. tt;
        closes = λ name. tt;
        voids = λ t own. tt;
        said = λ part. tt;
        eol = tt;
        fresh = tt;
        names = λ on t text own. tt;
        calls = λ label. subst (λ labels. AreUncalled (call_at (first_match label labels) (normal_label label))) (sym none) tt;
        counts = λ label. subst (λ labels. AreUncalled (count_at (first_match label labels) (normal_label label))) (sym none) tt;
      }

  uncalled_document : (p : Page) → AreUncalled (document_pieces m p)
  uncalled_document p = page_good IsUncalled m uncalled _ (any_blocks IsUncalled tt tt) (λ t. tt) p.blocks (not p.ends_blank) tt

-- ---- ids of headings

-- options that begin the ids of headings alike, and those of footnotes
same_ids_of : (one other : CompileOptions) → heading_prefix one ≡ heading_prefix other → id_prefix one ≡ id_prefix other
    → (slug : List ℕ) → id_attributes one slug ≡ id_attributes other slug
same_ids_of one other heads notes [] = refl
same_ids_of one other heads notes (b ∷ bs) =
    let slug = b ∷ bs in
    let attributes : List ℕ → List ℕ → List Attribute = λ head note.
    let id = head ++ slug in
    if bytes_eq id (codes "footnote-label") || begins_with (note ++ codes "fn-") id || begins_with (note ++ codes "fnref-") id then []
    else (record { name = codes "id"; value = Words head ∷ Words slug ∷ [] } ∷ []) in
    ap (λ head. attributes head (id_prefix one)) heads ∙ ap (attributes (heading_prefix other)) notes

-- ---- the law

pub footnote_definition_off_law : FootnoteDefinitionOffLaw
footnote_definition_off_law tables text options other off avoid =
    let page : Page = read tables options.parse text in
    let bs = blocks options.parse.constructs (kind_before_text text) (without_mark text) in
    let none : page.footnotes ≡ [] = no_labels bs (no_footnote_definitions options.parse.constructs (kind_before_text text) (without_mark text) off) in
    let compile : CompileOptions = (with_footnotes_by other options).compile in
    let alike : Alike compile options.compile =
    record {
      destination = λ url. refl;
      source = λ url. refl;
      rel = refl;
      lazy = refl;
      named = refl;
      ids = λ on. same_ids_of compile options.compile refl (avoid on);
      checkable = refl;
      raw = λ described html. refl;
      link = λ url. refl;
      image = λ url. refl;
    } in
    let m = meaning_of tables options page in
    let default = default_ending options (without_mark text) in
    same_html tables text options compile alike refl
    (ap (page_layout compile default) (same_document m compile alike page)
    ∙ uncalled_layout compile options.compile default (document_pieces m page) (uncalled_document m none page))
