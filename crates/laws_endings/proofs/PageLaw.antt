-- With an ending in place of each LF, a text prints its page with that ending.
use Rattle.std.proofs.Common.{◌≡◌, ℕ, zero, suc, ◌<◌, Bool, true, false, cond, eqb, ◌||◌, not, List, [], ◌∷◌, ◌++◌, Option, None, Some, refl, sym, ap, ◌∙◌}
use Rattle.std.proofs.Common.{arith, map, drop, length, slice_index_or, All, inl, inr, subst, ◌⊎◌, reverse}
use Rattle.laws_endings.proofs.Prelude.{after_return, All-tail, and_parts, block_definitions, blocks_with, called_footnotes, children_pieces, code_byte}
use Rattle.laws_endings.proofs.Prelude.{codes_with, CompileOptions, cond_both, Definition, definition_with, definitions, document_definitions, ending_bytes}
use Rattle.laws_endings.proofs.Prelude.{ends_blank, eq-eqb, eqb-true, first_calls, first_match, first_of, fold, fold-append, footnotes, fresh_unless}
use Rattle.laws_endings.proofs.Prelude.{get_or-map, group_items, has_mark, HaveNoFeeds, if_ending_with, in_first_line, is_some, Kind, kind_before_text, layout}
use Rattle.laws_endings.proofs.Prelude.{leaf_definitions, LineEnding, lines, link_texts, Meaning, named_calls, NamedCall, ne_eqb, normal_label, option_map}
use Rattle.laws_endings.proofs.Prelude.{or_left}
use Rattle.laws_endings.proofs.Prelude.{or_right, Piece, place_of, print, read_blocks, section_pieces, text_line, text_line_with, TextLine, true≢false}
use Rattle.laws_endings.proofs.Prelude.{unwrap_or, with_calls, with_ending, with_spaces, without_mark, ◌≢◌}
use Rattle.std.proofs.lemmas.List.Elements.{All-drop}
use Rattle.markdown_options.specs.declared.line_ending.LineEnding.TheVariants.{LineFeed}
use Rattle.markdown_compile_options.specs.declared.configuration.Options.{Options}
use Rattle.definition_text.specs.Lines.{first_line}
use Rattle.definition_block.specs.Tree as tree
use Rattle.definition_page.specs.TextTables.{TextTables}
use Rattle.definition_inline.specs.Targets.{labels_of, no_definition, linked_at, linked_by, is_label_of, targets}
use Rattle.definition_inline.specs.Targets.{is_footnote_of}
use Rattle.definition_page.specs.Page.{Page}
use Rattle.definition_page.specs.Layout.{content, contents, page_layout}
use Rattle.definition_page.proofs.Cuts.{outside_is, insides_are}
use Rattle.definition_page.specs.BlockPieces.{at_top}
use Rattle.definition_page.specs.DocumentPieces.{pieces, default_ending}
use Rattle.definition_page.specs.Read.{Reading, on_page, page_with, read_after}
use Rattle.laws_endings.specs.Laws.{HasNoReturn}
use Rattle.laws_endings.proofs.Lines.{ending_lines_law, lines_after-byte}
use Rattle.laws_endings.proofs.Blocks.{blocks_law}
use Rattle.laws_endings.proofs.Matching.{normal_label-with, normal_labels-with, labels_law, definitions_law, footnotes_law}
use Rattle.definition_page.specs.HeadingIds.{with_ids}
use Rattle.definition_page.proofs.HeadingIds.{unnamed_ids}
use Rattle.laws_options.proofs.Unlisted.{unlisted_law}
use Rattle.laws_endings.specs.PageLaws.{EndingPageLaw, LinksHoldNoFeed, OptionsHoldNoFeed, PrintedEndingLaw}
use Rattle.laws_endings.proofs.HeadingIds.{section_unnamed}
use Rattle.laws_endings.proofs.Each.{Each, each-append, each-drop, each_map, WhereSome}
use Rattle.laws_endings.proofs.Characters.{AreWhole, whole-drop, IsTextByte, utf8_spelled}
use Rattle.laws_endings.proofs.Fits.{Single, Plain, TitleFits, space_plain, space_single}
use Rattle.definition_block.proofs.ListReads.{grouped_good}
use Rattle.laws_endings.proofs.BlockReads.{fits, LeafBlockFits, BlockFits, BlocksFit, blocks_fit}
use Rattle.laws_endings.proofs.TextLines.{ByteFits, text_lines_fit}
use Rattle.laws_endings.proofs.Marks.{without_mark-with, kind_before-with}
use Rattle.laws_endings.proofs.Pieces.{MayCall, PrintWith, ShownWith, append-with}
use Rattle.laws_endings.proofs.GfmFootnoteDefinition.{section-with}
use Rattle.laws_endings.proofs.NoFootnotes.{no_footnotes}
use Rattle.laws_endings.proofs.Printed.{LinkedFits, linked_with}
use Rattle.laws_endings.proofs.Pages.{grouped-with, page_blocks_with, read_blocks-with, read_blocks_fit, ends_blank-with}
use Rattle.laws_endings.proofs.PrintedBlocks.{children-with, fresh_unless-with}

-- ---- definitions

abbrev DefinitionIs : Definition → Type 0
DefinitionIs d = Each Plain d.destination × TitleFits d.title

leaf_definitions_fit : (leaf : tree.LeafBlock) → LeafBlockFits leaf → Each DefinitionIs (leaf_definitions leaf)
leaf_definitions_fit (tree.Definition ls label destination title) p = (p, tt)
leaf_definitions_fit leaf p = tt

mutual
  block_definitions_fit : (b : tree.Block) → BlockFits b → Each DefinitionIs (block_definitions b)
  block_definitions_fit (tree.Leaf leaf) p = leaf_definitions_fit leaf p
  block_definitions_fit (tree.Holds c kids) p = definitions_fit kids p
  block_definitions_fit (tree.Items items) p = definitions_fit items p
  block_definitions_fit b p = tt

  definitions_fit : (bs : tree.Blocks) → BlocksFit bs → Each DefinitionIs (definitions bs)
  definitions_fit tree.Nil p = tt
  definitions_fit (tree.Cons b bs) p =
      each-append DefinitionIs (block_definitions b) (definitions bs) (block_definitions_fit b p.0) (definitions_fit bs p.1)

title_spaced : (title : Option (List ℕ)) → TitleFits title → TitleFits (option_map (map code_byte) title)
title_spaced None p = tt
title_spaced (Some title) p = each_map Single Single code_byte title space_single p

spaced_fits : (d : Definition) → DefinitionIs d → DefinitionIs (with_spaces d)
spaced_fits d p = (each_map Plain Plain code_byte d.destination space_plain p.0, title_spaced d.title p.1)

each_at : {A : Type 0} (P : A → Type 0) (xs : List A) (n : ℕ) (d : A) → P d → Each P xs → P (slice_index_or xs n d)
each_at P [] n d p h = p
each_at P (x ∷ xs) zero d p h = h.0
each_at P (x ∷ xs) (suc n) d p h = each_at P xs n d p h.1

module _ (ds : List Definition) (fit : Each DefinitionIs ds) where
  linked_fits : (o : Option ℕ) → WhereSome LinkedFits (option_map (linked_at ds) o)
  linked_fits None = tt
  linked_fits (Some place) = each_at DefinitionIs ds place no_definition (tt, tt) fit

  leads_fit : (label : List ℕ) → WhereSome LinkedFits (linked_by ds label)
  leads_fit label = linked_fits (first_match label (labels_of ds))

module _ (e : LineEnding) (ds : List Definition) where
  abbrev ds' : List Definition
  ds' = map (definition_with e) ds

  labels-with : (all : List Definition) → labels_of (map (definition_with e) all) ≡ map (codes_with e) (labels_of all)
  labels-with [] = refl
  labels-with (d ∷ all) = ap (λ labels. codes_with e d.label ∷ labels) (labels-with all)

  linked_at-with : (place : ℕ) → linked_at ds' place ≡ linked_with e (linked_at ds place)
  linked_at-with place = ap (λ (d : Definition). link_texts d.destination d.title) (get_or-map (definition_with e) ds place no_definition)

  linked-with : (o : Option ℕ) → option_map (linked_at ds') o ≡ option_map (linked_with e) (option_map (linked_at ds) o)
  linked-with None = refl
  linked-with (Some place) = ap Some (linked_at-with place)

  -- labels lead where they led
  leads-with : (label : List ℕ) → linked_by ds' (codes_with e label) ≡ option_map (linked_with e) (linked_by ds label)
  leads-with label =
      ap (λ labels. option_map (linked_at ds') (first_match (codes_with e label) labels)) (labels-with ds)
      ∙ ap (option_map (linked_at ds')) (labels_law e label (labels_of ds))
      ∙ linked-with (first_match label (labels_of ds))

  is_label-with : (label : List ℕ) → is_label_of ds' label ≡ is_label_of ds label
  is_label-with label =
      ap (λ labels. is_some (first_match label labels)) (labels-with ds)
      ∙ ap (λ normal. is_some (place_of (normal_label label) normal)) (normal_labels-with e (labels_of ds))

  same_labels : is_label_of ds' ≡ is_label_of ds
  same_labels = λ i label. is_label-with label i

  -- whichever ending stands in them
  same_label : (label : List ℕ) → is_label_of ds (codes_with e label) ≡ is_label_of ds label
  same_label label = ap (λ normal. is_some (place_of normal (map normal_label (labels_of ds)))) (normal_label-with e label)

-- ---- the page of children of a document

-- the section of footnotes has no headings that get ids
section_printed : (e : LineEnding) (options : CompileOptions) (notes : List (List ℕ)) (calls : List NamedCall) → MayCall e options calls
    → PrintWith e options (section_pieces options (called_footnotes calls (map (with_ending e) notes))) (section_pieces options (called_footnotes calls notes))
section_printed e options notes calls may =
    let others = called_footnotes calls (map (with_ending e) notes) in
    let ones = called_footnotes calls notes in
    subst (λ ps. PrintWith e options ps (section_pieces options ones))
    (unnamed_ids options [] (section_pieces options others) (section_unnamed options others))
    (subst (PrintWith e options (with_ids options [] (section_pieces options others)))
    (unnamed_ids options [] (section_pieces options ones) (section_unnamed options ones)) (section-with e options notes calls may []).0.0)

-- pieces that print the same with this ending are a page that is the same with it
page_layout-with : (e : LineEnding) (options : CompileOptions) (others ones : List Piece) → ShownWith e options others ones
    → page_layout options (ending_bytes e) others ≡ with_ending e (page_layout options (ending_bytes LineFeed) ones)
page_layout-with e options others ones p =
    let calls = named_calls ones in
    let cut = p.1.cut (first_calls calls) [] in
    let other_shown = with_calls options (first_calls calls) [] others in
    let one_shown = with_calls options (first_calls calls) [] ones in
    let section : List (List ℕ) → List Piece = λ notes. section_pieces options (called_footnotes calls notes) in
    let page : List ℕ → List Piece → List (List Piece) → List ℕ = λ default outside insides.
    layout default (outside ++ section (map (layout default) insides)) in
    let default = ending_bytes LineFeed in
    let notes = map (layout default) cut.one_insides in
    let text = layout default cut.one_outside in
    ap (λ cs. let shown = with_calls options (first_calls cs) [] others in layout (ending_bytes e) (content zero (reverse shown)
    ++ section_pieces options (called_footnotes cs (map (layout (ending_bytes e)) (contents [] shown))))) p.1.calls
    ∙ ap (λ outside. page (ending_bytes e) outside (contents [] other_shown)) (outside_is other_shown cut.other_outside cut.other_insides cut.other_cut)
    ∙ ap (page (ending_bytes e) cut.other_outside) (insides_are other_shown cut.other_outside cut.other_insides cut.other_cut)
    ∙ ap (λ notes. layout (ending_bytes e) (cut.other_outside ++ section notes)) cut.insides_with
    ∙ fold-append (print (ending_bytes e)) [] cut.other_outside (section (map (with_ending e) notes))
    ∙ ap (λ out. fold (print (ending_bytes e)) out (section (map (with_ending e) notes))) (cut.outside_with [])
    ∙ section_printed e options notes calls p.1.may text
    ∙ sym (ap (with_ending e)
    (ap (λ outside. page default outside (contents [] one_shown)) (outside_is one_shown cut.one_outside cut.one_insides cut.one_cut)
    ∙ ap (page default cut.one_outside) (insides_are one_shown cut.one_outside cut.one_insides cut.one_cut)
    ∙ fold-append (print default) [] cut.one_outside (section notes)))

module _ (e : LineEnding) (tables : TextTables) (options : Options) (bs : tree.Blocks) (fit : BlocksFit bs)
    (notes : (footnotes bs ≡ []) ⊎ HaveNoFeeds options.compile) (texts : LinksHoldNoFeed options.compile) where
  abbrev ds : List Definition
  ds = document_definitions bs

  abbrev other_ds : List Definition
  other_ds = map (definition_with e) ds

  abbrev labels : List (List ℕ)
  labels = footnotes bs

  abbrev reading_by : (List ℕ → Bool) → Reading
  reading_by is_defined = record { parse = options.parse; tables = tables; is_defined = is_defined; is_footnote = is_footnote_of labels }

  abbrev meaning_by : List Definition → Meaning
  meaning_by all =
      record { on = options.parse.constructs; compile = options.compile; names = tables.names; definition = linked_by all; footnotes = labels }

  abbrev read_here : tree.Blocks → (List ℕ → Bool) → Bool → List ℕ → List ℕ
  read_here all is_defined blank default =
      page_layout options.compile default (with_ids options.compile []
      (children_pieces (meaning_by other_ds) at_top None (read_blocks (reading_by is_defined) on_page all) ++ fresh_unless (not blank)))

  ds_fit : Each DefinitionIs ds
  ds_fit = each_map DefinitionIs DefinitionIs with_spaces (definitions bs) spaced_fits (definitions_fit bs fit)

  same_call : (label : List ℕ) → is_footnote_of labels (codes_with e label) ≡ is_footnote_of labels label
  same_call label = ap (λ normal. is_some (place_of normal (map normal_label labels))) (normal_label-with e label)

  page-with : page_layout options.compile (ending_bytes e) (pieces tables options (page_with tables options.parse (targets other_ds labels) (blocks_with e bs)))
      ≡ with_ending e (page_layout options.compile (ending_bytes LineFeed) (pieces tables options (page_with tables options.parse (targets ds labels) bs)))
  page-with =
      let r = reading_by (is_label_of ds) in
      let all = group_items bs in
      let fits_grouped = grouped_good fits bs fit in
      let page = read_blocks r on_page all in
      let default = ending_bytes e in
      let blank' = ends_blank false (blocks_with e bs) in
      let end = fresh_unless (not (ends_blank false bs)) in
      let m = meaning_by ds in
      ap (λ is_defined. read_here (group_items (blocks_with e bs)) is_defined blank' default) (same_labels e ds)
      ∙ ap (λ items. read_here items (is_label_of ds) blank' default) (grouped-with e bs)
      ∙ ap (λ blank. read_here (blocks_with e all) (is_label_of ds) blank default) (ends_blank-with e false bs)
      ∙ ap (λ blocks. page_layout options.compile default (with_ids options.compile [] (children_pieces (meaning_by other_ds) at_top None blocks ++ end)))
      (read_blocks-with e r (same_label e ds) same_call on_page all fits_grouped)
      ∙ page_layout-with e options.compile (with_ids options.compile [] (children_pieces (meaning_by other_ds) at_top None (page_blocks_with e page) ++ end))
      (with_ids options.compile [] (children_pieces m at_top None page ++ end))
      (append-with e options.compile (children_pieces (meaning_by other_ds) at_top None (page_blocks_with e page)) (children_pieces m at_top None page) end end
      (children-with e m (linked_by other_ds) (leads-with e ds) (leads_fit ds ds_fit) notes texts at_top None page
      (read_blocks_fit e r (same_label e ds) same_call on_page all fits_grouped))
      (fresh_unless-with e m (linked_by other_ds) (leads-with e ds) (leads_fit ds ds_fit) notes texts (not (ends_blank false bs))) []).0

-- ---- the first ending of a text

holds_feed : List ℕ → Bool
holds_feed [] = false
holds_feed (b ∷ bs) = eqb b 10 || holds_feed bs

feed_held : (bs : List ℕ) (k : ℕ) → k < length bs → slice_index_or bs k 10 ≡ 10 → holds_feed bs ≡ true
unfolding holds_feed
feed_held [] k l h = absurd (omega (arith, l))
feed_held (b ∷ bs) zero l h = or_left (eqb b 10) (holds_feed bs) (eq-eqb b 10 h)
feed_held (b ∷ bs) (suc k) l h = or_right (eqb b 10) (holds_feed bs) (feed_held bs k (omega (arith, l)) h)

feed_after : (bs : List ℕ) (marked : Bool) → has_mark bs ≡ marked → holds_feed bs ≡ true → holds_feed (cond marked (drop 3 bs) bs) ≡ true
unfolding holds_feed
feed_after bs false m h = h
feed_after [] true m h = absurd (true≢false (sym h))
feed_after (a ∷ []) true m h = absurd (true≢false (sym m))
feed_after (a ∷ b ∷ []) true m h = absurd (true≢false (sym m))
feed_after (a ∷ b ∷ c ∷ cs) true m h =
    let p = and_parts _ (eqb c 191) m in
    let q = and_parts (eqb a 239) (eqb b 187) p.0 in
    let other : (n x : ℕ) → eqb n 10 ≡ false → eqb x n ≡ true → eqb x 10 ≡ false = λ n x no is. ap (λ y. eqb y 10) (eqb-true x n is) ∙ no in
    sym (ap (λ x. x || (eqb b 10 || (eqb c 10 || holds_feed cs))) (other 239 a refl q.0)
    ∙ ap (λ x. x || (eqb c 10 || holds_feed cs)) (other 187 b refl q.1)
    ∙ ap (λ x. x || holds_feed cs) (other 191 c refl p.1))
    ∙ h

ending_before : (b : ℕ) (ls : List TextLine) → (first_of (in_first_line b ls)).ending ≡ (first_of ls).ending
ending_before b [] = refl
ending_before b (line ∷ ls) = refl

first_by : (b : ℕ) (bs : List ℕ) (feed : Bool) → eqb b 10 ≡ feed → eqb b 13 ≡ false → (feed || holds_feed bs) ≡ true
    → (holds_feed bs ≡ true → (first_line bs).ending ≡ Some LineFeed) → (first_line (b ∷ bs)).ending ≡ Some LineFeed
first_by b bs true h k some more =
    let ls = lines bs in
    ap (λ feed. (first_of (cond feed (text_line [] (Some LineFeed) ∷ ls) (cond (eqb b 13) (after_return bs ls) (in_first_line b ls)))).ending) h
first_by b bs false h k some more = ap (λ ls. (first_of ls).ending) (lines_after-byte b bs h k) ∙ ending_before b (lines bs) ∙ more some

first_feed : (bs : List ℕ) → Each ByteFits bs → holds_feed bs ≡ true → (first_line bs).ending ≡ Some LineFeed
unfolding holds_feed
first_feed [] p h = absurd (true≢false (sym h))
first_feed (b ∷ bs) p h = first_by b bs (eqb b 10) refl p.0.0 h (λ some. first_feed bs p.1 some)

first_mapped : (e : LineEnding) (ls : List TextLine) → (first_of (map (text_line_with e) ls)).ending ≡ if_ending_with e (first_of ls).ending
first_mapped e [] = refl
first_mapped e (line ∷ ls) = refl

-- ---- the whole

bytes_fit : (text : List ℕ) → HasNoReturn text → All (λ b. b ≢ 38) text → Each IsTextByte text → Each ByteFits text
bytes_fit [] p q r = tt
bytes_fit (b ∷ bs) p q r = (
  (ne_eqb b 13 (p 0 b (omega arith)), (ne_eqb b 38 (q 0 b (omega arith)), r.0)),
  bytes_fit bs (All-tail (λ x. x ≢ 13) b bs p) (All-tail (λ x. x ≢ 38) b bs q) r.1,
)

-- what holds of a text and of each end of it holds of it without its byte order mark
unmarked : (P : List ℕ → Type 0) (text : List ℕ) → P text → P (drop 3 text) → P (without_mark text)
unmarked P text p q = cond_both (has_mark text) (drop 3 text) text P (λ _. q) (λ _. p)

-- a text without byte order mark, after a character of this kind
module _ (e : LineEnding) (tables : TextTables) (options : Options) (kind : Kind) (text : List ℕ) (bytes : Each ByteFits text) (whole : AreWhole text)
    (no_return : HasNoReturn text) (feed : (first_line text).ending ≡ Some LineFeed) (fit : OptionsHoldNoFeed options) where
  abbrev printed : List ℕ → Page → List ℕ
  printed default page = page_layout options.compile default (pieces tables options page)

  abbrev bs : tree.Blocks
  bs = tree.blocks options.parse.constructs kind text

  abbrev page_by : List Definition → List (List ℕ) → tree.Blocks → Page
  page_by ds labels all = page_with tables options.parse (targets ds labels) all

  -- a page without footnotes, or texts without LF around them
  notes_by : (has : Bool) → options.parse.constructs.gfm_footnote_definition ≡ has → (footnotes bs ≡ []) ⊎ HaveNoFeeds options.compile
  notes_by true h = inr (fit.0 h)
  notes_by false h = inl (no_footnotes options.parse.constructs kind text h)

  other_default : default_ending options (with_ending e text) ≡ ending_bytes e
  other_default =
      ap (λ ls. ending_bytes (unwrap_or (first_of ls).ending options.compile.default_line_ending)) (ending_lines_law e text no_return)
      ∙ ap (λ ending. ending_bytes (unwrap_or ending options.compile.default_line_ending)) (first_mapped e (lines text) ∙ ap (if_ending_with e) feed)

  own_default : default_ending options text ≡ ending_bytes LineFeed
  own_default = ap (λ ending. ending_bytes (unwrap_or ending options.compile.default_line_ending)) feed

  printed-with : printed (default_ending options (with_ending e text)) (read_after kind tables options.parse (with_ending e text))
      ≡ with_ending e (printed (default_ending options text) (read_after kind tables options.parse text))
  printed-with =
      let on = options.parse.constructs in
      let all = tree.blocks on kind (with_ending e text) in
      let ds = document_definitions bs in
      let ds' = map (definition_with e) ds in
      let default = ending_bytes e in
      ap (λ other. printed other (page_by (document_definitions all) (footnotes all) all)) other_default
      ∙ ap (λ others. printed default (page_by others (footnotes all) all)) (definitions_law e on kind text no_return)
      ∙ ap (λ labels. printed default (page_by ds' labels all)) (footnotes_law e on kind text no_return)
      ∙ ap (λ blocks. printed default (page_by ds' (footnotes bs) blocks)) (blocks_law e on kind text no_return)
      ∙ page-with e tables options bs (blocks_fit on kind text (text_lines_fit text bytes whole)) (notes_by on.gfm_footnote_definition refl) fit.1
      ∙ sym (ap (λ other. with_ending e (printed other (page_by ds (footnotes bs) bs))) own_default)

pub printed_ending_law : PrintedEndingLaw
printed_ending_law e tables text options h fit =
    let s = utf8_spelled text h.0 in
    let bytes = bytes_fit text h.2 h.3 s.bytes in
    let rest = without_mark text in
    let kind = kind_before_text text in
    let rest_bytes = unmarked (Each ByteFits) text bytes (each-drop ByteFits 3 text bytes) in
    let feeds = feed_held text h.1.0 h.1.1 h.1.2 in
    ap (λ t. page_layout options.compile (default_ending options t)
    (pieces tables options (read_after (kind_before_text (with_ending e text)) tables options.parse t)))
    (without_mark-with e text)
    ∙ ap (λ k. page_layout options.compile (default_ending options (with_ending e rest))
    (pieces tables options (read_after k tables options.parse (with_ending e rest))))
    (kind_before-with e text)
    ∙ printed-with e tables options kind rest rest_bytes (unmarked AreWhole text s.whole (whole-drop 3 text s.whole))
    (unmarked HasNoReturn text h.2 (All-drop (λ b. b ≢ 13) 3 text h.2)) (first_feed rest rest_bytes (feed_after text (has_mark text) refl feeds)) fit

-- where raw HTML isn't kept by the list
pub ending_page_law : EndingPageLaw
ending_page_law e tables text options off h fit =
    unlisted_law tables (with_ending e text) options off
    ∙ printed_ending_law e tables text options h fit
    ∙ sym (ap (with_ending e) (unlisted_law tables text options off))
