-- What a leaf of inline structure says and prints, and how it stands in a cell of a table, with another line ending in place of each LF.
use Rattle.std.proofs.Common.{◌≡◌, ℕ, Bool, true, false, ◌||◌, List, [], ◌∷◌, ◌++◌, refl, sym, true≢false, subst}
use Rattle.laws_endings.proofs.Prelude.{attribute, Attribute, attribute_bytes, Autolink, Character, Code, code_with, codes, codes_with, CompileOptions}
use Rattle.laws_endings.proofs.Prelude.{cond_both, Data, element, EndOfLine, Escape, href_protocols, Html, InlineLeaf, leaf_with, LineEnd, LineEnding}
use Rattle.laws_endings.proofs.Prelude.{link_url, Literal, Math, percent, Says, tag, TaskCheck, TrailingBreak, Words}
use Rattle.definition_inline.specs.Inline.{EscapedBreak}
use Rattle.definition_page.specs.Urls.{permits, sanitize}
use Rattle.definition_page.specs.GfmTable.{escapes_bar, cell_code, leaf_in_cell}
use Rattle.definition_page.specs.GfmTaskListItem.{checkable_attributes, done_attributes}
use Rattle.definition_page.specs.InlinePieces.{permitted_url, address, literal_address, math_tag, leaf_says, address_tag, leaf_pieces, rel_attributes}
use Rattle.definition_page.specs.InlinePieces.{html_says}
use Rattle.laws_endings.specs.PageLaws.{LinksHoldNoFeed}
use Rattle.laws_endings.proofs.HeadingIds.{rel-with}
use Rattle.laws_endings.proofs.Each.{Each}
use Rattle.laws_endings.proofs.Fits.{Plain}
use Rattle.laws_endings.proofs.Parts.{IsFitLeaf}
use Rattle.laws_endings.proofs.Bytes.{IsNoFeed, percent_no_feed, eol-with}
use Rattle.laws_endings.proofs.Saids.{plains_no_feed, codes-kept, SaidsWith, says_one, words-kept, words-codes, html_says-with}
use Rattle.laws_endings.proofs.Pieces.{BytesWith, AttributesWith, attribute-with, more_attributes, PiecesWith, said-with, void_piece-with, element-with}
use Rattle.laws_endings.proofs.Pieces.{saids-with}

-- ---- in cells of tables

code_fits : (text : List ℕ) → Each Plain text → Each Plain (cell_code text)
code_fits [] p = tt
code_fits (c ∷ cs) p =
    cond_both (escapes_bar c cs) (cell_code cs) (c ∷ cell_code cs) (Each Plain) (λ _. code_fits cs p.1) (λ _. (p.0, code_fits cs p.1))

pub cell_leaf_fits : (part : InlineLeaf) → IsFitLeaf part → IsFitLeaf (leaf_in_cell part)
cell_leaf_fits (Code text) p = code_fits text p
cell_leaf_fits (Math text) p = code_fits text p
cell_leaf_fits other p = p

module _ (e : LineEnding) where
  pub cell_leaf-with : (part : InlineLeaf) → leaf_in_cell (leaf_with e part) ≡ leaf_with e (leaf_in_cell part)
  cell_leaf-with (Code text) = refl
  cell_leaf-with other = refl

  -- ---- URLs

  url_no_feed : (all : Bool) (protocols : List (List ℕ)) (url : List ℕ) → Each IsNoFeed (permitted_url all protocols url)
  url_no_feed all protocols url =
      cond_both (all || permits protocols (sanitize url)) (percent url) [] (Each IsNoFeed) (λ _. percent_no_feed url) (λ _. tt)

  -- an attribute with a URL
  pub url_attribute-with : (name : List ℕ) → BytesWith e name name → (all : Bool) (protocols : List (List ℕ)) (url : List ℕ)
      → BytesWith e (attribute_bytes (attribute name (permitted_url all protocols url))) (attribute_bytes (attribute name (permitted_url all protocols url)))
  url_attribute-with name p all protocols url =
      let words = Words (permitted_url all protocols url) in
      attribute-with e name (words ∷ []) (words ∷ []) p
      (says_one e words words (words-kept e (permitted_url all protocols url) (url_no_feed all protocols url)))

  module _ (options : CompileOptions) where
    -- ---- what a leaf says

    text_says : (text : List ℕ) → Each Plain text → SaidsWith e (Words text ∷ []) (Words text ∷ [])
    text_says text p = says_one e (Words text) (Words text) (words-kept e text (plains_no_feed text p))

    pub leaf_says-with : (part : InlineLeaf) → IsFitLeaf part → SaidsWith e (leaf_says options (leaf_with e part)) (leaf_says options part)
    leaf_says-with (Data b) p = text_says (b ∷ []) (p, tt)
    leaf_says-with (Escape b) p = text_says (b ∷ []) (p, tt)
    leaf_says-with (Character text) p = absurd (true≢false p)
    leaf_says-with (Code text) p = text_says text p
    leaf_says-with (Math text) p = text_says text p
    leaf_says-with (Autolink is_email text) p = says_one e (Words (codes_with e text)) (Words text) (words-codes e text (plains_no_feed text p))
    leaf_says-with (Literal kind text) p = text_says text p
    leaf_says-with (Html html) p = html_says-with e true options html p
    leaf_says-with (LineEnd code) p = says_one e (EndOfLine (code_with e code)) (EndOfLine code) (eol-with e code p.1)
    leaf_says-with other p = refl

    -- ---- what a leaf prints

    -- a tag around a text
    text_in : (name : List ℕ) (attributes : List Attribute) (text : List ℕ) → BytesWith e name name → AttributesWith e attributes attributes → Each Plain text
        → PiecesWith e options (element (tag name attributes) (Says (Words text) ∷ [])) (element (tag name attributes) (Says (Words text) ∷ []))
    text_in name attributes text p q r =
        element-with e options name attributes attributes (Says (Words text) ∷ []) (Says (Words text) ∷ []) p q
        (said-with e options (Words text) (Words text) (words-kept e text (plains_no_feed text r)))

    address_piece : LinksHoldNoFeed options → (url text : List ℕ) → Each Plain text
        → PiecesWith e options (element (address_tag options url) (Says (Words text) ∷ [])) (element (address_tag options url) (Says (Words text) ∷ []))
    address_piece texts url text p =
        let href = attribute (codes "href") (link_url options url) in
        let rel = rel_attributes options.link_rel in
        text_in (codes "a") (href ∷ rel) text refl
        (more_attributes e href href rel rel (url_attribute-with (codes "href") refl options.allow_dangerous_protocol href_protocols url)
        (rel-with e options texts)) p

    abbrev box_attributes : Bool → Bool → List Attribute
    box_attributes checkable done = attribute (codes "type") (codes "checkbox") ∷ checkable_attributes checkable ++ done_attributes done

    box_kept : (checkable done : Bool) → AttributesWith e (box_attributes checkable done) (box_attributes checkable done)
    box_kept true true = refl
    box_kept true false = refl
    box_kept false true = refl
    box_kept false false = refl

    pub leaf_pieces-with : LinksHoldNoFeed options → (part : InlineLeaf) → IsFitLeaf part
        → PiecesWith e options (leaf_pieces options (leaf_with e part)) (leaf_pieces options part)
    leaf_pieces-with texts (Code text) p = text_in (codes "code") [] text refl refl p
    leaf_pieces-with texts (Math text) p = text_in (codes "code") math_tag.attributes text refl refl p
    leaf_pieces-with texts (Autolink is_email text) p =
        subst (λ t. PiecesWith e options (leaf_pieces options (Autolink is_email t)) (leaf_pieces options (Autolink is_email text)))
        (sym (codes-kept e text (plains_no_feed text p))) (address_piece texts (address is_email text) text p)
    leaf_pieces-with texts (Literal kind text) p = address_piece texts (literal_address kind text) text p
    leaf_pieces-with texts EscapedBreak p = void_piece-with e options (codes "br") [] [] refl refl
    leaf_pieces-with texts TrailingBreak p = void_piece-with e options (codes "br") [] [] refl refl
    leaf_pieces-with texts (TaskCheck done) p =
        let attributes = box_attributes options.gfm_task_list_item_checkable done in
        void_piece-with e options (codes "input") attributes attributes refl (box_kept options.gfm_task_list_item_checkable done)
    leaf_pieces-with texts (Html html) p =
        saids-with e options (html_says false options (codes_with e html)) (html_says false options html) (html_says-with e false options html p)
    leaf_pieces-with texts other p = saids-with e options (leaf_says options (leaf_with e other)) (leaf_says options other) (leaf_says-with other p)
