-- The footnotes at a page's end, with another line ending in place of each LF.
use Rattle.std.proofs.Common.{◌≡◌, ℕ, zero, suc, ◌-◌, Bool, true, false, cond, List, [], ◌∷◌, ◌++◌, Option, None, Some, String, string_bytes, refl, sym, ap}
use Rattle.std.proofs.Common.{◌∙◌, map, take, drop, arith, length, subst, inl, inr}
use Rattle.laws_endings.proofs.Prelude.{AsItIs, attribute, Attribute, bare_tag, call_id, called_footnotes, Close, codes, CompileOptions, cond_both, element}
use Rattle.laws_endings.proofs.Prelude.{encode, ended_size, first_calls, footnote_id, Fresh, get_or-map, HasNoFeed, HaveNoFeeds, leads_to_id, LineEnding}
use Rattle.laws_endings.proofs.Prelude.{NamedCall, nat_le, Number, Open, Piece, plain, Says, section_pieces, slice_index_or, text_or, times, with_ending}
use Rattle.laws_endings.proofs.Prelude.{Words}
use Rattle.definition_page.specs.GfmFootnoteDefinition.{Footnote, back_tag, arrow, count_pieces, back_pieces, space_after, backs_pieces, with_backs}
use Rattle.definition_page.specs.GfmFootnoteDefinition.{content_pieces, item_tag, footnote_pieces, footnotes_pieces, section_heading_name, section_heading_tag}
use Rattle.definition_page.specs.GfmFootnoteDefinition.{heading_pieces}
use Rattle.definition_page.specs.GfmFootnoteDefinition.{section_tag}
use Rattle.definition_page.specs.Layout.{footnote_of}
use Rattle.laws_endings.proofs.Each.{Each}
use Rattle.laws_endings.proofs.Bytes.{IsNoFeed, given_no_feed, kept, plain-with}
use Rattle.laws_endings.proofs.Saids.{SaidWith, then-with, says_one, words-kept}
use Rattle.laws_endings.proofs.Pieces.{BytesWith, AttributesWith, attribute-with, MayCall, PiecesWith, no_pieces, append-with, more-with, said-with}
use Rattle.laws_endings.proofs.Pieces.{open-with, close-with, fresh-then, then-fresh, element-with}
use Rattle.laws_endings.proofs.GfmLabelStartFootnote.{text_no_feed, number-with, footnote_id-with, call_id-with, leads_to-with, same_attribute}
use Rattle.laws_endings.proofs.ParagraphEnds.{ends_in_paragraph, paragraph-with, cut-with}

module _ (e : LineEnding) (options : CompileOptions) where
  -- pieces that print with this ending what they print without it
  abbrev IsSame : List Piece → Type 0
  IsSame ps = PiecesWith e options ps ps

  same-says : (text : List ℕ) → BytesWith e (encode text) (encode text) → IsSame (Says (Words text) ∷ [])
  same-says text p = said-with e options (Words text) (Words text) p

  as_it_is-with : (other one : List ℕ) → other ≡ with_ending e one → PiecesWith e options (Says (AsItIs other) ∷ []) (Says (AsItIs one) ∷ [])
  as_it_is-with other one p = said-with e options (AsItIs other) (AsItIs one) (ap plain p ∙ plain-with e one)

  -- ---- the HTML of a footnote with the ways back

  content_by : (html : List ℕ) (backs : List Piece) → IsSame backs → (ends : Bool) → ends_in_paragraph e html ≡ ends
      → PiecesWith e options (with_backs (with_ending e html) backs (cond ends (Some (ended_size (with_ending e html) - 4)) None))
      (with_backs html backs (cond ends (Some (ended_size html - 4)) None))
  content_by html backs p true h =
      let other = with_ending e html in
      let n = ended_size other - 4 in
      let k = ended_size html - 4 in
      let space = Says (Words (codes " ")) in
      let cuts = cut-with e html h in
      more-with e options (Says (AsItIs (take n other))) (Says (AsItIs (take k html))) (space ∷ backs ++ Says (AsItIs (drop n other)) ∷ [])
      (space ∷ backs ++ Says (AsItIs (drop k html)) ∷ []) (as_it_is-with (take n other) (take k html) cuts.0)
      (more-with e options space space (backs ++ Says (AsItIs (drop n other)) ∷ []) (backs ++ Says (AsItIs (drop k html)) ∷ []) (same-says (codes " ") refl)
      (append-with e options backs backs (Says (AsItIs (drop n other)) ∷ []) (Says (AsItIs (drop k html)) ∷ []) p
      (as_it_is-with (drop n other) (drop k html) cuts.1)))
  content_by html backs p false h =
      let other = with_ending e html in
      more-with e options (Says (AsItIs other)) (Says (AsItIs html)) (Fresh ∷ backs) (Fresh ∷ backs) (as_it_is-with other html refl)
      (fresh-then e options backs backs p)

  content-with : (html : List ℕ) (backs : List Piece) → IsSame backs
      → PiecesWith e options (content_pieces (with_ending e html) backs) (content_pieces html backs)
  content-with html backs p =
      let other = with_ending e html in
      subst (λ ends. PiecesWith e options (with_backs other backs (cond ends (Some (ended_size other - 4)) None)) (content_pieces html backs))
      (sym (paragraph-with e html)) (content_by html backs p (ends_in_paragraph e html) refl)

  module _ (fit : HaveNoFeeds options) where
    -- a text of the options that is printed
    words-with : {A : Type 0} (text : Option (String A)) (default : List ℕ) → HasNoFeed text → Each IsNoFeed default
        → SaidWith e (Words (text_or text default)) (Words (text_or text default))
    words-with text default p q = words-kept e (text_or text default) (text_no_feed text default p q)

    -- ---- ways back

    abbrev back_label : List ℕ
    back_label = text_or options.gfm_footnote_back_label (codes "Back to content")

    back_label-with : SaidWith e (Words back_label) (Words back_label)
    back_label-with = words-with options.gfm_footnote_back_label (codes "Back to content") fit.way_back (given_no_feed (codes "Back to content") refl)

    back_tag-with : (label : List ℕ) (count : ℕ) → AttributesWith e (back_tag options label count).attributes (back_tag options label count).attributes
    back_tag-with label count =
        let class = attribute (codes "class") (codes "data-footnote-backref") ∷ [] in
        let says = attribute (codes "aria-label") back_label in
        let back = attribute (codes "data-footnote-backref") [] in
        let id = call_id options label count in
        same_attribute e options fit (leads_to_id id) (back ∷ says ∷ class) (leads_to-with e options fit id (call_id-with e options fit label count))
        (same_attribute e options fit back (says ∷ class) refl
        (same_attribute e options fit says class
        (attribute-with e (codes "aria-label") says.value says.value refl (says_one e (Words back_label) (Words back_label) back_label-with)) refl))

    count-with : (count : ℕ) → IsSame (count_pieces count)
    count-with count =
        let number = Says (Number count) ∷ [] in
        cond_both (nat_le count 1) [] (element (bare_tag (codes "sup")) number) IsSame (λ _. no_pieces e options)
        (λ _. element-with e options (codes "sup") [] [] number number refl refl
        (said-with e options (Number count) (Number count) (number-with e options fit count)))

    back-with : (label : List ℕ) (count : ℕ) → IsSame (back_pieces options label count)
    back-with label count =
        let own = (back_tag options label count).attributes in
        let inside = Says (Words arrow) ∷ count_pieces count in
        element-with e options (codes "a") own own inside inside refl (back_tag-with label count)
        (more-with e options (Says (Words arrow)) (Says (Words arrow)) (count_pieces count) (count_pieces count) (same-says arrow refl) (count-with count))

    space-with : (count : ℕ) → IsSame (space_after count)
    space-with zero = no_pieces e options
    space-with (suc count) = same-says (codes " ") refl

    backs-with : (label : List ℕ) (count : ℕ) → IsSame (backs_pieces options label count)
    backs-with label zero = no_pieces e options
    backs-with label (suc count) =
        let more = backs_pieces options label count in
        let space = space_after count in
        let back = back_pieces options label (suc count) in
        append-with e options (more ++ space) (more ++ space) back back
        (append-with e options more more space space (backs-with label count) (space-with count)) (back-with label (suc count))

    -- ---- a footnote

    abbrev note : List ℕ → ℕ → List ℕ → Footnote
    note label calls html = record { label = label; calls = calls; html = html }

    item-with : (label : List ℕ) → AttributesWith e (item_tag options label).attributes (item_tag options label).attributes
    item-with label =
        let id : Attribute = record { name = codes "id"; value = footnote_id options label } in
        same_attribute e options fit id [] (attribute-with e (codes "id") id.value id.value refl (footnote_id-with e options fit label)) refl

    footnote-with : (label : List ℕ) (calls : ℕ) (html : List ℕ)
        → PiecesWith e options (footnote_pieces options (note label calls (with_ending e html))) (footnote_pieces options (note label calls html))
    footnote-with label calls html =
        let backs = backs_pieces options label calls in
        let other = content_pieces (with_ending e html) backs in
        let one = content_pieces html backs in
        let own = (item_tag options label).attributes in
        let item = item_tag options label in
        fresh-then e options (element item (Fresh ∷ other ++ Fresh ∷ [])) (element item (Fresh ∷ one ++ Fresh ∷ []))
        (element-with e options (codes "li") own own (Fresh ∷ other ++ Fresh ∷ []) (Fresh ∷ one ++ Fresh ∷ []) refl (item-with label)
        (then-fresh e options (Fresh ∷ other) (Fresh ∷ one) (fresh-then e options other one (content-with html backs (backs-with label calls)))))

    footnotes-with : (notes : List (List ℕ)) (calls cs : List NamedCall)
        → PiecesWith e options (footnotes_pieces options (map (footnote_of calls (map (with_ending e) notes)) cs))
        (footnotes_pieces options (map (footnote_of calls notes) cs))
    footnotes-with notes calls [] = no_pieces e options
    footnotes-with notes calls (c ∷ cs) =
        let html = slice_index_or notes c.place [] in
        let others = map (with_ending e) notes in
        let count = times c.place calls in
        append-with e options (footnote_pieces options (footnote_of calls others c)) (footnote_pieces options (footnote_of calls notes c))
        (footnotes_pieces options (map (footnote_of calls others) cs)) (footnotes_pieces options (map (footnote_of calls notes) cs))
        (subst (λ text. PiecesWith e options (footnote_pieces options (note c.label count text)) (footnote_pieces options (note c.label count html)))
        (sym (get_or-map (with_ending e) notes c.place [])) (footnote-with c.label count html))
        (footnotes-with notes calls cs)

    -- ---- the section

    name-with : BytesWith e (section_heading_name options) (section_heading_name options)
    name-with = words-with options.gfm_footnote_label_tag_name (codes "h2") fit.heading_name (given_no_feed (codes "h2") refl)

    abbrev title : List ℕ
    title = text_or options.gfm_footnote_label (codes "Footnotes")

    title-with : SaidWith e (Words title) (Words title)
    title-with = words-with options.gfm_footnote_label (codes "Footnotes") fit.heading (given_no_feed (codes "Footnotes") refl)

    open_heading-with : {A : Type 0} (name : List ℕ) (attributes : Option (String A)) → BytesWith e name name → HasNoFeed attributes
        → IsSame (Open (section_heading_tag name attributes) ∷ [])
    open_heading-with name None p q =
        let own = attribute (codes "id") (codes "footnote-label") ∷ attribute (codes "class") (codes "sr-only") ∷ [] in
        open-with e options name own own p refl
    open_heading-with name (Some attributes) p q =
        let id = codes " id=\"footnote-label\" " in
        let text = string_bytes attributes in
        open-with e options (name ++ id ++ text) [] []
        (then-with e (name ++ id) (name ++ id) text text (then-with e name name id id p refl)
        (sym (kept e text (text_no_feed (Some attributes) [] q tt)))) refl

    heading-with : IsSame (heading_pieces options)
    heading-with =
        let name = section_heading_name options in
        let first = Open (section_heading_tag name options.gfm_footnote_label_attributes) in
        let says = Says (Words title) in
        more-with e options first first (says ∷ Close name ∷ []) (says ∷ Close name ∷ [])
        (open_heading-with name options.gfm_footnote_label_attributes name-with fit.heading_attributes)
        (more-with e options says says (Close name ∷ []) (Close name ∷ [])
        (same-says title title-with) (close-with e options name name-with))

    -- what stands around the footnotes
    abbrev in_section : List Piece → List Piece
    in_section ps =
        let list = element (bare_tag (codes "ol")) (ps ++ Fresh ∷ []) in
        Fresh ∷ element section_tag (heading_pieces options ++ Fresh ∷ list ++ Fresh ∷ []) ++ Fresh ∷ []

    around-with : (others ones : List Piece) → PiecesWith e options others ones → PiecesWith e options (in_section others) (in_section ones)
    around-with others ones p =
        let list : List Piece → List Piece = λ ps. element (bare_tag (codes "ol")) (ps ++ Fresh ∷ []) in
        let heading = heading_pieces options in
        let all : List Piece → List Piece = λ ps. heading ++ Fresh ∷ list ps ++ Fresh ∷ [] in
        then-fresh e options (Fresh ∷ element section_tag (all others)) (Fresh ∷ element section_tag (all ones))
        (fresh-then e options (element section_tag (all others)) (element section_tag (all ones))
        (element-with e options (codes "section") section_tag.attributes section_tag.attributes (all others) (all ones) refl refl
        (then-fresh e options (heading ++ Fresh ∷ list others) (heading ++ Fresh ∷ list ones)
        (append-with e options heading heading (Fresh ∷ list others) (Fresh ∷ list ones) heading-with
        (fresh-then e options (list others) (list ones)
        (element-with e options (codes "ol") [] [] (others ++ Fresh ∷ []) (ones ++ Fresh ∷ []) refl refl (then-fresh e options others ones p)))))))

  pub section-with : (notes : List (List ℕ)) (calls : List NamedCall) → MayCall e options calls
      → PiecesWith e options (section_pieces options (called_footnotes calls (map (with_ending e) notes)))
      (section_pieces options (called_footnotes calls notes))
  section-with notes [] may = no_pieces e options
  section-with notes (c ∷ cs) (inl none) = absurd (omega (arith, ap length none))
  section-with notes (c ∷ cs) (inr fit) =
      around-with fit (footnotes_pieces options (called_footnotes (c ∷ cs) (map (with_ending e) notes)))
      (footnotes_pieces options (called_footnotes (c ∷ cs) notes))
      (footnotes-with fit notes (c ∷ cs) (first_calls (c ∷ cs)))
