-- Ids of headings and other attributes that the options ask for, with another line ending in place of each LF: none is in them.
use Rattle.std.proofs.Common.{◌≡◌, ℕ, zero, suc, Bool, true, List, [], ◌∷◌, ◌++◌, Option, None, Some, String, string_bytes, refl, sym, ap, ◌∙◌, arith, eqb, ltb}
use Rattle.laws_endings.proofs.Prelude.{attribute, Attribute, Autolink, bare_tag, codes, CompileOptions, Cons, cond_both, element, eqb-true, Fresh}
use Rattle.laws_endings.proofs.Prelude.{HasNoFeed, Image, Inline, inline_with}
use Rattle.laws_endings.proofs.Prelude.{Inlines, inlines_with, InlineLeaf, Leaf, leaf_with, LineEnding, Link, Linked, ne_eqb, Nil, false_from_ne_true}
use Rattle.laws_endings.proofs.Prelude.{nat_le, Piece, plain, Says, section_pieces, Span, text_or, true≢false, Words, Call, Close}
use Rattle.std.specs.Char.{encode_utf8}
use Rattle.definition_page.specs.Destinations.{heading_prefix}
use Rattle.definition_page.specs.GfmFootnoteDefinition.{Footnote, back_tag, arrow, count_pieces, back_pieces, space_after, backs_pieces, with_backs}
use Rattle.definition_page.specs.GfmFootnoteDefinition.{content_pieces, paragraph_end, item_tag}
use Rattle.definition_page.specs.GfmFootnoteDefinition.{footnote_pieces, footnotes_pieces, heading_pieces, section_tag}
use Rattle.definition_page.specs.HeadingIds.{is_note_id, id_attributes}
use Rattle.definition_page.specs.HeadingText.{leaf_text, part_text, heading_text}
use Rattle.definition_page.specs.InlinePieces.{rel_attributes, loading_attributes}
use Rattle.definition_page.specs.Slug.{is_kept, next_slug}
use Rattle.definition_page.specs.Tags.{Tag}
use Rattle.definition_page.proofs.HeadingIds.{IsUnnamed, AreUnnamed}
use Rattle.definition_page.proofs.SlugBytes.{feed_not_kept, next_slug_good}
use Rattle.laws_endings.specs.PageLaws.{LinksHoldNoFeed}
use Rattle.definition_text.proofs.Each.{Each, each-append, each_flat_map}
use Rattle.laws_endings.proofs.Parts.{IsFitLeaf, IsFit, AreFit}
use Rattle.laws_endings.proofs.Bytes.{IsNoFeed, decimal_no_feed}
use Rattle.laws_endings.proofs.Saids.{plains_no_feed, codes-kept, says_more, says_one, words-kept}
use Rattle.laws_endings.proofs.Pieces.{AttributesWith, attribute-with, more_attributes}
use Rattle.laws_endings.proofs.GfmLabelStartFootnote.{text_no_feed}

-- ---- the text of a heading

module _ (e : LineEnding) where
  leaf_text-with : (part : InlineLeaf) → IsFitLeaf part → leaf_text (leaf_with e part) ≡ leaf_text part
  leaf_text-with (Autolink is_email text) p = ap plain (codes-kept e text (plains_no_feed text p))
  leaf_text-with part p = refl

  mutual
    part_text-with : (i : Inline) → IsFit i → part_text (inline_with e i) ≡ part_text i
    part_text-with (Leaf part) p = leaf_text-with part p
    part_text-with (Span kind kids) p = heading_text-with kids p
    part_text-with (Linked Link target kids) p = heading_text-with kids p.1
    part_text-with (Linked Image target kids) p = refl
    part_text-with (Call label) p = refl

    pub heading_text-with : (is : Inlines) → AreFit is → heading_text (inlines_with e is) ≡ heading_text is
    heading_text-with Nil p = refl
    heading_text-with (Cons i is) p =
        ap (λ text. text ++ heading_text (inlines_with e is)) (part_text-with i p.0) ∙ ap (λ text. part_text i ++ text) (heading_text-with is p.1)

-- ---- slugs

kept_no_feed : (c : ℕ) → is_kept c ≡ true → IsNoFeed c
kept_no_feed c h =
    false_from_ne_true (eqb c 10) (λ is. true≢false (sym h ∙ ap is_kept (eqb-true c 10 is) ∙ feed_not_kept))

-- a byte of a character other than LF
encoded_no_feed : (c : ℕ) → IsNoFeed c → Each IsNoFeed (encode_utf8 c)
unfolding encode_utf8
encoded_no_feed c h =
    cond_both (ltb c 128) (c ∷ []) _ (Each IsNoFeed) (λ _. (h, tt))
    (λ _. cond_both (ltb c 2048) _ _ (Each IsNoFeed)
    (λ _. (ne_eqb _ 10 (λ is. omega (arith, is)), (ne_eqb _ 10 (λ is. omega (arith, is)), tt)))
    (λ _. cond_both (ltb c 65536) _ _ (Each IsNoFeed)
    (λ _. (ne_eqb _ 10 (λ is. omega (arith, is)), (ne_eqb _ 10 (λ is. omega (arith, is)), (ne_eqb _ 10 (λ is. omega (arith, is)), tt))))
    (λ _. (
      ne_eqb _ 10 (λ is. omega (arith, is)),
      (
        ne_eqb _ 10 (λ is. omega (arith, is)),
        (ne_eqb _ 10 (λ is. omega (arith, is)), (ne_eqb _ 10 (λ is. omega (arith, is)), tt)),
      ),
    ))))

slug_no_feed : (taken : List (List ℕ)) (text : List ℕ) → Each IsNoFeed (next_slug taken text)
slug_no_feed taken text = next_slug_good IsNoFeed refl (λ c h. encoded_no_feed c (kept_no_feed c h)) decimal_no_feed taken text

-- ---- attributes

module _ (e : LineEnding) (options : CompileOptions) (texts : LinksHoldNoFeed options) where
  prefix_no_feed : Each IsNoFeed (heading_prefix options)
  prefix_no_feed =
      cond_both options.heading_ids (text_or options.heading_id_prefix []) [] (Each IsNoFeed)
      (λ on. text_no_feed options.heading_id_prefix [] (texts.id_prefix on) tt) (λ _. tt)

  id_by : (slug : List ℕ) → Each IsNoFeed slug → AttributesWith e (id_attributes options slug ++ []) (id_attributes options slug ++ [])
  id_by [] h = refl
  id_by (b ∷ bs) h =
      let prefix = heading_prefix options in
      let slug = b ∷ bs in
      let value = Words prefix ∷ Words slug ∷ [] in
      let id : Attribute = record { name = codes "id"; value = value } in
      cond_both (is_note_id options (prefix ++ slug)) [] (id ∷ []) (λ all. AttributesWith e (all ++ []) (all ++ [])) (λ _. refl)
      (λ _. more_attributes e id id [] []
      (attribute-with e (codes "id") value value refl
      (says_more e (Words prefix) (Words prefix) (Words slug ∷ []) (Words slug ∷ []) (words-kept e prefix prefix_no_feed)
      (says_one e (Words slug) (Words slug) (words-kept e slug h)))) refl)

  pub id-with : (taken : List (List ℕ)) (text : List ℕ)
      → let id = id_attributes options (next_slug taken text) ++ [] in AttributesWith e id id
  id-with taken text = id_by (next_slug taken text) (slug_no_feed taken text)

  rel_by : {A : Type 0} (rel : Option (String A)) → HasNoFeed rel → AttributesWith e (rel_attributes rel) (rel_attributes rel)
  rel_by None h = refl
  rel_by (Some text) h =
      let words = Words (string_bytes text) in
      let rel = attribute (codes "rel") (string_bytes text) in
      more_attributes e rel rel [] []
      (attribute-with e (codes "rel") (words ∷ []) (words ∷ []) refl
      (says_one e words words (words-kept e (string_bytes text) (text_no_feed (Some text) [] h tt)))) refl

  pub rel-with : AttributesWith e (rel_attributes options.link_rel) (rel_attributes options.link_rel)
  rel-with = rel_by options.link_rel texts.rel

pub loading-with : (e : LineEnding) (lazy : Bool) → AttributesWith e (loading_attributes lazy) (loading_attributes lazy)
loading-with e lazy =
    cond_both lazy (attribute (codes "loading") (codes "lazy") ∷ []) [] (λ all. AttributesWith e all all) (λ _. refl) (λ _. refl)

-- ---- the section of footnotes has no headings that get ids

module _ (options : CompileOptions) where
  both_unnamed : (ps qs : List Piece) → AreUnnamed ps → AreUnnamed qs → AreUnnamed (ps ++ qs)
  both_unnamed ps qs h k = each-append IsUnnamed ps qs h k

  element_unnamed : (t : Tag) (ps : List Piece) → AreUnnamed ps → AreUnnamed (element t ps)
  element_unnamed t ps h = (tt, both_unnamed ps (Close t.name ∷ []) h (tt, tt))

  count_unnamed : (count : ℕ) → AreUnnamed (count_pieces count)
  count_unnamed count = cond_both (nat_le count 1) [] _ AreUnnamed (λ _. tt) (λ _. (tt, (tt, (tt, tt))))

  back_unnamed : (label : List ℕ) (count : ℕ) → AreUnnamed (back_pieces options label count)
  back_unnamed label count = element_unnamed (back_tag options label count) (Says (Words arrow) ∷ count_pieces count) (tt, count_unnamed count)

  space_unnamed : (count : ℕ) → AreUnnamed (space_after count)
  space_unnamed zero = tt
  space_unnamed (suc count) = (tt, tt)

  backs_unnamed : (label : List ℕ) (count : ℕ) → AreUnnamed (backs_pieces options label count)
  backs_unnamed label zero = tt
  backs_unnamed label (suc count) =
      both_unnamed (backs_pieces options label count ++ space_after count) (back_pieces options label (suc count))
      (both_unnamed (backs_pieces options label count) (space_after count) (backs_unnamed label count) (space_unnamed count)) (back_unnamed label (suc count))

  content_unnamed : (html : List ℕ) (backs : List Piece) (end : Option ℕ) → AreUnnamed backs → AreUnnamed (with_backs html backs end)
  content_unnamed html backs None h = (tt, (tt, h))
  content_unnamed html backs (Some end) h = (tt, (tt, both_unnamed backs _ h (tt, tt)))

  note_unnamed : (note : Footnote) → AreUnnamed (footnote_pieces options note)
  note_unnamed note =
      let backs = backs_pieces options note.label note.calls in
      let inside = content_pieces note.html backs in (
        tt,
        element_unnamed (item_tag options note.label) (Fresh ∷ inside ++ Fresh ∷ [])
            (tt, both_unnamed inside (Fresh ∷ []) (content_unnamed note.html backs (paragraph_end note.html) (backs_unnamed note.label note.calls)) (tt, tt)),
      )

  pub section_unnamed : (notes : List Footnote) → AreUnnamed (section_pieces options notes)
  section_unnamed [] = tt
  section_unnamed (note ∷ notes) =
      let all = footnotes_pieces options (note ∷ notes) in
      let list = element (bare_tag (codes "ol")) (all ++ Fresh ∷ []) in
      let items = element_unnamed (bare_tag (codes "ol")) (all ++ Fresh ∷ [])
      (both_unnamed all (Fresh ∷ []) (each_flat_map IsUnnamed (footnote_pieces options) (note ∷ notes) note_unnamed) (tt, tt)) in
      let inside = heading_pieces options ++ Fresh ∷ list in (
        tt,
        both_unnamed (element section_tag (inside ++ Fresh ∷ [])) (Fresh ∷ [])
            (element_unnamed section_tag (inside ++ Fresh ∷ []) (both_unnamed inside (Fresh ∷ []) (tt, (tt, (tt, (tt, items)))) (tt, tt))) (tt, tt),
      )
