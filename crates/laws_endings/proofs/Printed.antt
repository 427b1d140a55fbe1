-- What the inline structure of a content prints, with another line ending in place of each LF.
use Rattle.std.proofs.Common.{◌≡◌, ℕ, Bool, true, false, cond, eqb, ◌||◌, List, [], ◌∷◌, ◌++◌, Option, None, Some, refl, sym, ap, ◌∙◌, map, flat_map}
use Rattle.std.proofs.Common.{true≢false, subst, inl, inr, ◌⊎◌}
use Rattle.laws_endings.proofs.Prelude.{attribute, Attribute, attribute_bytes, Call, codes, codes_with, CompileOptions, Cons, element, ending_bytes}
use Rattle.laws_endings.proofs.Prelude.{first_match, HaveNoFeeds, href_protocols, Image, Inline, inline_counts, inline_pieces, inline_with, Inlines}
use Rattle.laws_endings.proofs.Prelude.{inlines_with, is_some, Leaf, LineEnding, Link, link_texts, link_url, Linked, LinkTexts, Meaning, Nil, normal_label}
use Rattle.laws_endings.proofs.Prelude.{option_map, Piece, place_of, plain, PrintedPart, Reference, Resource, Span, string_text, Target, target_with}
use Rattle.laws_endings.proofs.Prelude.{unwrap_or, Void, with_ending, Words}
use Rattle.markdown_options.specs.declared.line_ending.LineEnding.TheVariants.{CarriageReturnLineFeed, CarriageReturn, LineFeed}
use Rattle.definition_inline.specs.Inline.{SpanKind, Emphasis}
use Rattle.definition_page.specs.Urls.{src_protocols}
use Rattle.definition_page.specs.InlinePieces.{image_url, url_of, rel_attributes, loading_attributes, title_attributes, title_attribute, link_tag}
use Rattle.definition_page.specs.InlinePieces.{image_tag, span_name}
use Rattle.definition_page.specs.InlinePieces.{part_says}
use Rattle.definition_inline.specs.Targets.{leads_to}
use Rattle.definition_page.specs.InlinePieces.{description, call_at, count_at, part_counts, part_pieces}
use Rattle.laws_endings.proofs.Matching.{normal_label-with}
use Rattle.laws_endings.proofs.Each.{Each, WhereSome}
use Rattle.laws_endings.proofs.Fits.{Plain, TitleFits}
use Rattle.laws_endings.proofs.Parts.{TargetFits, IsFit, AreFit}
use Rattle.laws_endings.proofs.Bytes.{encode-with}
use Rattle.laws_endings.proofs.Saids.{plains_no_feed, codes-kept, string_text-with, SaidWith, SaidsWith, says_one, says_append}
use Rattle.laws_endings.proofs.Pieces.{BytesWith, AttributesWith, attribute-with, more_attributes, PiecesWith, no_pieces, append-with, void_piece-with}
use Rattle.laws_endings.proofs.Pieces.{element-with, attributes_append}
use Rattle.definition_page.specs.Destinations.{link_destination, image_source}
use Rattle.laws_endings.specs.PageLaws.{LinksHoldNoFeed}
use Rattle.laws_endings.proofs.HeadingIds.{rel-with, loading-with}
use Rattle.laws_endings.proofs.PrintedLeaves.{url_attribute-with, leaf_says-with, leaf_pieces-with}
use Rattle.laws_endings.proofs.GfmLabelStartFootnote.{call_piece-with, count_piece-with}

-- where a link leads fits
abbrev pub LinkedFits : LinkTexts → Type 0
LinkedFits l = Each Plain l.destination × TitleFits l.title

module _ (e : LineEnding) where
  -- ---- spans and descriptions

  span_name-kept : (kind : SpanKind) → BytesWith e (span_name kind) (span_name kind)
  span_name-kept Emphasis = refl
  span_name-kept other = refl

  mutual
    part_says-with : (options : CompileOptions) (i : Inline) → IsFit i → SaidsWith e (part_says options (inline_with e i)) (part_says options i)
    part_says-with options (Leaf part) p = leaf_says-with e options part p
    part_says-with options (Span kind kids) p = description-with options kids p
    part_says-with options (Linked kind target kids) p = description-with options kids p.1
    part_says-with options (Call label) p = refl

    description-with : (options : CompileOptions) (is : Inlines) → AreFit is → SaidsWith e (description options (inlines_with e is)) (description options is)
    description-with options Nil p = refl
    description-with options (Cons i is) p =
        says_append e (part_says options (inline_with e i)) (part_says options i) (description options (inlines_with e is)) (description options is)
        (part_says-with options i p.0) (description-with options is p.1)

  -- ---- where links lead

  abbrev pub linked_with : LinkTexts → LinkTexts
  linked_with l = link_texts (codes_with e l.destination) (option_map (codes_with e) l.title)

  module _ (m : Meaning) (other : List ℕ → Option LinkTexts)
      (leads : (label : List ℕ) → other (codes_with e label) ≡ option_map linked_with (m.definition label))
      (fits : (label : List ℕ) → WhereSome LinkedFits (m.definition label)) (notes : (m.footnotes ≡ []) ⊎ HaveNoFeeds m.compile)
      (texts : LinksHoldNoFeed m.compile) where
    abbrev pub meaning_with : Meaning
    meaning_with = record m { definition = other }

    linked_or : (o : Option LinkTexts) → unwrap_or (option_map linked_with o) (link_texts [] None) ≡ linked_with (unwrap_or o (link_texts [] None))
    linked_or None = refl
    linked_or (Some l) = refl

    leads_to-with : (target : Target) → leads_to other (target_with e target) ≡ linked_with (leads_to m.definition target)
    leads_to-with (Resource destination title) = refl
    leads_to-with (Reference label) = ap (λ o. unwrap_or o (link_texts [] None)) (leads label) ∙ linked_or (m.definition label)

    or_nowhere : (o : Option LinkTexts) → WhereSome LinkedFits o → LinkedFits (unwrap_or o (link_texts [] None))
    or_nowhere None p = (tt, tt)
    or_nowhere (Some l) p = p

    leads_to_fits : (target : Target) → TargetFits target → LinkedFits (leads_to m.definition target)
    leads_to_fits (Resource destination title) p = p
    leads_to_fits (Reference label) p = or_nowhere (m.definition label) (fits label)

    url-with : (l : LinkTexts) → LinkedFits l → url_of meaning_with (linked_with l) ≡ url_of m l
    url-with l p = ap (λ cs. plain (string_text m.on m.names cs)) (codes-kept e l.destination (plains_no_feed l.destination p.0))

    -- ---- titles

    is_any : List ℕ → Bool
    is_any [] = false
    is_any (b ∷ bs) = true

    titled_any : (text : List ℕ) → is_any text ≡ true → title_attributes text ≡ attribute (codes "title") text ∷ []
    unfolding is_any
    titled_any [] h = absurd (true≢false (sym h))
    titled_any (b ∷ bs) h = refl

    ending_any : (ending : LineEnding) (more : List ℕ) → is_any (ending_bytes ending ++ more) ≡ true
    unfolding is_any
    ending_any CarriageReturnLineFeed more = refl
    ending_any CarriageReturn more = refl
    ending_any LineFeed more = refl

    any_by : (b : ℕ) (more : List ℕ) (feed : Bool) → is_any (cond feed (ending_bytes e) (b ∷ []) ++ more) ≡ true
    unfolding is_any
    any_by b more true = ending_any e more
    any_by b more false = refl

    titled-with : (text : List ℕ) → AttributesWith e (title_attributes (with_ending e text)) (title_attributes text)
    titled-with [] = refl
    titled-with (b ∷ bs) =
        let text = b ∷ bs in
        let title = with_ending e text in
        ap (flat_map attribute_bytes) (titled_any title (any_by b (with_ending e bs) (eqb b 10)))
        ∙ more_attributes e (attribute (codes "title") title) (attribute (codes "title") text) [] []
        (attribute-with e (codes "title") (Words title ∷ []) (Words text ∷ []) refl (says_one e (Words title) (Words text) (words-both text))) refl
      where
        words-both : (text : List ℕ) → SaidWith e (Words (with_ending e text)) (Words text)
        words-both text = encode-with e text

    title-with : (title : Option (List ℕ)) → TitleFits title
        → AttributesWith e (title_attribute meaning_with (option_map (codes_with e) title)) (title_attribute m title)
    title-with None p = refl
    title-with (Some title) p =
        ap (λ text. flat_map attribute_bytes (title_attributes text)) (string_text-with e m.on m.names title p) ∙ titled-with (string_text m.on m.names title)

    -- ---- tags of links and images

    abbrev link_attributes : Meaning → LinkTexts → List Attribute
    link_attributes n l =
        attribute (codes "href") (link_url m.compile (link_destination m.compile (url_of n l)))
        ∷ title_attribute n l.title ++ rel_attributes m.compile.link_rel

    link-with : (l : LinkTexts) → LinkedFits l → AttributesWith e (link_attributes meaning_with (linked_with l)) (link_attributes m l)
    link-with l p =
        let title' = title_attribute meaning_with (option_map (codes_with e) l.title) in
        let title = title_attribute m l.title in
        let rel = rel_attributes m.compile.link_rel in
        let url = link_destination m.compile (url_of m l) in
        let href = attribute (codes "href") (link_url m.compile url) in
        ap (λ url. flat_map attribute_bytes (attribute (codes "href") (link_url m.compile (link_destination m.compile url)) ∷ title' ++ rel)) (url-with l p)
        ∙ more_attributes e href href (title' ++ rel) (title ++ rel)
        (url_attribute-with e (codes "href") refl m.compile.allow_dangerous_protocol href_protocols url)
        (attributes_append e m.compile title' title rel rel (title-with l.title p.1) (rel-with e m.compile texts))

    abbrev image_attributes : Meaning → LinkTexts → List PrintedPart → List Attribute
    image_attributes n l said =
        attribute (codes "src") (image_url m.compile (image_source m.compile (url_of n l)))
        ∷ record { name = codes "alt"; value = said }
        ∷ title_attribute n l.title ++ loading_attributes m.compile.lazy_images

    image-with : (l : LinkTexts) (said' said : List PrintedPart) → LinkedFits l → SaidsWith e said' said
        → AttributesWith e (image_attributes meaning_with (linked_with l) said') (image_attributes m l said)
    image-with l said' said p q =
        let loading = loading_attributes m.compile.lazy_images in
        let title' = title_attribute meaning_with (option_map (codes_with e) l.title) in
        let title = title_attribute m l.title in
        let alt' : Attribute = record { name = codes "alt"; value = said' } in
        let alt : Attribute = record { name = codes "alt"; value = said } in
        let url = image_source m.compile (url_of m l) in
        let src = attribute (codes "src") (image_url m.compile url) in
        ap (λ url. flat_map attribute_bytes (attribute (codes "src") (image_url m.compile (image_source m.compile url)) ∷ alt' ∷ title' ++ loading))
        (url-with l p)
        ∙ more_attributes e src src (alt' ∷ title' ++ loading) (alt ∷ title ++ loading)
        (url_attribute-with e (codes "src") refl (m.compile.allow_any_img_src || m.compile.allow_dangerous_protocol) src_protocols url)
        (more_attributes e alt' alt (title' ++ loading) (title ++ loading) (attribute-with e (codes "alt") said' said refl q)
        (attributes_append e m.compile title' title loading loading (title-with l.title p.1) (loading-with e m.compile.lazy_images)))

    -- ---- calls of footnotes

    -- where a label is that of a footnote, the texts fit
    texts_by : (label : List ℕ) (place : ℕ) (labels : List (List ℕ)) → (labels ≡ []) ⊎ HaveNoFeeds m.compile → first_match label labels ≡ Some place
        → HaveNoFeeds m.compile
    texts_by label place labels (inl none) h = absurd (true≢false (ap is_some (sym h ∙ ap (first_match label) none)))
    texts_by label place labels (inr fit) h = fit

    texts_fit : (label : List ℕ) (place : ℕ) → first_match label m.footnotes ≡ Some place → HaveNoFeeds m.compile
    texts_fit label place h = texts_by label place m.footnotes notes h

    call_piece : (label : List ℕ) (found : Option ℕ) → first_match label m.footnotes ≡ found
        → PiecesWith e m.compile (call_at found (normal_label label)) (call_at found (normal_label label))
    call_piece label None h = no_pieces e m.compile
    call_piece label (Some place) h = call_piece-with e m.compile place (normal_label label) (texts_fit label place h)

    count_piece : (label : List ℕ) (found : Option ℕ) → first_match label m.footnotes ≡ found
        → PiecesWith e m.compile (count_at found (normal_label label)) (count_at found (normal_label label))
    count_piece label None h = no_pieces e m.compile
    count_piece label (Some place) h = count_piece-with e m.compile place (normal_label label) (texts_fit label place h)

    call_same : (f : Option ℕ → List ℕ → List Piece) (label : List ℕ)
        → f (first_match (codes_with e label) m.footnotes) (normal_label (codes_with e label)) ≡ f (first_match label m.footnotes) (normal_label label)
    call_same f label = ap (λ normal. f (place_of normal (map normal_label m.footnotes)) normal) (normal_label-with e label)

    mutual
      part_counts-with : (i : Inline) → PiecesWith e m.compile (part_counts meaning_with (inline_with e i)) (part_counts m i)
      part_counts-with (Leaf part) = no_pieces e m.compile
      part_counts-with (Span kind kids) = counts-with kids
      part_counts-with (Linked kind target kids) = counts-with kids
      part_counts-with (Call label) =
          subst (λ ps. PiecesWith e m.compile ps (count_at (first_match label m.footnotes) (normal_label label))) (sym (call_same count_at label))
          (count_piece label (first_match label m.footnotes) refl)

      pub counts-with : (is : Inlines) → PiecesWith e m.compile (inline_counts meaning_with (inlines_with e is)) (inline_counts m is)
      counts-with Nil = no_pieces e m.compile
      counts-with (Cons i is) =
          append-with e m.compile (part_counts meaning_with (inline_with e i)) (part_counts m i)
          (inline_counts meaning_with (inlines_with e is)) (inline_counts m is) (part_counts-with i) (counts-with is)

    -- ---- the whole

    mutual
      part-with : (i : Inline) → IsFit i → PiecesWith e m.compile (part_pieces meaning_with (inline_with e i)) (part_pieces m i)
      part-with (Leaf part) p = leaf_pieces-with e m.compile texts part p
      part-with (Span kind kids) p =
          element-with e m.compile (span_name kind) [] [] (inline_pieces meaning_with (inlines_with e kids)) (inline_pieces m kids) (span_name-kept kind) refl
          (inlines-with kids p)
      part-with (Linked Link target kids) p =
          let to = leads_to m.definition target in
          let kids' = inline_pieces meaning_with (inlines_with e kids) in
          subst (λ l. PiecesWith e m.compile (element (link_tag meaning_with l) kids') (element (link_tag m to) (inline_pieces m kids)))
          (sym (leads_to-with target))
          (element-with e m.compile (codes "a") (link_attributes meaning_with (linked_with to)) (link_attributes m to) kids' (inline_pieces m kids) refl
          (link-with to (leads_to_fits target p.0)) (inlines-with kids p.1))
      part-with (Linked Image target kids) p =
          let to = leads_to m.definition target in
          let said' = description m.compile (inlines_with e kids) in
          let said = description m.compile kids in
          let void : LinkTexts → Meaning → List PrintedPart → Piece = λ l n all. Void (image_tag n l all) in
          append-with e m.compile (void (leads_to other (target_with e target)) meaning_with said' ∷ []) (void to m said ∷ [])
          (inline_counts meaning_with (inlines_with e kids)) (inline_counts m kids)
          (subst (λ l. PiecesWith e m.compile (void l meaning_with said' ∷ []) (void to m said ∷ [])) (sym (leads_to-with target))
          (void_piece-with e m.compile (codes "img") (image_attributes meaning_with (linked_with to) said') (image_attributes m to said) refl
          (image-with to said' said (leads_to_fits target p.0) (description-with m.compile kids p.1))))
          (counts-with kids)
      part-with (Call label) p =
          subst (λ ps. PiecesWith e m.compile ps (call_at (first_match label m.footnotes) (normal_label label))) (sym (call_same call_at label))
          (call_piece label (first_match label m.footnotes) refl)

      pub inlines-with : (is : Inlines) → AreFit is → PiecesWith e m.compile (inline_pieces meaning_with (inlines_with e is)) (inline_pieces m is)
      inlines-with Nil p = no_pieces e m.compile
      inlines-with (Cons i is) p =
          append-with e m.compile (part_pieces meaning_with (inline_with e i)) (part_pieces m i)
          (inline_pieces meaning_with (inlines_with e is)) (inline_pieces m is) (part-with i p.0) (inlines-with is p.1)
