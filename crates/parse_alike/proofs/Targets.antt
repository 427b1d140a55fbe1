-- Links, images and calls with targets and labels that are alike have the same tags.
use Rattle.std.proofs.Common.{◌≡◌, ℕ, List, ◌∷◌, ◌++◌, Option, None, Some, codes, map, flat_map, refl, sym, ap, ◌∙◌}
use Rattle.parse_alike.proofs.Prelude.{AreLabelsAlike, AreLinksAlike, AreMeaningsAlike, AreTargetsAlike, Code, CompileOptions, first_match, image_tag}
use Rattle.parse_alike.proofs.Prelude.{leads_to, link_tag, LinkTexts, Meaning, normal_label, Piece, place_of, PrintedPart, Reference, Resource, string_text}
use Rattle.parse_alike.proofs.Prelude.{Tag, tag, Target, title_text, void_tag}
use Rattle.definition_text.specs.Encode.{plain}
use Rattle.definition_page.specs.Destinations.{link_destination, image_source}
use Rattle.definition_page.specs.InlinePieces.{link_url, image_url, url_of, title_attributes, title_attribute, rel_attributes, loading_attributes, call_at, count_at}
use Rattle.definition_page.specs.Tags.{Attribute, attribute, attribute_bytes}
use Rattle.parse_alike.proofs.Said.{said}

-- an attribute for the text of a title
title_by : (m : Meaning) (title : Option (List Code)) → title_attribute m title ≡ title_attributes (title_text m title)
title_by m None = refl
title_by m (Some title) = refl

-- the tag of an image by its attributes, with the bytes of its description
abbrev image_bytes : Attribute → List ℕ → List Attribute → List ℕ
image_bytes src alt others =
    codes "<"
    ++ (codes "img" ++ (attribute_bytes src ++ ((codes " " ++ codes "alt" ++ codes "=\"" ++ alt ++ codes "\"") ++ flat_map attribute_bytes others)))
    ++ codes " />"

module _ (m m' : Meaning) (alike : AreMeaningsAlike m m') where
  titles-same : (a b : LinkTexts) → AreLinksAlike m m' a b → title_attribute m a.title ≡ title_attribute m' b.title
  titles-same a b p = title_by m a.title ∙ ap title_attributes p.1 ∙ sym (title_by m' b.title)

  pub link_tag-same : (a b : LinkTexts) → AreLinksAlike m m' a b → link_tag m a ≡ link_tag m' b
  link_tag-same a b p =
      let tag_with : CompileOptions → List ℕ → List Attribute → Tag = λ options text titles.
      tag (codes "a") (attribute (codes "href") (link_url options (link_destination options (plain text))) ∷ titles ++ rel_attributes options.link_rel) in
      ap (λ options. tag_with options (string_text m.on m.names a.destination) (title_attribute m a.title)) alike.compile
      ∙ ap (λ text. tag_with m'.compile text (title_attribute m a.title)) p.0
      ∙ ap (tag_with m'.compile (string_text m'.on m'.names b.destination)) (titles-same a b p)

  pub image_tag-same : (a b : LinkTexts) (alt alt' : List PrintedPart) → AreLinksAlike m m' a b → said alt ≡ said alt'
      → void_tag (image_tag m a alt) ≡ void_tag (image_tag m' b alt')
  image_tag-same a b alt alt' p same =
      let bytes_with : CompileOptions → List ℕ → List ℕ → List Attribute → List ℕ = λ options text alt_bytes titles.
      image_bytes (attribute (codes "src") (image_url options (image_source options (plain text)))) alt_bytes
      (titles ++ loading_attributes options.lazy_images) in
      ap (λ options. bytes_with options (string_text m.on m.names a.destination) (said alt) (title_attribute m a.title)) alike.compile
      ∙ ap (λ text. bytes_with m'.compile text (said alt) (title_attribute m a.title)) p.0
      ∙ ap (λ alt_bytes. bytes_with m'.compile (string_text m'.on m'.names b.destination) alt_bytes (title_attribute m a.title)) same
      ∙ ap (bytes_with m'.compile (string_text m'.on m'.names b.destination) (said alt')) (titles-same a b p)

  -- targets that are alike lead to links that are
  pub leads_alike : (t t' : Target) → AreTargetsAlike m m' t t' → AreLinksAlike m m' (leads_to m.definition t) (leads_to m'.definition t')
  leads_alike (Resource d t) (Resource d' t') p = p
  leads_alike (Resource d t) (Reference b) p = absurd p
  leads_alike (Reference a) (Resource d' t') p = absurd p
  leads_alike (Reference a) (Reference b) p = alike.definitions a b p

  -- labels that are alike call one footnote
  label-same : (by : Option ℕ → List ℕ → List Piece) (a b : List Code) → AreLabelsAlike a b
      → by (first_match a m.footnotes) (normal_label a) ≡ by (first_match b m'.footnotes) (normal_label b)
  label-same by a b p =
      ap (λ labels. by (place_of (normal_label a) labels) (normal_label a)) alike.footnotes
      ∙ ap (λ label. by (place_of label (map normal_label m'.footnotes)) label) p

  pub call-same : (a b : List Code) → AreLabelsAlike a b
      → call_at (first_match a m.footnotes) (normal_label a) ≡ call_at (first_match b m'.footnotes) (normal_label b)
  call-same a b p = label-same call_at a b p

  pub count-same : (a b : List Code) → AreLabelsAlike a b
      → count_at (first_match a m.footnotes) (normal_label a) ≡ count_at (first_match b m'.footnotes) (normal_label b)
  count-same a b p = label-same count_at a b p
