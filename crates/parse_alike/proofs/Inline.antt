-- Inline structures that are alike print the same.
use Rattle.std.proofs.Common.{◌≡◌, true, false, List, [], ◌∷◌, ◌++◌, map, flat_map, refl, sym, ap, ◌∙◌, append_assoc}
use Rattle.parse_alike.proofs.Prelude.{append, append-nil, AreMeaningsAlike, ArePartsAlike, bare_tag, Call, CompileOptions, Cons, Each, element, Html}
use Rattle.parse_alike.proofs.Prelude.{html_leaves, html_says, image_tag, Inline, inline_counts, inline_pieces, InlineLeaf, Inlines, IsPartAlike, leads_to}
use Rattle.parse_alike.proofs.Prelude.{Leaf, leaf_parts, leaf_pieces, leaf_says, leaves, Link, link_tag, Linked, map-append, Meaning, Nil, Piece, Says, Span}
use Rattle.parse_alike.proofs.Prelude.{void_tag}
use Rattle.definition_inline.specs.Inline.{Image}
use Rattle.definition_page.specs.HeadingText.{leaf_text, part_text, heading_text}
use Rattle.definition_page.specs.InlinePieces.{span_name, part_says, description}
use Rattle.definition_page.specs.InlinePieces.{part_counts, part_pieces}
use Rattle.parse_alike.proofs.HtmlText.{HasNoTags, SaysNothing, html-said, html_plain, html_silent, plain_says}
use Rattle.parse_alike.proofs.Printed.{of_bytes, printed}
use Rattle.parse_alike.proofs.Said.{said, said-append, said-printed, both, both-printed, element-printed}
use Rattle.parse_alike.proofs.Targets.{link_tag-same, image_tag-same, leads_alike, call-same, count-same}

-- pieces, and no more
alone : (ps : List Piece) → printed ps ≡ printed (ps ++ [])
alone ps = ap printed (sym (append-nil ps))

-- ---- parts, and others after them

module _ (m : Meaning) where
  pieces-append : (is js : Inlines) → inline_pieces m (append is js) ≡ inline_pieces m is ++ inline_pieces m js
  pieces-append Nil js = refl
  pieces-append (Cons i is) js =
      ap (λ ps. part_pieces m i ++ ps) (pieces-append is js) ∙ sym (append_assoc (part_pieces m i) (inline_pieces m is) (inline_pieces m js))

  counts-append : (is js : Inlines) → inline_counts m (append is js) ≡ inline_counts m is ++ inline_counts m js
  counts-append Nil js = refl
  counts-append (Cons i is) js =
      ap (λ ps. part_counts m i ++ ps) (counts-append is js) ∙ sym (append_assoc (part_counts m i) (inline_counts m is) (inline_counts m js))

  leaves-pieces : (ls : List InlineLeaf) → Each (HasNoTags m.compile) ls
      → inline_pieces m (leaves ls) ≡ map Says (flat_map (plain_says false m.compile) ls)
  leaves-pieces [] p = refl
  leaves-pieces (l ∷ ls) p =
      let first = plain_says false m.compile l in
      let others = flat_map (plain_says false m.compile) ls in
      both (leaf_pieces m.compile l) (inline_pieces m (leaves ls)) (map Says first) (map Says others) p.0 (leaves-pieces ls p.1)
      ∙ sym (map-append Says first others)

  leaves-counts : (ls : List InlineLeaf) → inline_counts m (leaves ls) ≡ []
  leaves-counts [] = refl
  leaves-counts (l ∷ ls) = leaves-counts ls

  leaf-counts : (l : InlineLeaf) → [] ≡ inline_counts m (leaf_parts l)
  leaf-counts (Html html) = sym (leaves-counts (html_leaves html))
  leaf-counts other = refl

module _ (options : CompileOptions) where
  description-append : (is js : Inlines) → description options (append is js) ≡ description options is ++ description options js
  description-append Nil js = refl
  description-append (Cons i is) js =
      ap (λ ss. part_says options i ++ ss) (description-append is js)
      ∙ sym (append_assoc (part_says options i) (description options is) (description options js))

  -- a leaf says as much where it has no tags
  says_plain : (l : InlineLeaf) → leaf_says options l ≡ plain_says true options l
  says_plain (Html html) = refl
  says_plain other = refl

  leaves-described : (ls : List InlineLeaf) → description options (leaves ls) ≡ flat_map (plain_says true options) ls
  leaves-described [] = refl
  leaves-described (l ∷ ls) =
      ap (λ ss. leaf_says options l ++ ss) (leaves-described ls)
      ∙ ap (λ ss. ss ++ flat_map (plain_says true options) ls) (says_plain l)

  leaf-described : (l : InlineLeaf) → said (leaf_says options l) ≡ said (description options (leaf_parts l))
  leaf-described (Html html) = sym (html-said true options html) ∙ ap said (sym (leaves-described (html_leaves html)))
  leaf-described other = ap said (sym (append-nil (leaf_says options other)))

-- ---- what a heading says

text-append : (is js : Inlines) → heading_text (append is js) ≡ heading_text is ++ heading_text js
text-append Nil js = refl
text-append (Cons i is) js = ap (λ bs. part_text i ++ bs) (text-append is js) ∙ sym (append_assoc (part_text i) (heading_text is) (heading_text js))

leaves-text : (ls : List InlineLeaf) → heading_text (leaves ls) ≡ flat_map leaf_text ls
leaves-text [] = refl
leaves-text (l ∷ ls) = ap (λ bs. leaf_text l ++ bs) (leaves-text ls)

none-said : (ls : List InlineLeaf) → Each SaysNothing ls → flat_map leaf_text ls ≡ []
none-said [] p = refl
none-said (l ∷ ls) p = both (leaf_text l) (flat_map leaf_text ls) [] [] p.0 (none-said ls p.1)

leaf-text : (l : InlineLeaf) → leaf_text l ≡ heading_text (leaf_parts l)
leaf-text (Html html) = sym (leaves-text (html_leaves html) ∙ none-said (html_leaves html) (html_silent html))
leaf-text other = sym (append-nil (leaf_text other))

module _ (m m' : Meaning) (alike : AreMeaningsAlike m m') where
  leaf-printed : (l : InlineLeaf) → printed (leaf_pieces m'.compile l) ≡ printed (inline_pieces m' (leaf_parts l))
  leaf-printed (Html html) =
      let options = m'.compile in
      let ls = html_leaves html in
      said-printed (html_says false options html)
      ∙ ap of_bytes (sym (html-said false options html))
      ∙ sym (said-printed (flat_map (plain_says false options) ls))
      ∙ ap printed (sym (leaves-pieces m' ls (html_plain options html)))
  leaf-printed other = alone (leaf_pieces m'.compile other)

  -- ---- the description of an image

  mutual
    part-described : (i : Inline) (js : Inlines) → IsPartAlike m m' i js → said (part_says m.compile i) ≡ said (description m'.compile js)
    part-described (Leaf l) js p =
        ap (λ options. said (leaf_says options l)) alike.compile
        ∙ leaf-described m'.compile l
        ∙ ap (λ is. said (description m'.compile is)) (sym p)
    part-described (Span kind kids) js p =
        parts-described kids p.0 p.2
        ∙ ap said (sym (append-nil (description m'.compile p.0)))
        ∙ ap (λ is. said (description m'.compile is)) (sym p.1)
    part-described (Linked kind target kids) js p =
        parts-described kids p.1 p.4
        ∙ ap said (sym (append-nil (description m'.compile p.1)))
        ∙ ap (λ is. said (description m'.compile is)) (sym p.2)
    part-described (Call label) js p = ap (λ is. said (description m'.compile is)) (sym p.1)

    parts-described : (is js : Inlines) → ArePartsAlike m m' is js → said (description m.compile is) ≡ said (description m'.compile js)
    parts-described Nil js p = ap (λ is. said (description m'.compile is)) (sym p)
    parts-described (Cons i is) js p =
        let front = description m'.compile p.0 in
        let others = description m'.compile p.1 in
        said-append (part_says m.compile i) (description m.compile is)
        ∙ both (said (part_says m.compile i)) (said (description m.compile is)) (said front) (said others)
        (part-described i p.0 p.3) (parts-described is p.1 p.4)
        ∙ sym (said-append front others)
        ∙ ap said (sym (description-append m'.compile p.0 p.1))
        ∙ ap (λ is. said (description m'.compile is)) (sym p.2)

  -- ---- what a heading says

  mutual
    part-text : (i : Inline) (js : Inlines) → IsPartAlike m m' i js → part_text i ≡ heading_text js
    part-text (Leaf l) js p = leaf-text l ∙ ap heading_text (sym p)
    part-text (Span kind kids) js p = parts-text kids p.0 p.2 ∙ sym (append-nil (heading_text p.0)) ∙ ap heading_text (sym p.1)
    part-text (Linked Link target kids) js p = parts-text kids p.1 p.4 ∙ sym (append-nil (heading_text p.1)) ∙ ap heading_text (sym p.2)
    part-text (Linked Image target kids) js p = ap heading_text (sym p.2)
    part-text (Call label) js p = ap heading_text (sym p.1)

    -- inline structures that are alike say the same as headings
    pub parts-text : (is js : Inlines) → ArePartsAlike m m' is js → heading_text is ≡ heading_text js
    parts-text Nil js p = ap heading_text (sym p)
    parts-text (Cons i is) js p =
        both (part_text i) (heading_text is) (heading_text p.0) (heading_text p.1) (part-text i p.0 p.3) (parts-text is p.1 p.4)
        ∙ sym (text-append p.0 p.1)
        ∙ ap heading_text (sym p.2)

  -- ---- the calls that count

  mutual
    part-counts : (i : Inline) (js : Inlines) → IsPartAlike m m' i js → part_counts m i ≡ inline_counts m' js
    part-counts (Leaf l) js p = leaf-counts m' l ∙ ap (inline_counts m') (sym p)
    part-counts (Span kind kids) js p =
        parts-counts kids p.0 p.2 ∙ sym (append-nil (inline_counts m' p.0)) ∙ ap (inline_counts m') (sym p.1)
    part-counts (Linked kind target kids) js p =
        parts-counts kids p.1 p.4 ∙ sym (append-nil (inline_counts m' p.1)) ∙ ap (inline_counts m') (sym p.2)
    part-counts (Call label) js p =
        count-same m m' alike label p.0 p.2 ∙ sym (append-nil (part_counts m' (Call p.0))) ∙ ap (inline_counts m') (sym p.1)

    pub parts-counts : (is js : Inlines) → ArePartsAlike m m' is js → inline_counts m is ≡ inline_counts m' js
    parts-counts Nil js p = ap (inline_counts m') (sym p)
    parts-counts (Cons i is) js p =
        both (part_counts m i) (inline_counts m is) (inline_counts m' p.0) (inline_counts m' p.1) (part-counts i p.0 p.3) (parts-counts is p.1 p.4)
        ∙ sym (counts-append m' p.0 p.1)
        ∙ ap (inline_counts m') (sym p.2)

  -- ---- pieces

  mutual
    part-printed : (i : Inline) (js : Inlines) → IsPartAlike m m' i js → printed (part_pieces m i) ≡ printed (inline_pieces m' js)
    part-printed (Leaf l) js p =
        ap (λ options. printed (leaf_pieces options l)) alike.compile ∙ leaf-printed l ∙ ap (λ is. printed (inline_pieces m' is)) (sym p)
    part-printed (Span kind kids) js p =
        let t = bare_tag (span_name kind) in
        element-printed t (inline_pieces m kids) (inline_pieces m' p.0) (parts-printed kids p.0 p.2)
        ∙ alone (element t (inline_pieces m' p.0))
        ∙ ap (λ is. printed (inline_pieces m' is)) (sym p.1)
    part-printed (Linked Link target kids) js p =
        let to = leads_to m.definition target in
        let to' = leads_to m'.definition p.0 in
        let kids' = inline_pieces m' p.1 in
        element-printed (link_tag m to) (inline_pieces m kids) kids' (parts-printed kids p.1 p.4)
        ∙ ap (λ t. printed (element t kids')) (link_tag-same m m' alike to to' (leads_alike m m' alike target p.0 p.3))
        ∙ alone (element (link_tag m' to') kids')
        ∙ ap (λ is. printed (inline_pieces m' is)) (sym p.2)
    part-printed (Linked Image target kids) js p =
        let to = leads_to m.definition target in
        let to' = leads_to m'.definition p.0 in
        let bytes = void_tag (image_tag m to (description m.compile kids)) in
        let bytes' = void_tag (image_tag m' to' (description m'.compile p.1)) in
        let same : bytes ≡ bytes' =
        image_tag-same m m' alike to to' (description m.compile kids) (description m'.compile p.1) (leads_alike m m' alike target p.0 p.3)
        (parts-described kids p.1 p.4) in
        both (of_bytes bytes) (printed (inline_counts m kids)) (of_bytes bytes') (printed (inline_counts m' p.1)) (ap of_bytes same)
        (ap printed (parts-counts kids p.1 p.4))
        ∙ alone (part_pieces m' (Linked Image p.0 p.1))
        ∙ ap (λ is. printed (inline_pieces m' is)) (sym p.2)
    part-printed (Call label) js p =
        ap printed (call-same m m' alike label p.0 p.2) ∙ alone (part_pieces m' (Call p.0)) ∙ ap (λ is. printed (inline_pieces m' is)) (sym p.1)

    -- inline structures that are alike print the same
    pub parts-printed : (is js : Inlines) → ArePartsAlike m m' is js → printed (inline_pieces m is) ≡ printed (inline_pieces m' js)
    parts-printed Nil js p = ap (λ is. printed (inline_pieces m' is)) (sym p)
    parts-printed (Cons i is) js p =
        both-printed (part_pieces m i) (inline_pieces m is) (inline_pieces m' p.0) (inline_pieces m' p.1) (part-printed i p.0 p.3) (parts-printed is p.1 p.4)
        ∙ ap printed (sym (pieces-append m' p.0 p.1))
        ∙ ap (λ is. printed (inline_pieces m' is)) (sym p.2)
