-- Pieces as their bytes, one by one, with the pieces between them that aren't bytes: all that the layout of a page looks at.
use Rattle.std.proofs.Common.{◌≡◌, ℕ, zero, suc, List, [], ◌∷◌, ◌++◌, map, reverse, fold, flat_map, refl, sym, ap, ◌∙◌, append_assoc}
use Rattle.parse_alike.proofs.Prelude.{append-nil, Close, CompileOptions, flat_map-append, NoteEnd, NoteStart, Piece, said_bytes, Says, start_tag, void_tag}
use Rattle.std.proofs.lemmas.List.{reverse-append}
use Rattle.std.proofs.lemmas.List.Sums.{fold-append}
use Rattle.definition_page.specs.GfmFootnoteDefinition.{section_pieces}
use Rattle.definition_page.specs.GfmLabelStartFootnote.{call_pieces}
use Rattle.definition_page.specs.Layout.{NamedCall, named_call, named_calls, first_calls, times, call_of, with_calls, content, contents, layout}
use Rattle.definition_page.specs.HeadingIds.{tag_with_id, with_ids}
use Rattle.definition_page.specs.Layout.{called_footnotes, page_layout}
use Rattle.definition_page.specs.Pieces.{Open, Void, Named, CallOf, CountOf, print}
use Rattle.definition_page.specs.Slug.{next_slug, with_slug}
use Rattle.definition_page.specs.Tags.{end_tag}

-- a byte, or a piece that isn't bytes
pub data Printed : Type 0 where
  Byte : ℕ → Printed
  Other : Piece → Printed

abbrev pub of_bytes : List ℕ → List Printed
of_bytes bytes = map Byte bytes

abbrev pub piece_printed : Piece → List Printed
piece_printed (Open t) = of_bytes (start_tag t)
piece_printed (Close name) = of_bytes (end_tag name)
piece_printed (Void t) = of_bytes (void_tag t)
piece_printed (Says said) = of_bytes (said_bytes said)
piece_printed piece = Other piece ∷ []

abbrev pub printed : List Piece → List Printed
printed ps = flat_map piece_printed ps

pub printed-append : (ps qs : List Piece) → printed (ps ++ qs) ≡ printed ps ++ printed qs
printed-append ps qs = flat_map-append piece_printed ps qs

-- ---- ids of headings

module _ (options : CompileOptions) where
  abbrev pub ids_in : List (List ℕ) → List Printed → List Printed
  ids_in taken [] = []
  ids_in taken (Other (Named t text) ∷ xs) =
      of_bytes (start_tag (tag_with_id options (next_slug taken text) t)) ++ ids_in (with_slug taken text) xs
  ids_in taken (x ∷ xs) = x ∷ ids_in taken xs

  ids-bytes : (taken : List (List ℕ)) (bytes : List ℕ) (xs : List Printed) → of_bytes bytes ++ ids_in taken xs ≡ ids_in taken (of_bytes bytes ++ xs)
  ids-bytes taken [] xs = refl
  ids-bytes taken (b ∷ bs) xs = ap (λ ys. Byte b ∷ ys) (ids-bytes taken bs xs)

  more_with_ids : (taken : List (List ℕ)) (bytes : List ℕ) (ps : List Piece) → printed (with_ids options taken ps) ≡ ids_in taken (printed ps)
      → of_bytes bytes ++ printed (with_ids options taken ps) ≡ ids_in taken (of_bytes bytes ++ printed ps)
  more_with_ids taken bytes ps p = ap (λ xs. of_bytes bytes ++ xs) p ∙ ids-bytes taken bytes (printed ps)

  -- headings get their ids by what is printed
  pub ids-printed : (taken : List (List ℕ)) (ps : List Piece) → printed (with_ids options taken ps) ≡ ids_in taken (printed ps)
  ids-printed taken [] = refl
  ids-printed taken (Open t ∷ ps) = more_with_ids taken (start_tag t) ps (ids-printed taken ps)
  ids-printed taken (Close name ∷ ps) = more_with_ids taken (end_tag name) ps (ids-printed taken ps)
  ids-printed taken (Void t ∷ ps) = more_with_ids taken (void_tag t) ps (ids-printed taken ps)
  ids-printed taken (Says said ∷ ps) = more_with_ids taken (said_bytes said) ps (ids-printed taken ps)
  ids-printed taken (Named t text ∷ ps) =
      ap (λ xs. of_bytes (start_tag (tag_with_id options (next_slug taken text) t)) ++ xs) (ids-printed (with_slug taken text) ps)
  ids-printed taken (p ∷ ps) = ap (λ xs. Other p ∷ xs) (ids-printed taken ps)

-- ---- calls

abbrev calls_in : List Printed → List NamedCall
calls_in [] = []
calls_in (Other (CallOf place label) ∷ xs) = named_call place label ∷ calls_in xs
calls_in (Other (CountOf place label) ∷ xs) = named_call place label ∷ calls_in xs
calls_in (x ∷ xs) = calls_in xs

calls-bytes : (bytes : List ℕ) (xs : List Printed) → calls_in xs ≡ calls_in (of_bytes bytes ++ xs)
calls-bytes [] xs = refl
calls-bytes (b ∷ bs) xs = calls-bytes bs xs

calls-printed : (ps : List Piece) → named_calls ps ≡ calls_in (printed ps)
calls-printed [] = refl
calls-printed (Open t ∷ ps) = calls-printed ps ∙ calls-bytes (start_tag t) (printed ps)
calls-printed (Close name ∷ ps) = calls-printed ps ∙ calls-bytes (end_tag name) (printed ps)
calls-printed (Void t ∷ ps) = calls-printed ps ∙ calls-bytes (void_tag t) (printed ps)
calls-printed (Says said ∷ ps) = calls-printed ps ∙ calls-bytes (said_bytes said) (printed ps)
calls-printed (CallOf place label ∷ ps) = ap (λ calls. named_call place label ∷ calls) (calls-printed ps)
calls-printed (CountOf place label ∷ ps) = ap (λ calls. named_call place label ∷ calls) (calls-printed ps)
calls-printed (p ∷ ps) = calls-printed ps

module _ (options : CompileOptions) (firsts : List NamedCall) where
  abbrev shown_in : List NamedCall → List Printed → List Printed
  shown_in earlier [] = []
  shown_in earlier (Other (CallOf place label) ∷ xs) =
      printed (call_pieces options (call_of place (suc (times place earlier)) 1 firsts)) ++ shown_in (earlier ++ named_call place label ∷ []) xs
  shown_in earlier (Other (CountOf place label) ∷ xs) = shown_in (earlier ++ named_call place label ∷ []) xs
  shown_in earlier (x ∷ xs) = x ∷ shown_in earlier xs

  shown-bytes : (earlier : List NamedCall) (bytes : List ℕ) (xs : List Printed)
      → of_bytes bytes ++ shown_in earlier xs ≡ shown_in earlier (of_bytes bytes ++ xs)
  shown-bytes earlier [] xs = refl
  shown-bytes earlier (b ∷ bs) xs = ap (λ ys. Byte b ∷ ys) (shown-bytes earlier bs xs)

  more_bytes : (earlier : List NamedCall) (bytes : List ℕ) (ps : List Piece) → printed (with_calls options firsts earlier ps) ≡ shown_in earlier (printed ps)
      → of_bytes bytes ++ printed (with_calls options firsts earlier ps) ≡ shown_in earlier (of_bytes bytes ++ printed ps)
  more_bytes earlier bytes ps p = ap (λ xs. of_bytes bytes ++ xs) p ∙ shown-bytes earlier bytes (printed ps)

  shown-printed : (earlier : List NamedCall) (ps : List Piece) → printed (with_calls options firsts earlier ps) ≡ shown_in earlier (printed ps)
  shown-printed earlier [] = refl
  shown-printed earlier (Open t ∷ ps) = more_bytes earlier (start_tag t) ps (shown-printed earlier ps)
  shown-printed earlier (Close name ∷ ps) = more_bytes earlier (end_tag name) ps (shown-printed earlier ps)
  shown-printed earlier (Void t ∷ ps) = more_bytes earlier (void_tag t) ps (shown-printed earlier ps)
  shown-printed earlier (Says said ∷ ps) = more_bytes earlier (said_bytes said) ps (shown-printed earlier ps)
  shown-printed earlier (CallOf place label ∷ ps) =
      let call = call_pieces options (call_of place (suc (times place earlier)) 1 firsts) in
      let later = earlier ++ named_call place label ∷ [] in
      printed-append call (with_calls options firsts later ps) ∙ ap (λ xs. printed call ++ xs) (shown-printed later ps)
  shown-printed earlier (CountOf place label ∷ ps) = shown-printed (earlier ++ named_call place label ∷ []) ps
  shown-printed earlier (p ∷ ps) = ap (λ xs. Other p ∷ xs) (shown-printed earlier ps)

-- ---- contents

-- pieces from the last one to the first
abbrev back : List Piece → List Printed
back ps = flat_map (λ p. reverse (piece_printed p)) ps

reverse-more : {A : Type 0} (x : A) (xs ys : List A) → reverse (x ∷ xs) ++ ys ≡ reverse xs ++ x ∷ ys
reverse-more x xs ys = ap (λ zs. zs ++ ys) (reverse-append (x ∷ []) xs) ∙ append_assoc (reverse xs) (x ∷ []) ys

back-reverse : (ps : List Piece) → back (reverse ps) ≡ reverse (printed ps)
back-reverse [] = refl
back-reverse (p ∷ ps) =
    ap back (reverse-append (p ∷ []) ps)
    ∙ flat_map-append (λ q. reverse (piece_printed q)) (reverse ps) (p ∷ [])
    ∙ ap (λ xs. back (reverse ps) ++ xs) (append-nil (reverse (piece_printed p)))
    ∙ ap (λ xs. xs ++ reverse (piece_printed p)) (back-reverse ps)
    ∙ sym (reverse-append (piece_printed p) (printed ps))

abbrev content_in : ℕ → List Printed → List Printed
content_in out [] = []
content_in out (Other NoteEnd ∷ before) = content_in (suc out) before
content_in zero (Other NoteStart ∷ before) = []
content_in (suc out) (Other NoteStart ∷ before) = content_in out before
content_in zero (x ∷ before) = content_in zero before ++ x ∷ []
content_in (suc out) (x ∷ before) = content_in (suc out) before

inner-bytes : (bytes : List ℕ) (xs : List Printed) → content_in zero xs ++ of_bytes bytes ≡ content_in zero (reverse (of_bytes bytes) ++ xs)
inner-bytes [] xs = append-nil (content_in zero xs)
inner-bytes (b ∷ bs) xs =
    sym (append_assoc (content_in zero xs) (Byte b ∷ []) (of_bytes bs))
    ∙ inner-bytes bs (Byte b ∷ xs)
    ∙ ap (content_in zero) (sym (reverse-more (Byte b) (of_bytes bs) xs))

outer-bytes : (out : ℕ) (bytes : List ℕ) (xs : List Printed) → content_in (suc out) xs ≡ content_in (suc out) (reverse (of_bytes bytes) ++ xs)
outer-bytes out [] xs = refl
outer-bytes out (b ∷ bs) xs = outer-bytes out bs (Byte b ∷ xs) ∙ ap (content_in (suc out)) (sym (reverse-more (Byte b) (of_bytes bs) xs))

-- one more piece of a content
content_more : (before : List Piece) (p : Piece) → printed (content zero before) ≡ content_in zero (back before)
    → printed (content zero before ++ p ∷ []) ≡ content_in zero (back before) ++ piece_printed p
content_more before p same =
    printed-append (content zero before) (p ∷ [])
    ∙ ap (λ xs. printed (content zero before) ++ xs) (append-nil (piece_printed p))
    ∙ ap (λ xs. xs ++ piece_printed p) same

content-printed : (out : ℕ) (before : List Piece) → printed (content out before) ≡ content_in out (back before)
content-printed out [] = refl
content-printed out (NoteEnd ∷ before) = content-printed (suc out) before
content-printed zero (NoteStart ∷ before) = refl
content-printed (suc out) (NoteStart ∷ before) = content-printed out before
content-printed zero (Open t ∷ before) = content_more before (Open t) (content-printed zero before) ∙ inner-bytes (start_tag t) (back before)
content-printed zero (Close name ∷ before) = content_more before (Close name) (content-printed zero before) ∙ inner-bytes (end_tag name) (back before)
content-printed zero (Void t ∷ before) = content_more before (Void t) (content-printed zero before) ∙ inner-bytes (void_tag t) (back before)
content-printed zero (Says said ∷ before) = content_more before (Says said) (content-printed zero before) ∙ inner-bytes (said_bytes said) (back before)
content-printed zero (p ∷ before) = content_more before p (content-printed zero before)
content-printed (suc out) (Open t ∷ before) = content-printed (suc out) before ∙ outer-bytes out (start_tag t) (back before)
content-printed (suc out) (Close name ∷ before) = content-printed (suc out) before ∙ outer-bytes out (end_tag name) (back before)
content-printed (suc out) (Void t ∷ before) = content-printed (suc out) before ∙ outer-bytes out (void_tag t) (back before)
content-printed (suc out) (Says said ∷ before) = content-printed (suc out) before ∙ outer-bytes out (said_bytes said) (back before)
content-printed (suc out) (p ∷ before) = content-printed (suc out) before

abbrev contents_in : List Printed → List Printed → List (List Printed)
contents_in before [] = []
contents_in before (Other NoteEnd ∷ xs) = content_in zero before ∷ contents_in (Other NoteEnd ∷ before) xs
contents_in before (x ∷ xs) = contents_in (x ∷ before) xs

contents-bytes : (before : List Printed) (bytes : List ℕ) (xs : List Printed)
    → contents_in (reverse (of_bytes bytes) ++ before) xs ≡ contents_in before (of_bytes bytes ++ xs)
contents-bytes before [] xs = refl
contents-bytes before (b ∷ bs) xs =
    ap (λ front. contents_in front xs) (reverse-more (Byte b) (of_bytes bs) before) ∙ contents-bytes (Byte b ∷ before) bs xs

contents-printed : (before ps : List Piece) → map printed (contents before ps) ≡ contents_in (back before) (printed ps)
contents-printed before [] = refl
contents-printed before (NoteEnd ∷ ps) =
    ap (λ first. first ∷ map printed (contents (NoteEnd ∷ before) ps)) (content-printed zero before)
    ∙ ap (λ others. content_in zero (back before) ∷ others) (contents-printed (NoteEnd ∷ before) ps)
contents-printed before (Open t ∷ ps) = contents-printed (Open t ∷ before) ps ∙ contents-bytes (back before) (start_tag t) (printed ps)
contents-printed before (Close name ∷ ps) = contents-printed (Close name ∷ before) ps ∙ contents-bytes (back before) (end_tag name) (printed ps)
contents-printed before (Void t ∷ ps) = contents-printed (Void t ∷ before) ps ∙ contents-bytes (back before) (void_tag t) (printed ps)
contents-printed before (Says said ∷ ps) = contents-printed (Says said ∷ before) ps ∙ contents-bytes (back before) (said_bytes said) (printed ps)
contents-printed before (p ∷ ps) = contents-printed (p ∷ before) ps

-- ---- layout

module _ (default : List ℕ) where
  abbrev print_one : List ℕ → Printed → List ℕ
  print_one out (Byte b) = out ++ b ∷ []
  print_one out (Other p) = print default out p

  abbrev layout_in : List Printed → List ℕ
  layout_in xs = fold print_one [] xs

  layout-bytes : (out bytes : List ℕ) (xs : List Printed) → fold print_one (out ++ bytes) xs ≡ fold print_one out (of_bytes bytes ++ xs)
  layout-bytes out [] xs = ap (λ before. fold print_one before xs) (append-nil out)
  layout-bytes out (b ∷ bs) xs =
      ap (λ before. fold print_one before xs) (sym (append_assoc out (b ∷ []) bs)) ∙ layout-bytes (out ++ b ∷ []) bs xs

  layout-printed : (out : List ℕ) (ps : List Piece) → fold (print default) out ps ≡ fold print_one out (printed ps)
  layout-printed out [] = refl
  layout-printed out (Open t ∷ ps) = layout-printed (out ++ start_tag t) ps ∙ layout-bytes out (start_tag t) (printed ps)
  layout-printed out (Close name ∷ ps) = layout-printed (out ++ end_tag name) ps ∙ layout-bytes out (end_tag name) (printed ps)
  layout-printed out (Void t ∷ ps) = layout-printed (out ++ void_tag t) ps ∙ layout-bytes out (void_tag t) (printed ps)
  layout-printed out (Says said ∷ ps) = layout-printed (out ++ said_bytes said) ps ∙ layout-bytes out (said_bytes said) (printed ps)
  layout-printed out (p ∷ ps) = layout-printed (print default out p) ps

  layouts-printed : (all : List (List Piece)) → map (layout default) all ≡ map layout_in (map printed all)
  layouts-printed [] = refl
  layouts-printed (ps ∷ all) =
      ap (λ first. first ∷ map (layout default) all) (layout-printed [] ps) ∙ ap (λ others. layout_in (printed ps) ∷ others) (layouts-printed all)

  module _ (options : CompileOptions) where
    -- the page of what is printed
    abbrev page_in : List Printed → List ℕ
    page_in xs =
        let calls = calls_in xs in
        let shown = shown_in options (first_calls calls) [] xs in
        fold (print default) (layout_in (content_in zero (reverse shown)))
        (section_pieces options (called_footnotes calls (map layout_in (contents_in [] shown))))

    -- what stands outside of footnotes, and after it the section of these calls and contents
    abbrev with_section : List NamedCall → List ℕ → List (List ℕ) → List ℕ
    with_section calls text notes = fold (print default) text (section_pieces options (called_footnotes calls notes))

    page-printed : (ps : List Piece) → page_layout options default ps ≡ page_in (printed ps)
    page-printed ps =
        let xs = printed ps in
        let firsts = first_calls (named_calls ps) in
        let shown = with_calls options firsts [] ps in
        let text = content zero (reverse shown) in
        let notes = contents [] shown in
        let section = section_pieces options (called_footnotes (named_calls ps) (map (layout default) notes)) in
        let by : List NamedCall → List ℕ = λ calls.
        let own = shown_in options (first_calls calls) [] xs in
        with_section calls (layout_in (content_in zero (reverse own))) (map layout_in (contents_in [] own)) in
        let same = shown-printed options firsts [] ps in
        let text_same : layout default text ≡ layout_in (content_in zero (reverse (shown_in options firsts [] xs))) =
        layout-printed [] text
        ∙ ap layout_in (content-printed zero (reverse shown) ∙ ap (content_in zero) (back-reverse shown ∙ ap reverse same)) in
        let notes_same : map (layout default) notes ≡ map layout_in (contents_in [] (shown_in options firsts [] xs)) =
        layouts-printed notes ∙ ap (map layout_in) (contents-printed [] shown ∙ ap (contents_in []) same) in
        fold-append (print default) [] text section
        ∙ ap (λ t. with_section (named_calls ps) t (map (layout default) notes)) text_same
        ∙ ap (with_section (named_calls ps) (layout_in (content_in zero (reverse (shown_in options firsts [] xs))))) notes_same
        ∙ ap by (calls-printed ps)

    -- the layout of a page looks at nothing else
    pub page_same : (ps qs : List Piece) → printed ps ≡ printed qs → page_layout options default ps ≡ page_layout options default qs
    page_same ps qs same = page-printed ps ∙ ap page_in same ∙ sym (page-printed qs)
