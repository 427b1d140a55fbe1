-- A page that is laid out one piece after another is the page of the rule.
use Rattle.std.proofs.Common.{◌≡◌, ℕ, zero, suc, List, [], ◌∷◌, ◌++◌, map, reverse, refl, sym, ap, ◌∙◌, append_assoc, subst}
use Rattle.std.specs.Prelude.{slice_index_or}
use Rattle.std.specs.List.{fold}
use Rattle.std.proofs.lemmas.List.{append-nil}
use Rattle.std.proofs.lemmas.List.Sums.{fold-append}
use Rattle.markdown_compile_options.specs.declared.configuration.CompileOptions.{CompileOptions}
use Rattle.definition_page.specs.Tags.{start_tag}
use Rattle.definition_page.specs.Pieces.{Piece, Named, CallOf, CountOf, NoteStart, NoteEnd, print}
use Rattle.definition_page.specs.GfmLabelStartFootnote.{call_pieces}
use Rattle.definition_page.specs.GfmFootnoteDefinition.{section_pieces}
use Rattle.definition_page.specs.Slug.{next_slug, with_slug}
use Rattle.definition_page.specs.HeadingIds.{tag_with_id, with_ids}
use Rattle.definition_page.specs.Layout.{NamedCall, named_call, named_calls, first_calls, with_calls, content, contents, layout, times, call_of}
use Rattle.definition_page.specs.Layout.{called_footnotes, page_layout}
use Rattle.definition_page.proofs.PlainLayout.{ArePlain, turned, plain_content, plain_outer, plain_contents}
use Rattle.html_bytes.specs.Layout.{NoteCalls, once_more, latest_call, LayoutState, layout_state, note_end, note_of, nothing_laid, with_footnotes}
use Rattle.html_bytes.proofs.CalledFootnotes.{once, latest_same, footnotes_same}

-- ---- steps

-- one more piece, where headings have their ids
abbrev pub step : CompileOptions → List ℕ → LayoutState → Piece → LayoutState
step options default l (CallOf place label) =
    let called = once_more place label l.called in
    layout_state (fold (print default) l.text (call_pieces options (latest_call place 1 called))) l.outer l.notes called l.taken
step options default l (CountOf place label) = layout_state l.text l.outer l.notes (once_more place label l.called) l.taken
step options default l NoteStart = layout_state [] (l.text ∷ l.outer) l.notes l.called l.taken
step options default l NoteEnd = note_end l.text l.outer l.notes l.called l.taken
step options default l piece = layout_state (print default l.text piece) l.outer l.notes l.called l.taken

-- one more piece: a heading that is named gets its id
abbrev pub lay : CompileOptions → List ℕ → LayoutState → Piece → LayoutState
lay options default l (Named t text) =
    layout_state (l.text ++ start_tag (tag_with_id options (next_slug l.taken text) t)) l.outer l.notes l.called (with_slug l.taken text)
lay options default l piece = step options default l piece

-- pieces that footnotes don't need go on with the innermost text, and change nothing else
pub plain_laid : (options : CompileOptions) (default : List ℕ) (ps : List Piece) → ArePlain ps → (l : LayoutState)
    → fold (step options default) l ps ≡ layout_state (fold (print default) l.text ps) l.outer l.notes l.called l.taken
plain_laid options default [] are l = refl
plain_laid options default (CallOf place label ∷ ps) are l = absurd are.0
plain_laid options default (CountOf place label ∷ ps) are l = absurd are.0
plain_laid options default (NoteStart ∷ ps) are l = absurd are.0
plain_laid options default (NoteEnd ∷ ps) are l = absurd are.0
plain_laid options default (p ∷ ps) are l = plain_laid options default ps are.1 (step options default l p)

-- ---- the rule

module _ (options : CompileOptions) (default : List ℕ) where
  -- ---- after some pieces

  -- the texts are what stands in the innermost footnote and around it, after these calls
  record Reached (l : LayoutState) (before : List Piece) (earlier : List NamedCall) : Type 0 where
    pub text : l.text ≡ layout default (content zero before)
    pub outer : (k : ℕ) → slice_index_or l.outer k [] ≡ layout default (content (suc k) before)
    pub called : l.called ≡ fold once [] earlier

  -- what comes of the pieces that are left
  record Laid (l k : LayoutState) (before shown : List Piece) (all : List NamedCall) : Type 0 where
    pub text : k.text ≡ layout default (content zero (reverse shown ++ before))
    pub notes : k.notes ≡ l.notes ++ map (layout default) (contents before shown)
    pub called : k.called ≡ fold once [] all

  -- pieces that footnotes don't need
  reach_plain : (l : LayoutState) (before qs : List Piece) (earlier : List NamedCall) → ArePlain qs → Reached l before earlier
      → Reached (layout_state (fold (print default) l.text qs) l.outer l.notes l.called l.taken) (reverse qs ++ before) earlier
  reach_plain l before qs earlier are h = record {
    text =
        ap (λ t. fold (print default) t qs) h.text ∙ sym (fold-append (print default) [] (content zero before) qs)
        ∙ ap (layout default) (sym (plain_content qs before are));
    outer = λ k. h.outer k ∙ ap (layout default) (sym (plain_outer k qs before are));
    called = h.called;
  }

  laid_plain : (l k : LayoutState) (text : List ℕ) (called : List NoteCalls) (before qs shown : List Piece) (all : List NamedCall) → ArePlain qs
      → Laid (layout_state text l.outer l.notes called l.taken) k (reverse qs ++ before) shown all → Laid l k before (qs ++ shown) all
  laid_plain l k text called before qs shown all are h = record {
    text = h.text ∙ ap (λ ps. layout default (content zero ps)) (sym (turned qs shown before));
    notes = h.notes ∙ ap (λ cs. l.notes ++ map (layout default) cs) (sym (plain_contents qs before shown are));
    called = h.called;
  }

  -- one more call
  call_more : (l : LayoutState) (earlier : List NamedCall) (place : ℕ) (label : List ℕ) → l.called ≡ fold once [] earlier
      → once_more place label l.called ≡ fold once [] (earlier ++ named_call place label ∷ [])
  call_more l earlier place label h = ap (once_more place label) h ∙ sym (fold-append once [] earlier (named_call place label ∷ []))

  -- where a footnote starts
  started_outer : (text : List ℕ) (outer : List (List ℕ)) (before : List Piece) → text ≡ layout default (content zero before)
      → ((k : ℕ) → slice_index_or outer k [] ≡ layout default (content (suc k) before))
      → (k : ℕ) → slice_index_or (text ∷ outer) k [] ≡ layout default (content (suc k) (NoteStart ∷ before))
  started_outer text outer before h hs zero = h
  started_outer text outer before h hs (suc k) = hs k

  -- where a footnote ends
  ended_text : (text : List ℕ) (outer notes : List (List ℕ)) (called : List NoteCalls) (taken : List (List ℕ))
      → (note_end text outer notes called taken).text ≡ slice_index_or outer zero []
  ended_text text [] notes called taken = refl
  ended_text text (around ∷ others) notes called taken = refl

  ended_outer : (text : List ℕ) (outer notes : List (List ℕ)) (called : List NoteCalls) (taken : List (List ℕ)) (k : ℕ)
      → slice_index_or (note_end text outer notes called taken).outer k [] ≡ slice_index_or outer (suc k) []
  ended_outer text [] notes called taken k = refl
  ended_outer text (around ∷ others) notes called taken k = refl

  ended_notes : (text : List ℕ) (outer notes : List (List ℕ)) (called : List NoteCalls) (taken : List (List ℕ))
      → (note_end text outer notes called taken).notes ≡ notes ++ text ∷ []
  ended_notes text [] notes called taken = refl
  ended_notes text (around ∷ others) notes called taken = refl

  ended_called : (text : List ℕ) (outer notes : List (List ℕ)) (called : List NoteCalls) (taken : List (List ℕ))
      → (note_end text outer notes called taken).called ≡ called
  ended_called text [] notes called taken = refl
  ended_called text (around ∷ others) notes called taken = refl

  -- ---- all pieces

  module _ (all : List NamedCall) where
    abbrev shown_of : List NamedCall → List Piece → List Piece
    shown_of earlier ps = with_calls options (first_calls all) earlier ps

    -- the calls before and after one more
    moved : (earlier later : List NamedCall) (c : NamedCall) → earlier ++ c ∷ later ≡ (earlier ++ c ∷ []) ++ later
    moved earlier later c = sym (append_assoc earlier (c ∷ []) later)

    laid : (ps : List Piece) (l : LayoutState) (before : List Piece) (earlier : List NamedCall) → Reached l before earlier
        → all ≡ earlier ++ named_calls ps → Laid l (fold (step options default) l ps) before (shown_of earlier ps) all
    laid [] l before earlier h e = record {
      text = h.text;
      notes = sym (append-nil l.notes);
      called = h.called ∙ ap (fold once []) (sym (e ∙ append-nil earlier));
    }
    laid (CallOf place label ∷ ps) l before earlier h e =
        let c = named_call place label in
        let called = once_more place label l.called in
        let call = call_of place (suc (times place earlier)) 1 (first_calls all) in
        let same : latest_call place 1 called ≡ call =
        ap (latest_call place 1) (call_more l earlier place label h.called) ∙ latest_same place label earlier (named_calls ps)
        ∙ ap (λ cs. call_of place (suc (times place earlier)) 1 (first_calls cs)) (sym e) in
        let qs = call_pieces options call in
        let next = layout_state (fold (print default) l.text qs) l.outer l.notes called l.taken in
        let plain = reach_plain l before qs earlier (tt, (tt, (tt, (tt, (tt, tt))))) h in
        let reached : Reached next (reverse qs ++ before) (earlier ++ c ∷ []) =
        record { text = plain.text; outer = plain.outer; called = call_more l earlier place label h.called } in
        subst (λ call'. Laid l (fold (step options default) (layout_state (fold (print default) l.text (call_pieces options call')) l.outer l.notes called l.taken) ps)
        before (qs ++ shown_of (earlier ++ c ∷ []) ps) all) (sym same)
        (laid_plain l (fold (step options default) next ps) (fold (print default) l.text qs) called before qs (shown_of (earlier ++ c ∷ []) ps) all
        (tt, (tt, (tt, (tt, (tt, tt)))))
        (laid ps next (reverse qs ++ before) (earlier ++ c ∷ []) reached (e ∙ moved earlier (named_calls ps) c)))
    laid (CountOf place label ∷ ps) l before earlier h e =
        let c = named_call place label in
        let next = layout_state l.text l.outer l.notes (once_more place label l.called) l.taken in
        let reached : Reached next before (earlier ++ c ∷ []) =
        record { text = h.text; outer = h.outer; called = call_more l earlier place label h.called } in
        let k = laid ps next before (earlier ++ c ∷ []) reached (e ∙ moved earlier (named_calls ps) c) in
        record { text = k.text; notes = k.notes; called = k.called }
    laid (NoteStart ∷ ps) l before earlier h e =
        let next = layout_state [] (l.text ∷ l.outer) l.notes l.called l.taken in
        let reached : Reached next (NoteStart ∷ before) earlier =
        record { text = refl; outer = started_outer l.text l.outer before h.text h.outer; called = h.called } in
        let k = laid ps next (NoteStart ∷ before) earlier reached e in
        let shown = shown_of earlier ps in
        record {
          text = k.text ∙ ap (λ all. layout default (content zero all)) (sym (turned (NoteStart ∷ []) shown before));
          notes = k.notes;
          called = k.called;
        }
    laid (NoteEnd ∷ ps) l before earlier h e =
        let shown = shown_of earlier ps in
        let reached : Reached (note_end l.text l.outer l.notes l.called l.taken) (NoteEnd ∷ before) earlier = record {
          text = ended_text l.text l.outer l.notes l.called l.taken ∙ h.outer 0;
          outer = λ k. ended_outer l.text l.outer l.notes l.called l.taken k ∙ h.outer (suc k);
          called = ended_called l.text l.outer l.notes l.called l.taken ∙ h.called;
        } in
        let k = laid ps (note_end l.text l.outer l.notes l.called l.taken) (NoteEnd ∷ before) earlier reached e in
        let rest = map (layout default) (contents (NoteEnd ∷ before) shown) in
        record {
          text = k.text ∙ ap (λ all. layout default (content zero all)) (sym (turned (NoteEnd ∷ []) shown before));
          notes =
              k.notes ∙ ap (λ notes. notes ++ rest) (ended_notes l.text l.outer l.notes l.called l.taken) ∙ append_assoc l.notes (l.text ∷ []) rest
              ∙ ap (λ text. l.notes ++ text ∷ rest) h.text;
          called = k.called;
        }
    laid (p ∷ ps) l before earlier h e =
        laid_plain l (fold (step options default) (step options default l p) ps) (print default l.text p) l.called before (p ∷ []) (shown_of earlier ps) all
        (tt, tt)
        (laid ps (step options default l p) (p ∷ before) earlier (reach_plain l before (p ∷ []) earlier (tt, tt) h) e)

  -- ---- the page

  -- a page, the headings of which have their ids, that is laid out one piece after another
  with_ids_same : (ps : List Piece) → page_layout options default ps ≡ with_footnotes options default (fold (step options default) nothing_laid ps)
  with_ids_same ps =
      let calls = named_calls ps in
      let shown = with_calls options (first_calls calls) [] ps in
      let notes = map (layout default) (contents [] shown) in
      let outside = content zero (reverse shown) in
      let k = fold (step options default) nothing_laid ps in
      let end = laid calls ps nothing_laid [] [] (record { text = refl; outer = λ k. refl; called = refl }) refl in
      let section = section_pieces options (called_footnotes calls notes) in
      fold-append (print default) [] outside section
      ∙ ap (λ text. fold (print default) text section) (ap (λ all. layout default (content zero all)) (sym (append-nil (reverse shown))) ∙ sym end.text)
      ∙ ap (λ footnotes. fold (print default) k.text (section_pieces options footnotes))
      (sym (ap (λ ns. map (note_of ns) k.called) end.notes ∙ ap (map (note_of notes)) end.called ∙ footnotes_same notes calls))

  -- ---- ids of headings

  -- what was laid out, but for the slugs
  abbrev but_slugs : LayoutState → LayoutState
  but_slugs l = layout_state l.text l.outer l.notes l.called []

  -- where a footnote ends
  ended_but_slugs : (text : List ℕ) (outer notes : List (List ℕ)) (called : List NoteCalls) (taken : List (List ℕ))
      → note_end text outer notes called [] ≡ but_slugs (note_end text outer notes called taken)
  ended_but_slugs text [] notes called taken = refl
  ended_but_slugs text (around ∷ others) notes called taken = refl

  ended_taken : (text : List ℕ) (outer notes : List (List ℕ)) (called : List NoteCalls) (taken : List (List ℕ))
      → (note_end text outer notes called taken).taken ≡ taken
  ended_taken text [] notes called taken = refl
  ended_taken text (around ∷ others) notes called taken = refl

  -- pieces that are laid out with their ids, and pieces that get them first
  ids_laid : (ps : List Piece) (l : LayoutState)
      → fold (step options default) (but_slugs l) (with_ids options l.taken ps) ≡ but_slugs (fold (lay options default) l ps)
  ids_laid [] l = refl
  ids_laid (NoteEnd ∷ ps) l =
      let ended = note_end l.text l.outer l.notes l.called l.taken in
      ap (λ k. fold (step options default) k (with_ids options l.taken ps)) (ended_but_slugs l.text l.outer l.notes l.called l.taken)
      ∙ ap (λ taken. fold (step options default) (but_slugs ended) (with_ids options taken ps))
      (sym (ended_taken l.text l.outer l.notes l.called l.taken))
      ∙ ids_laid ps ended
  ids_laid (p ∷ ps) l = ids_laid ps (lay options default l p)

  -- a page that is laid out one piece after another
  pub steps_same : (ps : List Piece)
      → page_layout options default (with_ids options [] ps) ≡ with_footnotes options default (fold (lay options default) nothing_laid ps)
  steps_same ps = with_ids_same (with_ids options [] ps) ∙ ap (with_footnotes options default) (ids_laid ps nothing_laid)
