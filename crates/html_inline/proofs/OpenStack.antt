-- What is open, and rows that are printed.
use Rattle.std.proofs.Common.{◌≡◌, ℕ, Bool, true, false, List, [], ◌∷◌, ◌++◌, sym, ap, ◌∙◌, append_assoc, take, get_or, length, ◌+◌, ◌<◌}
use Rattle.html_inline.proofs.Prelude.{append-nil, cond-false, cond-true, Data, data_rows, encode, enter, flat_map-append, fold, fold-append, InlineLeaf}
use Rattle.html_inline.proofs.Prelude.{InlineRow, is_described, LayoutState, leaf_in, leaves_bytes, line_leaf, lines_rows, map, Meaning, new_part}
use Rattle.html_inline.proofs.Prelude.{OpenElement, OpenPart, printed_at, PrintState, reverse, row_printed_in, row_view, rows_view, take_more, with_more}
use Rattle.html_inline.proofs.Prelude.{with_text}
use Rattle.std.proofs.lemmas.List.{reverse-append}
use Rattle.definition_inline.specs.Inline as inline
use Rattle.inline_rows.specs.InlineRows as rows_of
use Rattle.html_inline.specs.declared.stack.OpenPart.TheVariants.{Silent}
use Rattle.html_inline.specs.Printed.{leaf_bytes, leave}
use Rattle.html_inline.proofs.LeafTexts.{data_shown, lines_shown}

-- one more stands on the stack
pub stack_more : (view : OpenPart → OpenElement) (items : List OpenPart) (part : OpenPart)
    → map view (reverse (items ++ part ∷ [])) ≡ view part ∷ map view (reverse items)
stack_more view items part = ap (map view) (reverse-append items (part ∷ []))

pub entered_silent : (view : OpenPart → OpenElement) (start : List ℕ) (o : OpenElement) (l : LayoutState) (items after : List OpenPart)
    → view Silent ≡ new_part true []
    → after ≡ items ++ Silent ∷ [] → is_described (map view (reverse items)) ≡ true
    → printed_at l (map view (reverse after)) ≡ enter start o (printed_at l (map view (reverse items)))
entered_silent view start o l items after silent pushed h =
    ap (λ s. printed_at l (map view (reverse s))) pushed
    ∙ ap (printed_at l) (stack_more view items Silent ∙ ap (λ s. s ∷ map view (reverse items)) silent)
    ∙ sym (cond-true (is_described (map view (reverse items))) _ _ h)

pub entered : (view : OpenPart → OpenElement) (start : List ℕ) (o : OpenElement) (l : LayoutState) (text : List ℕ) (items after : List OpenPart)
    (part : OpenPart)
    → view part ≡ o
    → after ≡ items ++ part ∷ [] → is_described (map view (reverse items)) ≡ false → text ≡ l.text ++ start
    → printed_at (with_text l text) (map view (reverse after)) ≡ enter start o (printed_at l (map view (reverse items)))
entered view start o l text items after part is pushed h e =
    ap (λ s. printed_at (with_text l text) (map view (reverse s))) pushed
    ∙ ap (printed_at (with_text l text)) (stack_more view items part ∙ ap (λ s. s ∷ map view (reverse items)) is)
    ∙ ap (λ x. printed_at (with_text l x) (o ∷ map view (reverse items))) e
    ∙ sym (cond-false (is_described (map view (reverse items))) _ _ h)

pub left : (view : OpenPart → OpenElement) (l : LayoutState) (text : List ℕ) (items after : List OpenPart) (part : OpenPart)
    → items ≡ after ++ part ∷ [] → text ≡ l.text ++ (view part).ending
    → printed_at (with_text l text) (map view (reverse after)) ≡ leave l (map view (reverse items))
left view l text items after part popped e =
    ap (λ x. printed_at (with_text l x) (map view (reverse after))) e
    ∙ sym (ap (leave l) (ap (λ s. map view (reverse s)) popped ∙ stack_more view after part))

-- ---- rows

-- a text that grew by nothing, and one that grew twice
pub no_more : (l : LayoutState) → l ≡ with_more l []
no_more l = ap (with_text l) (sym (append-nil l.text))

pub more_after : (l : LayoutState) (a b : List ℕ) → with_more (with_more l a) b ≡ with_more l (a ++ b)
more_after l a b = ap (with_text l) (append_assoc l.text a b)

module _ (cell : Bool) (meaning : Meaning) (stack : List OpenElement) where
  -- leaves are printed one after another
  pub leaves_printed : (parts : List InlineLeaf) (l : LayoutState)
      → fold (row_printed_in cell meaning) (printed_at l stack) (map rows_of.Part parts)
      ≡ printed_at (with_more l (leaves_bytes meaning.compile (is_described stack) (map (leaf_in cell) parts))) stack
  leaves_printed [] l = ap (λ x. printed_at x stack) (no_more l)
  leaves_printed (part ∷ parts) l =
      let text = leaf_bytes meaning.compile (is_described stack) (leaf_in cell part) in
      leaves_printed parts (with_more l text)
      ∙ ap (λ x. printed_at x stack) (more_after l text (leaves_bytes meaning.compile (is_described stack) (map (leaf_in cell) parts)))

  pub text_printed : (l : LayoutState) (text : List ℕ)
      → fold (row_printed_in cell meaning) (printed_at l stack) (data_rows text) ≡ printed_at (with_more l (encode text)) stack
  text_printed l text =
      leaves_printed (map Data text) l
      ∙ ap (λ s. printed_at (with_more l s) stack) (data_shown cell meaning.compile (is_described stack) text)

  pub lines_printed : (l : LayoutState) (text : List ℕ)
      → fold (row_printed_in cell meaning) (printed_at l stack) (lines_rows text) ≡ printed_at (with_more l (encode text)) stack
  lines_printed l text =
      leaves_printed (map line_leaf text) l
      ∙ ap (λ s. printed_at (with_more l s) stack) (lines_shown cell meaning.compile (is_described stack) text)

-- one more row
pub rows_more : (cell : Bool) (meaning : Meaning) (at : ℕ → inline.LinkTexts) (start : PrintState) (rows : List InlineRow) (i : ℕ) (d : InlineRow)
    → i < length rows
    → fold (row_printed_in cell meaning) start (rows_view at (take (i + 1) rows))
    ≡ fold (row_printed_in cell meaning) (fold (row_printed_in cell meaning) start (rows_view at (take i rows))) (row_view at (get_or rows i d))
rows_more cell meaning at start rows i d lt =
    ap (λ s. fold (row_printed_in cell meaning) start (rows_view at s)) (take_more rows i d lt)
    ∙ ap (fold (row_printed_in cell meaning) start) (flat_map-append (row_view at) (take i rows) (get_or rows i d ∷ [])
    ∙ ap (λ s. rows_view at (take i rows) ++ s) (append-nil (row_view at (get_or rows i d))))
    ∙ fold-append (row_printed_in cell meaning) start (rows_view at (take i rows)) (row_view at (get_or rows i d))

pub rows_step : (cell : Bool) (meaning : Meaning) (at : ℕ → inline.LinkTexts) (start before after : PrintState) (rows : List InlineRow) (i : ℕ)
    (d : InlineRow)
    → i < length rows
    → before ≡ fold (row_printed_in cell meaning) start (rows_view at (take i rows))
    → after ≡ fold (row_printed_in cell meaning) before (row_view at (get_or rows i d))
    → after ≡ fold (row_printed_in cell meaning) start (rows_view at (take (i + 1) rows))
rows_step cell meaning at start before after rows i d lt e f =
    f ∙ ap (λ (q : PrintState). fold (row_printed_in cell meaning) q (row_view at (get_or rows i d))) e ∙ sym (rows_more cell meaning at start rows i d lt)
