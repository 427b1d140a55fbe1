-- What calls of footnotes and the section at a page's end print adds a safe page.
use Rattle.std.proofs.Common.{◌≡◌, ℕ, zero, suc, ◌+◌, ◌-◌, Bool, true, List, [], ◌∷◌, ◌++◌, None, Some, length, take, drop, codes, sym, refl, ap, ◌∙◌, subst}
use Rattle.std.proofs.Common.{append_assoc, arith}
use Rattle.std.specs.Prelude.{nat_le}
use Rattle.std.specs.List.{fold, flat_map}
use Rattle.std.proofs.lemmas.Bool.{cond_both}
use Rattle.std.proofs.lemmas.List.{length-take-le, drop-take, take-append-drop}
use Rattle.std.proofs.lemmas.List.Sums.{fold-append}
use Rattle.markdown_compile_options.specs.declared.configuration.CompileOptions.{CompileOptions}
use Rattle.definition_text.specs.Encode.{encode, plain}
use Rattle.definition_inline.specs.GfmAutolinkLiteral.{ends_with}
use Rattle.definition_page.specs.Tags.{PrintedPart, Words, AsItIs, Number, said_bytes, Tag, attribute, tag, bare_tag}
use Rattle.definition_page.specs.Pieces.{Piece, Open, Close, Says, Fresh, print}
use Rattle.definition_page.specs.InlinePieces.{element}
use Rattle.definition_page.specs.OptionTexts.{text_or}
use Rattle.definition_page.specs.GfmLabelStartFootnote.{Call, footnote_id, count_says, call_id, call_tag, call_pieces}
use Rattle.definition_page.specs.GfmFootnoteDefinition.{Footnote, back_tag, arrow, count_pieces, back_pieces, space_after, backs_pieces, ended_size, with_backs}
use Rattle.definition_page.specs.GfmFootnoteDefinition.{content_pieces, item_tag, footnote_pieces, footnotes_pieces, section_heading_tag, heading_pieces}
use Rattle.definition_page.specs.GfmFootnoteDefinition.{section_tag}
use Rattle.definition_page.specs.GfmFootnoteDefinition.{section_pieces}
use Rattle.html_safe_page.specs.Table.{start_rows}
use Rattle.html_safe_page.specs.declared.table.TagTable.{TagTable}
use Rattle.html_safe_page.proofs.Spelled.{same_bytes}
use Rattle.laws_safe_page.specs.SafeHtml.{AreSafe}
use Rattle.laws_safe_page.proofs.Each.{Each}
use Rattle.laws_safe_page.proofs.Marked.{IsPage, put_in}
use Rattle.laws_safe_page.proofs.Values.{no_nul_append, no_nul_parts, as_it_is, IsText, AreTextParts, plain_ahead, value_spelled}
use Rattle.laws_safe_page.proofs.Tags.{IsTag}
use Rattle.laws_safe_page.proofs.Pieces.{IsAfter, Adds, adds_nothing, adds_append, adds_says, adds_element, adds_fresh}
use Rattle.laws_safe_page.proofs.Lays.{IsPrinted}
use Rattle.laws_safe_page.proofs.Links.{words_text}

-- ---- ids

count_is_text : (count : ℕ) → AreTextParts (count_says count)
count_is_text count = cond_both (nat_le count 1) [] (Words (codes "-") ∷ Number count ∷ []) AreTextParts (λ _. tt) (λ _. (tt, (tt, tt)))

module _ (options : CompileOptions) (label : List ℕ) where
  footnote_text : IsText (flat_map said_bytes (footnote_id options label))
  footnote_text = value_spelled (footnote_id options label) (tt, (tt, (tt, tt)))

  call_text : (count : ℕ) → IsText (flat_map said_bytes (call_id options label count))
  call_text count = value_spelled (call_id options label count) (tt, (tt, (tt, count_is_text count)))

  -- a URL that begins with `#` has no protocol
  abbrev hash_text : (id : List PrintedPart) → IsText (flat_map said_bytes id) → IsText (flat_map said_bytes (Words (codes "#") ∷ id))
  hash_text id p = plain_ahead 35 (flat_map said_bytes id) refl refl p

  -- ---- tags

  back_is_tag : (count : ℕ) → IsTag start_rows (back_tag options label count)
  unfolding start_rows
  back_is_tag count =
      let to = hash_text (call_id options label count) (call_text count) in
      let says = words_text (text_or options.gfm_footnote_back_label (codes "Back to content")) in
      ((to, (words_text [], (says, (words_text (codes "data-footnote-backref"), tt)))), refl)

  item_is_tag : IsTag start_rows (item_tag options label)
  unfolding start_rows
  item_is_tag = ((footnote_text, tt), refl)

call_is_tag : (options : CompileOptions) (call : Call) → IsTag start_rows (call_tag options call)
unfolding start_rows
call_is_tag options call =
    let to = hash_text options call.label (footnote_id options call.label) (footnote_text options call.label) in
    let id = call_text options call.label call.count in
    ((to, (id, (words_text [], (words_text (codes "footnote-label"), tt)))), refl)

sup_is_tag : IsTag start_rows (bare_tag (codes "sup"))
unfolding start_rows
sup_is_tag = (tt, refl)

list_is_tag : IsTag start_rows (bare_tag (codes "ol"))
unfolding start_rows
list_is_tag = (tt, refl)

section_is_tag : IsTag start_rows section_tag
unfolding start_rows
section_is_tag = ((words_text [], (words_text (codes "footnotes"), tt)), refl)

-- the start tag of the heading, where its name and its attributes are those that all have
abbrev safe_heading : Tag
safe_heading = tag (codes "h2") (attribute (codes "id") (codes "footnote-label") ∷ attribute (codes "class") (codes "sr-only") ∷ [])

heading_is_tag : IsTag start_rows safe_heading
unfolding start_rows
heading_is_tag = ((words_text (codes "footnote-label"), (words_text (codes "sr-only"), tt)), refl)

-- ---- the place of ways back

begins_end : (n : ℕ) (bytes : List ℕ) → codes "</p>" ≡ take n bytes → (rest : List ℕ) × (bytes ≡ codes "</p>" ++ rest)
begins_end n bytes e = (drop n bytes, sym (take-append-drop n bytes) ∙ ap (λ x. x ++ drop n bytes) (sym e))

-- where the end tag of a paragraph comes last, it stands in its place
tag_at : (html : List ℕ) → ends_with (codes "</p>") (take (ended_size html) html) ≡ true
    → (rest : List ℕ) × (drop (ended_size html - 4) html ≡ codes "</p>" ++ rest)
tag_at html e =
    let size = ended_size html in
    let text = take size html in
    let long : length text ≡ size = length-take-le size html (omega arith) in
    let last : codes "</p>" ≡ drop (size - 4) text = same_bytes (codes "</p>") (drop (length text - 4) text) e ∙ ap (λ n. drop (n - 4) text) long in
    let whole : size ≡ (size - 4) + (size - (size - 4)) = omega arith in
    begins_end (size - (size - 4)) (drop (size - 4) html)
    (last ∙ ap (λ n. drop (size - 4) (take n html)) whole ∙ drop-take (size - 4) (size - (size - 4)) html)

module _ (marks : Bool) (table : TagTable) where
  module _ (default : List ℕ) where
    pub call_adds : (options : CompileOptions) (call : Call) → Adds marks table default (call_pieces options call)
    call_adds options call =
        adds_element marks table default (bare_tag (codes "sup")) (element (call_tag options call) (Says (Number call.number) ∷ [])) sup_is_tag
        (adds_element marks table default (call_tag options call) (Says (Number call.number) ∷ []) (call_is_tag options call)
        (adds_says marks table default (Number call.number) tt))

    -- HTML that is printed as it is
    html_adds : (html : List ℕ) → IsPrinted marks table html → Adds marks table default (Says (AsItIs html) ∷ [])
    html_adds html p out =
        subst (λ bytes. IsAfter marks table out (out ++ bytes)) (sym (as_it_is html p.1))
        (record { added = html; is_after = refl; is_safe = p.0; no_nul = p.1 })

    -- pieces before the end tag of a paragraph of such HTML
    put_adds : (before after rest : List ℕ) (pieces : List Piece) → after ≡ codes "</p>" ++ rest → IsPrinted marks table (before ++ after)
        → Adds marks table default pieces → Adds marks table default (Says (AsItIs before) ∷ pieces ++ Says (AsItIs after) ∷ [])
    put_adds before after rest pieces e p q out =
        let parts = no_nul_parts before after p.1 in
        let start = out ++ plain before in
        let inner = q start in
        let page : IsAfter marks table out (fold (print default) start pieces ++ plain after) =
        record {
          added = before ++ (inner.added ++ after);
          is_after =
              ap (λ x. x ++ plain after) inner.is_after
              ∙ ap (λ x. (start ++ inner.added) ++ x) (as_it_is after parts.1)
              ∙ ap (λ x. ((out ++ x) ++ inner.added) ++ after) (as_it_is before parts.0)
              ∙ append_assoc (out ++ before) inner.added after
              ∙ append_assoc out before (inner.added ++ after);
          is_safe =
              subst (λ x. IsPage marks table (before ++ (inner.added ++ x))) (sym e)
              (put_in marks table before (codes "/p>" ++ rest) inner.added refl (subst (λ x. IsPage marks table (before ++ x)) e p.0) inner.is_safe);
          no_nul = no_nul_append before (inner.added ++ after) parts.0 (no_nul_append inner.added after inner.no_nul parts.1);
        } in
        subst (IsAfter marks table out) (sym (fold-append (print default) start pieces (Says (AsItIs after) ∷ []))) page

    module _ (ending : IsText default) (options : CompileOptions) where
      fresh_line : (pieces : List Piece) → Adds marks table default pieces → Adds marks table default (Fresh ∷ pieces)
      fresh_line pieces p = adds_append marks table default (Fresh ∷ []) pieces (adds_fresh marks table default ending) p

      and_fresh : (pieces : List Piece) → Adds marks table default pieces → Adds marks table default (pieces ++ Fresh ∷ [])
      and_fresh pieces p = adds_append marks table default pieces (Fresh ∷ []) p (adds_fresh marks table default ending)

      -- ---- ways back

      count_adds : (count : ℕ) → Adds marks table default (count_pieces count)
      count_adds count =
          cond_both (nat_le count 1) [] (element (bare_tag (codes "sup")) (Says (Number count) ∷ [])) (Adds marks table default)
          (λ _. adds_nothing marks table default)
          (λ _.
          adds_element marks table default (bare_tag (codes "sup")) (Says (Number count) ∷ []) sup_is_tag (adds_says marks table default (Number count) tt))

      space_adds : (count : ℕ) → Adds marks table default (space_after count)
      space_adds zero = adds_nothing marks table default
      space_adds (suc count) = adds_says marks table default (Words (codes " ")) tt

      back_adds : (label : List ℕ) (count : ℕ) → Adds marks table default (back_pieces options label count)
      back_adds label count =
          adds_element marks table default (back_tag options label count) (Says (Words arrow) ∷ count_pieces count) (back_is_tag options label count)
          (adds_append marks table default (Says (Words arrow) ∷ []) (count_pieces count) (adds_says marks table default (Words arrow) tt) (count_adds count))

      backs_add : (label : List ℕ) (count : ℕ) → Adds marks table default (backs_pieces options label count)
      backs_add label zero = adds_nothing marks table default
      backs_add label (suc count) =
          let backs = backs_pieces options label count in
          adds_append marks table default (backs ++ space_after count) (back_pieces options label (suc count))
          (adds_append marks table default backs (space_after count) (backs_add label count) (space_adds count)) (back_adds label (suc count))

      -- ---- a footnote

      content_adds : (html : List ℕ) (backs : List Piece) → IsPrinted marks table html → Adds marks table default backs
          → Adds marks table default (content_pieces html backs)
      content_adds html backs p q =
          let end = ended_size html - 4 in
          let ends = ends_with (codes "</p>") (take (ended_size html) html) in
          let spaced : List Piece = Says (Words (codes " ")) ∷ backs in
          cond_both ends (Some end) None (λ o. Adds marks table default (with_backs html backs o))
          (λ e.
          let closing = tag_at html e in
          put_adds (take end html) (drop end html) closing.0 spaced closing.1 (subst (IsPrinted marks table) (sym (take-append-drop end html)) p)
          (adds_append marks table default (Says (Words (codes " ")) ∷ []) backs (adds_says marks table default (Words (codes " ")) tt) q))
          (λ _. adds_append marks table default (Says (AsItIs html) ∷ []) (Fresh ∷ backs) (html_adds html p) (fresh_line backs q))

      footnote_adds : (note : Footnote) → IsPrinted marks table note.html → Adds marks table default (footnote_pieces options note)
      footnote_adds note p =
          let backs = backs_pieces options note.label note.calls in
          let content = content_pieces note.html backs in
          let item = item_tag options note.label in
          fresh_line (element item (Fresh ∷ content ++ Fresh ∷ []))
          (adds_element marks table default item (Fresh ∷ content ++ Fresh ∷ []) (item_is_tag options note.label)
          (fresh_line (content ++ Fresh ∷ []) (and_fresh content (content_adds note.html backs p (backs_add note.label note.calls)))))

      footnotes_add : (notes : List Footnote) → Each (λ (note : Footnote). IsPrinted marks table note.html) notes
          → Adds marks table default (footnotes_pieces options notes)
      footnotes_add [] p = adds_nothing marks table default
      footnotes_add (note ∷ notes) p =
          adds_append marks table default (footnote_pieces options note) (footnotes_pieces options notes) (footnote_adds note p.0) (footnotes_add notes p.1)

      -- ---- the section

      heading_adds : AreSafe options → Adds marks table default (heading_pieces options)
      heading_adds safe =
          let label = text_or options.gfm_footnote_label (codes "Footnotes") in
          subst (λ name.
          let bytes = encode (text_or name (codes "h2")) in
          Adds marks table default (Open (section_heading_tag bytes options.gfm_footnote_label_attributes) ∷ Says (Words label) ∷ Close bytes ∷ []))
          (sym safe.no_tag_name)
          (subst (λ attributes. Adds marks table default (Open (section_heading_tag (codes "h2") attributes) ∷ Says (Words label) ∷ Close (codes "h2") ∷ []))
          (sym safe.no_attributes)
          (adds_element marks table default safe_heading (Says (Words label) ∷ []) heading_is_tag (adds_says marks table default (Words label) tt)))

      pub section_adds : AreSafe options → (notes : List Footnote) → Each (λ (note : Footnote). IsPrinted marks table note.html) notes
          → Adds marks table default (section_pieces options notes)
      section_adds safe [] p = adds_nothing marks table default
      section_adds safe (note ∷ notes) p =
          let heading = heading_pieces options in
          let items = footnotes_pieces options (note ∷ notes) in
          let list = element (bare_tag (codes "ol")) (items ++ Fresh ∷ []) in
          let inside = heading ++ Fresh ∷ list ++ Fresh ∷ [] in
          and_fresh (Fresh ∷ element section_tag inside)
          (fresh_line (element section_tag inside)
          (adds_element marks table default section_tag inside section_is_tag
          (and_fresh (heading ++ Fresh ∷ list)
          (adds_append marks table default heading (Fresh ∷ list) (heading_adds safe)
          (fresh_line list
          (adds_element marks table default (bare_tag (codes "ol")) (items ++ Fresh ∷ []) list_is_tag (and_fresh items (footnotes_add (note ∷ notes) p))))))))
