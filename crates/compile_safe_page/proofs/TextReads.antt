-- In the text of every event the codes of line endings are those of endings.
use Rattle.std.proofs.Common.{◌≡◌, ℕ, Bool, true, ◌||◌, List, [], ◌∷◌, Option, None, Some, is_some, refl, sym, subst, map, inl, inr}
use Rattle.std.specs.Str.{bytes_eq}
use Rattle.std.proofs.lemmas.Bool.{cond_both, or_cases}
use Rattle.std.proofs.lemmas.Slice.Eq.{bytes_eq-Decides}
use Rattle.markdown_options.specs.declared.line_ending.LineEnding.{LineEnding}
use Rattle.markdown_options.specs.declared.line_ending.LineEnding.TheVariants.{CarriageReturnLineFeed, CarriageReturn, LineFeed}
use Rattle.engine_events.specs.Names.{same_name, is_listed}
use Rattle.engine_events.specs.declared.event.Name.{Name}
use Rattle.engine_events.specs.declared.event.Name.TheVariants as n
use Rattle.definition_text.specs.Columns.{Code as ContentCode}
use Rattle.definition_text.specs.Content.{content_codes, ending_code, is_eol}
use Rattle.definition_text.specs.Lines.{TextLine, lines}
use Rattle.definition_text.proofs.Each.{Each, each-append, each_flat_map}
use Rattle.definition_inline.specs.CharacterReference.{Names}
use Rattle.definition_inline.specs.Inline.{LiteralKind, InlineLeaf, Data, Escape, LineEnd, Leaf, Inline, Inlines}
use Rattle.definition_inline.specs.Inline as inline
use Rattle.event_grammar.specs.Facts.{is_ending}
use Rattle.event_grammar.specs.Trees.{Nodes, Around, Nil, Cons}
use Rattle.event_meaning.specs.Children.{child, text_of, text_in}
use Rattle.event_meaning.specs.Texts.{append, leaves, text_names, html_piece, html_line, html_data, html_part, html_parts, autolink_of, literal_of}
use Rattle.event_meaning.specs.Texts.{text_part, inlines_of, text_within}
use Rattle.laws_safe_page.proofs.InlineAdds.{LeafEndsLine, AllEndLines}
use Rattle.compile_safe_page.proofs.Facts.{EndingFact, AreSound}

-- ---- endings

abbrev IsEnd : ContentCode → Type 0
IsEnd code = is_eol code ≡ true

abbrev AreEnds : List ℕ → Type 0
AreEnds text = Each IsEnd (content_codes text)

spelled_as : (text wanted : List ℕ) → AreEnds wanted → bytes_eq text wanted ≡ true → AreEnds text
spelled_as text wanted p h = subst AreEnds (sym ((bytes_eq-Decides text wanted).0 h)) p

are_ends : (text : List ℕ) → is_ending text ≡ true → AreEnds text
are_ends text h =
    elim (or_cases (bytes_eq text (10 ∷ []) || bytes_eq text (13 ∷ 10 ∷ [])) (bytes_eq text (13 ∷ [])) h) [
      | inl other ↦ elim (or_cases (bytes_eq text (10 ∷ [])) (bytes_eq text (13 ∷ 10 ∷ [])) other) [
        | inl e ↦ spelled_as text (10 ∷ []) (refl, tt) e
        | inr e ↦ spelled_as text (13 ∷ 10 ∷ []) (refl, tt) e
      ]
      | inr e ↦ spelled_as text (13 ∷ []) (refl, tt) e
    ]

-- ---- leaves

appended : (is others : Inlines) → AllEndLines is → AllEndLines others → AllEndLines (append is others)
appended inline.Nil others p q = q
appended (inline.Cons i is) others p q = (p.0, appended is others p.1 q)

line_ends : (codes : List ContentCode) → Each IsEnd codes → AllEndLines (leaves (map LineEnd codes))
line_ends [] p = tt
line_ends (c ∷ cs) p = (p.0, line_ends cs p.1)

leaves_end : (ls : List InlineLeaf) → Each LeafEndsLine ls → AllEndLines (leaves ls)
leaves_end [] p = tt
leaves_end (l ∷ ls) p = (p.0, leaves_end ls p.1)

piece_ends : (piece : List ℕ) → Each LeafEndsLine (html_piece piece)
piece_ends [] = tt
piece_ends (b ∷ bs) = (tt, tt)

ending_ends : (ending : Option LineEnding) → Each LeafEndsLine (map LineEnd (ending_code ending))
ending_ends None = tt
ending_ends (Some CarriageReturnLineFeed) = (refl, tt)
ending_ends (Some CarriageReturn) = (refl, tt)
ending_ends (Some LineFeed) = (refl, tt)

html_line_ends : (line : TextLine) → Each LeafEndsLine (html_line line)
html_line_ends line =
    each-append LeafEndsLine (html_piece line.content) (map LineEnd (ending_code line.ending)) (piece_ends line.content) (ending_ends line.ending)

html_data_ends : (text : List ℕ) → AllEndLines (leaves (html_data text))
html_data_ends text = leaves_end (html_data text) (each_flat_map LeafEndsLine html_line (lines text) html_line_ends)

datas : (text : List ℕ) → AllEndLines (leaves (map Data text))
datas [] = tt
datas (b ∷ bs) = (tt, datas bs)

escapes : (text : List ℕ) → AllEndLines (leaves (map Escape text))
escapes [] = tt
escapes (b ∷ bs) = (tt, escapes bs)

module _ (names : Names) (bytes : List ℕ) where
  html_end : (name : Name) (text : List ℕ) → EndingFact name text → AllEndLines (html_part names bytes name text)
  html_end n.HtmlTextData text h = html_data_ends text
  html_end n.LineEnding text h = line_ends (content_codes text) (are_ends text h)
  html_end name text h = tt

  literal_ends : (linked : Bool) (kind : LiteralKind) (text : List ℕ) → AllEndLines (literal_of names bytes linked kind text)
  literal_ends linked kind text = cond_both linked _ _ AllEndLines (λ _. datas text) (λ _. (tt, tt))

  html_ends : (ns : Nodes) → AreSound bytes ns → AllEndLines (html_parts names bytes ns)
  html_ends Nil p = tt
  html_ends (Cons (Around enter kids exit) ns) p =
      let text = text_of bytes (Around enter kids exit) in
      appended (html_part names bytes enter.name text) (html_parts names bytes ns) (html_end enter.name text p.0.0) (html_ends ns p.1)

  autolink_ends : (kids : Nodes) → LeafEndsLine (autolink_of names bytes kids)
  autolink_ends kids = cond_both (is_some (child n.AutolinkEmail kids)) _ _ LeafEndsLine (λ _. tt) (λ _. tt)

  part_ends : (linked : Bool) (name : Name) (text : List ℕ) (kids : Nodes) (inner : Inlines) → EndingFact name text → AreSound bytes kids
      → AllEndLines inner → AllEndLines (text_part names bytes linked name text kids inner)
  part_ends linked n.Data text kids inner h k p = datas text
  part_ends linked n.LineEnding text kids inner h k p = line_ends (content_codes text) (are_ends text h)
  part_ends linked n.CharacterEscape text kids inner h k p = escapes (text_in bytes n.CharacterEscapeValue kids)
  part_ends linked n.CharacterReference text kids inner h k p = (tt, tt)
  part_ends linked n.Autolink text kids inner h k p = (autolink_ends kids, tt)
  part_ends linked n.GfmAutolinkLiteralWww text kids inner h k p = literal_ends linked _ text
  part_ends linked n.GfmAutolinkLiteralEmail text kids inner h k p = literal_ends linked _ text
  part_ends linked n.GfmAutolinkLiteralMailto text kids inner h k p = literal_ends linked _ text
  part_ends linked n.GfmAutolinkLiteralProtocol text kids inner h k p = literal_ends linked _ text
  part_ends linked n.GfmAutolinkLiteralXmpp text kids inner h k p = literal_ends linked _ text
  part_ends linked n.CodeText text kids inner h k p = (tt, tt)
  part_ends linked n.MathText text kids inner h k p = (tt, tt)
  part_ends linked n.HtmlText text kids inner h k p = html_ends kids k
  part_ends linked n.HardBreakEscape text kids inner h k p = (tt, tt)
  part_ends linked n.HardBreakTrailing text kids inner h k p = (tt, tt)
  part_ends linked n.Emphasis text kids inner h k p = ((tt, p), tt)
  part_ends linked n.Strong text kids inner h k p = ((tt, p), tt)
  part_ends linked n.GfmStrikethrough text kids inner h k p = ((tt, p), tt)
  part_ends linked n.Mark text kids inner h k p = ((tt, p), tt)
  part_ends linked n.Link text kids inner h k p = ((tt, p), tt)
  part_ends linked n.Image text kids inner h k p = ((tt, p), tt)
  part_ends linked n.GfmFootnoteCall text kids inner h k p = (tt, tt)
  part_ends linked n.GfmTaskListItemCheck text kids inner h k p = (tt, tt)
  part_ends linked name text kids inner h k p = tt

  mutual
    pub parts_end : (linked : Bool) (ns : Nodes) → AreSound bytes ns → AllEndLines (inlines_of names bytes linked ns)
    parts_end linked Nil p = tt
    parts_end linked (Cons (Around enter kids exit) ns) p =
        let text = text_of bytes (Around enter kids exit) in
        let inside = linked || same_name enter.name n.Link in
        appended (text_part names bytes linked enter.name text kids (text_within names bytes inside kids)) (inlines_of names bytes linked ns)
        (part_ends linked enter.name text kids (text_within names bytes inside kids) p.0.0 p.0.2 (text_ends inside kids p.0.2)) (parts_end linked ns p.1)

    pub text_ends : (linked : Bool) (ns : Nodes) → AreSound bytes ns → AllEndLines (text_within names bytes linked ns)
    text_ends linked Nil p = tt
    text_ends linked (Cons (Around enter kids exit) ns) p =
        cond_both (is_listed text_names enter.name) _ _ AllEndLines (λ _. parts_end linked kids p.0.2)
        (λ _. cond_both (same_name enter.name n.Label) _ _ AllEndLines (λ _. text_ends linked kids p.0.2) (λ _. text_ends linked ns p.1))
