-- What is written of each construct that holds no other, where it is laid.
use Rattle.std.proofs.Common.{inl, inr, ◌≡◌, append_assoc, eqb, ℕ, ◌<◌, Bool, true, false, List, [], ◌∷◌, ◌++◌, refl, sym, ap, ap₂, subst, ◌∙◌, take}
use Rattle.std.proofs.Common.{drop, length, map, arith}
use Rattle.std.proofs.Common.{◌≤◌, zero, suc, ◌&&◌, replicate}
use Rattle.std.specs.Char.{is_ascii_punctuation}
use Rattle.std.specs.List.{list_all}
use Rattle.std.proofs.lemmas.Bool.{le-leb}
use Rattle.std.proofs.lemmas.List.{length-replicate}
use Rattle.event_tokens.specs.Tokens.{is_among, is_token}
use Rattle.event_grammar.specs.declared.slot.Child.TheVariants.{TextPart}
use Rattle.event_grammar.specs.Grammar.{text_row}
use Rattle.parse_slots.proofs.Steps.{fill_none}
use Rattle.parse_slots.proofs.Voids.{data_fill}
use Rattle.parse_references.specs.Sound.{is_asked_on}
use Rattle.parse_references.proofs.Sound.{data_sound}
use Rattle.parse_lines.specs.Content.{HasBytes}
use Rattle.parse_inline.proofs.Prelude.{Anywhere, AreBytesAt, AreCodes, AreCutBetween, ArePartsAlike, bare, cases_Bool, codes_of, codes_split, content_codes}
use Rattle.definition_text.specs.Bytes.{begins_with}
use Rattle.parse_inline.proofs.Prelude.{after_return_code, and_parts, codes, cond-false, cond-true, eqb-true, ◌==◌}
use Rattle.parse_inline.proofs.Prelude.{contents_none, Data, data_nodes, End, end_after, end_in, ending_bytes, EndNoLine, ends_line, Escape, escaped}
use Rattle.parse_inline.proofs.Prelude.{html_leaves, if◌then◌else◌, in_angles, indent, inline_bytes_law, InlineCode, InlineContext, InlineLeaf, is_eol}
use Rattle.parse_inline.proofs.Prelude.{is_listed, is_white, IsApart, IsData, IsLeafLaid, IsPartLaid, IsUtf8, IsWhole, Leaf, LeafPart, leaves, line_bytes}
use Rattle.parse_inline.proofs.Prelude.{line_end, line_ending_code, line_in_content, LineEnding, list_any, Meaning, Name, Names, Nil, part, plain_none}
use Rattle.parse_inline.proofs.Prelude.{same_name, slice_index, sought_names, spelled_view, SpelledLeaf, standing, StandsInContent, StandsInLine, still_whole}
use Rattle.parse_inline.proofs.Prelude.{Stop, take-append-drop, text_part, true≢false, Walk, WritesFront, WritesInLine, WritesLeaves, WritesPart, WritesSpelled}
use Rattle.markdown_options.specs.declared.configuration.Constructs.{Constructs}
use Rattle.markdown_options.specs.declared.line_ending.LineEnding.TheVariants as endings
use Rattle.engine_events.specs.declared.event.Name.TheVariants as n
use Rattle.definition_inline.specs.Inline as inline
use Rattle.definition_inline.proofs.Scanning.{drop-codes_of}
use Rattle.event_meaning.specs.Texts as texts
use Rattle.parse_strings.proofs.Characters.{fits_data}
use Rattle.parse_strings.proofs.Codes.{alone_codes, feed_codes}
use Rattle.parse_written.specs.Bytes.{Passes}
use Rattle.inline_leaves.specs.Leaves.{kind_view}
use Rattle.inline_leaves.specs.declared.leaf.LiteralKind.{LiteralKind}
use Rattle.inline_leaves.specs.declared.leaf.LiteralKind.TheVariants.{Www, Protocol, Email}
use Rattle.inline_leaves.proofs.Codes.{after_codes, prefix_codes}
use Rattle.parse_written.specs.Parts.{AreEscapes, EndsLine, HasPartForm}
use Rattle.parse_written.proofs.Parts.{parts_law}
use Rattle.parse_written.proofs.Bytes.{text_bytes_law}
use Rattle.parse_written.proofs.RowLeaves.{break_bytes_law, line_bytes_law}
use Rattle.inline_rows.specs.declared.row.SpelledLeaf.TheVariants as spelled
use Rattle.parse_written.specs.Leaves.{AreAllSpaces, HasForm, IsAutolink, IsHtml, is_target}
use Rattle.parse_written.proofs.Forms.{leaf_law}
use Rattle.parse_written.specs.Written.{IsLiteral, IsText, is_literal}
use Rattle.parse_written.proofs.Codes.{codes_are}
use Rattle.parse_inline.specs.Leaves.{literal_names}
use Rattle.parse_inline.proofs.Data.{dark_text, data_plain, data_spells}
use Rattle.parse_inline.proofs.Fills.{IsTextToken, one_of}
use Rattle.parse_inline.proofs.Fronts.{WritesNext, leaves_of_front, token_front}
use Rattle.parse_inline.proofs.LeavesAlike.{data_alike, escapes_alike, leaf_alike}
use Rattle.parse_inline.proofs.LineEnds.{indent_dark, indent_parts, indent_size}

spaces_inline : (size : ℕ) → EndNoLine (replicate size 32)
spaces_inline zero = tt
spaces_inline (suc n) = (refl, spaces_inline n)

are_spaces : (size : ℕ) → list_all (is_among (32 ∷ [])) (replicate size 32) ≡ true
are_spaces zero = refl
are_spaces (suc n) = are_spaces n

-- two spaces or more may be a hard break
spaces_may : (size : ℕ) → 2 ≤ size → is_token n.HardBreakTrailing (replicate size 32) ≡ true
spaces_may size some =
    ap₂ (λ (s t : Bool). s && t) (le-leb 2 (length (replicate size 32)) (omega (arith, some, length-replicate {A = ℕ} size 32))) (are_spaces size)

abbrev AreSmall : List ℕ → Type 0
AreSmall bytes = (k : ℕ) → slice_index bytes k < 256

-- codes that end no line are the first bytes
record IsFirst (front bytes : List ℕ) (to : List InlineCode) : Type 0 where
  parts : bytes ≡ front ++ drop (length front) bytes
  left : AreBytesAt (drop (length front) bytes) to

passed_first : (front bytes : List ℕ) (to : List InlineCode) → Passes front bytes to → IsFirst front bytes to
passed_first front bytes to p = record {
  parts = sym (take-append-drop (length front) bytes) ∙ ap (λ xs. xs ++ drop (length front) bytes) p.front;
  left = p.left;
}

codes_first : (front bytes : List ℕ) (from to : List InlineCode) → AreBytesAt bytes from → AreCodes front from to → EndNoLine front → IsFirst front bytes to
codes_first front bytes from to at codes inline = passed_first front bytes to (inline_bytes_law front bytes from to at codes inline)

line_append : (xs ys : List ℕ) → EndNoLine xs → EndNoLine ys → EndNoLine (xs ++ ys)
line_append [] ys first second = second
line_append (x ∷ xs) ys first second = (first.0, line_append xs ys first.1 second)

-- no LF is after CR, where their codes say so
return_apart : (rest cs : List ℕ) → content_codes (13 ∷ rest) ≡ 13 ∷ cs → content_codes (13 ∷ rest) ≡ 13 ∷ content_codes rest
return_apart [] cs is = alone_codes 13 [] refl refl
return_apart (b ∷ bs) cs is = elim (cases_Bool (eqb b 10)) [
  | inl feed ↦
      let first : 257 ≡ 13 = ap (λ xs. slice_index xs 0) (sym (feed_codes 13 b bs refl feed) ∙ is) in
      absurd (omega (arith, first))
  | inr other ↦ alone_codes 13 (b ∷ bs) refl other
]

apart_by : (e : LineEnding) (rest cs : List ℕ) → content_codes (ending_bytes e ++ rest) ≡ line_ending_code e ∷ cs → IsApart e rest
apart_by endings.LineFeed rest cs is = refl
apart_by endings.CarriageReturnLineFeed rest cs is = feed_codes 13 10 rest refl refl
apart_by endings.CarriageReturn rest cs is = return_apart rest cs is

-- bytes whose codes end with `>`
html_end : (html codes : List ℕ) → content_codes html ≡ codes ++ 62 ∷ [] → (front : List ℕ) × (html ≡ front ++ 62 ∷ [])
html_end html codes is =
    let cut = codes_split codes (62 ∷ []) html is in
    (cut.front, cut.parts ∙ ap (λ xs. cut.front ++ xs) (sym (line_bytes cut.after (ap (list_any is_eol) cut.last)) ∙ cut.last))

-- bytes whose codes begin with `<`
no_return : (bs cs : List ℕ) → begins_with (codes "<") (after_return_code bs cs) ≡ true → ⊥
no_return [] cs is = true≢false (sym is)
no_return (b ∷ bs) cs is = elim (cases_Bool (b == 10)) [
  | inl feed ↦ true≢false (sym is ∙ ap (begins_with (codes "<")) (cond-true (b == 10) (257 ∷ drop 1 cs) (13 ∷ cs) feed))
  | inr other ↦ true≢false (sym is ∙ ap (begins_with (codes "<")) (cond-false (b == 10) (257 ∷ drop 1 cs) (13 ∷ cs) other))
]

html_first : (html : List ℕ) → begins_with (codes "<") (content_codes html) ≡ true → slice_index html 0 ≡ 60
html_first [] is = absurd (true≢false (sym is))
html_first (b ∷ bs) is =
    let more = after_return_code bs (content_codes bs) in
    let next = b ∷ content_codes bs in
    elim (cases_Bool (b == 13)) [
      | inl return ↦ absurd (no_return bs (content_codes bs) (ap (begins_with (codes "<")) (sym (cond-true (b == 13) more next return)) ∙ is))
      | inr other ↦
          let here : begins_with (codes "<") next ≡ true = ap (begins_with (codes "<")) (sym (cond-false (b == 13) more next other)) ∙ is in
          sym (eqb-true 60 b (and_parts (60 == b) true here).0)
    ]

-- what is known of its name
record LiteralName (kind : LiteralKind) (name : Name) : Type 0 where
  no_data : same_name name n.Data ≡ false
  no_prefix : same_name name n.BlockQuotePrefix ≡ false
  unsought : is_listed sought_names name ≡ false
  token : IsTextToken name
  made : (on : Constructs) → on.gfm_autolink_literal ≡ true → is_asked_on on name ≡ true
  spells : (names : Names) (text front : List ℕ) (linked : Bool) → linked ≡ false
      → texts.append (text_part names text linked name front Nil inline.Nil) inline.Nil ≡ leaves (inline.Literal (kind_view kind) front ∷ [])

outside : (kind : inline.LiteralKind) (front : List ℕ) (linked : Bool) → linked ≡ false
    → texts.append (if linked then leaves (map Data front) else part (Leaf (inline.Literal kind front))) inline.Nil ≡ leaves (inline.Literal kind front ∷ [])
outside kind front linked is =
    ap (λ t. texts.append (if t then leaves (map Data front) else part (Leaf (inline.Literal kind front))) inline.Nil) is

literal_of_kind : (kind : LiteralKind) (name : Name) → is_listed (literal_names kind) name ≡ true → LiteralName kind name
literal_of_kind Www name listed =
    one_of (LiteralName Www) n.GfmAutolinkLiteralWww [] name
    (record {
      no_data = refl;
      no_prefix = refl;
      unsought = refl;
      token = record { taken = refl; void = refl; unasked = refl };
      made = λ on is. is;
      spells = λ names text front linked is. outside inline.Www front linked is;
    })
    (λ none. absurd (true≢false (sym none))) listed
literal_of_kind Email name listed =
    one_of (LiteralName Email) n.GfmAutolinkLiteralEmail [] name
    (record {
      no_data = refl;
      no_prefix = refl;
      unsought = refl;
      token = record { taken = refl; void = refl; unasked = refl };
      made = λ on is. is;
      spells = λ names text front linked is. outside inline.Email front linked is;
    })
    (λ none. absurd (true≢false (sym none))) listed
literal_of_kind Protocol name listed =
    one_of (LiteralName Protocol) n.GfmAutolinkLiteralMailto (n.GfmAutolinkLiteralXmpp ∷ n.GfmAutolinkLiteralProtocol ∷ []) name
    (record {
      no_data = refl;
      no_prefix = refl;
      unsought = refl;
      token = record { taken = refl; void = refl; unasked = refl };
      made = λ on is. is;
      spells = λ names text front linked is. outside inline.Protocol front linked is;
    })
    (one_of (LiteralName Protocol) n.GfmAutolinkLiteralXmpp (n.GfmAutolinkLiteralProtocol ∷ []) name
    (record {
      no_data = refl;
      no_prefix = refl;
      unsought = refl;
      token = record { taken = refl; void = refl; unasked = refl };
      made = λ on is. is;
      spells = λ names text front linked is. outside inline.Protocol front linked is;
    })
    (one_of (LiteralName Protocol) n.GfmAutolinkLiteralProtocol [] name
    (record {
      no_data = refl;
      no_prefix = refl;
      unsought = refl;
      token = record { taken = refl; void = refl; unasked = refl };
      made = λ on is. is;
      spells = λ names text front linked is. outside inline.Protocol front linked is;
    })
    (λ none. absurd (true≢false (sym none))))) listed

-- a construct of this shape, where these bytes are ahead
pub part_from : {A : Type 0} (context : InlineContext) (text bytes xs : List ℕ) (of shape : LeafPart) (from to : List InlineCode) (stop : Stop) (a b : Walk A) → xs ≡ bytes
    → of ≡ shape → IsPartLaid context of from to → AreBytesAt bytes from → StandsInContent text bytes stop a
    → (HasPartForm context shape from to → AreBytesAt xs from → StandsInContent text xs stop a → WritesPart context.options.constructs context.names text xs shape to stop a b)
    → WritesPart context.options.constructs context.names text bytes of to stop a b
part_from context text bytes xs of shape from to stop a b same is laid at st written =
    subst (λ ys. WritesPart context.options.constructs context.names text ys of to stop a b) same
    (subst (λ p. WritesPart context.options.constructs context.names text xs p to stop a b) (sym is)
    (written (parts_law context shape from to (subst (λ p. IsPartLaid context p from to) is laid)) (subst (λ ys. AreBytesAt ys from) (sym same) at)
    (subst (λ ys. StandsInContent text ys stop a) (sym same) st)))

-- form of a leaf that is laid, but for a line ending
laid_form : (context : InlineContext) (leaf : SpelledLeaf) (from to : List InlineCode) → IsLeafLaid context (spelled_view leaf) from to
    → HasForm context (spelled_view leaf) from to
laid_form context (spelled.Code t) from to laid = leaf_law context (spelled_view (spelled.Code t)) from to laid
laid_form context (spelled.Math t) from to laid = leaf_law context (spelled_view (spelled.Math t)) from to laid
laid_form context (spelled.Check done) from to laid = leaf_law context (spelled_view (spelled.Check done)) from to laid

-- the same of a construct that a list of events spells
pub spelled_from : {A : Type 0} (context : InlineContext) (text bytes xs : List ℕ) (of shape : SpelledLeaf) (from to : List InlineCode) (stop : Stop)
    (a b : Walk A)
    → xs ≡ bytes → of ≡ shape → IsLeafLaid context (spelled_view of) from to → AreBytesAt bytes from → StandsInContent text bytes stop a
    → (HasForm context (spelled_view shape) from to → AreBytesAt xs from → StandsInContent text xs stop a
    → WritesSpelled context.options.constructs context.names text xs shape to stop a b)
    → WritesSpelled context.options.constructs context.names text bytes of to stop a b
spelled_from context text bytes xs of shape from to stop a b same is laid at st written =
    subst (λ ys. WritesSpelled context.options.constructs context.names text ys of to stop a b) same
    (subst (λ p. WritesSpelled context.options.constructs context.names text xs p to stop a b) (sym is)
    (written (laid_form context shape from to (subst (λ p. IsLeafLaid context (spelled_view p) from to) is laid))
    (subst (λ ys. AreBytesAt ys from) (sym same) at)
    (subst (λ ys. StandsInContent text ys stop a) (sym same) st)))

module _ {A : Type 0} (on : Constructs) (names : Names) (text bytes : List ℕ) (from to : List InlineCode) (stop : Stop) (a b : Walk A) (at : AreBytesAt bytes from)
    (st : StandsInContent text bytes stop a) (whole : IsWhole a) where
  -- what is written of the first bytes
  leaves_first : (front : List ℕ) (MayBe : Bool → Type 0) (ls : List InlineLeaf) → IsFirst front bytes to
      → (StandsInContent text (front ++ drop (length front) bytes) stop a → WritesFront on names text front (drop (length front) bytes) MayBe ls stop a b)
      → (parts : List InlineLeaf) → ((m m' : Meaning) → ArePartsAlike m m' (leaves parts) (leaves ls)) → WritesLeaves on names text bytes MayBe parts to stop a b
  leaves_first front MayBe ls first written parts alike =
      leaves_of_front names text stop on a b bytes front (drop (length front) bytes) MayBe ls parts to first.parts first.left
      (written (subst (λ xs. StandsInContent text xs stop a) first.parts st)) alike

  pub escape_part : (front : List ℕ) → AreEscapes front from to
      → ((content : List ℕ) → list_all is_ascii_punctuation front ≡ true → StandsInContent text (escaped front ++ content) stop a → IsWhole a
      → WritesFront on names text (escaped front) content Anywhere (map Escape front) stop a b)
      → WritesLeaves on names text bytes Anywhere (map Escape front) to stop a b
  escape_part front is written =
      leaves_first (escaped front) Anywhere (map Escape front) (codes_first (escaped front) bytes from to at is.marked.codes is.marked.inline)
      (λ here. written (drop (length (escaped front)) bytes) is.marks here whole) (map Escape front)
      (λ m m'. escapes_alike m m' front)

  pub data_part : (front : List ℕ) (size : ℕ) → size ≡ length front → IsUtf8 front → IsData front from to → standing b ≡ standing a
      → ((xs line : List ℕ) → size ≡ length xs → StandsInLine text (xs ++ line) a
      → HasBytes text n.Data size a
      → WritesInLine text xs (data_nodes text (end_in a.out) (end_after (end_in a.out) size)) line a b)
      → WritesLeaves on names text bytes Anywhere (map Data front) to stop a b
  data_part front size sized utf8 is same written =
      let content = drop (length front) bytes in
      let dark = dark_text front is.inline in
      leaves_first front Anywhere (map Data front) (codes_first front bytes from to at is.codes is.inline)
      (λ here.
      let ahead = line_in_content text stop a front content here dark in
      let w : WritesInLine text front (data_nodes text (end_in a.out) (end_after (end_in a.out) (length front))) ahead.line a b =
      subst (λ k. WritesInLine text front (data_nodes text (end_in a.out) (end_after (end_in a.out) k)) ahead.line a b) sized
      (written front ahead.line sized ahead.stands (fits_data text front ahead.line size a sized ahead.stands utf8 dark)) in
      record {
        nodes = data_nodes text (end_in a.out) (end_after (end_in a.out) (length front));
        writes = ahead.lifts _ b same w;
        whole = ap (λ (e : End). e.owed) w.end ∙ still_whole (end_in a.out) (length front) whole;
        plain = data_plain text (end_in a.out) (end_after (end_in a.out) (length front));
        fill = λ around may. data_fill around TextPart [] text (end_in a.out) (end_after (end_in a.out) (length front)) refl;
        sound = data_sound on names text (end_in a.out) (end_after (end_in a.out) (length front));
        spells = λ linked may. data_spells names text linked stop a front content here dark whole;
      })
      (map Data front) (λ m m'. data_alike m m' front)

  pub autolink_part : (email : Bool) (address : List ℕ) → IsUtf8 address → IsAutolink email address from to
      → ((content : List ℕ) → 0 < length address → list_any ends_line address ≡ false → is_target email address ≡ true → IsUtf8 address
      → StandsInContent text (in_angles address ++ content) stop a → IsWhole a
      → WritesFront on names text (in_angles address) content Anywhere (inline.Autolink email address ∷ []) stop a b)
      → WritesLeaves on names text bytes Anywhere (inline.Autolink email address ∷ []) to stop a b
  autolink_part email address utf8 is written =
      let inside = line_append address (62 ∷ []) is.inline (refl, tt) in
      leaves_first (in_angles address) Anywhere (inline.Autolink email address ∷ []) (codes_first (in_angles address) bytes from to at is.codes (refl, inside))
      (λ here. written (drop (length (in_angles address)) bytes) is.some (dark_text address is.inline) is.target utf8 here whole)
      (inline.Autolink email address ∷ []) (λ m m'. leaf_alike m m' (inline.Autolink email address) (leaves (inline.Autolink email address ∷ [])) refl)

  pub token_part : (name : Name) (front : List ℕ) (MayBe : Bool → Type 0) (l : InlineLeaf) → IsText front from to → ((m m' : Meaning)
      → ArePartsAlike m m' (leaves (l ∷ [])) (leaves (l ∷ [])))
      → same_name name n.Data ≡ false → same_name name n.BlockQuotePrefix ≡ false → is_listed sought_names name ≡ false → IsTextToken name
      → is_asked_on on name ≡ true → is_token name front ≡ true
      → ((linked : Bool) → MayBe linked → texts.append (text_part names text linked name front Nil inline.Nil) inline.Nil ≡ leaves (l ∷ []))
      → standing b ≡ standing a → WritesNext text name (length front) a b → WritesLeaves on names text bytes MayBe (l ∷ []) to stop a b
  token_part name front MayBe l is alike no_data no_prefix unsought token made may spells same written =
      leaves_first front MayBe (l ∷ []) (codes_first front bytes from to at is.codes is.inline)
      (λ here. token_front names text stop on a b name front (drop (length front) bytes) (length front) MayBe (l ∷ []) refl is.some
      (dark_text front is.inline) no_data no_prefix
      unsought token made may spells here whole same written)
      (l ∷ []) alike

  pub literal_part : (kind : LiteralKind) (name : Name) (front : List ℕ) → is_listed (literal_names kind) name ≡ true
      → (is_literal (kind_view kind) front ≡ true → is_token name front ≡ true) → IsLiteral on (kind_view kind) front from to
      → standing b ≡ standing a
      → WritesNext text name (length front) a b
      → WritesLeaves on names text bytes (λ linked. linked ≡ false) (inline.Literal (kind_view kind) front ∷ []) to stop a b
  literal_part kind name front listed may is same written =
      let known = literal_of_kind kind name listed in
      let l = inline.Literal (kind_view kind) front in
      token_part name front (λ linked. linked ≡ false) l is.text (λ m m'. leaf_alike m m' l (leaves (l ∷ [])) refl) known.no_data known.no_prefix
      known.unsought known.token (known.made on is.is_on) (may is.form)
      (λ linked outer. known.spells names text front linked outer) same written

  pub escaped_break_part : IsText (92 ∷ []) from to → standing b ≡ standing a → WritesNext text n.HardBreakEscape 1 a b
      → WritesLeaves on names text bytes Anywhere (inline.EscapedBreak ∷ []) to stop a b
  escaped_break_part is same written =
      token_part n.HardBreakEscape (92 ∷ []) Anywhere inline.EscapedBreak is
      (λ m m'. leaf_alike m m' inline.EscapedBreak (leaves (inline.EscapedBreak ∷ [])) refl) refl refl
      refl (record { taken = refl; void = refl; unasked = refl }) refl refl (λ linked may. refl) same written

  pub break_part : (size : ℕ) → size ≡ indent bytes → AreAllSpaces from to → standing b ≡ standing a → WritesNext text n.HardBreakTrailing size a b
      → WritesLeaves on names text bytes Anywhere (inline.TrailingBreak ∷ []) to stop a b
  break_part size is all same written =
      let front = take (indent bytes) bytes in
      let marks = replicate all.size 32 in
      let passes = inline_bytes_law marks bytes from to at all.codes (spaces_inline all.size) in
      let marked : length marks ≡ indent bytes = length-replicate {A = ℕ} all.size 32 ∙ all.all ∙ ap indent at ∙ prefix_codes is_white refl refl bytes in
      let may : is_token n.HardBreakTrailing front ≡ true =
      ap (λ k. is_token n.HardBreakTrailing (take k bytes)) (sym marked) ∙ ap (is_token n.HardBreakTrailing) passes.front ∙ spaces_may all.size all.some in
      let some : 0 < length front = omega (arith, all.some, all.all, ap indent at, prefix_codes is_white refl refl bytes, indent_size bytes) in
      leaves_of_front names text stop on a b bytes front (bare bytes) Anywhere (inline.TrailingBreak ∷ []) (inline.TrailingBreak ∷ []) to
      (sym (indent_parts bytes))
      (break_bytes_law bytes from to at all)
      (token_front names text stop on a b n.HardBreakTrailing front (bare bytes) size Anywhere (inline.TrailingBreak ∷ []) (is ∙ indent_size bytes) some
      (indent_dark bytes) refl refl refl (record { taken = refl; void = refl; unasked = refl }) refl may
      (λ linked may. refl) (subst (λ xs. StandsInContent text xs stop a) (sym (indent_parts bytes)) st) whole same written)
      (λ m m'. leaf_alike m m' inline.TrailingBreak (leaves (inline.TrailingBreak ∷ [])) refl)

  pub line_end_part : (ending : LineEnding) → AreSmall bytes → EndsLine (line_ending_code ending) from to
      → ((rest : List ℕ) → drop (indent bytes) bytes ≡ ending_bytes ending ++ rest → IsApart ending rest → StandsInContent text bytes stop a → IsWhole a
      → WritesFront on names text (line_end bytes ending rest) (bare rest) Anywhere (inline.LineEnd (line_ending_code ending) ∷ []) stop a b)
      → WritesLeaves on names text bytes Anywhere (inline.LineEnd (line_ending_code ending) ∷ []) to stop a b
  line_end_part ending small is written =
      let law = line_bytes_law ending bytes from to small at is in
      let start : codes_of is.start ≡ content_codes (drop (indent bytes) bytes) =
      ap codes_of is.spaces ∙ drop-codes_of (indent (codes_of from)) from ∙ ap (λ cs. drop (indent cs) cs) at ∙ after_codes is_white refl refl bytes in
      let codes : content_codes (ending_bytes ending ++ law.rest) ≡ line_ending_code ending ∷ codes_of is.line.rest =
      ap content_codes (sym law.parts) ∙ sym start ∙ codes_are (line_ending_code ending ∷ []) is.start is.line.rest is.line.ending in
      let front = line_end bytes ending law.rest in
      let parts : bytes ≡ front ++ bare law.rest =
      sym (indent_parts bytes)
      ∙ ap (λ xs. take (indent bytes) bytes ++ xs)
      (law.parts ∙ ap (λ xs. ending_bytes ending ++ xs) (sym (indent_parts law.rest))
      ∙ sym (append_assoc (ending_bytes ending) (take (indent law.rest) law.rest) (bare law.rest)))
      ∙ sym (append_assoc (take (indent bytes) bytes) (ending_bytes ending ++ take (indent law.rest) law.rest) (bare law.rest)) in
      let l = inline.LineEnd (line_ending_code ending) in
      leaves_of_front names text stop on a b bytes front (bare law.rest) Anywhere (l ∷ []) (l ∷ []) to parts law.left
      (written law.rest law.parts (apart_by ending law.rest (codes_of is.line.rest) codes) st whole) (λ m m'. leaf_alike m m' l (leaves (l ∷ [])) refl)

  pub html_part : (html region : List ℕ) → IsUtf8 html → AreSmall html → AreSmall bytes → region ≡ take (length html) bytes
      → IsHtml (content_codes html) from to
      → ((front content : List ℕ) → region ≡ front ++ 62 ∷ [] → slice_index region 0 ≡ 60 → IsUtf8 region → AreCutBetween region content
      → StandsInContent text (region ++ content) stop a → IsWhole a
      → WritesFront on names text region content Anywhere (html_leaves (content_codes region)) stop a b)
      → WritesLeaves on names text bytes Anywhere (inline.Html (content_codes html) ∷ []) to stop a b
  html_part html region utf8 small_html small region_is is written =
      let p = text_bytes_law html bytes from to small_html small at is.codes in
      let content = drop (length html) bytes in
      let same : region ≡ html = region_is ∙ p.front in
      let (front, closed) = html_end html is.front is.closed in
      let parts : bytes ≡ region ++ content =
      sym (take-append-drop (length html) bytes) ∙ ap (λ xs. xs ++ content) (sym region_is) in
      let cut : AreCutBetween region content =
      ap content_codes (sym parts)
      ∙ sym at
      ∙ codes_are (content_codes html) from to is.codes
      ∙ ap₂ (λ (xs ys : List ℕ). xs ++ ys) (ap content_codes (sym same)) p.left in
      let l = inline.Html (content_codes html) in
      leaves_of_front names text stop on a b bytes region content Anywhere (html_leaves (content_codes region)) (l ∷ []) to parts p.left
      (written front content (same ∙ closed) (ap (λ xs. slice_index xs 0) same ∙ html_first html is.opened)
      (subst IsUtf8 (sym same) utf8) cut (subst (λ xs. StandsInContent text xs stop a) parts st) whole)
      (λ m m'. leaf_alike m m' l (leaves (html_leaves (content_codes region))) (ap (λ xs. leaves (html_leaves (content_codes xs))) same))

  pub nothing_part : from ≡ to → WritesLeaves on names text bytes Anywhere [] to stop a a
  nothing_part is = record {
    front = [];
    after = bytes;
    parts = refl;
    left = subst (AreBytesAt bytes) is at;
    nodes = Nil;
    writes = contents_none text stop a bytes st;
    whole = whole;
    plain = plain_none;
    spells = λ linked may m m'. refl;
    fill = λ around may. fill_none around text_row;
    sound = tt;
  }
