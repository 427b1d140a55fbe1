-- What is written of the prefixes of containers.
use Rattle.std.proofs.Common.{◌≡◌, ℕ, ◌+◌, ◌-◌, ◌^◌, ◌<◌, ◌≤◌, List, [], ◌∷◌, ◌++◌, Option, Some, true, refl, sym, ap, ap₂, ◌∙◌, subst, arith, drop, take, length, length-append}
use Rattle.parse_lines.proofs.Prelude.{is_token, IsToken}
use Rattle.parse_lines.proofs.Prelude.{bare, bytes_of, Constructs, ContainerLine, drop-drop, End, end_at, end_in, ending_text, Enters, Exits, Follows, indent}
use Rattle.parse_lines.proofs.Prelude.{is_byte, is_white, IsBetween, IsInLine, IsInOrder, IsLineOf, IsQuotePrefix, LineEnding, LineRest, lines, list_all, Node}
use Rattle.parse_lines.proofs.Prelude.{one, Output, quote_prefix, Rest, rest_start, Standing, text_between, text_line, TEXT_MAX, void_nodes, whole, Writes}
use Rattle.parse_lines.proofs.Prelude.{WritesQuiet}
use Rattle.engine_events.specs.declared.event.Name.TheVariants.{BlockQuoteMarker, BlockQuotePrefix, SpaceOrTab}
use Rattle.parse_lines.proofs.Between.{rests_between}
use Rattle.parse_lines.proofs.White.{all_filter, all_prefix}
use Rattle.parse_lines.proofs.Lines.{some_left}
use Rattle.parse_lines.proofs.Steps.{line_of}
use Rattle.parse_lines.proofs.Suffixes.{IsAfterWhite, quote_parts}
use Rattle.parse_lines.proofs.Columns.{bare_owes_none, dark_owes_none}
use Rattle.parse_lines.proofs.Ends.{line_follows, start_whole, start_line, start_marked, left_within}
use Rattle.event_grammar.specs.declared.slot.Between.TheVariants.{Spaces}
use Rattle.event_grammar.specs.declared.slot.Form.TheVariants.{Plain}
use Rattle.event_grammar.specs.Grammar.{row}
use Rattle.parse_slots.specs.Left.{Fill}
use Rattle.parse_lines.proofs.Prelude.{append}
use Rattle.parse_lines.proofs.Quiet.{prefix_fill, prefix_marker, prefix_space, quote_node, quiet_space}
use Rattle.event_definition.specs.BlockQuote.{quote_mark}
use Rattle.event_definition.specs.Pieces.{join, token}
use Rattle.event_definition.specs.Written.{before_rest}
use Rattle.parse_pieces.proofs.Written.{pieces_around, pieces_both}
use Rattle.parse_pieces.specs.Written.{WritesPieces}
use Rattle.parse_lines.proofs.LinePieces.{before_take, line_token}

module _ (text before content after : List ℕ) (n line_end : ℕ) (start : Rest) where
  -- where the white space ahead begins
  pub bare_start : (bare_end : End) → bare_end ≡ end_at (line_end - length (bytes_of (bare start))) 0 → bare_end ≡ rest_start line_end (bare start)
  bare_start bare_end is = is ∙ sym (start_whole line_end (bare start) (bare_owes_none start))

  -- the white space ahead
  pub bare_follows : (bare_end : End) → IsLineOf text before content after → line_end ≡ length before + length content
      → start ≡ drop n (whole content) → bare_end ≡ rest_start line_end (bare start) → Follows text (rest_start line_end start) bare_end
  bare_follows bare_end line end at is =
      let n1 = n + indent start in
      let bare_at : bare start ≡ drop n1 (whole content) = ap (drop (indent start)) at ∙ drop-drop (indent start) n (whole content) in
      subst (λ (x : End). Follows text x bare_end) (ap (rest_start line_end) (sym at)) (
      subst (λ (x : End). Follows text (rest_start line_end (drop n (whole content))) x) (sym (is ∙ ap (rest_start line_end) bare_at)) (
      line_follows text before content after line_end n n1 line end (omega arith)
      )
      )

  pub bare_white : (bare_end : End) → IsLineOf text before content after → line_end ≡ length before + length content
      → start ≡ drop n (whole content) → bare_end ≡ rest_start line_end (bare start)
      → list_all is_white (text_between text (rest_start line_end start) bare_end) ≡ true
  bare_white bare_end line end at is =
      let k = indent start in
      let bare_at : bare start ≡ drop (n + k) (whole content) = ap (drop k) at ∙ drop-drop k n (whole content) in
      let same : text_between text (rest_start line_end start) bare_end ≡ bytes_of (take k start) =
      ap₂ (text_between text) (ap (rest_start line_end) at) (is ∙ ap (rest_start line_end) bare_at)
      ∙ rests_between text before content after line_end line end n k ∙ ap (λ (r : Rest). bytes_of (take k r)) (sym at) in
      ap (list_all is_white) same ∙ all_filter is_white is_byte (take k start) (all_prefix is_white k start (omega arith))

  pub bare_follows_self : (bare_end : End) → IsLineOf text before content after → line_end ≡ length before + length content
      → start ≡ drop n (whole content) → bare_end ≡ rest_start line_end (bare start) → Follows text bare_end bare_end
  bare_follows_self bare_end line end at is =
      let n1 = n + indent start in
      let bare_at : bare start ≡ drop n1 (whole content) = ap (drop (indent start)) at ∙ drop-drop (indent start) n (whole content) in
      subst (λ (x : End). Follows text x x) (sym (is ∙ ap (rest_start line_end) bare_at)) (
      line_follows text before content after line_end n1 n1 line end (omega arith)
      )

module _ {A : Type 0} (text before content after : List ℕ) (n line_end : ℕ) (start rest : Rest) where
  -- white space up to a rest further on
  space_step : (a b : Output A) (to : End) → IsLineOf text before content after → line_end ≡ length before + length content
      → start ≡ drop n (whole content) → end_in a ≡ rest_start line_end start → IsInOrder text a → IsAfterWhite rest start → to ≡ rest_start line_end rest
      → (IsInOrder text a → IsToken text SpaceOrTab (end_in a) to → Writes text a b (void_nodes text SpaceOrTab (end_in a) to))
      → Follows text (end_in a) to × (list_all is_white (text_between text (end_in a) to) ≡ true) × Writes text a b (void_nodes text SpaceOrTab (end_in a) to)
  space_step a b to line end at from order further is writes =
      let k = further.count in
      let at_rest : drop (n + k) (whole content) ≡ rest = sym (further.is ∙ ap (drop k) at ∙ drop-drop k n (whole content)) in
      let follows = line_follows text before content after line_end n (n + k) line end (omega arith) in
      let from_start : rest_start line_end (drop n (whole content)) ≡ end_in a = ap (rest_start line_end) (sym at) ∙ sym from in
      let to_rest : rest_start line_end (drop (n + k) (whole content)) ≡ to = ap (rest_start line_end) at_rest ∙ sym is in
      let on : Follows text (end_in a) to = subst (λ (x : End). Follows text x to) from_start (
      subst (λ (x : End). Follows text (rest_start line_end (drop n (whole content))) x) to_rest follows
      ) in
      let same : text_between text (end_in a) to ≡ bytes_of (take k start) =
      sym (ap₂ (text_between text) from_start to_rest) ∙ rests_between text before content after line_end line end n k
      ∙ ap (λ (r : Rest). bytes_of (take k r)) (sym at) in
      let white = ap (list_all is_white) same ∙ all_filter is_white is_byte (take k start) further.white in
      (on, white, writes order (record { follows = on; bytes = λ apart. white }))

  pub space_written : (a b : Output A) (to : End) → IsLineOf text before content after → line_end ≡ length before + length content
      → start ≡ drop n (whole content) → end_in a ≡ rest_start line_end start → IsInOrder text a → IsAfterWhite rest start → to ≡ rest_start line_end rest
      → (IsInOrder text a → IsToken text SpaceOrTab (end_in a) to → Writes text a b (void_nodes text SpaceOrTab (end_in a) to)) → WritesQuiet text a b
  space_written a b to line end at from order further is writes =
      let step = space_step a b to line end at from order further is writes in quiet_space text a b (end_in a) to step.0 step.1 step.2

  -- the same, as pieces
  pub space_pieces : (a b : Output A) (to : End) → IsLineOf text before content after → line_end ≡ length before + length content
      → start ≡ drop n (whole content) → end_in a ≡ rest_start line_end start → IsInOrder text a → IsAfterWhite rest start → to ≡ rest_start line_end rest
      → (IsInOrder text a → IsToken text SpaceOrTab (end_in a) to → Writes text a b (void_nodes text SpaceOrTab (end_in a) to)) → end_in b ≡ to
      → WritesPieces text (token SpaceOrTab (before_rest start rest)) a b
  space_pieces a b to line end at from order further is writes to_end =
      let k = further.count in
      let step = space_step a b to line end at from order further is writes in
      let rest_at : rest ≡ drop (n + k) (whole content) = further.is ∙ ap (drop k) at ∙ drop-drop k n (whole content) in
      line_token text before content after line_end line end SpaceOrTab n k (before_rest start rest) a b
      (ap (before_rest start) further.is ∙ before_take k start ∙ ap (take k) at) (from ∙ ap (rest_start line_end) at)
      (to_end ∙ is ∙ ap (rest_start line_end) rest_at) (subst (λ (x : End). Writes text a b (void_nodes text SpaceOrTab (end_in a) x)) (sym to_end) step.2)

  -- the prefix of a quote, where all before its mark is written
  pub quote_inner : (on : Constructs) (quote : ContainerLine) (b c d e f : Output A) (bare_end to : End)
      → IsLineOf text before content after → line_end ≡ length before + length content
      → start ≡ drop n (whole content) → IsInOrder text b
      → quote_prefix on start ≡ Some quote → rest ≡ quote.rest
      → bare_end ≡ end_at (line_end - length (bytes_of (bare start))) 0 → to ≡ rest_start line_end rest → end_in b ≡ bare_end
      → (IsInOrder text b → Enters text BlockQuotePrefix b c) → end_in c ≡ end_in b
      → ((end_in c).index + 1 < 2 ^ 64 → IsInOrder text c → IsToken text BlockQuoteMarker (end_in c) (end_at ((end_in c).index + 1) 0)
      → Writes text c d (void_nodes text BlockQuoteMarker (end_in c) (end_at ((end_in c).index + 1) 0)))
      → ((end_in c).index + 1 < 2 ^ 64 → end_in d ≡ end_at ((end_in c).index + 1) 0)
      → (IsInOrder text d → IsToken text SpaceOrTab (end_in d) to → Writes text d e (void_nodes text SpaceOrTab (end_in d) to))
      → (IsInOrder text e → Exits text BlockQuotePrefix e f) → end_in e ≡ to → end_in f ≡ end_in e
      → (first : Node) × IsQuotePrefix first × Writes text b f (one first) × WritesPieces text (quote_mark (bare start) rest) b f
  quote_inner on quote b c d e f bare_end to line end at order is same bare_is to_is white_end enters enter_end marker marker_end space exits space_end exit_end =
      let parts = quote_parts on start quote is in
      let n1 = n + indent start in
      let bare_at : bare start ≡ drop n1 (whole content) = ap (drop (indent start)) at ∙ drop-drop (indent start) n (whole content) in
      let n2 = n1 + 1 in
      let codes_at : parts.codes ≡ drop n2 (whole content) =
      ap (drop 1) (sym parts.mark) ∙ ap (drop 1) bare_at ∙ drop-drop 1 n1 (whole content) in
      let n3 = n2 + parts.end.0 in
      let rest_at : rest ≡ drop n3 (whole content) = same ∙ parts.end.1 ∙ ap (drop parts.end.0) codes_at ∙ drop-drop parts.end.0 n2 (whole content) in
      let none = bare_owes_none start in
      let none_after = dark_owes_none 0 content n1 62 parts.codes line.bytes (sym bare_at ∙ parts.mark) refl in
      let left : length (bytes_of (drop n1 (whole content))) ≤ length content = left_within content n1 line.bytes in
      let left_is : length (bytes_of (drop n1 (whole content))) ≡ length (bytes_of (62 ∷ parts.codes)) =
      ap (λ (r : Rest). length (bytes_of r)) (sym bare_at ∙ parts.mark) in
      let bare_size : length (bytes_of (bare start)) ≡ length (bytes_of (62 ∷ parts.codes)) = ap (λ (r : Rest). length (bytes_of r)) parts.mark in
      let within : length (bytes_of (62 ∷ parts.codes)) ≤ line_end = omega arith in
      let e1 : bare_end ≡ rest_start line_end (drop n1 (whole content)) =
      bare_is ∙ sym (start_whole line_end (bare start) none) ∙ ap (rest_start line_end) bare_at in
      let at_c : end_in c ≡ bare_end = enter_end ∙ white_end in
      let index_c : (end_in c).index ≡ line_end - length (bytes_of (62 ∷ parts.codes)) =
      ap (λ (x : End). x.index) (at_c ∙ bare_is) ∙ ap (λ (k : ℕ). line_end - k) bare_size in
      let marked : end_at ((end_in c).index + 1) 0 ≡ rest_start line_end (drop n2 (whole content)) =
      ap (λ (k : ℕ). end_at (k + 1) 0) index_c ∙ start_marked line_end parts.codes none_after within ∙ ap (rest_start line_end) codes_at in
      let e3 : to ≡ rest_start line_end (drop n3 (whole content)) = to_is ∙ ap (rest_start line_end) rest_at in
      let size : length text ≡ length before + length (content ++ after) = ap length line.parts ∙ length-append before (content ++ after) in
      let more_size : length (content ++ after) ≡ length content + length after = length-append content after in
      let text_fits = line.fits in
      let fits : (end_in c).index + 1 < 2 ^ 64 = omega arith in
      let follows2 : Follows text (end_in c) (end_at ((end_in c).index + 1) 0) =
      subst (λ (x : End). Follows text x (end_at ((end_in c).index + 1) 0)) (sym (at_c ∙ e1)) (
      subst (λ (x : End). Follows text (rest_start line_end (drop n1 (whole content))) x) (sym marked) (
      line_follows text before content after line_end n1 n2 line end (omega arith)
      )
      ) in
      let follows3 : Follows text (end_in d) to =
      subst (λ (x : End). Follows text x to) (sym (marker_end fits ∙ marked)) (
      subst (λ (x : End). Follows text (rest_start line_end (drop n2 (whole content))) x) (sym e3) (
      line_follows text before content after line_end n2 n3 line end (omega arith)
      )
      ) in
      let entered = enters order in
      let mark_is : text_between text (end_in c) (end_at ((end_in c).index + 1) 0) ≡ 62 ∷ [] =
      ap₂ (text_between text) (at_c ∙ e1) marked ∙ rests_between text before content after line_end line end n1 1
      ∙ ap (λ (r : Rest). bytes_of (take 1 r)) (sym bare_at ∙ parts.mark) in
      let white_at : text_between text (end_in d) to ≡ bytes_of (take parts.end.0 (drop n2 (whole content))) =
      ap₂ (text_between text) (marker_end fits ∙ marked) e3 ∙ rests_between text before content after line_end line end n2 parts.end.0 in
      let white_is : list_all is_white (text_between text (end_in d) to) ≡ true =
      ap (list_all is_white) (white_at ∙ ap (λ (r : Rest). bytes_of (take parts.end.0 r)) (sym codes_at))
      ∙ all_filter is_white is_byte (take parts.end.0 parts.codes) parts.white in
      let filled =
      subst (λ (x : End). Fill Spaces (row BlockQuotePrefix Plain)
      (append (void_nodes text BlockQuoteMarker (end_in c) (end_at ((end_in c).index + 1) 0)) (void_nodes text SpaceOrTab x to)) [])
      (sym (marker_end fits)) (prefix_fill text (end_in c) (end_at ((end_in c).index + 1) 0) to (omega arith)) in
      let second = marker fits entered.order (record { follows = follows2; bytes = λ apart. ap (is_token BlockQuoteMarker) mark_is }) in
      let third = space second.order (record { follows = follows3; bytes = λ apart. white_is }) in
      let exited = exits third.order in
      let node = quote_node text b c d e f (void_nodes text BlockQuoteMarker (end_in c) (end_at ((end_in c).index + 1) 0)) (void_nodes text SpaceOrTab (end_in d) to)
      (prefix_marker text (end_in c) (end_at ((end_in c).index + 1) 0)) (prefix_space text (end_in d) to) filled entered second third exited in
      let mark = line_token text before content after line_end line end BlockQuoteMarker n1 1 (take 1 (bare start)) c d (ap (take 1) bare_at) (at_c ∙ e1)
      (marker_end fits ∙ marked) (subst (λ (x : End). Writes text c d (void_nodes text BlockQuoteMarker (end_in c) x)) (sym (marker_end fits)) second) in
      let after_mark : drop 1 (bare start) ≡ drop n2 (whole content) = ap (drop 1) parts.mark ∙ codes_at in
      let rest_after : rest ≡ drop parts.end.0 (drop 1 (bare start)) = same ∙ parts.end.1 ∙ ap (drop parts.end.0) (codes_at ∙ sym after_mark) in
      let space_codes : before_rest (drop 1 (bare start)) rest ≡ take parts.end.0 (drop n2 (whole content)) =
      ap (before_rest (drop 1 (bare start))) rest_after ∙ before_take parts.end.0 (drop 1 (bare start)) ∙ ap (take parts.end.0) after_mark in
      let gap = line_token text before content after line_end line end SpaceOrTab n2 parts.end.0 (before_rest (drop 1 (bare start)) rest) d e space_codes
      (marker_end fits ∙ marked) (space_end ∙ e3) (subst (λ (x : End). Writes text d e (void_nodes text SpaceOrTab (end_in d) x)) (sym space_end) third) in
      let inner = pieces_both text (token BlockQuoteMarker (take 1 (bare start))) (token SpaceOrTab (before_rest (drop 1 (bare start)) rest)) c d e mark gap in (
        node.0,
        node.1,
        node.2,
        pieces_around text BlockQuotePrefix (join (token BlockQuoteMarker (take 1 (bare start))) (token SpaceOrTab (before_rest (drop 1 (bare start)) rest)))
            b c e f refl entered enter_end inner exited exit_end,
      )

-- a line is begun, of which nothing is read: all before it is written
pub line_ready : (old : Standing) (text : List ℕ) (next : LineRest) (others : List LineRest) (content after : List ℕ)
    (ending : Option LineEnding) (line_end : ℕ)
    (start : Rest) (from : End) → (st : IsBetween text (next ∷ others) old) → (0 < length old.left → lines old.left ≡ text_line content ending ∷ lines after)
    → (length content ≤ TEXT_MAX → start ≡ whole content) → line_end ≡ (old.size - length after) - length (ending_text ending)
    → from ≡ end_at (old.size - length old.left) 0
    → IsLineOf text st.before content (ending_text ending ++ after) × (line_end ≡ length st.before + length content) × (start ≡ whole content)
    × (from ≡ rest_start line_end start)
line_ready old text next others content after ending line_end start from st first fresh ends written =
    let some = some_left st.kind old.left next others st.unread in
    let e = first some in
    let line = line_of old text (next ∷ others) content after ending st some e in
    let sizes : length text ≡ length st.before + (length content + (length (ending_text ending) + length after)) =
    ap length line.parts ∙ length-append st.before _ ∙ ap (λ (n : ℕ). length st.before + n) (
    length-append content _ ∙ ap (λ (n : ℕ). length content + n) (length-append (ending_text ending) after)
    ) in
    let left : length text ≡ length st.before + length old.left = ap length st.parts ∙ length-append st.before old.left in
    let fits = line.fits in
    let size = st.over.size in
    let is_whole : start ≡ whole content = fresh (omega arith) in
    let end : line_end ≡ length st.before + length content = omega arith in
    let index : old.size - length old.left ≡ length st.before = omega arith in (
      line,
      end,
      is_whole,
      written ∙ ap (λ (n : ℕ). end_at n 0) index ∙ sym (start_line st.before content line_end line.bytes end) ∙ ap (rest_start line_end) (sym is_whole),
    )

-- the line's ending leads to the next line
pub ending_end : (text : List ℕ) (s : Standing) → IsInLine text s
    → (s.line_end + length (ending_text s.ending) ≡ s.size - length s.left) × (s.line_end + length (ending_text s.ending) < 2 ^ 64)
ending_end text s line =
    let sizes : length text ≡ length line.before + (length line.content + (length (ending_text s.ending) + length s.left)) =
    ap length line.parts.parts ∙ length-append line.before _ ∙ ap (λ (n : ℕ). length line.before + n) (
    length-append line.content _ ∙ ap (λ (n : ℕ). length line.content + n) (length-append (ending_text s.ending) s.left)
    ) in
    let fits = line.over.fits in
    let size = line.over.size in
    let end = line.end in
    (omega arith, omega arith)
