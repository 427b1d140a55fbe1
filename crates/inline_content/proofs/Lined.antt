-- The content of lines, line by line.
use Rattle.std.proofs.Common.{◌≡◌, ℕ, ◌+◌, ◌<◌, Bool, true, false, eqb, List, [], ◌∷◌, ◌++◌, Option, None, Some, refl, sym, ap, ◌∙◌, get_or, length}
use Rattle.std.proofs.Common.{append_assoc, subst, arith, inl, inr, ◌||◌}
use Rattle.inline_content.proofs.Prelude.{append-nil, BlockLine, cases_Bool, code_byte, codes_with_marks, cond-false, cond-true, content_codes, content_text}
use Rattle.inline_content.proofs.Prelude.{ending_bytes, ending_text, eq-eqb, first_kind, flat_map, HaveNoEnding, inline_code, inline_content, InlineCode}
use Rattle.inline_content.proofs.Prelude.{is_eol, Kind, kind_after, kind_at, kind_before, length-append, line_rest, line_text, LineEnding, map, Mark, mark_of}
use Rattle.inline_content.proofs.Prelude.{marks_of, ne_eqb, or_parts, own_lines, Piece, piece_lines, previous_after, true≢false, view_from, width}
use Rattle.std.specs.Prelude.{replicate}
use Rattle.std.proofs.lemmas.List.{map-append}
use Rattle.markdown_options.specs.declared.line_ending.LineEnding.TheVariants.{CarriageReturnLineFeed, CarriageReturn, LineFeed}
use Rattle.markdown_options.specs.declared.beside.Kind.TheVariants.{Whitespace, Punctuation, Other}
use Rattle.definition_text.specs.Content.{line_ending_code, ending_code, content_of}
use Rattle.text_pieces.specs.ParagraphLines.{AreLines}
use Rattle.definition_text.proofs.CodeBytes.{owed_bytes}
use Rattle.definition_text.specs.InlineCode.{with_kinds, next_kind}
use Rattle.definition_text.proofs.ContentBytes.{codes_in_line}
use Rattle.inline_links.proofs.Cuts.{first_code}
use Rattle.text_pieces.proofs.InLine.{in_line}
use Rattle.inline_content.specs.Lines.{AreContentLines}

-- lines without an ending in them; all but the last have one, and no CR stands before an LF
abbrev pub AreApart : List BlockLine → Type 0
AreApart [] = Unit {0}
AreApart (line ∷ []) = HaveNoEnding line.codes
AreApart (line ∷ next ∷ others) =
    HaveNoEnding line.codes × ((e : LineEnding) × (line.ending ≡ Some e) × (e ≡ CarriageReturn → get_or (content_text (next ∷ others)) 0 0 ≡ 10 → ⊥))
    × AreApart (next ∷ others)

-- ---- codes of a line

clear_byte : (c : ℕ) → is_eol c ≡ false → is_eol (code_byte c) ≡ false
clear_byte c h = elim (cases_Bool (eqb c 256)) [
  | inl is ↦ ap is_eol (cond-true (eqb c 256) 32 c is)
  | inr other ↦ ap is_eol (cond-false (eqb c 256) 32 c other) ∙ h
]

clear_bytes : (cs : List ℕ) → HaveNoEnding cs → HaveNoEnding (map code_byte cs)
clear_bytes [] h = tt
clear_bytes (c ∷ cs) h = (clear_byte c h.0, clear_bytes cs h.1)

ending_byte : (e : LineEnding) → map code_byte (ending_code (Some e)) ≡ line_ending_code e ∷ []
ending_byte LineFeed = refl
ending_byte CarriageReturn = refl
ending_byte CarriageReturnLineFeed = refl

ending_is : (e : LineEnding) → is_eol (line_ending_code e) ≡ true
ending_is LineFeed = refl
ending_is CarriageReturn = refl
ending_is CarriageReturnLineFeed = refl

ending_width : (e : LineEnding) → width (line_ending_code e) ≡ length (ending_bytes e)
ending_width LineFeed = refl
ending_width CarriageReturn = refl
ending_width CarriageReturnLineFeed = refl

one_byte : (c : ℕ) → is_eol c ≡ false → width c ≡ 1
one_byte c h = cond-false (eqb c 257) 2 1 (or_parts (eqb c 10 || eqb c 13) (eqb c 257) h).1

-- ---- the codes of the bytes

ended_codes : (e : LineEnding) (xs : List ℕ) → (e ≡ CarriageReturn → get_or xs 0 0 ≡ 10 → ⊥)
    → content_codes (ending_bytes e ++ xs) ≡ line_ending_code e ∷ content_codes xs
ended_codes LineFeed xs h = refl
ended_codes CarriageReturn xs h = first_code 13 xs (λ _. h refl)
ended_codes CarriageReturnLineFeed xs h = refl

-- what a line and others are
line_before : (codes others : List ℕ) (o : Option LineEnding) (e : LineEnding) → o ≡ Some e
    → map code_byte ((codes ++ ending_code o) ++ others) ≡ map code_byte codes ++ line_ending_code e ∷ map code_byte others
line_before codes others o e h =
    ap (λ x. map code_byte ((codes ++ ending_code x) ++ others)) h
    ∙ map-append code_byte (codes ++ ending_code (Some e)) others
    ∙ ap (λ l. l ++ map code_byte others) (map-append code_byte codes (ending_code (Some e)) ∙ ap (λ l. map code_byte codes ++ l) (ending_byte e))
    ∙ append_assoc (map code_byte codes) (line_ending_code e ∷ []) (map code_byte others)

last_of : (codes : List ℕ) → map code_byte ((codes ++ []) ++ []) ≡ map code_byte codes
last_of codes = ap (map code_byte) (append-nil (codes ++ []) ∙ append-nil codes)

pub apart_codes : (ls : List BlockLine) → AreApart ls → content_codes (content_text ls) ≡ map code_byte (content_of (own_lines ls))
apart_codes [] h = refl
apart_codes (line ∷ []) h =
    let bytes = map code_byte line.codes in
    ap content_codes (append-nil (bytes ++ []))
    ∙ codes_in_line bytes [] (in_line line.codes h)
    ∙ append-nil bytes ∙ sym (last_of line.codes)
apart_codes (line ∷ next ∷ others) h =
    let e = h.1.0 in
    let bytes = map code_byte line.codes in
    let rest = content_text (next ∷ others) in
    ap (λ o. content_codes ((bytes ++ ending_text o) ++ rest)) h.1.1
    ∙ ap content_codes (append_assoc bytes (ending_bytes e) rest)
    ∙ codes_in_line bytes (ending_bytes e ++ rest) (in_line line.codes h.0)
    ∙ ap (λ cs. bytes ++ cs) (ended_codes e rest h.1.2 ∙ ap (λ cs. line_ending_code e ∷ cs) (apart_codes (next ∷ others) h.2))
    ∙ sym (line_before line.codes (content_of (own_lines (next ∷ others))) line.ending e h.1.1)

-- ---- what stands beside the codes of lines

left_all : (cs : List ℕ) → HaveNoEnding cs → line_rest cs ≡ cs
left_all [] h = refl
left_all (c ∷ cs) h = ap (λ l. c ∷ l) (cond-false (is_eol c) [] (line_rest cs) h.0 ∙ left_all cs h.1)

left_line : (cs : List ℕ) (e : ℕ) (rest : List ℕ) → HaveNoEnding cs → is_eol e ≡ true → line_rest (cs ++ e ∷ rest) ≡ cs ++ e ∷ []
left_line [] e rest h is = ap (λ l. e ∷ l) (cond-true (is_eol e) [] (line_rest rest) is)
left_line (c ∷ cs) e rest h is = ap (λ l. c ∷ l) (cond-false (is_eol c) [] (line_rest (cs ++ e ∷ rest)) h.0 ∙ left_line cs e rest h.1 is)

module _ (p : ℕ → Bool) (marks : List Mark) where
  -- the marks are those of lines from a place on
  abbrev pub Agree : ℕ → List BlockLine → Type 0
  Agree place [] = Unit {0}
  Agree place (line ∷ others) = (kind_at marks place ≡ line.before) × Agree (place + length (line_text line)) others

module _ (p : ℕ → Bool) (end : Kind) (marks : List Mark) where
  last_view : (place : ℕ) (previous : Option ℕ) (before : Kind) (cs : List ℕ) → HaveNoEnding cs
      → view_from p end marks place previous before cs ≡ with_kinds p previous before end cs
  last_view place previous before [] h = refl
  last_view place previous before (c ∷ cs) h =
      let next = place + width c in
      let here = inline_code c previous before in
      ap (λ l. here (kind_after p end c l) ∷ view_from p end marks next (previous_after c) (kind_before p marks next before c l) cs) (left_all cs h.1)
      ∙ ap (λ k. here k ∷ view_from p end marks next (previous_after c) (kind_before p marks next before c cs) cs) (cond-false (is_eol c) _ _ h.0)
      ∙ ap (λ k. here (first_kind p end cs) ∷ view_from p end marks next (previous_after c) k cs) (cond-false (is_eol c) _ _ h.0)
      ∙ ap (λ o. here (first_kind p end cs) ∷ view_from p end marks next o (next_kind p before (c ∷ cs)) cs) (cond-false (is_eol c) None (Some c) h.0)
      ∙ ap (λ l. here (first_kind p end cs) ∷ l) (last_view next (Some c) (next_kind p before (c ∷ cs)) cs h.1)

  line_view : (place : ℕ) (previous : Option ℕ) (before : Kind) (cs : List ℕ) (e : ℕ) (rest : List ℕ) → HaveNoEnding cs → is_eol e ≡ true
      → view_from p end marks place previous before (cs ++ e ∷ rest)
      ≡ with_kinds p previous before end (cs ++ e ∷ []) ++ view_from p end marks (place + (length cs + width e)) None
      (kind_at marks (place + (length cs + width e))) rest
  line_view place previous before [] e rest h is =
      let next = place + width e in
      let here = inline_code e previous before in
      let n : next ≡ place + (0 + width e) = omega arith in
      ap (λ k. here k ∷ view_from p end marks next (previous_after e) (kind_before p marks next before e (line_rest rest)) rest) (cond-true (is_eol e) _ _ is)
      ∙ ap (λ k. here end ∷ view_from p end marks next (previous_after e) k rest) (cond-true (is_eol e) _ _ is)
      ∙ ap (λ o. here end ∷ view_from p end marks next o (kind_at marks next) rest) (cond-true (is_eol e) None (Some e) is)
      ∙ ap (λ m. here end ∷ view_from p end marks m None (kind_at marks m) rest) n
  line_view place previous before (c ∷ cs) e rest h is =
      let next = place + width c in
      let line = cs ++ e ∷ [] in
      let here = inline_code c previous before in
      let n : next + (length cs + width e) ≡ place + (length (c ∷ cs) + width e) = let one = one_byte c h.0 in omega (arith, one) in
      ap (λ l. here (kind_after p end c l) ∷ view_from p end marks next (previous_after c) (kind_before p marks next before c l) (cs ++ e ∷ rest))
      (left_line cs e rest h.1 is)
      ∙ ap (λ k. here k ∷ view_from p end marks next (previous_after c) (kind_before p marks next before c line) (cs ++ e ∷ rest))
      (cond-false (is_eol c) _ _ h.0)
      ∙ ap (λ k. here (first_kind p end line) ∷ view_from p end marks next (previous_after c) k (cs ++ e ∷ rest)) (cond-false (is_eol c) _ _ h.0)
      ∙ ap (λ o. here (first_kind p end line) ∷ view_from p end marks next o (next_kind p before (c ∷ line)) (cs ++ e ∷ rest))
      (cond-false (is_eol c) None (Some c) h.0)
      ∙ ap (λ l. here (first_kind p end line) ∷ l) (line_view next (Some c) (next_kind p before (c ∷ line)) cs e rest h.1 is)
      ∙ ap (λ m. here (first_kind p end line) ∷ (with_kinds p (Some c) (next_kind p before (c ∷ line)) end line
      ++ view_from p end marks m None (kind_at marks m) rest)) n

  lines_view : (place : ℕ) (ls : List BlockLine) → AreApart ls → Agree p marks place ls
      → view_from p end marks place None (kind_at marks place) (map code_byte (content_of (own_lines ls))) ≡ inline_content p end (own_lines ls)
  lines_view place [] h k = refl
  lines_view place (line ∷ []) h k =
      ap (view_from p end marks place None (kind_at marks place)) (last_of line.codes)
      ∙ ap (λ b. view_from p end marks place None b (map code_byte line.codes)) k.0
      ∙ last_view place None line.before (map code_byte line.codes) (clear_bytes line.codes h)
      ∙ ap (λ cs. with_kinds p None line.before end (map code_byte cs)) (sym (append-nil line.codes))
      ∙ sym (append-nil (with_kinds p None line.before end (map code_byte (line.codes ++ []))))
  lines_view place (line ∷ next ∷ others) h k =
      let e = h.1.0 in
      let bytes = map code_byte line.codes in
      let rest = map code_byte (content_of (own_lines (next ∷ others))) in
      let size : place + (length bytes + width (line_ending_code e)) ≡ place + length (line_text line) =
      let w = ending_width e in let l = length-append bytes (ending_text line.ending) in let t = ap (λ o. length (ending_text o)) h.1.1 in
      omega (arith, w, l, t) in
      let own : map code_byte (line.codes ++ ending_code line.ending) ≡ bytes ++ line_ending_code e ∷ [] =
      ap (λ o. map code_byte (line.codes ++ ending_code o)) h.1.1 ∙ map-append code_byte line.codes (ending_code (Some e))
      ∙ ap (λ l. bytes ++ l) (ending_byte e) in
      let here : List ℕ → List InlineCode = with_kinds p None line.before end in
      ap (view_from p end marks place None (kind_at marks place)) (line_before line.codes (content_of (own_lines (next ∷ others))) line.ending e h.1.1)
      ∙ ap (λ b. view_from p end marks place None b (bytes ++ line_ending_code e ∷ rest)) k.0
      ∙ line_view place None line.before bytes (line_ending_code e) rest (clear_bytes line.codes h.0) (ending_is e)
      ∙ ap (λ m. here (bytes ++ line_ending_code e ∷ []) ++ view_from p end marks m None (kind_at marks m) rest) size
      ∙ ap (λ l. here (bytes ++ line_ending_code e ∷ []) ++ l) (lines_view (place + length (line_text line)) (next ∷ others) h.2 k.1)
      ∙ ap (λ l. here l ++ inline_content p end (own_lines (next ∷ others))) (sym own)

  -- the content of lines
  pub content_is : (ls : List BlockLine) → AreApart ls → Agree p marks 0 ls
      → codes_with_marks p end marks (content_text ls) ≡ inline_content p end (own_lines ls)
  content_is ls h k = ap (view_from p end marks 0 None (kind_at marks 0)) (apart_codes ls h) ∙ lines_view 0 ls h k

-- ---- lines that are apart

pub head_clear : (c : ℕ) → is_eol c ≡ false → code_byte c ≡ 10 → ⊥
head_clear c h e = true≢false (sym (ap is_eol e) ∙ clear_byte c h)

some_head : (codes rest : List ℕ) → HaveNoEnding codes → 0 < length codes → get_or (map code_byte codes ++ rest) 0 0 ≡ 10 → ⊥
some_head [] rest h some e = omega (arith, some)
some_head (c ∷ cs) rest h some e = head_clear c h.0 e

head_of_lines : (line : BlockLine) (others : List BlockLine) → HaveNoEnding line.codes → 0 < length line.codes → get_or (content_text (line ∷ others)) 0 0 ≡ 10
    → ⊥
head_of_lines line [] h some e = some_head line.codes [] h some (ap (λ l. get_or l 0 0) (sym (append-nil (map code_byte line.codes ++ []))) ∙ e)
head_of_lines line (next ∷ others) h some e =
    some_head line.codes (ending_text line.ending ++ content_text (next ∷ others)) h some
    (ap (λ l. get_or l 0 0) (sym (append_assoc (map code_byte line.codes) (ending_text line.ending) (content_text (next ∷ others)))) ∙ e)

first_line : (line : BlockLine) (others : List BlockLine) → AreLines (line ∷ others) → HaveNoEnding line.codes × (0 < length line.codes)
first_line line [] h = h
first_line line (next ∷ others) h = (h.0, h.1)

lines_apart : (ls : List BlockLine) → AreLines ls → AreApart ls
lines_apart [] h = tt
lines_apart (line ∷ []) h = h.0
lines_apart (line ∷ next ∷ others) h =
    let k = first_line next others h.3 in
    (h.0, (h.2.0, h.2.1, λ _. head_of_lines next others k.0 k.1), lines_apart (next ∷ others) h.3)

pub content_lines_apart : (ls : List BlockLine) → AreContentLines ls → AreApart ls
content_lines_apart [] h = tt
content_lines_apart (line ∷ []) h = h
content_lines_apart (line ∷ next ∷ others) h = lines_apart (line ∷ next ∷ others) h

-- ---- the marks of lines agree with them

abbrev Below : ℕ → List Mark → Type 0
Below place [] = Unit {0}
Below place (m ∷ ms) = (m.place < place) × Below place ms

passed : (place : ℕ) (ms others : List Mark) → Below place ms → kind_at (ms ++ others) place ≡ kind_at others place
passed place [] others h = refl
passed place (m ∷ ms) others h = cond-false (eqb m.place place) _ _ (ne_eqb m.place place (λ e. omega (arith, e, h.0))) ∙ passed place ms others h.1

below_more : (place more : ℕ) (ms : List Mark) (k : Kind) → 0 < more → Below place ms → Below (place + more) (ms ++ mark_of place k)
below_more place more [] Whitespace some h = tt
below_more place more [] Punctuation some h = (omega (arith, some), tt)
below_more place more [] Other some h = (omega (arith, some), tt)
below_more place more (m ∷ ms) k some h = (omega (arith, h.0), below_more place more ms k some h.1)

mark_later : (place at : ℕ) (k : Kind) (ms : List Mark) → place < at → kind_at (mark_of at k ++ ms) place ≡ kind_at ms place
mark_later place at Whitespace ms h = refl
mark_later place at Punctuation ms h = cond-false (eqb at place) _ _ (ne_eqb at place (λ e. omega (arith, e, h)))
mark_later place at Other ms h = cond-false (eqb at place) _ _ (ne_eqb at place (λ e. omega (arith, e, h)))

lines_later : (place at : ℕ) (ls : List BlockLine) → place < at → kind_at (marks_of at ls) place ≡ Whitespace
lines_later place at [] h = refl
lines_later place at (line ∷ others) h =
    mark_later place at line.before (marks_of (at + length (line_text line)) others) h
    ∙ lines_later place (at + length (line_text line)) others (omega (arith, h))

mark_here : (place : ℕ) (k : Kind) (ms : List Mark) → kind_at ms place ≡ Whitespace → kind_at (mark_of place k ++ ms) place ≡ k
mark_here place Whitespace ms h = h
mark_here place Punctuation ms h = cond-true (eqb place place) _ _ (eq-eqb place place refl)
mark_here place Other ms h = cond-true (eqb place place) _ _ (eq-eqb place place refl)

ended_some : (bytes : List ℕ) (o : Option LineEnding) (e : LineEnding) → o ≡ Some e → 0 < length (bytes ++ ending_text o)
ended_some bytes o e h =
    let a = length-append bytes (ending_text o) in
    let b = ap (λ x. length (ending_text x)) h in
    omega (arith, a, b, ending_some e)
  where
    ending_some : (e : LineEnding) → 0 < length (ending_bytes e)
    ending_some LineFeed = omega arith
    ending_some CarriageReturn = omega arith
    ending_some CarriageReturnLineFeed = omega arith

agree_from : (p : ℕ → Bool) (before : List Mark) (place : ℕ) (ls : List BlockLine) → Below place before → AreApart ls
    → Agree p (before ++ marks_of place ls) place ls
agree_from p before place [] b h = tt
agree_from p before place (line ∷ []) b h =
    (passed place before (marks_of place (line ∷ [])) b ∙ mark_here place line.before [] refl, tt)
agree_from p before place (line ∷ next ∷ others) b h =
    let more = length (line_text line) in
    let rest = marks_of (place + more) (next ∷ others) in
    let some = ended_some (map code_byte line.codes) line.ending h.1.0 h.1.1 in (
      passed place before (mark_of place line.before ++ rest) b ∙ mark_here place line.before rest
          (lines_later place (place + more) (next ∷ others) (omega (arith, some))),
      subst (λ ms. Agree p ms (place + more) (next ∷ others)) (append_assoc before (mark_of place line.before) rest)
          (agree_from p (before ++ mark_of place line.before) (place + more) (next ∷ others) (below_more place more before line.before some b) h.2),
    )

pub lines_agree : (p : ℕ → Bool) (ls : List BlockLine) → AreApart ls → Agree p (marks_of 0 ls) 0 ls
lines_agree p ls h = agree_from p [] 0 ls tt h

-- ---- one more line

pub marks_more : (place : ℕ) (ls : List BlockLine) (l : BlockLine) → marks_of place (ls ++ l ∷ [])
    ≡ marks_of place ls ++ mark_of (place + length (flat_map line_text ls)) l.before
marks_more place [] l = append-nil (mark_of place l.before) ∙ ap (λ n. mark_of n l.before) (omega arith)
marks_more place (line ∷ others) l =
    let more = length (line_text line) in
    let n : place + more + length (flat_map line_text others) ≡ place + length (flat_map line_text (line ∷ others)) = let e =
    length-append (line_text line) (flat_map line_text others) in omega (arith, e) in
    ap (λ ms. mark_of place line.before ++ ms) (marks_more (place + more) others l ∙ ap (λ m. marks_of (place + more) others ++ mark_of m l.before) n)
    ∙ sym (append_assoc (mark_of place line.before) (marks_of (place + more) others) (mark_of (place + length (flat_map line_text (line ∷ others))) l.before))

-- ---- one line that is its own content

own_content : (p : ℕ → Bool) (end : Kind) (piece : Piece) → ((k : ℕ) → get_or piece.text.now k 0 < 256) → piece.owed ≡ 0
    → AreContentLines (piece_lines (piece ∷ []))
    → codes_with_marks p end (mark_of 0 piece.before) piece.text.now ≡ inline_content p end (own_lines (piece_lines (piece ∷ [])))
own_content p end piece bytes none h =
    let ls = piece_lines (piece ∷ []) in
    let apart = content_lines_apart ls h in
    let text : content_text ls ≡ piece.text.now =
    append-nil _ ∙ append-nil _ ∙ owed_bytes piece.owed piece.text.now bytes ∙ ap (λ n. replicate n 32 ++ piece.text.now) none in
    sym (ap (codes_with_marks p end (mark_of 0 piece.before)) text)
    ∙ sym (ap (λ ms. codes_with_marks p end ms (content_text ls)) (append-nil (mark_of 0 piece.before)))
    ∙ content_is p end (marks_of 0 ls) ls apart (lines_agree p ls apart)

pub one_line : (p : ℕ → Bool) (end : Kind) (pieces : List Piece) (none : Piece)
    → ((k : ℕ) → get_or (get_or pieces 0 none).text.now k 0 < 256) → length pieces ≡ 1 → (get_or pieces 0 none).owed ≡ 0
    → AreContentLines (piece_lines pieces)
    → codes_with_marks p end (mark_of 0 (get_or pieces 0 none).before) (get_or pieces 0 none).text.now ≡ inline_content p end (own_lines (piece_lines pieces))
one_line p end [] none bytes one owes h = absurd (omega (arith, one))
one_line p end (piece ∷ []) none bytes one owes h = own_content p end piece bytes owes h
one_line p end (piece ∷ next ∷ others) none bytes one owes h = absurd (omega (arith, one))
