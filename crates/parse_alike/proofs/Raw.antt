-- Lines of raw blocks are alike to their parts.
use Rattle.std.proofs.Common.{◌≡◌, ℕ, Bool, true, false, cond, ◌||◌, is_some, List, [], ◌∷◌, ◌++◌, Option, None, Some, map, flat_map, refl, sym, ap, ◌∙◌}
use Rattle.parse_alike.proofs.Prelude.{and_parts, append-nil, AreCodeLinesAlike, AreHtmlLinesAlike, BlockLine, bytes_of, Code, code_byte, ending_text}
use Rattle.parse_alike.proofs.Prelude.{false≢true, flat_map-append, has_lines, html_end, html_parts, html_text, HtmlPart, line_text, LineEnding, list_all}
use Rattle.definition_text.specs.Columns.{is_tab_column, is_byte}
use Rattle.event_meaning.specs.Raw.{RawPart, Chunk, End, raw_lines, some_line}
use Rattle.parse_alike.specs.Raw.{chunk, end_part, code_parts, html_line_parts, has_codes, is_there, AreFencedAlike, RawLinesAreAlike}
use Rattle.parse_alike.proofs.Said.{both}

raw_lines-append : (ps qs : List RawPart) → raw_lines (ps ++ qs) ≡ raw_lines ps ++ raw_lines qs
raw_lines-append [] qs = refl
raw_lines-append (Chunk text ∷ ps) qs = ap (λ ls. raw_lines (Chunk text ∷ []) ++ ls) (raw_lines-append ps qs)
raw_lines-append (End ending ∷ ps) qs = ap (λ ls. raw_lines (End ending ∷ []) ++ ls) (raw_lines-append ps qs)

-- lists that f makes of lines, of which each has the same from its parts
module _ {A : Type 0} (f : BlockLine → List A) (parts : BlockLine → List RawPart) where
  abbrev made : List RawPart → List A
  made ps = flat_map f (raw_lines ps)

  made-append : (ps qs : List RawPart) → made (ps ++ qs) ≡ made ps ++ made qs
  made-append ps qs = ap (flat_map f) (raw_lines-append ps qs) ∙ flat_map-append f (raw_lines ps) (raw_lines qs)

  made_same : ((line : BlockLine) → f line ≡ made (parts line)) → (ls : List BlockLine) → flat_map f ls ≡ made (flat_map parts ls)
  made_same same [] = refl
  made_same same (line ∷ ls) =
      both (f line) (flat_map f ls) (made (parts line)) (made (flat_map parts ls)) (same line) (made_same same ls)
      ∙ sym (made-append (parts line) (flat_map parts ls))

-- ---- code

byte_by : (c : Code) (t : Bool) → is_tab_column c ≡ t → code_byte (cond t 32 c) ≡ cond t 32 c
byte_by c true h = refl
byte_by c false h = ap (λ t. cond t 32 c) h

bytes_stay : (cs : List Code) → map code_byte cs ≡ map code_byte (map code_byte cs)
bytes_stay [] = refl
bytes_stay (c ∷ cs) =
    ap (λ b. b ∷ map code_byte cs) (sym (byte_by c (is_tab_column c) refl)) ∙ ap (λ bs. code_byte (code_byte c) ∷ bs) (bytes_stay cs)

abbrev text_made : List RawPart → List ℕ
text_made ps = flat_map line_text (raw_lines ps)

chunk_text : (text : List ℕ) → text ≡ map code_byte text → text ≡ text_made (chunk text)
chunk_text [] h = refl
chunk_text (b ∷ bs) h = h ∙ sym (append-nil (map code_byte (b ∷ bs))) ∙ sym (append-nil (map code_byte (b ∷ bs) ++ []))

end_text : (ending : Option LineEnding) → ending_text ending ≡ text_made (end_part ending)
end_text None = refl
end_text (Some ending) = sym (append-nil (ending_text (Some ending)))

line_same : (line : BlockLine) → line_text line ≡ text_made (code_parts line)
line_same line =
    let text = map code_byte line.codes in
    both text (ending_text line.ending) (text_made (chunk text)) (text_made (end_part line.ending)) (chunk_text text (bytes_stay line.codes))
    (end_text line.ending)
    ∙ sym (made-append line_text code_parts (chunk text) (end_part line.ending))

code_alike : (ls : List BlockLine) → AreCodeLinesAlike ls (raw_lines (flat_map code_parts ls))
code_alike ls = made_same line_text code_parts line_same ls

-- ---- HTML

kept_by : (c : Code) (bs : List ℕ) (t : Bool) → is_byte c ≡ t → bs ≡ bytes_of bs → cond t (c ∷ bs) bs ≡ bytes_of (cond t (c ∷ bs) bs)
kept_by c bs true h same = ap (λ xs. c ∷ xs) same ∙ ap (λ t. cond t (c ∷ bytes_of bs) (bytes_of bs)) (sym h)
kept_by c bs false h same = same

bytes_of-twice : (cs : List Code) → bytes_of cs ≡ bytes_of (bytes_of cs)
bytes_of-twice [] = refl
bytes_of-twice (c ∷ cs) = kept_by c (bytes_of cs) (is_byte c) refl (bytes_of-twice cs)

abbrev parts_made : List RawPart → List HtmlPart
parts_made ps = flat_map html_parts (raw_lines ps)

chunk_parts : (text : List ℕ) → text ≡ bytes_of text → html_text text ≡ parts_made (chunk text)
chunk_parts [] h = refl
chunk_parts (b ∷ bs) h =
    let found = html_text (bytes_of (b ∷ bs)) in ap html_text h ∙ sym (append-nil found) ∙ sym (append-nil (found ++ []))

end_parts : (ending : Option LineEnding) → html_end ending ≡ parts_made (end_part ending)
end_parts None = refl
end_parts (Some ending) = refl

html_line_same : (line : BlockLine) → html_parts line ≡ parts_made (html_line_parts line)
html_line_same line =
    let text = bytes_of line.codes in
    both (html_text text) (html_end line.ending) (parts_made (chunk text)) (parts_made (end_part line.ending)) (chunk_parts text (bytes_of-twice line.codes))
    (end_parts line.ending)
    ∙ sym (made-append html_parts html_line_parts (chunk text) (end_part line.ending))

html_alike : (ls : List BlockLine) → AreHtmlLinesAlike ls (raw_lines (flat_map html_line_parts ls))
html_alike ls = made_same html_parts html_line_parts html_line_same ls

-- ---- fenced code

there_has : (cs : List Code) (ending : Option LineEnding) (ps : List RawPart) → (has_codes cs || is_some ending) ≡ true
    → true ≡ has_lines (raw_lines ((chunk (map code_byte cs) ++ end_part ending) ++ ps))
there_has [] None ps h = absurd (false≢true h)
there_has [] (Some ending) ps h = refl
there_has (c ∷ cs) ending ps h = refl

has_same : (ls : List BlockLine) → list_all is_there ls ≡ true → has_lines ls ≡ has_lines (raw_lines (flat_map code_parts ls))
has_same [] h = refl
has_same (line ∷ ls) h = there_has line.codes line.ending (flat_map code_parts ls) (and_parts (is_there line) (list_all is_there ls) h).0

some_alike : (part : RawPart) (parts : List RawPart) (ls ls' : List BlockLine) → AreCodeLinesAlike ls ls' → has_lines ls ≡ true
    → AreFencedAlike ls (some_line (part ∷ parts) ls')
some_alike part parts ls [] p h = (p, h)
some_alike part parts ls (line ∷ ls') p h = (p, h)

pub raw_lines_are_alike : RawLinesAreAlike
raw_lines_are_alike =
    record {
      code = code_alike;
      html = html_alike;
      fenced = λ first ls h. (code_alike ls, has_same ls h);
      unclosed = λ first line ls.
          let ps = flat_map code_parts (line ∷ ls) in some_alike (End first) ps (line ∷ ls) (raw_lines ps) (code_alike (line ∷ ls)) refl;
    }
