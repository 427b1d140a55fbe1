-- Whole lines of a text, which are the lines of their own bytes.
use Rattle.std.proofs.Common.{◌≡◌, ℕ, zero, suc, ◌+◌, ◌-◌, ◌≤◌, ◌<◌, List, [], ◌∷◌, ◌++◌, Option}
use Rattle.std.proofs.Common.{None, Some, refl, sym, ap, ◌∙◌, get_or, subst, length, take, drop, append_assoc, arith}
use Rattle.std.specs.Prelude.{map, replicate}
use Rattle.std.specs.List.{flat_map}
use Rattle.std.specs.Str.{IsUtf8, IsCharBoundary}
use Rattle.std.proofs.lemmas.Str.{IsCharBoundary-at_seam}
use Rattle.std.proofs.lemmas.List.{append-nil, append_cancel_left, length-append, map-append, take-append-drop, take_all, take_at, drop_at, take_more}
use Rattle.std.proofs.lemmas.List.Concat.{flat_map-append}
use Rattle.markdown_options.specs.declared.line_ending.LineEnding.{LineEnding}
use Rattle.definition_text.specs.Lines.{text_line, lines, ending_text}
use Rattle.definition_text.specs.Columns.{tab_column}
use Rattle.markdown_options.specs.declared.beside.Kind.TheVariants.{Whitespace}
use Rattle.definition_text.specs.BlockLines.{BlockLine, block_line}
use Rattle.definition_text.specs.Content.{line_text}
use Rattle.definition_text.proofs.CodeBytes.{code_bytes}
use Rattle.text_pieces.specs.ParagraphLines.{HaveNoEnding, AreLines}
use Rattle.block_rows.proofs.TextLines.{NoFeed, ending_read, front_bytes, front_end, front_line, front_read, no_feed_follows, other_byte, with_front}
use Rattle.text_pieces.specs.declared.piece.Piece.{Piece}
use Rattle.text_pieces.specs.Pieces.{whole_line, whole_lines, piece_line, piece_lines}
use Rattle.block_state.specs.WholeLines.{AreWhole, Begins, BeginsNot, BeginsWith, IsWhole}

pub more_whole : (ls : List BlockLine) (l : BlockLine) → AreWhole ls → IsWhole l → AreWhole (ls ++ l ∷ [])
more_whole [] l h w = (w, tt)
more_whole (k ∷ ks) l h w = (h.0, more_whole ks l h.1 w)

line_bytes : (l : BlockLine) → IsWhole l → line_text l ≡ l.codes ++ ending_text l.ending
line_bytes l w = ap (λ x. x ++ ending_text l.ending) (code_bytes l.codes w.1)

-- a line that has an ending
line_read : (l : BlockLine) (e : LineEnding) (rest : List ℕ) → IsWhole l → HaveNoEnding l.codes → l.ending ≡ Some e → NoFeed rest
    → lines (line_text l ++ rest) ≡ text_line l.codes l.ending ∷ lines rest
line_read l e rest w clear is other =
    ap (λ x. lines (x ++ rest)) (line_bytes l w ∙ ap (λ o. l.codes ++ ending_text o) is)
    ∙ ap lines (append_assoc l.codes (ending_text (Some e)) rest)
    ∙ front_read l.codes (ending_text (Some e) ++ rest) clear
    ∙ ap (with_front l.codes) (ending_read e rest (no_feed_follows e rest other))
    ∙ front_line l.codes (Some e) (lines rest)
    ∙ ap (λ o. text_line l.codes o ∷ lines rest) (sym is)

same_line : (l : BlockLine) → IsWhole l → whole_line (text_line l.codes l.ending) ≡ l
same_line l w = ap (block_line l.codes l.ending) (sym w.0)

-- the last line
last_read : (l : BlockLine) (o : Option LineEnding) → IsWhole l → HaveNoEnding l.codes → 0 < length l.codes → l.ending ≡ o
    → lines (line_text l ++ []) ≡ text_line l.codes l.ending ∷ []
last_read l (Some e) w clear some is = line_read l e [] w clear is tt
last_read l None w clear some is =
    ap lines (append-nil (line_text l) ∙ line_bytes l w ∙ ap (λ o. l.codes ++ ending_text o) is)
    ∙ front_read l.codes [] clear ∙ ended l.codes some
    ∙ ap (λ o. text_line l.codes o ∷ []) (sym is)
  where
    ended : (cs : List ℕ) → 0 < length cs → with_front cs [] ≡ text_line cs None ∷ []
    ended [] some = absurd (omega (arith, some))
    ended (c ∷ cs) some = front_end c cs

-- a line begins with no LF
begins_clear : (l : BlockLine) (rest : List ℕ) → IsWhole l → HaveNoEnding l.codes → 0 < length l.codes → NoFeed (line_text l ++ rest)
begins_clear l rest w clear some = subst NoFeed (ap (λ x. x ++ rest) (sym (line_bytes l w))) (begins l.codes clear some)
  where
    begins : (cs : List ℕ) → HaveNoEnding cs → 0 < length cs → NoFeed ((cs ++ ending_text l.ending) ++ rest)
    begins [] clear some = absurd (omega (arith, some))
    begins (c ∷ cs) clear some = other_byte c 10 refl clear.0

pub lines_again : (ls : List BlockLine) → AreLines ls → AreWhole ls → whole_lines (flat_map line_text ls) ≡ ls
lines_again [] h w = refl
lines_again (l ∷ []) h w = ap (map whole_line) (last_read l l.ending w.0 h.0 h.1 refl) ∙ ap (λ x. x ∷ []) (same_line l w.0)
lines_again (l ∷ next ∷ others) h w =
    let rest = flat_map line_text (next ∷ others) in
    let more = lines_again (next ∷ others) h.3 w.1 in
    ap (map whole_line) (line_read l h.2.0 rest w.0 h.0 h.2.1 (clear_next next others h.3 w.1))
    ∙ ap (λ x. x ∷ whole_lines rest) (same_line l w.0) ∙ ap (λ x. l ∷ x) more
  where
    clear_next : (next : BlockLine) (others : List BlockLine) → AreLines (next ∷ others) → AreWhole (next ∷ others)
        → NoFeed (flat_map line_text (next ∷ others))
    clear_next next [] h w = begins_clear next [] w.0 h.0 h.1
    clear_next next (k ∷ ks) h w = begins_clear next (flat_map line_text (k ∷ ks)) w.0 h.0 h.1

-- ---- a text that begins with the line of a piece

pub piece_whole : (piece : Piece) (text after : List ℕ) → ((k : ℕ) → get_or text k 0 < 256) → piece.owed ≡ 0 → piece.before ≡ Whitespace
    → text ≡ piece.text.now ++ after → IsWhole (piece_line piece)
piece_whole piece text after bytes none before split = (
  before,
  λ k. subst (λ (n : ℕ). get_or (replicate n tab_column ++ piece.text.now) k 0 < 256) (sym none)
      (front_bytes piece.text.now after (λ i. subst (λ (x : List ℕ). get_or x i 0 < 256) split (bytes i)) k),
)

pub piece_cut : (piece : Piece) (text after rest : List ℕ) → IsWhole (piece_line piece) → piece.owed ≡ 0
    → text ≡ piece.text.now ++ after → after ≡ ending_text piece.ending ++ rest → text ≡ line_text (piece_line piece) ++ rest
piece_cut piece text after rest whole none split cut =
    split ∙ ap (λ x. piece.text.now ++ x) cut ∙ sym (append_assoc piece.text.now (ending_text piece.ending) rest)
    ∙ ap (λ (n : ℕ). ((replicate n tab_column ++ piece.text.now) ++ ending_text piece.ending) ++ rest) (sym none)
    ∙ ap (λ x. x ++ rest) (sym (line_bytes (piece_line piece) whole))

-- ---- a text that begins with lines

pub begins_none : (text : List ℕ) → Begins [] text text
begins_none text = record { split = refl; whole = tt }

-- one more of them
pub begins_line : (ls : List BlockLine) (l : BlockLine) (text rest after : List ℕ) → Begins ls text rest → rest ≡ line_text l ++ after → IsWhole l
    → Begins (ls ++ l ∷ []) text after
begins_line ls l text rest after so_far line whole =
    let front = flat_map line_text ls in
    let bytes : flat_map line_text (ls ++ l ∷ []) ≡ front ++ line_text l =
    flat_map-append line_text ls (l ∷ []) ∙ ap (λ x. front ++ x) (append-nil (line_text l)) in
    record {
      split = so_far.split ∙ ap (λ x. front ++ x) line ∙ sym (append_assoc front (line_text l) after) ∙ ap (λ x. x ++ after) (sym bytes);
      whole = more_whole ls l so_far.whole whole;
    }

-- they are cut off where the rest begins
front_cut : (ls : List BlockLine) (text rest : List ℕ) → Begins ls text rest → length (flat_map line_text ls) ≡ length text - length rest
front_cut ls text rest h = let front = flat_map line_text ls in omega (arith, ap length h.split, length-append front rest)

pub cut_boundary : (ls : List BlockLine) (text rest : List ℕ) → Begins ls text rest → IsUtf8 rest → IsCharBoundary text (length text - length rest)
cut_boundary ls text rest h u =
    subst (IsCharBoundary text) (front_cut ls text rest h) (IsCharBoundary-at_seam text (flat_map line_text ls) rest h.split u)

-- they are what is cut off
cut_front : (ls : List BlockLine) (text rest cut : List ℕ) → Begins ls text rest → cut ≡ take (length text - length rest) text → cut ≡ flat_map line_text ls
cut_front ls text rest cut h is =
    let front = flat_map line_text ls in
    is ∙ ap (λ n. take n text) (sym (front_cut ls text rest h)) ∙ ap (take (length front)) h.split ∙ take_at front rest (length front) refl

pub front_lines : (ls : List BlockLine) (text rest cut : List ℕ) → Begins ls text rest → cut ≡ take (length text - length rest) text → AreLines ls
    → whole_lines cut ≡ ls
front_lines ls text rest cut h is clean = ap whole_lines (cut_front ls text rest cut h is) ∙ lines_again ls clean h.whole

front_first : (ls : List BlockLine) (text rest cut : List ℕ) → Begins ls text rest → cut ≡ take (length text - length rest) text
    → cut ≡ take (length cut) text
front_first ls text rest cut h is =
    let front = flat_map line_text ls in
    let same = cut_front ls text rest cut h is in
    same ∙ sym (ap (λ x. take (length x) text) same ∙ ap (take (length front)) h.split ∙ take_at front rest (length front) refl)

front_begins : (ls : List BlockLine) (text rest cut : List ℕ) → Begins ls text rest → cut ≡ take (length text - length rest) text
    → Begins ls text (drop (length cut) text)
front_begins ls text rest cut h is =
    let front = flat_map line_text ls in
    subst (Begins ls text)
    (sym (ap (λ x. drop (length x) text) (cut_front ls text rest cut h is) ∙ ap (drop (length front)) h.split ∙ drop_at front rest (length front) refl)) h

-- ---- and with those of pieces

-- one more of them
pub begins_more : (pieces : List Piece) (i : ℕ) (d : Piece) (text rest after : List ℕ) → i < length pieces → Begins (piece_lines (take i pieces)) text rest
    → rest ≡ line_text (piece_line (get_or pieces i d)) ++ after → IsWhole (piece_line (get_or pieces i d))
    → Begins (piece_lines (take (i + 1) pieces)) text after
begins_more pieces i d text rest after lt so_far line whole =
    let front = take i pieces in
    let last = get_or pieces i d in
    let longer : piece_lines (take (i + 1) pieces) ≡ piece_lines front ++ piece_line last ∷ [] =
    ap piece_lines (take_more pieces i d lt) ∙ map-append piece_line front (last ∷ []) in
    subst (λ ls. Begins ls text after) (sym longer) (begins_line (piece_lines front) (piece_line last) text rest after so_far line whole)

-- all of them
begun_all : (pieces : List Piece) (i : ℕ) (text rest : List ℕ) → length pieces ≤ i → Begins (piece_lines (take i pieces)) text rest
    → Begins (piece_lines pieces) text rest
begun_all pieces i text rest le so_far = subst (λ (ps : List Piece). Begins (piece_lines ps) text rest) (take_all i pieces le) so_far

pub begun : (pieces : List Piece) (i : ℕ) (text rest cut : List ℕ) → length pieces ≤ i → Begins (piece_lines (take i pieces)) text rest
    → cut ≡ take (length text - length rest) text → AreLines (piece_lines pieces) → whole_lines cut ≡ piece_lines pieces
begun pieces i text rest cut le so_far = front_lines (piece_lines pieces) text rest cut (begun_all pieces i text rest le so_far)

pub begun_first : (pieces : List Piece) (i : ℕ) (text rest cut : List ℕ) → length pieces ≤ i → Begins (piece_lines (take i pieces)) text rest
    → cut ≡ take (length text - length rest) text → cut ≡ take (length cut) text
begun_first pieces i text rest cut le so_far = front_first (piece_lines pieces) text rest cut (begun_all pieces i text rest le so_far)

pub begun_before : (pieces : List Piece) (i : ℕ) (text rest cut : List ℕ) → length pieces ≤ i → Begins (piece_lines (take i pieces)) text rest
    → cut ≡ take (length text - length rest) text → Begins (piece_lines pieces) text (drop (length cut) text)
begun_before pieces i text rest cut le so_far = front_begins (piece_lines pieces) text rest cut (begun_all pieces i text rest le so_far)

-- ---- a text that doesn't begin so

pub none_owed : (n : ℕ) (text : List ℕ) → ((k : ℕ) → get_or (replicate n tab_column ++ text) k 0 < 256) → n ≡ 0
none_owed zero text h = refl
none_owed (suc n) text h = absurd (omega (arith, h 0))

-- the bytes of a piece come first
pub piece_first : (piece : Piece) (text rest : List ℕ) → piece.owed ≡ 0 → BeginsWith (piece_line piece) text rest
    → text ≡ piece.text.now ++ (ending_text piece.ending ++ rest)
piece_first piece text rest none h =
    h.split ∙ ap (λ x. x ++ rest) (line_bytes (piece_line piece) h.whole)
    ∙ ap (λ (n : ℕ). ((replicate n tab_column ++ piece.text.now) ++ ending_text piece.ending) ++ rest) none
    ∙ append_assoc piece.text.now (ending_text piece.ending) rest

-- and its ending after them
pub ending_next : (piece : Piece) (text after rest : List ℕ) → piece.owed ≡ 0 → text ≡ piece.text.now ++ after → BeginsWith (piece_line piece) text rest
    → after ≡ ending_text piece.ending ++ rest
ending_next piece text after rest none split h =
    append_cancel_left piece.text.now after (ending_text piece.ending ++ rest) (sym split ∙ piece_first piece text rest none h)

whole_at : (front : List BlockLine) (l : BlockLine) (others : List BlockLine) → AreWhole (front ++ l ∷ others) → IsWhole l
whole_at [] l others w = w.0
whole_at (k ∷ ks) l others w = whole_at ks l others w.1

-- the line after the first ones
next_line : (front : List BlockLine) (l : BlockLine) (others : List BlockLine) (text rest after : List ℕ) → Begins front text rest
    → Begins (front ++ l ∷ others) text after → BeginsWith l rest (flat_map line_text others ++ after)
next_line front l others text rest after so_far all =
    let bytes = flat_map line_text front in
    let more = flat_map line_text others in
    record {
      whole = whole_at front l others all.whole;
      split = append_cancel_left bytes rest (line_text l ++ (more ++ after))
          (sym so_far.split ∙ all.split
          ∙ ap (λ x. x ++ after) (flat_map-append line_text front (l ∷ others))
          ∙ append_assoc bytes (line_text l ++ more) after
          ∙ ap (λ x. bytes ++ x) (append_assoc (line_text l) more after));
    }

-- the line of the next piece doesn't come next
pub begins_not : (pieces : List Piece) (i : ℕ) (d : Piece) (text rest : List ℕ) → i < length pieces → Begins (piece_lines (take i pieces)) text rest
    → ((after : List ℕ) → BeginsWith (piece_line (get_or pieces i d)) rest after → ⊥) → BeginsNot (piece_lines pieces) text
begins_not pieces i d text rest lt so_far none = λ after all.
    let front = take i pieces in
    let others = drop (i + 1) pieces in
    let x = get_or pieces i d in
    let parts : pieces ≡ front ++ x ∷ others =
    sym (take-append-drop (i + 1) pieces) ∙ ap (λ ps. ps ++ others) (take_more pieces i d lt) ∙ append_assoc front (x ∷ []) others in
    let split : piece_lines pieces ≡ piece_lines front ++ piece_line x ∷ piece_lines others =
    ap piece_lines parts ∙ map-append piece_line front (x ∷ others) in
    none (flat_map line_text (piece_lines others) ++ after)
    (next_line (piece_lines front) (piece_line x) (piece_lines others) text rest after so_far (subst (λ ls. Begins ls text after) split all))
