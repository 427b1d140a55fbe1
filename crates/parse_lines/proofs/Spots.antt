-- The columns of a line's bytes in its text (CommonMark 2.2).
use Rattle.std.proofs.Common.{◌≡◌, ℕ, ◌+◌, ◌-◌, ◌<◌, ◌≤◌, suc, zero, true, false, List, [], ◌∷◌, ◌++◌, Some, eqb, ltb, refl, sym, ap, ◌∙◌, arith, get_or}
use Rattle.std.proofs.Common.{drop, take, length, length-append, append_assoc}
use Rattle.parse_lines.proofs.Prelude.{column_after, column_past, cond-false, ending_text, ends_line, fold, fold-append, index_spot, LineEnding, list_any}
use Rattle.parse_lines.proofs.Prelude.{mark_size, or_parts, Spot, spot_index, take-append-drop}
use Rattle.std.proofs.lemmas.Bool.{le-ltb}
use Rattle.std.proofs.lemmas.List.{append-nil, length-take-le}
use Rattle.markdown_options.specs.declared.line_ending.LineEnding.TheVariants.{CarriageReturnLineFeed, CarriageReturn, LineFeed}
use Rattle.parse_output.specs.Spots.{next_spot, spot, start}

take_over : (xs ys : List ℕ) (p : ℕ) → take (length xs + p) (xs ++ ys) ≡ xs ++ take p ys
take_over [] ys p = let e : 0 + p ≡ p = omega arith in ap (λ (n : ℕ). take n ys) e
take_over (x ∷ xs) ys p =
    let e : suc (length xs) + p ≡ suc (length xs + p) = omega arith in
    ap (λ (n : ℕ). take n (x ∷ (xs ++ ys))) e ∙ ap (λ (zs : List ℕ). x ∷ zs) (take_over xs ys p)

pub get_over : (xs ys : List ℕ) (p : ℕ) → get_or (xs ++ ys) (length xs + p) 0 ≡ get_or ys p 0
get_over [] ys p = let e : 0 + p ≡ p = omega arith in ap (λ (n : ℕ). get_or ys n 0) e
get_over (x ∷ xs) ys p =
    let e : suc (length xs) + p ≡ suc (length xs + p) = omega arith in
    ap (λ (n : ℕ). get_or (x ∷ (xs ++ ys)) n 0) e ∙ get_over xs ys p

pub get_front : (xs ys : List ℕ) (p : ℕ) → p < length xs → get_or (xs ++ ys) p 0 ≡ get_or xs p 0
get_front [] ys p lt = absurd (omega arith)
get_front (x ∷ xs) ys zero lt = refl
get_front (x ∷ xs) ys (suc p) lt = get_front xs ys p (omega arith)

-- ---- bytes of parts

pub bytes_after : (xs ys : List ℕ) → ((k : ℕ) → get_or (xs ++ ys) k 0 < 256) → (k : ℕ) → get_or ys k 0 < 256
bytes_after [] ys h k = h k
bytes_after (x ∷ xs) ys h k = bytes_after xs ys (λ i. h (suc i)) k

pub bytes_before : (xs ys : List ℕ) → ((k : ℕ) → get_or (xs ++ ys) k 0 < 256) → (k : ℕ) → get_or xs k 0 < 256
bytes_before [] ys h k = omega arith
bytes_before (x ∷ xs) ys h zero = h 0
bytes_before (x ∷ xs) ys h (suc k) = bytes_before xs ys (λ i. h (suc i)) k

-- ---- spots

-- after more bytes
pub spot_parts : (text xs ys zs : List ℕ) → text ≡ xs ++ (ys ++ zs)
    → index_spot text (length xs + length ys) ≡ fold (next_spot (mark_size text)) (index_spot text (length xs)) ys
spot_parts text xs ys zs is =
    let f = next_spot (mark_size text) in
    let none : (length xs + length ys) - 0 ≡ length xs + length ys = omega arith in
    let more : length ys ≡ length ys + 0 = omega arith in
    let none_xs : length xs - 0 ≡ length xs + 0 = omega arith in
    let front : take ((length xs + length ys) - 0) text ≡ xs ++ ys =
    ap (λ (n : ℕ). take n text) none ∙ ap (take (length xs + length ys)) is ∙ take_over xs (ys ++ zs) (length ys)
    ∙ ap (λ (n : ℕ). xs ++ take n (ys ++ zs)) more ∙ ap (λ (l : List ℕ). xs ++ l) (take_over ys zs 0 ∙ append-nil ys) in
    let before : take (length xs - 0) text ≡ xs =
    ap (λ (n : ℕ). take n text) none_xs ∙ ap (take (length xs + 0)) is ∙ take_over xs (ys ++ zs) 0 ∙ append-nil xs in
    ap (fold f start) front ∙ fold-append f start xs ys ∙ ap (λ (l : List ℕ). fold f (fold f start l) ys) (sym before)

plain_columns : (mark : ℕ) (bs : List ℕ) (s : Spot) → mark ≤ s.index → list_any ends_line bs ≡ false
    → (fold (next_spot mark) s bs).column ≡ column_past bs s.column
plain_columns mark [] s le dark = refl
plain_columns mark (b ∷ bs) s le dark =
    let parts = or_parts (ends_line b) (list_any ends_line bs) dark in
    let no = or_parts (eqb b 10) (eqb b 13) parts.0 in
    let next : next_spot mark s b ≡ spot s.line (column_after b s.column) (s.index + 1) false =
    cond-false (ltb s.index mark) _ _ (le-ltb s.index mark le) ∙ cond-false (eqb b 10) _ _ no.0 ∙ cond-false (eqb b 13) _ _ no.1 in
    ap (λ (x : Spot). (fold (next_spot mark) x bs).column) next
    ∙ plain_columns mark bs (spot s.line (column_after b s.column) (s.index + 1) false) (omega arith) parts.1

dark_front : (p : ℕ) (bs : List ℕ) → list_any ends_line bs ≡ false → list_any ends_line (take p bs) ≡ false
dark_front zero bs h = refl
dark_front (suc p) [] h = refl
dark_front (suc p) (b ∷ bs) h = let parts = or_parts (ends_line b) (list_any ends_line bs) h in rw (parts.0) (dark_front p bs parts.1)

-- the column of a byte of a line
pub column_in : (text before content after : List ℕ) (p : ℕ) → text ≡ before ++ (content ++ after) → (index_spot text (length before)).column ≡ 1
    → mark_size text ≤ length before → list_any ends_line content ≡ false → p ≤ length content
    → (index_spot text (length before + p)).column ≡ column_past (take p content) 1
column_in text before content after p is first mark dark le =
    let split : content ++ after ≡ take p content ++ (drop p content ++ after) =
    ap (λ (l : List ℕ). l ++ after) (sym (take-append-drop p content)) ∙ append_assoc (take p content) (drop p content) after in
    let parts : text ≡ before ++ (take p content ++ (drop p content ++ after)) = is ∙ ap (λ (l : List ℕ). before ++ l) split in
    let size : length (take p content) ≡ p = length-take-le p content le in
    let whole : length text ≡ length before + length (content ++ after) = ap length is ∙ length-append before (content ++ after) in
    let here : (index_spot text (length before)).index ≡ length before = spot_index text (length before) (omega arith) in
    ap (λ (n : ℕ). (index_spot text (length before + n)).column) (sym size)
    ∙ ap (λ (x : Spot). x.column) (spot_parts text before (take p content) (drop p content ++ after) parts)
    ∙ plain_columns (mark_size text) (take p content) (index_spot text (length before)) (omega arith) (dark_front p content dark)
    ∙ ap (column_past (take p content)) first

-- after an ending, a line begins
ending_column : (mark : ℕ) (s : Spot) (ending : LineEnding) → mark ≤ s.index → (fold (next_spot mark) s (ending_text (Some ending))).column ≡ 1
ending_column mark s LineFeed le = ap (λ (x : Spot). x.column) (cond-false (ltb s.index mark) _ _ (le-ltb s.index mark le))
ending_column mark s CarriageReturn le = ap (λ (x : Spot). x.column) (cond-false (ltb s.index mark) _ _ (le-ltb s.index mark le))
ending_column mark s CarriageReturnLineFeed le =
    let next : next_spot mark s 13 ≡ spot (s.line + 1) 1 (s.index + 1) true = cond-false (ltb s.index mark) _ _ (le-ltb s.index mark le) in
    ap (λ (x : Spot). (next_spot mark x 10).column) next
    ∙ ap (λ (x : Spot). x.column) (cond-false (ltb (s.index + 1) mark) _ _ (le-ltb (s.index + 1) mark (omega arith)))

pub column_after_ending : (text before after : List ℕ) (ending : LineEnding) → text ≡ before ++ (ending_text (Some ending) ++ after)
    → mark_size text ≤ length before → (index_spot text (length before + length (ending_text (Some ending)))).column ≡ 1
column_after_ending text before after ending is mark =
    let whole : length text ≡ length before + length (ending_text (Some ending) ++ after) = ap length is ∙ length-append before _ in
    let here : (index_spot text (length before)).index ≡ length before = spot_index text (length before) (omega arith) in
    ap (λ (x : Spot). x.column) (spot_parts text before (ending_text (Some ending)) after is)
    ∙ ending_column (mark_size text) (index_spot text (length before)) ending (omega arith)
