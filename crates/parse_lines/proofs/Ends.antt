-- Where rests of a line begin in its text.
use Rattle.std.proofs.Common.{◌≡◌, ℕ, ◌+◌, ◌-◌, ◌<◌, ◌≤◌, suc, false, cond, List, [], ◌∷◌, ◌++◌, eqb, inl, inr, refl, sym, ap, ap₂, ◌∙◌, subst, arith, get_or}
use Rattle.std.proofs.Common.{drop, take, length, length-append}
use Rattle.parse_lines.proofs.Prelude.{bytes_of, bytes_of_codes, cases_Bool, column_past, cond-false, cond-true, drop_all, End, end_at, end_columns}
use Rattle.parse_lines.proofs.Prelude.{ending_text, ends_line, eqb-true, Follows, index_spot, is_tab_column, IsInLine, IsLineOf, list_any, mark_size}
use Rattle.parse_lines.proofs.Prelude.{no_columns, OwesIn, prefix_len, Rest, rest_start, spot_index, Standing, tab_size, Walk, whole, written_to}
use Rattle.parse_lines.specs.Ends.{IsAfter, IsInLineFrom}
use Rattle.parse_lines.proofs.Columns.{past, inside, onward, IsAmong, among}
use Rattle.parse_lines.proofs.Spots.{column_in, get_over, get_front}

zero_less : (n : ℕ) → 0 < n → eqb n 0 ≡ false
zero_less n some = elim (cases_Bool (eqb n 0)) [ inl h ↦ let e = eqb-true n 0 h in absurd (omega arith) | inr h ↦ h ]

-- a place among the bytes of a line
pub start_among : (first : ℕ) (bs : List ℕ) (column p i owed left : ℕ) → IsAmong bs column p i owed left
    → cond (eqb owed 0) (end_at ((first + length bs) - left) 0) (end_at (((first + length bs) - left) - 1) owed) ≡ end_at (first + p) owed
start_among first bs column p i owed left (inl at) =
    let none = at.owed_none in
    let sizes = at.sizes in
    let index : (first + length bs) - left ≡ first + p = omega arith in
    cond-true (eqb owed 0) _ _ (ap (λ (n : ℕ). eqb n 0) none) ∙ ap₂ end_at index (sym none)
start_among first bs column p i owed left (inr at) =
    let some = at.owed_some in
    let sizes = at.sizes in
    let index : ((first + length bs) - left) - 1 ≡ first + p = omega arith in
    cond-false (eqb owed 0) _ _ (zero_less owed some) ∙ ap (λ (n : ℕ). end_at n owed) index

columns_among : (text bs : List ℕ) (first p i owed left : ℕ) → (index_spot text (first + p)).column ≡ column_past (take p bs) 1
    → IsAmong bs 1 p i owed left → end_columns text (end_at (first + p) owed) ≡ i
columns_among text bs first p i owed left column (inl at) =
    cond-true (eqb owed 0) _ _ (ap (λ (n : ℕ). eqb n 0) at.owed_none) ∙ sym at.inside_none
columns_among text bs first p i owed left column (inr at) =
    let some = at.owed_some in
    let wide : i + owed ≡ tab_size (index_spot text (first + p)).column = at.width ∙ ap tab_size (sym column) in
    let less : tab_size (index_spot text (first + p)).column - owed ≡ i = omega arith in
    cond-false (eqb owed 0) _ _ (zero_less owed some) ∙ less

pub owes_among : (text bs : List ℕ) (first p i owed left : ℕ) → (index_spot text (first + p)).column ≡ column_past (take p bs) 1
    → (index_spot text (first + p)).index ≡ first + p → first + length bs ≤ length text → (p < length bs → get_or text (first + p) 0 ≡ get_or bs p 0)
    → IsAmong bs 1 p i owed left → OwesIn text (index_spot text (first + p)) owed
owes_among text bs first p i owed left column index within same (inl at) = inl at.owed_none
owes_among text bs first p i owed left column index within same (inr at) =
    let sizes = at.sizes in
    let some = at.inside_some in
    let wide : i + owed ≡ tab_size (index_spot text (first + p)).column = at.width ∙ ap tab_size (sym column) in
    inr (record {
      within = omega arith;
      tab = ap (λ (n : ℕ). get_or text n 0) index ∙ same (omega arith) ∙ at.tab;
      fewer = omega arith;
    })

pub past_within : (bs : List ℕ) (p i owed left : ℕ) → IsAmong bs 1 p i owed left → p ≤ length bs
past_within bs p i owed left (inl at) = let sizes = at.sizes in omega arith
past_within bs p i owed left (inr at) = let sizes = at.sizes in omega arith

-- After more columns of a line, a rest begins further on.
pub rests_follow : (text before content after : List ℕ) (n m : ℕ) → n ≤ m → text ≡ before ++ (content ++ after) → (index_spot text (length before)).column ≡ 1
    → mark_size text ≤ length before → list_any ends_line content ≡ false → ((k : ℕ) → get_or content k 0 < 256)
    → Follows text (rest_start (length before + length content) (drop n (whole content))) (rest_start (length before + length content) (drop m (whole content)))
rests_follow text before content after n m le is first mark dark bytes =
    let at = among 0 content n bytes in
    let to = among 0 content m bytes in
    let p = past 0 content n in
    let q = past 0 content m in
    let owed_n = prefix_len is_tab_column (drop n (whole content)) in
    let owed_m = prefix_len is_tab_column (drop m (whole content)) in
    let left_n = length (bytes_of (drop n (whole content))) in
    let left_m = length (bytes_of (drop m (whole content))) in
    let start_n = start_among (length before) content 1 p (inside 0 content n) owed_n left_n at in
    let start_m = start_among (length before) content 1 q (inside 0 content m) owed_m left_m to in
    let within_n = past_within content p (inside 0 content n) owed_n left_n at in
    let within_m = past_within content q (inside 0 content m) owed_m left_m to in
    let column_n = column_in text before content after p is first mark dark within_n in
    let column_m = column_in text before content after q is first mark dark within_m in
    let size : length text ≡ length before + (length content + length after) =
    ap length is ∙ length-append before (content ++ after) ∙ ap (λ (k : ℕ). length before + k) (length-append content after) in
    let columns_n = columns_among text content (length before) p (inside 0 content n) owed_n left_n column_n at in
    let columns_m = columns_among text content (length before) q (inside 0 content m) owed_m left_m column_m to in
    let index_m = spot_index text (length before + q) (omega arith) in
    let more = onward 0 content n m le in
    let same : q < length content → get_or text (length before + q) 0 ≡ get_or content q 0 = λ lt.
    ap (λ (l : List ℕ). get_or l (length before + q) 0) is ∙ get_over before (content ++ after) q ∙ get_front content after q lt in
    let follows : Follows text (end_at (length before + p) owed_n) (end_at (length before + q) owed_m) =
    record {
      forward = omega (arith, more.0);
      within = omega arith;
      columns = λ e. rw (columns_n, columns_m) (more.1 (omega arith));
      whole = owes_among text content (length before) q (inside 0 content m) owed_m left_m column_m index_m (omega arith) same to;
    } in
    subst (λ (x : End). Follows text x (rest_start (length before + length content) (drop m (whole content)))) (sym start_n)
    (subst (λ (x : End). Follows text (end_at (length before + p) owed_n) x) (sym start_m) follows)

-- ---- in a walk

-- after more columns of a line
pub line_follows : (text before content after : List ℕ) (line_end n m : ℕ) → IsLineOf text before content after → line_end ≡ length before + length content
    → n ≤ m → Follows text (rest_start line_end (drop n (whole content))) (rest_start line_end (drop m (whole content)))
line_follows text before content after line_end n m line end le =
    subst (λ (e : ℕ). Follows text (rest_start e (drop n (whole content))) (rest_start e (drop m (whole content)))) (sym end)
    (rests_follow text before content after n m le line.parts line.first.column line.first.mark line.dark line.bytes)

-- where no column of a tab is first
pub start_whole : (line_end : ℕ) (rest : Rest) → prefix_len is_tab_column rest ≡ 0 → rest_start line_end rest ≡ end_at (line_end - length (bytes_of rest)) 0
start_whole line_end rest none = cond-true (eqb (prefix_len is_tab_column rest) 0) _ _ (ap (λ (n : ℕ). eqb n 0) none)

-- a line of which nothing is read
pub start_line : (before content : List ℕ) (line_end : ℕ) → ((k : ℕ) → get_or content k 0 < 256) → line_end ≡ length before + length content
    → rest_start line_end (whole content) ≡ end_at (length before) 0
start_line before content line_end bytes end =
    let size : length (bytes_of (whole content)) ≡ length content = ap length (bytes_of_codes 0 content bytes) in
    let index : line_end - length (bytes_of (whole content)) ≡ length before = omega arith in
    start_whole line_end (whole content) (no_columns 0 content bytes) ∙ ap (λ (n : ℕ). end_at n 0) index

left_some : (bs : List ℕ) (p i owed left : ℕ) → IsAmong bs 1 p i owed left → left ≤ length bs
left_some bs p i owed left (inl at) = let sizes = at.sizes in omega arith
left_some bs p i owed left (inr at) = let sizes = at.sizes in omega arith

-- no more is left than the line holds
pub left_within : (content : List ℕ) (n : ℕ) → ((k : ℕ) → get_or content k 0 < 256) → length (bytes_of (drop n (whole content))) ≤ length content
left_within content n bytes = left_some content (past 0 content n) (inside 0 content n) _ _ (among 0 content n bytes)

-- after a mark, where this byte is next
pub start_marked : (line_end : ℕ) (codes : Rest) → prefix_len is_tab_column codes ≡ 0 → length (bytes_of (62 ∷ codes)) ≤ line_end
    → end_at ((line_end - length (bytes_of (62 ∷ codes))) + 1) 0 ≡ rest_start line_end codes
start_marked line_end codes none within =
    let size : length (bytes_of (62 ∷ codes)) ≡ suc (length (bytes_of codes)) = refl in
    let index : (line_end - length (bytes_of (62 ∷ codes))) + 1 ≡ line_end - length (bytes_of codes) = omega arith in
    ap (λ (n : ℕ). end_at n 0) index ∙ sym (start_whole line_end codes none)

-- up to the ending of the line
pub rest_to_end : (text before content after : List ℕ) (line_end n : ℕ) → IsLineOf text before content after → line_end ≡ length before + length content
    → Follows text (rest_start line_end (drop n (whole content))) (end_at line_end 0)
rest_to_end text before content after line_end n line end =
    let all = length (whole content) in
    let none : drop (n + all) (whole content) ≡ [] = drop_all (n + all) (whole content) (omega arith) in
    let index : line_end - 0 ≡ line_end = omega arith in
    let at : rest_start line_end (drop (n + all) (whole content)) ≡ end_at line_end 0 =
    ap (rest_start line_end) none ∙ ap (λ (k : ℕ). end_at k 0) index in
    subst (λ (x : End). Follows text (rest_start line_end (drop n (whole content))) x) at (
    line_follows text before content after line_end n (n + all) line end (omega arith)
    )

-- what is written up to a rest of a line ends in that line
pub after_in_line : {A : Type 0} (text before content after : List ℕ) (n : ℕ) (from : End) (w : Walk A) → from ≡ end_at (length before) 0
    → IsAfter text before content after n w → IsInLineFrom text from.index (written_to w).index
after_in_line text before content after n from w first is =
    let line = is.line in
    let start : (rest_start w.line_end (whole content)).index ≡ length before = ap (λ (x : End). x.index)
    (start_line before content w.line_end line.bytes is.end) in
    let at : (written_to w).index ≡ (rest_start w.line_end (drop n (whole content))).index =
    ap (λ (x : End). x.index) (is.written ∙ ap (rest_start w.line_end) is.rest) in
    let least : (rest_start w.line_end (whole content)).index ≤ (rest_start w.line_end (drop n (whole content))).index =
    (line_follows text before content after w.line_end 0 n line is.end (omega arith)).forward in
    let most : (rest_start w.line_end (drop n (whole content))).index ≤ w.line_end = (rest_to_end text before content after w.line_end n line is.end).forward in
    let end : w.line_end ≡ length before + length content = is.end in
    let begins : from.index ≡ length before = ap (λ (x : End). x.index) first in
    record {
      before = before;
      content = content;
      after = after;
      parts = line.parts;
      dark = line.dark;
      begins = begins;
      forward = omega (arith, begins, start, at, least);
      within = omega (arith, at, most, end);
    }

-- and up to the next line
pub end_to_next : (text : List ℕ) (s : Standing) → IsInLine text s → Follows text (end_at s.line_end 0) (end_at (s.size - length s.left) 0)
end_to_next text s line =
    let sizes : length text ≡ length line.before + (length line.content + (length (ending_text s.ending) + length s.left)) =
    ap length line.parts.parts ∙ length-append line.before _ ∙ ap (λ (n : ℕ). length line.before + n) (
    length-append line.content _ ∙ ap (λ (n : ℕ). length line.content + n) (length-append (ending_text s.ending) s.left)
    ) in
    let size = line.over.size in
    let end = line.end in
    record { forward = omega arith; within = omega arith; columns = λ e. omega arith; whole = inl refl }
