-- What is left of a line is next in its text.
use Rattle.std.proofs.Common.{◌≡◌, ℕ, ◌+◌, ◌-◌, ◌<◌, ◌≤◌, suc, zero, List, [], ◌∷◌, ◌++◌, eqb, inl, inr, refl, sym, ap, ◌∙◌, subst, arith, get_or, drop}
use Rattle.std.proofs.Common.{length, length-append}
use Rattle.parse_lines.proofs.Prelude.{AreNext, bytes_of, bytes_of_codes, cases_Bool, cases_lt, codes_from, drop-drop, drop-nil, drop_all, End, end_at}
use Rattle.parse_lines.proofs.Prelude.{eqb-true, index_spot, is_tab_column, IsInTab, IsLineOf, length-drop, no_bytes, prefix_len, replicate, Rest, rest_start}
use Rattle.parse_lines.proofs.Prelude.{space, spot_index, tab_column, tab_size, whole, width}
use Rattle.parse_lines.proofs.Suffixes.{IsEnd}
use Rattle.parse_lines.proofs.Columns.{IsAmong, past, inside, among, codes_first, some_width, drop_columns, drop_past, drop_more_codes, ne_zero, tail_bytes}
use Rattle.parse_lines.proofs.Spots.{column_in, get_over, get_front}
use Rattle.parse_lines.proofs.Ends.{start_among}

-- the bytes of what is left are the last bytes of the line
pub bytes_end : (c : ℕ) (bs : List ℕ) (n : ℕ) → ((k : ℕ) → get_or bs k 0 < 256) → IsEnd (bytes_of (drop n (codes_from c bs))) bs
bytes_end c [] n h = (0, ap bytes_of (drop-nil n))
bytes_end c (b ∷ bs) n h =
    let w = width c b in
    let all = codes_from c (b ∷ bs) in
    let others = codes_from (c + w) bs in
    let some = some_width c b in
    elim (cases_lt n w) [
      | inl lt ↦
          elim (cases_Bool (eqb n 0)) [
            | inl z ↦
                let e : n ≡ 0 = eqb-true n 0 z in
                (0, ap (λ (m : ℕ). bytes_of (drop m all)) e ∙ bytes_of_codes c (b ∷ bs) h)
            | inr z ↦
                let ne = ne_zero n z in
                let is : drop n all ≡ replicate (w - 1 - (n - 1)) tab_column ++ others =
                ap (drop n) (codes_first c b bs)
                ∙ drop_more_codes n b (replicate (w - 1) tab_column ++ others) ne
                ∙ drop_columns (n - 1) (w - 1) others (omega arith) in
                (1, ap bytes_of is ∙ no_bytes (w - 1 - (n - 1)) others ∙ bytes_of_codes (c + w) bs (tail_bytes b bs h))
          ]
      | inr ge ↦
          let fewer : (n - 1) - (w - 1) ≡ n - w = omega arith in
          let is : drop n all ≡ drop (n - w) others =
          ap (drop n) (codes_first c b bs)
          ∙ drop_more_codes n b (replicate (w - 1) tab_column ++ others) (omega arith)
          ∙ drop_past (n - 1) (w - 1) others (omega arith)
          ∙ ap (λ (m : ℕ). drop m others) fewer in
          let more = bytes_end (c + w) bs (n - w) (tail_bytes b bs h) in
          let one : 1 + more.0 ≡ suc more.0 = omega arith in
          (1 + more.0, ap bytes_of is ∙ more.1 ∙ ap (λ (m : ℕ). drop m (b ∷ bs)) (sym one))
    ]

-- an end of a list, by its length
pub end_by_size : (xs bs : List ℕ) (p : ℕ) → IsEnd xs bs → p + length xs ≡ length bs → xs ≡ drop p bs
end_by_size xs bs p end size =
    let left : length (drop end.0 bs) ≡ length bs - end.0 = length-drop end.0 bs in
    let same : length xs ≡ length (drop end.0 bs) = ap length end.1 in
    elim (cases_lt end.0 (length bs)) [
      | inl lt ↦ let at : end.0 ≡ p = omega arith in end.1 ∙ ap (λ (k : ℕ). drop k bs) at
      | inr le ↦
          let none : p ≡ length bs = omega arith in
          end.1 ∙ drop_all end.0 bs le ∙ sym (drop_all p bs (omega arith))
    ]

pub drop_over : (xs ys : List ℕ) (p : ℕ) → drop (length xs + p) (xs ++ ys) ≡ drop p ys
drop_over [] ys p = let e : 0 + p ≡ p = omega arith in ap (λ (n : ℕ). drop n ys) e
drop_over (x ∷ xs) ys p =
    let e : suc (length xs) + p ≡ suc (length xs + p) = omega arith in
    ap (λ (n : ℕ). drop n (x ∷ (xs ++ ys))) e ∙ drop_over xs ys p

pub drop_front : (p : ℕ) (xs ys : List ℕ) → p ≤ length xs → drop p (xs ++ ys) ≡ drop p xs ++ ys
drop_front zero xs ys le = refl
drop_front (suc p) [] ys le = absurd (omega arith)
drop_front (suc p) (x ∷ xs) ys le = drop_front p xs ys (omega arith)

-- bytes at an index
bytes_next : (text : List ℕ) (index : ℕ) (bs after : List ℕ) → drop index text ≡ bs ++ after → index ≤ length text → AreNext text (end_at index 0) bs
bytes_next text index [] after is within = (within, inl refl)
bytes_next text index (b ∷ bs) after is within =
    let rest : drop (index + 1) text ≡ bs ++ after = sym (drop-drop 1 index text) ∙ ap (drop 1) is in
    let left : length (drop index text) ≡ length text - index = length-drop index text in
    let some : length (drop index text) ≡ suc (length (bs ++ after)) = ap length is in
    (is ∙ ap (λ (xs : List ℕ). b ∷ xs) (sym rest), bytes_next text (index + 1) bs after rest (omega arith))

-- columns that a tab owes, and bytes after it
columns_next : (text : List ℕ) (index owed : ℕ) (bs : List ℕ) → index < length text → IsInTab text (index_spot text index) (suc owed)
    → AreNext text (end_at (index + 1) 0) bs → AreNext text (end_at index (suc owed)) (replicate (suc owed) space ++ bs)
columns_next text index zero bs within tab more = ((refl, within, tab), more)
columns_next text index (suc owed) bs within tab more =
    let wide = tab.fewer in
    let fewer : IsInTab text (index_spot text index) (suc owed) = record { within = tab.within; tab = tab.tab; fewer = omega arith } in
    ((refl, within, tab), columns_next text index owed bs within fewer more)

-- what is left of a line, as bytes: a space for each column that is left of a tab
abbrev pub left_bytes : Rest → List ℕ
left_bytes rest = replicate (prefix_len is_tab_column rest) space ++ bytes_of rest

next_among : (text before content after : List ℕ) (p i owed : ℕ) (bytes : List ℕ) → IsLineOf text before content after
    → IsAmong content 1 p i owed (length bytes) → IsEnd bytes content → AreNext text (end_at (length before + p) owed) (replicate owed space ++ bytes)
next_among text before content after p i owed bytes line (inl at) end =
    let sizes = at.sizes in
    let whole_size : length text ≡ length before + length (content ++ after) = ap length line.parts ∙ length-append before (content ++ after) in
    let more_size : length (content ++ after) ≡ length content + length after = length-append content after in
    let same = end_by_size bytes content p end sizes in
    let is : drop (length before + p) text ≡ bytes ++ after =
    ap (drop (length before + p)) line.parts ∙ drop_over before (content ++ after) p ∙ drop_front p content after (omega arith)
    ∙ ap (λ (xs : List ℕ). xs ++ after) (sym same) in
    subst (λ (o : ℕ). AreNext text (end_at (length before + p) o) (replicate o space ++ bytes)) (sym at.owed_none)
    (bytes_next text (length before + p) bytes after is (omega arith))
next_among text before content after p i zero bytes line (inr at) end = let some = at.owed_some in absurd (omega arith)
next_among text before content after p i (suc owed) bytes line (inr at) end =
    let sizes = at.sizes in
    let whole_size : length text ≡ length before + length (content ++ after) = ap length line.parts ∙ length-append before (content ++ after) in
    let more_size : length (content ++ after) ≡ length content + length after = length-append content after in
    let next : (length before + p) + 1 ≡ length before + (p + 1) = omega arith in
    let same = end_by_size bytes content (p + 1) end sizes in
    let is : drop ((length before + p) + 1) text ≡ bytes ++ after =
    ap (λ (k : ℕ). drop k text) next ∙ ap (drop (length before + (p + 1))) line.parts ∙ drop_over before (content ++ after) (p + 1)
    ∙ drop_front (p + 1) content after (omega arith) ∙ ap (λ (xs : List ℕ). xs ++ after) (sym same) in
    let column = column_in text before content after p line.parts line.first.column line.first.mark line.dark (omega arith) in
    let index = spot_index text (length before + p) (omega arith) in
    let byte : p < length content → get_or text (length before + p) 0 ≡ get_or content p 0 = λ lt.
    ap (λ (l : List ℕ). get_or l (length before + p) 0) line.parts ∙ get_over before (content ++ after) p ∙ get_front content after p lt in
    let wide : i + suc owed ≡ tab_size (index_spot text (length before + p)).column = at.width ∙ ap tab_size (sym column) in
    let some = at.inside_some in
    let tab : IsInTab text (index_spot text (length before + p)) (suc owed) =
    record {
      within = omega arith;
      tab = ap (λ (k : ℕ). get_or text k 0) index ∙ byte (omega arith) ∙ at.tab;
      fewer = omega arith;
    } in
    columns_next text (length before + p) owed bytes (omega arith) tab (bytes_next text ((length before + p) + 1) bytes after is (omega arith))

-- After so many columns of a line, what is left of it is next.
pub left_next : (text before content after : List ℕ) (line_end n : ℕ) → IsLineOf text before content after → line_end ≡ length before + length content
    → AreNext text (rest_start line_end (drop n (whole content))) (left_bytes (drop n (whole content)))
left_next text before content after line_end n line end =
    let rest = drop n (whole content) in
    let p = past 0 content n in
    let i = inside 0 content n in
    let at = among 0 content n line.bytes in
    let start : rest_start line_end rest ≡ end_at (length before + p) (prefix_len is_tab_column rest) =
    ap (λ (k : ℕ). rest_start k rest) end
    ∙ start_among (length before) content 1 p i (prefix_len is_tab_column rest) (length (bytes_of rest)) at in
    subst (λ (x : End). AreNext text x (left_bytes rest)) (sym start)
    (next_among text before content after p i (prefix_len is_tab_column rest) (bytes_of rest) line at (bytes_end 0 content n line.bytes))
