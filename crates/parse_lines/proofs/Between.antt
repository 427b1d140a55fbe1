-- The bytes of a text between two rests of a line.
use Rattle.std.proofs.Common.{◌≡◌, ℕ, ◌+◌, ◌-◌, zero, suc, List, ◌++◌, inl, inr, sym, ap, ◌∙◌, subst, arith, drop, take, length}
use Rattle.std.proofs.Common.{length-append, append_assoc}
use Rattle.parse_lines.proofs.Prelude.{AreNext, bytes_of, drop-drop, End, end_at, end_edge, is_byte, is_tab_column, IsLineOf, prefix_len, replicate, Rest}
use Rattle.parse_lines.proofs.Prelude.{rest_start, space, take-append-drop, take-append_seam, text_between, whole}
use Rattle.std.proofs.lemmas.List.Elements.{filter-append}
use Rattle.parse_lines.proofs.Columns.{IsAmong, among, inside, past}
use Rattle.parse_lines.proofs.Ends.{left_within, start_among}
use Rattle.parse_lines.proofs.Next.{bytes_end, drop_front, drop_over, end_by_size, left_bytes, left_next}
use Rattle.parse_lines.proofs.SameText.{tab_edge}

-- where the bytes before it are over
next_edge : (text : List ℕ) (index owed : ℕ) (bytes : List ℕ) → AreNext text (end_at index (suc owed)) (replicate (suc owed) space ++ bytes)
    → end_edge text (end_at index (suc owed)) ≡ index + 1
next_edge text index owed bytes are = tab_edge text index owed are.0.2

edge_among : (text content bytes : List ℕ) (first p i owed : ℕ) → IsAmong content 1 p i owed (length bytes)
    → AreNext text (end_at (first + p) owed) (replicate owed space ++ bytes) → end_edge text (end_at (first + p) owed) + length bytes ≡ first + length content
edge_among text content bytes first p i zero (inl at) are = omega (arith, at.sizes)
edge_among text content bytes first p i (suc owed) (inl at) are = absurd (omega (arith, at.owed_none))
edge_among text content bytes first p i zero (inr at) are = absurd (omega (arith, at.owed_some))
edge_among text content bytes first p i (suc owed) (inr at) are = omega (arith, at.sizes, next_edge text (first + p) owed bytes are)

module _ (text before content after : List ℕ) (line_end : ℕ) (line : IsLineOf text before content after) (end : line_end ≡ length before + length content) where
  -- before the bytes of a rest
  pub rest_edge : (n : ℕ) → end_edge text (rest_start line_end (drop n (whole content))) + length (bytes_of (drop n (whole content))) ≡ line_end
  rest_edge n =
      let rest = drop n (whole content) in
      let p = past 0 content n in
      let owed = prefix_len is_tab_column rest in
      let at = among 0 content n line.bytes in
      let start : rest_start line_end rest ≡ end_at (length before + p) owed =
      ap (λ (k : ℕ). rest_start k rest) end ∙ start_among (length before) content 1 p (inside 0 content n) owed (length (bytes_of rest)) at in
      let next = subst (λ (x : End). AreNext text x (left_bytes rest)) start (left_next text before content after line_end n line end) in
      ap (λ (x : End). end_edge text x + length (bytes_of rest)) start
      ∙ edge_among text content (bytes_of rest) (length before) p (inside 0 content n) owed at next ∙ sym end

  -- they are the bytes there
  pub rest_there : (n : ℕ) → drop (end_edge text (rest_start line_end (drop n (whole content)))) text ≡ bytes_of (drop n (whole content)) ++ after
  rest_there n =
      let rest = drop n (whole content) in
      let edge = rest_edge n in
      let within = left_within content n line.bytes in
      let q = length content - length (bytes_of rest) in
      let index : end_edge text (rest_start line_end rest) ≡ length before + q = omega (arith, edge, within, end) in
      let same : bytes_of rest ≡ drop q content = end_by_size (bytes_of rest) content q (bytes_end 0 content n line.bytes) (omega (arith, within)) in
      ap (λ (k : ℕ). drop k text) index ∙ ap (drop (length before + q)) line.parts ∙ drop_over before (content ++ after) q
      ∙ drop_front q content after (omega arith) ∙ ap (λ (xs : List ℕ). xs ++ after) (sym same)

  -- the bytes of the codes between two rests
  pub rests_between : (n k : ℕ) → text_between text (rest_start line_end (drop n (whole content))) (rest_start line_end (drop (n + k) (whole content)))
      ≡ bytes_of (take k (drop n (whole content)))
  rests_between n k =
      let rest = drop n (whole content) in
      let front = bytes_of (take k rest) in
      let more = drop (n + k) (whole content) in
      let same : drop k rest ≡ more = drop-drop k n (whole content) in
      let all : bytes_of rest ≡ front ++ bytes_of more =
      ap bytes_of (sym (take-append-drop k rest)) ∙ filter-append is_byte (take k rest) (drop k rest) ∙ ap (λ (xs : Rest). front ++ bytes_of xs) same in
      let sizes : length (bytes_of rest) ≡ length front + length (bytes_of more) = ap length all ∙ length-append front (bytes_of more) in
      let size : end_edge text (rest_start line_end more) - end_edge text (rest_start line_end rest) ≡ length front =
      omega (arith, rest_edge n, rest_edge (n + k), sizes) in
      ap (λ (m : ℕ). take m (drop (end_edge text (rest_start line_end rest)) text)) size
      ∙ ap (take (length front)) (rest_there n ∙ ap (λ (xs : List ℕ). xs ++ after) all ∙ append_assoc front (bytes_of more) after)
      ∙ take-append_seam front (bytes_of more ++ after)

  -- up to the ending of the line
  pub rest_between : (n : ℕ) → text_between text (rest_start line_end (drop n (whole content))) (end_at line_end 0) ≡ bytes_of (drop n (whole content))
  rest_between n =
      let rest = drop n (whole content) in
      let size : line_end - end_edge text (rest_start line_end rest) ≡ length (bytes_of rest) = omega (arith, rest_edge n) in
      ap (λ (m : ℕ). take m (drop (end_edge text (rest_start line_end rest)) text)) size
      ∙ ap (take (length (bytes_of rest))) (rest_there n) ∙ take-append_seam (bytes_of rest) after
