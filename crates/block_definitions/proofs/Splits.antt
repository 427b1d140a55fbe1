-- A paragraph's content, cut after some of its lines.
use Rattle.std.proofs.Common.{◌≡◌, ℕ, ◌+◌, ◌<◌, ◌≤◌, get_or, zero, suc, List, [], ◌∷◌, ◌++◌, length, take, drop, refl, sym, ap, ◌∙◌, append_assoc, arith}
use Rattle.block_definitions.proofs.Prelude.{AreLines, BlockLine, code_byte, content_text, length-append, length-map, line_text, map, Piece, piece_line}
use Rattle.block_definitions.proofs.Prelude.{piece_lines, total}
use Rattle.std.proofs.lemmas.List.{append-nil, take_more, get_or-map}
use Rattle.std.proofs.lemmas.List.Sums.{sum_by-cons, sum_by-append}
use Rattle.definition_text.specs.Lines.{ending_text}
use Rattle.block_definitions.specs.Contents.{room}

-- so many lines and one more of a content: the last of all has its ending outside
pub record Split (n : ℕ) (ls : List BlockLine) : Type 0 where
  pub front : List ℕ
  pub same : content_text ls ≡ front ++ content_text (drop (suc n) ls)
  pub more : total (take n ls) < length front
  pub most : length front ≤ total (take (suc n) ls)

last_text : (line : BlockLine) → content_text (line ∷ []) ≡ map code_byte line.codes
last_text line = append-nil (map code_byte line.codes ++ []) ∙ append-nil (map code_byte line.codes)

pub split_at : (n : ℕ) (ls : List BlockLine) → AreLines ls → n < length ls → Split n ls
split_at n [] h within = absurd (omega (arith, within))
split_at (suc n) (line ∷ []) h within = absurd (omega (arith, within))
split_at zero (line ∷ []) h within =
    let long = length-map line.codes code_byte in
    let whole = length-append (map code_byte line.codes) (ending_text line.ending) in
    let one = sum_by-cons room line [] in
    record {
      front = map code_byte line.codes;
      same = last_text line ∙ sym (append-nil (map code_byte line.codes));
      more = omega (arith, long, h.1);
      most = omega (arith, whole, one);
    }
split_at zero (line ∷ next ∷ others) h within =
    let long = length-map line.codes code_byte in
    let whole = length-append (map code_byte line.codes) (ending_text line.ending) in
    let one = sum_by-cons room line [] in
    record {
      front = line_text line;
      same = refl;
      more = omega (arith, long, whole, h.1);
      most = omega (arith, one);
    }
split_at (suc n) (line ∷ next ∷ others) h within =
    let k = split_at n (next ∷ others) h.3 (omega (arith, within)) in
    let whole = length-append (line_text line) k.front in
    let before = sum_by-cons room line (take n (next ∷ others)) in
    let all = sum_by-cons room line (take (suc n) (next ∷ others)) in
    record {
      front = line_text line ++ k.front;
      same = ap (λ x. line_text line ++ x) k.same ∙ sym (append_assoc (line_text line) k.front (content_text (drop (suc n) (next ∷ others))));
      more = omega (arith, whole, before, k.more);
      most = omega (arith, whole, all, k.most);
    }

-- ---- how many lines so many bytes are

pub total_more : (i : ℕ) (pieces : List Piece) (d : Piece) → i < length pieces
    → total (take (i + 1) (piece_lines pieces)) ≡ total (take i (piece_lines pieces)) + room (piece_line (get_or pieces i d))
total_more i pieces d within =
    let ls = piece_lines pieces in
    let line = get_or ls i (piece_line d) in
    let one = sum_by-cons room line [] in
    let same = ap room (get_or-map piece_line pieces i d (piece_line d) within) in
    ap total (take_more ls i (piece_line d) (omega (arith, length-map pieces piece_line, within)))
    ∙ sum_by-append room (take i ls) (line ∷ []) ∙ omega (arith, one, same)

pub total_grows : (m n : ℕ) (ls : List BlockLine) → m ≤ n → total (take m ls) ≤ total (take n ls)
total_grows zero n ls h = omega arith
total_grows (suc m) zero ls h = absurd (omega (arith, h))
total_grows (suc m) (suc n) [] h = omega arith
total_grows (suc m) (suc n) (line ∷ others) h =
    let k = total_grows m n others (omega (arith, h)) in
    let one = sum_by-cons room line (take m others) in
    let two = sum_by-cons room line (take n others) in
    omega (arith, k, one, two)
