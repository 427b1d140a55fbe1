-- The pieces of raw blocks, step by step (CommonMark 4.1 and 4.4 to 4.6).
use Rattle.std.proofs.Common.{◌≡◌, ℕ, ◌+◌, ◌-◌, ◌≤◌, zero, suc, List, [], refl, sym, ap, ◌∙◌, subst, drop, length, arith}
use Rattle.parse_raw.proofs.Prelude.{indent}
use Rattle.parse_raw.proofs.Prelude.{Constructs, Container, drop-drop, end_at, end_in, IsLineOf, Name, Rest, rest_start, standing, void_nodes}
use Rattle.parse_raw.proofs.Prelude.{Walk, whole, Writes}
use Rattle.std.specs.Prelude.{min}
use Rattle.std.proofs.lemmas.List.{drop_all}
use Rattle.std.proofs.Math.Seq.{take-length}
use Rattle.definition_text.specs.Indents.{outdent}
use Rattle.engine_events.specs.declared.event.Name.TheVariants as n
use Rattle.event_definition.specs.Containers.{next_line}
use Rattle.event_definition.specs.Pieces.{Pieces, Nil, join, token}
use Rattle.event_definition.specs.RawLines.{raw_lines}
use Rattle.event_definition.specs.Written.{Left, Between, Within, Written, and_then, before_rest, rest_of, up_to, whole_rest, with_rest, written}
use Rattle.parse_output.specs.declared.output.Output.{Output}
use Rattle.parse_pieces.proofs.Sizes.{join_assoc, join_nil}
use Rattle.parse_pieces.proofs.Written.{pieces_both}
use Rattle.parse_pieces.specs.Written.{WritesPieces}
use Rattle.parse_lines.proofs.LinePieces.{before_take, line_token}
use Rattle.parse_lines.specs.Pieces.{WritesUpToLine, left_at_ending, left_in_line}
use Rattle.parse_raw.specs.Pieces.{WritesToEnding, cut_lines, next_cut}
use Rattle.parse_raw.specs.RawLines.{cut_line}

-- ---- what is written, and then more

then_none : (w : Written) → and_then w (written Nil) ≡ w
then_none w = ap (λ (ps : Pieces). written ps w.left) (join_nil w.pieces)

then_assoc : (w : Written) (f g : Left → Written) → and_then (and_then w f) g ≡ and_then w (λ l. and_then (f l) g)
then_assoc w f g =
    ap (λ (ps : Pieces). written ps (g (f w.left).left).left) (join_assoc w.pieces (f w.left).pieces (g (f w.left).left).pieces)

-- the same after the same
then_same : (w : Written) (f g : Left → Written) → f w.left ≡ g w.left → and_then w f ≡ and_then w g
then_same w f g same = ap (λ (x : Written). written (join w.pieces x.pieces) x.left) same

-- one more line is the last
pub lines_last : (on : Constructs) (outer : List Container) (name : Name) (cut : Rest → Rest) (count : ℕ) (left : Left)
    → and_then (cut_lines on outer name cut count left) (next_cut on outer name cut) ≡ cut_lines on outer name cut (suc count) left
lines_last on outer name cut zero left = sym (then_none (next_cut on outer name cut left))
lines_last on outer name cut (suc count) left =
    let one = next_cut on outer name cut left in
    then_assoc one (cut_lines on outer name cut count) (next_cut on outer name cut)
    ∙ then_same one (λ l. and_then (cut_lines on outer name cut count l) (next_cut on outer name cut)) (cut_lines on outer name cut (suc count))
    (lines_last on outer name cut count one.left)

-- lines that lose columns of white space
pub lines_are : (on : Constructs) (outer : List Container) (name : Name) (cut : Rest → Rest) (columns count : ℕ) (left : Left)
    → ((rest : Rest) → cut rest ≡ outdent columns rest) → cut_lines on outer name cut count left ≡ raw_lines on outer name columns count left
lines_are on outer name cut columns zero left same = refl
lines_are on outer name cut columns (suc count) left same =
    let next = next_line on outer left in
    let one = and_then next (cut_line name (outdent columns)) in
    let first : next_cut on outer name cut left ≡ one =
    then_same next (cut_line name cut) (cut_line name (outdent columns))
    (ap (λ (r : Rest). and_then (up_to n.SpaceOrTab r next.left) (whole_rest name)) (same (rest_of next.left))) in
    ap (λ (w : Written). and_then w (cut_lines on outer name cut count)) first
    ∙ then_same one (cut_lines on outer name cut count) (raw_lines on outer name columns count) (lines_are on outer name cut columns count one.left same)

pub none_cut : (rest : Rest) → rest ≡ outdent 0 rest
none_cut rest = let none : min 0 (indent rest) ≡ 0 = omega arith in ap (λ (k : ℕ). drop k rest) (sym none)

-- nothing is left of the line, whatever was
rest_once : (rest : Rest) (left : Left) → with_rest [] left ≡ with_rest [] (with_rest rest left)
rest_once rest (Between ls) = refl
rest_once rest (Within own ending ls) = refl

-- ---- in a walk

module _ {A : Type 0} (text : List ℕ) where
  -- some lines, and then more
  pub then_written : (w : Written) (more : Left → Written) (a b c : Walk A) → WritesToEnding text w a b → WritesToEnding text (more (left_at_ending (standing b))) b c
      → WritesToEnding text (and_then w more) a c
  then_written w more a b c first second =
      let next = subst (λ (l : Left). WritesToEnding text (more l) b c) first.left second in
      record { pieces = pieces_both text w.pieces (more w.left).pieces a.out b.out c.out first.pieces next.pieces; left = next.left }

  -- a line is begun, and what is left of it is written
  pub line_then : (w : Written) (name : Name) (cut : Rest → Rest) (a b c : Walk A) → WritesUpToLine text w a b
      → WritesPieces text (cut_line name cut (left_in_line (standing b))).pieces b.out c.out → standing c ≡ standing b
      → WritesToEnding text (and_then w (cut_line name cut)) a c
  line_then w name cut a b c first line same =
      let next = subst (λ (l : Left). WritesPieces text (cut_line name cut l).pieces b.out c.out) first.left line in
      record {
        pieces = pieces_both text w.pieces (cut_line name cut w.left).pieces a.out b.out c.out first.pieces next;
        left = ap left_at_ending same ∙ ap (with_rest []) first.left ∙ rest_once (cut (rest_of w.left)) w.left;
      }

module _ (text before content after : List ℕ) (line_end : ℕ) (line : IsLineOf text before content after) (end : line_end ≡ length before + length content) where
  -- all that is left of a line, as one token
  pub rest_token : {A : Type 0} (name : Name) (k : ℕ) (a b : Output A) → end_in a ≡ rest_start line_end (drop k (whole content)) → end_in b ≡ end_at line_end 0
      → Writes text a b (void_nodes text name (end_in a) (end_in b)) → WritesPieces text (token name (drop k (whole content))) a b
  rest_token name k a b from to writes =
      let rest = drop k (whole content) in
      let size = length rest in
      let none : drop (k + size) (whole content) ≡ [] =
      sym (drop-drop size k (whole content)) ∙ drop_all size rest (let all : size ≤ size = omega arith in all) in
      let index : line_end - 0 ≡ line_end = omega arith in
      let there : end_in b ≡ rest_start line_end (drop (k + size) (whole content)) =
      to ∙ sym (ap (rest_start line_end) none ∙ ap (λ (i : ℕ). end_at i 0) index) in
      line_token text before content after line_end line end name k size rest a b (sym (take-length rest)) from there writes

  -- and without columns that are cut from it
  pub cut_token : {A : Type 0} (name : Name) (k j : ℕ) (a b c : Output A) → end_in a ≡ rest_start line_end (drop k (whole content))
      → end_in b ≡ rest_start line_end (drop (k + j) (whole content)) → end_in c ≡ end_at line_end 0
      → Writes text a b (void_nodes text n.SpaceOrTab (end_in a) (end_in b)) → Writes text b c (void_nodes text name (end_in b) (end_in c))
      → WritesPieces text (join (token n.SpaceOrTab (before_rest (drop k (whole content)) (drop j (drop k (whole content))))) (token name (drop j (drop k (whole content))))) a c
  cut_token name k j a b c from mid to spaces writes =
      let rest = drop k (whole content) in
      let first = line_token text before content after line_end line end n.SpaceOrTab k j (before_rest rest (drop j rest)) a b (before_take j rest) from mid spaces in
      let second = subst (λ (r : Rest). WritesPieces text (token name r) b c) (sym (drop-drop j k (whole content))) (rest_token name (k + j) b c mid to writes) in
      pieces_both text (token n.SpaceOrTab (before_rest rest (drop j rest))) (token name (drop j rest)) a b c first second

-- nothing is cut
pub none_before : (name : Name) (rest : Rest) (ps : Pieces) → join (token name (before_rest rest rest)) ps ≡ ps
none_before name rest ps = ap (λ (cs : Rest). join (token name cs) ps) (before_take 0 rest)
