-- Lines of fenced code at the front of a text, which it takes at once.
use Rattle.std.proofs.Common.{◌≡◌, ℕ, ◌<◌, ◌-◌, false, true, List, [], ◌∷◌, ◌++◌, Option, refl, sym, ap, ◌∙◌, subst, get_or, length, take}
use Rattle.std.proofs.Common.{append_assoc, arith}
use native.Mathlib.Numerals.{unary_clauses}
use Rattle.block_parser.proofs.Prelude.{append-nil, AreFenced, At, beside_line, block_and_ending, block_codes_whole, block_line, BlockLine, Blocks, code_line}
use Rattle.block_parser.proofs.Prelude.{Constructs, container_views, ending_text, Fence, Fenced, front_bytes, HasRead, InFenced, Inside, IsUtf8, IsWholeCode}
use Rattle.block_parser.proofs.Prelude.{join, join-nil, last_ending_or, later_bytes, Leaf, leaf_state, length-append, LineEnding, lines, list_any, map}
use Rattle.block_parser.proofs.Prelude.{map-append, nothing, Opening, Parser, ReadsSome, Rest, rest_line, spine, Spine, spine_after, spine_at, spine_of}
use Rattle.block_parser.proofs.Prelude.{state_of, step, steps, text_back, text_of, TextLine, tree, Tree, whole, whole_line, whole_lines}
use Rattle.std.specs.Prelude.{◌||◌}
use Rattle.std.specs.Str.{IsCharBoundary}
use Rattle.std.proofs.lemmas.Bool.{or_parts}
use Rattle.std.proofs.lemmas.List.{take_at}
use Rattle.std.proofs.lemmas.List.Concat.{flat_map-append}
use Rattle.std.proofs.lemmas.List.Folds.{list_any-append}
use Rattle.std.proofs.lemmas.Str.{IsCharBoundary-at_seam}
use Rattle.markdown_options.specs.declared.beside.Kind.TheVariants.{Whitespace}
use Rattle.definition_block.specs.CodeFenced.{fence_line, is_fence_end}
use Rattle.definition_block.specs.Tree.{FencedCode}
use Rattle.block_rows.proofs.OpenLines.{AreTextLines, lines_of_text}
use Rattle.block_rows.proofs.TextLines.{front_of_text, line_bytes, lines_of_front}
use Rattle.block_parser.specs.Fences.{line_closes}
use Rattle.block_parser.proofs.Closing.{opening_depth}
use Rattle.block_parser.proofs.PlainLines.{some_lines}
use Rattle.block_parser.proofs.Read.{split_more, steps_to}
use Rattle.block_leaves.proofs.Going.{fenced_end, fenced_goes_on}

-- fenced code is open, and no container
abbrev fenced_open : Fence → Blocks → Option LineEnding → List BlockLine → Tree
fenced_open f kids opening ls = tree kids (At (Fenced f opening ls))

pub of_fenced : (f : Fence) (last : Option LineEnding) (P : Tree → Type 0)
    → ((kids : Blocks) (opening : Option LineEnding) (ls : List BlockLine) → P (fenced_open f kids opening ls)) → (kids : Blocks) (now : Opening)
    → opening_depth now ≡ 0 → InFenced f last ≡ state_of (spine_at [] kids now).leaf → P (tree kids now)
of_fenced f last P h kids (At (Fenced fence opening ls)) none is =
    let same : InFenced f last ≡ InFenced fence (last_ending_or opening ls) = is in
    let is_fence : fence ≡ f = cc in
    subst (λ (x : Fence). P (fenced_open x kids opening ls)) (sym is_fence) (h kids opening ls)
of_fenced f last P h kids (At leaf) none is = let wrong = is in cc
of_fenced f last P h kids (Inside c inner_kids inner) none is = absurd (omega (arith, none))

-- what was read is this, where the last line of the fenced code that is open has such an ending
abbrev pub ShowsFenced : {A : Type 0} → Parser A → Fence → Option LineEnding → Spine → Type 0
ShowsFenced p f last s = AreFenced p.leaves (container_views p.open.items) f last s

-- ---- one line of the content

code_step : (on : Constructs) (f : Fence) (line : TextLine) → is_fence_end on f (whole line.content) ≡ false
    → (kids : Blocks) (opening : Option LineEnding) (ls : List BlockLine)
    → step on Whitespace (fenced_open f kids opening ls) line ≡ fenced_open f kids opening (ls ++ code_line f line ∷ [])
code_step on f line other kids opening ls =
    ap (λ (t : Tree). tree (join kids t.done) t.now) (fenced_goes_on on (beside_line Whitespace line) (whole line.content) f opening ls other)
    ∙ ap (λ (bs : Blocks). fenced_open f bs opening (ls ++ code_line f line ∷ [])) (join-nil kids)

-- lines that don't close the fence
code_steps : (on : Constructs) (f : Fence) (read : List TextLine) → list_any (line_closes on f) read ≡ false
    → (kids : Blocks) (opening : Option LineEnding) (ls : List BlockLine)
    → steps on Whitespace (fenced_open f kids opening ls) read ≡ fenced_open f kids opening (ls ++ map (code_line f) read)
code_steps on f [] none kids opening ls = ap (fenced_open f kids opening) (sym (append-nil ls))
code_steps on f (line ∷ others) none kids opening ls =
    let parts = or_parts (line_closes on f line) (list_any (line_closes on f) others) none in
    ap (λ (t : Tree). steps on Whitespace t others) (code_step on f line parts.0 kids opening ls)
    ∙ code_steps on f others parts.1 kids opening (ls ++ code_line f line ∷ [])
    ∙ ap (fenced_open f kids opening) (append_assoc ls (code_line f line ∷ []) (map (code_line f) others))

-- ---- the search for the line that closes the fence

-- no line so far does
pub record CodeSoFar (on : Constructs) (f : Fence) (text rest : List ℕ) : Type 0 where
  pub read : List TextLine
  pub split : lines text ≡ read ++ lines rest
  pub content : list_any (line_closes on f) read ≡ false

pub code_none : (on : Constructs) (f : Fence) (text : List ℕ) → CodeSoFar on f text text
code_none on f text = record { read = []; split = refl; content = refl }

module _ (on : Constructs) (f : Fence) (text rest : List ℕ) (so_far : CodeSoFar on f text rest) where
  -- the lines so far stand before the rest
  before_rest : text_of so_far.read ≡ take (length text - length rest) text
  before_rest =
      let read = text_of so_far.read in
      let split = front_of_text text rest so_far.read so_far.split in
      let long : length text - length rest ≡ length read = omega (arith, ap length split, length-append read rest) in
      sym (ap (λ n. take n text) long ∙ ap (take (length read)) split ∙ take_at read rest (length read) refl)

  pub code_boundary : IsUtf8 rest → IsCharBoundary text (length text - length rest)
  code_boundary utf8 =
      let split = front_of_text text rest so_far.read so_far.split in
      subst (IsCharBoundary text) (omega (arith, ap length split, length-append (text_of so_far.read) rest))
      (IsCharBoundary-at_seam text (text_of so_far.read) rest split utf8)

  module _ (after : List ℕ) (line : TextLine) (first : lines rest ≡ line ∷ lines after) where
    -- one more line
    pub code_more : line_closes on f line ≡ false → CodeSoFar on f text after
    code_more other = record {
      read = so_far.read ++ line ∷ [];
      split = split_more text rest after so_far.read line so_far.split first;
      content =
          list_any-append (line_closes on f) so_far.read (line ∷ [])
          ∙ ap (λ b. b || (line_closes on f line || false)) so_far.content ∙ ap (λ b. b || false) other;
    }

    -- the line that closes the fence
    pub code_ends : ((k : ℕ) → get_or text k 0 < 256) → line_closes on f line ≡ true
        → IsWholeCode on f text (take (length text - length rest) text) line.ending after
    code_ends bytes closes =
        let read = so_far.read in
        let front : lines (take (length text - length rest) text) ≡ read =
        ap lines (sym before_rest)
        ∙ lines_of_front read rest (ap lines (sym (front_of_text text rest read so_far.split)) ∙ so_far.split)
        (subst AreTextLines so_far.split (lines_of_text text bytes)) (omega (arith, ap length first)) in
        record {
          line = line;
          split = so_far.split ∙ ap (λ xs. read ++ xs) first ∙ ap (λ xs. xs ++ line ∷ lines after) (sym front);
          content = ap (list_any (line_closes on f)) front ∙ so_far.content;
          closes = closes;
          ends = refl;
        }

  -- none does
  pub code_unclosed : length rest ≡ 0 → list_any (line_closes on f) (lines text) ≡ false
  code_unclosed none = unclosed rest none so_far.split
    where
      unclosed : (rest : List ℕ) → length rest ≡ 0 → lines text ≡ so_far.read ++ lines rest → list_any (line_closes on f) (lines text) ≡ false
      unclosed [] none split = ap (list_any (line_closes on f)) (split ∙ append-nil so_far.read) ∙ so_far.content
      unclosed (b ∷ bs) none split = absurd (omega (arith, none))

-- ---- the lines so far, and what was read of them

pub record FencedSoFar {A : Type 0} (on : Constructs) (f : Fence) (text rest : List ℕ) (Old : Spine → Type 0) (new : Parser A)
    (last : Option LineEnding) : Type 0 where
  pub code : CodeSoFar on f text rest
  pub reads : (kids : Blocks) (opening : Option LineEnding) (ls : List BlockLine) → Old (spine [] kids (Fenced f opening ls))
      → ShowsFenced new f last (spine [] kids (Fenced f opening (ls ++ map (code_line f) code.read)))

pub fenced_none : {A : Type 0} (on : Constructs) (f : Fence) (text : List ℕ) (p : Parser A) (last : Option LineEnding) → leaf_state p.leaves.leaf ≡ InFenced f last
    → FencedSoFar on f text text (HasRead p) p last
unfolding code_none
fenced_none on f text p last leaf = record {
  code = code_none on f text;
  reads = λ kids opening ls h.
      subst (λ (xs : List BlockLine). ShowsFenced p f last (spine [] kids (Fenced f opening xs))) (sym (append-nil ls))
      (record { written = h.written; opened = h.opened; same_state = sym leaf ∙ h.same_state });
}

module _ {A : Type 0} (on : Constructs) (f : Fence) (text rest after : List ℕ) (Old : Spine → Type 0) (mid : Parser A) (last : Option LineEnding)
    (line : TextLine) (h : FencedSoFar on f text rest Old mid last) (first : lines rest ≡ line ∷ lines after) where
  abbrev more : List TextLine
  more = h.code.read ++ line ∷ []

  all_of : (ls : List BlockLine) → (ls ++ map (code_line f) h.code.read) ++ code_line f line ∷ [] ≡ ls ++ map (code_line f) more
  all_of ls =
      append_assoc ls (map (code_line f) h.code.read) (code_line f line ∷ []) ∙ ap (λ xs. ls ++ xs) (sym (map-append (code_line f) h.code.read (line ∷ [])))

  -- one more line
  pub fenced_more : (new : Parser A) → is_fence_end on f (whole line.content) ≡ false
      → ((kids : Blocks) (opening : Option LineEnding) (ls : List BlockLine) → ShowsFenced mid f last (spine [] kids (Fenced f opening ls))
      → ShowsFenced new f line.ending (spine [] kids (Fenced f opening (ls ++ code_line f line ∷ []))))
      → FencedSoFar on f text after Old new line.ending
  unfolding code_more
  fenced_more new other push = record {
    code = code_more on f text rest h.code after line first other;
    reads = λ kids opening ls so_far.
        subst (λ (xs : List BlockLine). ShowsFenced new f line.ending (spine [] kids (Fenced f opening xs))) (all_of ls)
        (push kids opening (ls ++ map (code_line f) h.code.read) (h.reads kids opening ls so_far));
  }

  -- the line after them
  pub fenced_after : (new : Parser A) (kids : Blocks) (opening : Option LineEnding) (ls : List BlockLine)
      → HasRead new (spine_of (step on Whitespace (fenced_open f kids opening (ls ++ map (code_line f) h.code.read)) line))
      → ReadsSome on Whitespace (fenced_open f kids opening ls) text after new
  fenced_after new kids opening ls reads = record {
    read = more;
    some = omega (arith, length-append h.code.read (line ∷ []));
    split = split_more text rest after h.code.read line h.code.split first;
    reads =
        subst (λ (t : Tree). HasRead new (spine_of t))
        (sym (steps_to on (fenced_open f kids opening ls) _ h.code.read line (code_steps on f h.code.read h.code.content kids opening ls))) reads;
  }

-- the text ends after them
pub fenced_all : {A : Type 0} (on : Constructs) (f : Fence) (text rest : List ℕ) (Old : Spine → Type 0) (mid new : Parser A) (last : Option LineEnding)
    (h : FencedSoFar on f text rest Old mid last) (kids : Blocks) (opening : Option LineEnding) (ls : List BlockLine)
    → 0 < length text → length rest ≡ 0 → HasRead new (spine [] kids (Fenced f opening (ls ++ map (code_line f) h.code.read)))
    → ReadsSome on Whitespace (fenced_open f kids opening ls) text rest new
fenced_all on f text rest Old mid new last h kids opening ls some none reads = record {
  read = h.code.read;
  some = some_lines text rest h.code.read h.code.split some none;
  split = h.code.split;
  reads = subst (λ (t : Tree). HasRead new (spine_of t)) (sym (code_steps on f h.code.read h.code.content kids opening ls)) reads;
}

-- ---- the content as one text

-- a line loses nothing, if the fence has no indent
none_lost : (f : Fence) (r : Rest) → fence_line (record f { indent = 0 }) r ≡ r
none_lost f r = simp unary_clauses refl

-- they are whole lines then
code_whole : (f : Fence) (read : List TextLine) → f.indent ≡ 0 → ((k : ℕ) → get_or (text_of read) k 0 < 256)
    → map (code_line f) read ≡ map whole_line read
code_whole f [] none bytes = refl
code_whole f (line ∷ others) none bytes =
    let own = front_bytes line.content (ending_text line.ending) (front_bytes (line_bytes line) (text_of others) bytes) in
    let here = beside_line Whitespace line in
    let first : code_line f line ≡ whole_line line =
    ap (λ n. rest_line (fence_line (record f { indent = n }) (whole line.content)) here) none
    ∙ ap (λ (r : Rest). rest_line r here) (none_lost f (whole line.content))
    ∙ ap (λ (codes : List ℕ). block_line codes line.ending Whitespace) (block_codes_whole line.content own) in
    ap (λ l. l ∷ map (code_line f) others) first
    ∙ ap (λ ls. whole_line line ∷ ls) (code_whole f others none (later_bytes (line_bytes line) (text_of others) bytes))

-- the line that closes the fence
end_step : (on : Constructs) (f : Fence) (line : TextLine) → line_closes on f line ≡ true
    → (kids : Blocks) (opening : Option LineEnding) (ls : List BlockLine)
    → step on Whitespace (fenced_open f kids opening ls) line ≡ tree (join kids (block_and_ending (Leaf (FencedCode f.info true ls)) line.ending)) nothing
end_step on f line closes kids opening ls =
    ap (λ (t : Tree). tree (join kids t.done) t.now) (fenced_end on (beside_line Whitespace line) (whole line.content) f opening ls closes)

-- all of them
pub whole_read : {A : Type 0} (on : Constructs) (f : Fence) (text code : List ℕ) (ending : Option LineEnding) (rest : List ℕ) (new : Parser A)
    → IsWholeCode on f text code ending rest → f.indent ≡ 0 → ((k : ℕ) → get_or text k 0 < 256)
    → (kids : Blocks) (opening : Option LineEnding) (ls : List BlockLine) → ls ≡ []
    → HasRead new (spine_after [] kids (tree (block_and_ending (Leaf (FencedCode f.info true (whole_lines code))) ending) nothing))
    → ReadsSome on Whitespace (fenced_open f kids opening ls) text rest new
whole_read on f text code ending rest new w indent bytes kids opening ls none reads =
    let read = lines code in
    let content = code_steps on f read w.content kids opening ls in
    let small : (k : ℕ) → get_or (text_of read) k 0 < 256 =
    front_bytes (text_of read) (text_of (w.line ∷ lines rest))
    (subst (λ xs. (k : ℕ) → get_or xs k 0 < 256) (sym (text_back text) ∙ ap text_of w.split ∙ flat_map-append line_bytes read (w.line ∷ lines rest)) bytes) in
    let whole_is : ls ++ map (code_line f) read ≡ whole_lines code =
    ap (λ xs. xs ++ map (code_line f) read) none ∙ code_whole f read indent small in
    let all =
    steps_to on (fenced_open f kids opening ls) _ read w.line content
    ∙ end_step on f w.line w.closes kids opening (ls ++ map (code_line f) read)
    ∙ ap (λ xs. tree (join kids (block_and_ending (Leaf (FencedCode f.info true xs)) w.line.ending)) nothing) whole_is
    ∙ ap (λ e. tree (join kids (block_and_ending (Leaf (FencedCode f.info true (whole_lines code))) e)) nothing) w.ends in
    record {
      read = read ++ w.line ∷ [];
      some = omega (arith, length-append read (w.line ∷ []));
      split = w.split ∙ sym (append_assoc read (w.line ∷ []) (lines rest));
      reads = subst (λ (t : Tree). HasRead new (spine_of t)) (sym all) reads;
    }
