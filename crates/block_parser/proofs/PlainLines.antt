-- Plain lines at the front of a text, which a paragraph takes at once.
use Rattle.std.proofs.Common.{◌≡◌, ℕ, ◌<◌, true, List, [], ◌∷◌, ◌++◌, Option, None, Some, refl, sym, ap, ◌∙◌, subst, get_or}
use Rattle.std.proofs.Common.{◌-◌, length, take, append_assoc, arith}
use Rattle.block_parser.proofs.Prelude.{append-nil, AreLines, At, Beside, beside_line, block_codes_whole, block_line, BlockLine, Blocks, closed_nothing}
use Rattle.block_parser.proofs.Prelude.{Constructs, ending_text, flat_map, front_bytes, grow, HasRead, is_plain, join, join-nil, KeepsLines, later_bytes}
use Rattle.block_parser.proofs.Prelude.{length-append, line_text, LineEnding, lines, map, map-append, Nil, open_text, Parser, ReadsSome, Rest, rest_line}
use Rattle.block_parser.proofs.Prelude.{Spine, spine, spine_of, step, steps, Text, text_back, text_line, text_line_of, text_of, TextLine, tree, Tree, whole}
use Rattle.block_parser.proofs.Prelude.{whole_line, whole_lines}
use Rattle.markdown_options.specs.declared.line_ending.LineEnding.TheVariants.{CarriageReturnLineFeed, CarriageReturn, LineFeed}
use Rattle.markdown_options.specs.declared.beside.Kind.TheVariants.{Whitespace}
use Rattle.definition_text.proofs.CodeBytes.{code_bytes}
use Rattle.block_rows.proofs.TextLines.{first_bytes}
use Rattle.block_parser.proofs.Plain.{plain_new}
use Rattle.block_parser.proofs.Read.{split_more, steps_to}
use Rattle.block_state.specs.WholeLines.{Begins}
use Rattle.block_state.proofs.WholeLines.{begins_none, begins_line, front_lines}

pub shorter_after : (content : List ℕ) (ending : Option LineEnding) (text rest : List ℕ) → lines text ≡ text_line content ending ∷ lines rest
    → length rest < length text
shorter_after [] None text rest h =
    let same : text ≡ rest = first_bytes text rest (text_line [] None) h in
    absurd (omega (arith, ap length h, ap (λ (x : List ℕ). length (lines x)) same))
shorter_after [] (Some LineFeed) text rest h = let split = first_bytes text rest (text_line [] (Some LineFeed)) h in omega (arith, ap length split)
shorter_after [] (Some CarriageReturn) text rest h =
    let split = first_bytes text rest (text_line [] (Some CarriageReturn)) h in omega (arith, ap length split)
shorter_after [] (Some CarriageReturnLineFeed) text rest h =
    let split = first_bytes text rest (text_line [] (Some CarriageReturnLineFeed)) h in omega (arith, ap length split)
shorter_after (c ∷ cs) ending text rest h =
    let split = first_bytes text rest (text_line (c ∷ cs) ending) h in
    omega (arith, ap length split, length-append ((c ∷ cs) ++ ending_text ending) rest)

-- a text that ends after lines has some
pub some_lines : (text rest : List ℕ) (read : List TextLine) → lines text ≡ read ++ lines rest → 0 < length text → length rest ≡ 0 → 0 < length read
some_lines text rest [] split some none =
    let same : text ≡ rest = sym (text_back text) ∙ ap text_of split ∙ text_back rest in
    absurd (omega (arith, ap length same, some, none))
some_lines text rest (line ∷ others) split some none = omega arith

-- ---- a plain line goes on a paragraph

module _ (on : Constructs) (line : TextLine) (bytes : (k : ℕ) → get_or line.content k 0 < 256) where
  abbrev here : Beside
  here = beside_line Whitespace line

  abbrev rest : Rest
  rest = whole line.content

  line_is : rest_line rest here ≡ whole_line line
  line_is = ap (λ (codes : List ℕ). block_line codes line.ending Whitespace) (block_codes_whole line.content bytes)

  text_tree : (ls : List BlockLine) → text_line_of on (At (Text ls)) rest here ≡ tree Nil (At (Text (ls ++ rest_line rest here ∷ [])))
  text_tree [] = ap (λ (bs : Blocks). tree (join bs Nil) (At (Text (rest_line rest here ∷ [])))) (closed_nothing on.definition)
  text_tree (l ∷ ls) = refl

  plain_step : is_plain on rest ≡ true → (kids : Blocks) (ls : List BlockLine)
      → step on Whitespace (tree kids (At (Text ls))) line ≡ tree kids (At (Text (ls ++ whole_line line ∷ [])))
  plain_step plain kids ls =
      let grown : grow on here (At (Text ls)) rest ≡ tree Nil (At (Text (ls ++ rest_line rest here ∷ []))) =
      plain_new on (At (Text ls)) rest here plain (length rest) true ∙ text_tree ls in
      ap (λ (t : Tree). tree (join kids t.done) t.now) grown
      ∙ ap (λ (bs : Blocks). tree bs (At (Text (ls ++ rest_line rest here ∷ [])))) (join-nil kids)
      ∙ ap (λ (l : BlockLine). tree kids (At (Text (ls ++ l ∷ [])))) line_is

-- ---- the plain lines so far, after those of a paragraph that may be open

abbrev text_open : Blocks → List BlockLine → Tree
text_open kids ls = tree kids (At (Text ls))

pub record PlainSoFar {A : Type 0} (on : Constructs) (text rest : List ℕ) (Old : Spine → Type 0) (new : Parser A) : Type 0 where
  pub read : List TextLine
  pub split : lines text ≡ read ++ lines rest
  pub begins : Begins (map whole_line read) text rest
  pub plain : (kids : Blocks) (ls : List BlockLine) → steps on Whitespace (text_open kids ls) read ≡ text_open kids (ls ++ map whole_line read)
  pub reads : (kids : Blocks) (ls : List BlockLine) → Old (spine [] kids (Text ls)) → HasRead new (spine [] kids (Text (ls ++ map whole_line read)))

pub plain_none : {A : Type 0} (on : Constructs) (text : List ℕ) (p : Parser A) → PlainSoFar on text text (HasRead p) p
plain_none on text p = record {
  read = [];
  split = refl;
  begins = begins_none text;
  plain = λ kids ls. ap (text_open kids) (sym (append-nil ls));
  reads = λ kids ls. subst (λ (xs : List BlockLine). HasRead p (spine [] kids (Text xs))) (sym (append-nil ls));
}

module _ {A : Type 0} (on : Constructs) (text rest after : List ℕ) (Old : Spine → Type 0) (mid new : Parser A) (line : TextLine)
    (h : PlainSoFar on text rest Old mid) (first : lines rest ≡ line ∷ lines after) where
  abbrev more : List TextLine
  more = h.read ++ line ∷ []

  content_bytes : ((k : ℕ) → get_or text k 0 < 256) → (k : ℕ) → get_or line.content k 0 < 256
  content_bytes small =
      let behind =
      later_bytes (flat_map line_text (map whole_line h.read)) rest (subst (λ (xs : List ℕ). (k : ℕ) → get_or xs k 0 < 256) h.begins.split small) in
      let split = first_bytes rest after line first ∙ append_assoc line.content (ending_text line.ending) after in
      front_bytes line.content (ending_text line.ending ++ after) (subst (λ (xs : List ℕ). (k : ℕ) → get_or xs k 0 < 256) split behind)

  all_of : (ls : List BlockLine) → (ls ++ map whole_line h.read) ++ whole_line line ∷ [] ≡ ls ++ map whole_line more
  all_of ls =
      append_assoc ls (map whole_line h.read) (whole_line line ∷ []) ∙ ap (λ xs. ls ++ xs) (sym (map-append whole_line h.read (line ∷ [])))

  -- one more plain line
  pub plain_more : ((k : ℕ) → get_or text k 0 < 256) → is_plain on (whole line.content) ≡ true → (l : BlockLine)
      → l ≡ rest_line (whole line.content) (beside_line Whitespace line)
      → ((kids : Blocks) (ls : List BlockLine) → HasRead mid (spine [] kids (Text ls)) → HasRead new (spine [] kids (Text (ls ++ l ∷ []))))
      → PlainSoFar on text after Old new
  plain_more small plain l same push =
      let bytes = content_bytes small in
      let longer : map whole_line more ≡ map whole_line h.read ++ whole_line line ∷ [] = map-append whole_line h.read (line ∷ []) in
      let front = first_bytes rest after line first ∙ ap (λ xs. (xs ++ ending_text line.ending) ++ after) (sym (code_bytes line.content bytes)) in
      record {
        read = more;
        split = split_more text rest after h.read line h.split first;
        begins = subst (λ ls. Begins ls text after) (sym longer)
            (begins_line (map whole_line h.read) (whole_line line) text rest after h.begins front (refl, bytes));
        plain = λ kids ls.
            steps_to on (text_open kids ls) _ h.read line (h.plain kids ls)
            ∙ plain_step on line bytes plain kids (ls ++ map whole_line h.read)
            ∙ ap (text_open kids) (all_of ls);
        reads = λ kids ls so_far.
            subst (λ (xs : List BlockLine). HasRead new (spine [] kids (Text xs)))
            (ap (λ x. (ls ++ map whole_line h.read) ++ x ∷ []) (same ∙ line_is on line bytes) ∙ all_of ls)
            (push kids (ls ++ map whole_line h.read) (h.reads kids ls so_far));
      }

  -- the line after them
  pub read_after : (kids : Blocks) (ls : List BlockLine)
      → HasRead new (spine_of (step on Whitespace (text_open kids (ls ++ map whole_line h.read)) line))
      → ReadsSome on Whitespace (text_open kids ls) text after new
  read_after kids ls reads = record {
    read = more;
    some = omega (arith, length-append h.read (line ∷ []));
    split = split_more text rest after h.read line h.split first;
    reads = subst (λ (t : Tree). HasRead new (spine_of t)) (sym (steps_to on (text_open kids ls) _ h.read line (h.plain kids ls))) reads;
  }

module _ {A : Type 0} (on : Constructs) (text rest : List ℕ) (Old : Spine → Type 0) (new : Parser A) (h : PlainSoFar on text rest Old new)
    (kids : Blocks) (ls : List BlockLine) where
  -- they are lines of a paragraph
  pub plain_clean : KeepsLines on Whitespace (text_open kids ls) text → AreLines (ls ++ map whole_line h.read)
  plain_clean keeps = subst (λ (t : Tree). AreLines (open_text t.now)) (h.plain kids ls) (keeps h.read (lines rest) (sym h.split))

  -- the text before the rest has them, where they are all
  pub plain_front : (front : List ℕ) → ls ≡ [] → front ≡ take (length text - length rest) text → KeepsLines on Whitespace (text_open kids ls) text
      → whole_lines front ≡ ls ++ map whole_line h.read
  plain_front front none is keeps =
      let all : ls ++ map whole_line h.read ≡ map whole_line h.read = ap (λ (xs : List BlockLine). xs ++ map whole_line h.read) none in
      front_lines (map whole_line h.read) text rest front h.begins is (subst AreLines all (plain_clean keeps)) ∙ sym all
