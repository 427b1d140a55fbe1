-- Each code of the contents of a text of bytes is that of one symbol.
use Rattle.std.proofs.Common.{◌≡◌, ◌<◌, ℕ, ◌+◌, true, false, cond, eqb, ltb, leb, ◌&&◌, ◌||◌, not, List, [], ◌∷◌, ◌++◌, Option, None, Some, take, drop}
use Rattle.std.proofs.Common.{refl, sym, ap, ◌∙◌, subst, ⊎_elim, append_assoc, replicate}
use Rattle.laws_endings.proofs.Prelude.{after_return, after_run, All, All-tail, and_from, and_parts, atx, atx_of, AtxGood, bare, begins_apart, Blank, Block}
use Rattle.laws_endings.proofs.Prelude.{block_codes, BlockGood, BlockLine, Blocks, blocks, blocks_good, BlocksGood, both_ways, bytes_of, codes_from}
use Rattle.laws_endings.proofs.Prelude.{columns_after_tab, cond-false, cond_both, Constructs, content_of, definition_at, Ending, ending_code, ends_apart}
use Rattle.laws_endings.proofs.Prelude.{ends_line, eqb-true, false_from_ne_true, fence_start, FencedCode, heading_atx, Holds, in_first_line, indent, is_byte}
use Rattle.laws_endings.proofs.Prelude.{is_tab_column, is_white, Items, LeafBlock, LeafBlockGood, LineEnding, lines, lt-ltb, math_start, not-true}
use Rattle.laws_endings.proofs.Prelude.{not_from_false, or_cases, or_from, or_parts, or_right, prefix_len, Property, Reads, Rest, run, small_indent}
use Rattle.laws_endings.proofs.Prelude.{tab_column, text_line, TextLine, TextLineGood, trim, underline, without_closing, without_run}
use Rattle.std.proofs.lemmas.List.Elements.{All-head}
use Rattle.markdown_options.specs.declared.line_ending.LineEnding.TheVariants.{CarriageReturnLineFeed, CarriageReturn, LineFeed}
use Rattle.definition_text.specs.Columns.{Code}
use Rattle.definition_text.specs.Codes.{Symbol, Byte, Column, Eol, is_of_content, code_of}
use Rattle.definition_block.specs.Tree.{Leaf}
use Rattle.definition_block.specs.Tree.{Nil, Cons}
use Rattle.laws_endings.proofs.Rests.{starts-fine, continues-fine}
use Rattle.definition_text.proofs.Each.{Each, each-append, each-take, each-drop, each_filter, each_same, WhereSome}
use Rattle.laws_endings.specs.Symbols.{IsCode, AreCodes, leaf_lines, block_lines, all_lines, CodesLaw, ApartLaw}

-- ---- no two symbols have the same code

-- the symbol of a code
abbrev symbol_of : Code → Symbol
symbol_of c =
    cond (eqb c 10) (Eol LineFeed) (cond (eqb c 13) (Eol CarriageReturn) (cond (eqb c 256) Column (cond (eqb c 257) (Eol CarriageReturnLineFeed) (Byte c))))

byte_apart : (b n : ℕ) → ltb b 256 ≡ true → ltb n 256 ≡ false → eqb b n ≡ false
byte_apart b n h k = false_from_ne_true (eqb b n) (λ e. both_ways (ltb b 256) (ap (λ x. ltb x 256) (eqb-true b n e) ∙ k) h)

symbol_back : (symbol : Symbol) → is_of_content symbol ≡ true → symbol_of (code_of symbol) ≡ symbol
symbol_back (Byte b) h =
    let p = and_parts (ltb b 256) (not (ends_line b)) h in
    let q = or_parts (eqb b 10) (eqb b 13) (not-true (ends_line b) p.1) in
    cond-false (eqb b 10) _ _ q.0 ∙ cond-false (eqb b 13) _ _ q.1
    ∙ cond-false (eqb b 256) _ _ (byte_apart b 256 p.0 refl) ∙ cond-false (eqb b 257) _ _ (byte_apart b 257 p.0 refl)
symbol_back Column h = refl
symbol_back (Eol LineFeed) h = refl
symbol_back (Eol CarriageReturn) h = refl
symbol_back (Eol CarriageReturnLineFeed) h = refl

pub apart_law : ApartLaw
apart_law one other h k e = sym (symbol_back one h) ∙ ap symbol_of e ∙ symbol_back other k

-- ---- the codes of lines

-- a byte that ends no line
abbrev LineByte : ℕ → Type 0
LineByte b = is_of_content (Byte b) ≡ true

-- the code of such a byte, or of a column
abbrev LineCode : Code → Type 0
LineCode c = (is_tab_column c || is_of_content (Byte c)) ≡ true

abbrev LineCoded : BlockLine → Type 0
LineCoded line = Each LineCode line.codes

abbrev coded : Property
coded =
    record {
      line = LineCoded;
      ending = λ ending. Unit {0};
      heading = λ rank ls. Each LineCoded ls;
      info = λ cs. Unit {0};
      leads = λ destination title. Unit {0};
      rank = λ rank. Unit {0};
      rest = λ rest. Each LineCode rest;
    }

dropped : (n : ℕ) (rest : Rest) → Each LineCode rest → Each LineCode (drop n rest)
dropped n rest p = each-drop LineCode n rest p

block_codes_coded : (rest : Rest) → Each LineCode rest → Each LineCode (block_codes rest)
block_codes_coded rest p =
    let n = prefix_len is_tab_column rest in
    each-append LineCode (take n rest) (bytes_of rest) (each-take LineCode n rest p) (each_filter LineCode is_byte rest p)

-- ---- ATX headings

trimmed : (text : List ℕ) → Each LineCode text → Each LineCode (trim text)
trimmed text p = each-take LineCode _ (drop (prefix_len is_white text) text) (dropped (prefix_len is_white text) text p)

unclosed : (text : List ℕ) → Each LineCode text → Each LineCode (without_closing text)
unclosed text p =
    cond_both (ends_apart (without_run text)) (trim (without_run text)) text (Each LineCode)
    (λ _. trimmed (without_run text) (each-take LineCode _ text p)) (λ _. p)

atx_coded : (text : List ℕ) → Each LineCode text → AtxGood coded (atx_of text)
atx_coded text p =
    let rank = run 35 text in
    let left = trim (after_run 35 text) in
    cond_both (leb 1 rank && leb rank 6 && begins_apart (after_run 35 text)) (Some (atx rank (without_closing left))) None (AtxGood coded)
    (λ _. (tt, unclosed left (trimmed (after_run 35 text) (dropped rank text p)))) (λ _. tt)

heading_coded : (on : Constructs) (rest : Rest) → Each LineCode rest → AtxGood coded (heading_atx on rest)
heading_coded on rest p =
    let text = bytes_of (bare rest) in
    cond_both (on.heading_atx && small_indent on rest) (atx_of text) None (AtxGood coded)
    (λ _. atx_coded text (each_filter LineCode is_byte (bare rest) (dropped (indent rest) rest p))) (λ _. tt)

-- ---- the lines of a text

abbrev Content : TextLine → Type 0
Content line = Each LineByte line.content

byte_before : (b : ℕ) (ls : List TextLine) → LineByte b → Each Content ls → Each Content (in_first_line b ls)
byte_before b [] h p = ((h, tt), tt)
byte_before b (line ∷ ls) h p = ((h, p.0), p.1)

return_before : (bs : List ℕ) (ls : List TextLine) → Each Content ls → Each Content (after_return bs ls)
return_before [] ls p = (tt, p)
return_before (b ∷ bs) ls p =
    cond_both (eqb b 10) (text_line [] (Some CarriageReturnLineFeed) ∷ drop 1 ls) (text_line [] (Some CarriageReturn) ∷ ls) (Each Content)
    (λ _. (tt, each-drop Content 1 ls p)) (λ _. (tt, p))

contents : (bs : List ℕ) → All (λ b. b < 256) bs → Each Content (lines bs)
contents [] h = tt
contents (b ∷ bs) h =
    let more = contents bs (All-tail (λ x. x < 256) b bs h) in
    cond_both (eqb b 10) (text_line [] (Some LineFeed) ∷ lines bs) (cond (eqb b 13) (after_return bs (lines bs)) (in_first_line b (lines bs))) (Each Content)
    (λ _. (tt, more))
    (λ no_feed. cond_both (eqb b 13) (after_return bs (lines bs)) (in_first_line b (lines bs)) (Each Content)
    (λ _. return_before bs (lines bs) more)
    (λ no_return. byte_before b (lines bs)
    (and_from (ltb b 256) (not (ends_line b)) (lt-ltb b 256 (All-head (λ x. x < 256) b bs h))
    (not_from_false (ends_line b) (or_from (eqb b 10) (eqb b 13) no_feed no_return))) more))

codes_coded : (column : ℕ) (bs : List ℕ) → Each LineByte bs → Each LineCode (codes_from column bs)
codes_coded column [] p = tt
codes_coded column (b ∷ bs) p =
    let n = columns_after_tab column in
    let others = codes_from (column + 1 + n) bs in
    cond_both (eqb b 9) (9 ∷ (replicate n tab_column ++ others)) (b ∷ codes_from (column + 1) bs) (Each LineCode)
    (λ _. (refl, each-append LineCode (replicate n tab_column) others (each_same LineCode n tab_column refl) (codes_coded (column + 1 + n) bs p.1)))
    (λ _. (or_right (is_tab_column b) (is_of_content (Byte b)) p.0, codes_coded (column + 1) bs p.1))

text_coded : (ls : List TextLine) → Each Content ls → Each (λ line. TextLineGood coded line) ls
text_coded [] p = tt
text_coded (line ∷ ls) p = ((codes_coded 0 line.content p.0, tt), text_coded ls p.1)

-- ---- what is read

anything : {A : Type 0} (o : Option A) → WhereSome (λ x. Unit {0}) o
anything None = tt
anything (Some x) = tt

reads : (on : Constructs) → Reads coded on
reads on =
    record {
      no_ending = tt;
      ends = λ line p. tt;
      unended = λ line p. p;
      dropped = dropped;
      taken_line = λ rest beside p f. block_codes_coded rest p;
      ranked = λ rank ls h p. p;
      defines = λ ls p. anything (definition_at (content_of ls));
      atx = heading_coded on;
      underlines = λ rest. anything (underline on rest);
      fences = λ rest p. anything (fence_start on rest);
      math = λ rest p. anything (math_start on rest);
      enters = λ text rest p. starts-fine (Each LineCode) dropped on text rest p;
      stays = λ c blank rest p. continues-fine (Each LineCode) dropped on c blank rest p;
    }

-- ---- the codes of contents

line_code : (c : Code) → LineCode c → IsCode c
line_code c h =
    ⊎_elim
    (λ e. record { symbol = Column; of_content = refl; is_its_code = sym (eqb-true c 256 e) })
    (λ e. record { symbol = Byte c; of_content = e; is_its_code = refl })
    (or_cases (is_tab_column c) (is_of_content (Byte c)) h)

with_codes : (cs others : List Code) → Each LineCode cs → AreCodes others → AreCodes (cs ++ others)
with_codes [] others p q = q
with_codes (c ∷ cs) others p q = (line_code c p.0, with_codes cs others p.1 q)

with_ending : (ending : Option LineEnding) (others : List Code) → AreCodes others → AreCodes (ending_code ending ++ others)
with_ending None others q = q
with_ending (Some ending) others q = (record { symbol = Eol ending; of_content = refl; is_its_code = refl }, q)

content_coded : (ls : List BlockLine) → Each LineCoded ls → AreCodes (content_of ls)
content_coded [] p = tt
content_coded (line ∷ ls) p =
    subst AreCodes (sym (append_assoc line.codes (ending_code line.ending) (content_of ls)))
    (with_codes line.codes (ending_code line.ending ++ content_of ls) p.0 (with_ending line.ending (content_of ls) (content_coded ls p.1)))

leaf_coded : (leaf : LeafBlock) → LeafBlockGood coded leaf → Each LineCoded (leaf_lines leaf)
leaf_coded (FencedCode info closed ls) p = p.1
leaf_coded leaf p = p

mutual
  lines_coded : (b : Block) → BlockGood coded b → Each LineCoded (block_lines b)
  lines_coded (Leaf leaf) p = leaf_coded leaf p
  lines_coded (Holds c kids) p = all_coded kids p
  lines_coded (Items items) p = all_coded items p
  lines_coded (Ending ending) p = tt
  lines_coded (Blank ending) p = tt

  all_coded : (bs : Blocks) → BlocksGood coded bs → Each LineCoded (all_lines bs)
  all_coded Nil p = tt
  all_coded (Cons b bs) p = each-append LineCoded (block_lines b) (all_lines bs) (lines_coded b p.0) (all_coded bs p.1)

pub codes_law : CodesLaw
codes_law on before text h =
    let good = blocks_good coded on (reads on) before text (text_coded (lines text) (contents text h)) in
    content_coded (all_lines (blocks on before text)) (all_coded (blocks on before text) good)
