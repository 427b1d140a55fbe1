-- The blocks of a text of whole characters without CR and `&`: their lines are made of its codes, and end in LF.
use Rattle.std.proofs.Common.{◌≡◌, ℕ, suc, zero, ◌+◌, Bool, true, false, cond, eqb, ◌&&◌, not, leb, List, [], ◌∷◌, ◌++◌, Option, None, Some, take, drop, map}
use Rattle.std.proofs.Common.{refl, sym, ap, ◌∙◌, subst, arith}
use Rattle.laws_endings.proofs.Prelude.{after_run, and_parts, Atx, atx, atx_of, AtxGood, bare, begins_apart, Beside, Block, block_codes, BlockGood, BlockLine}
use Rattle.laws_endings.proofs.Prelude.{Blocks, blocks, blocks_good, BlocksGood, both_ways, bytes_of, code_byte, cond-true, cond_both, Constructs, content_of}
use Rattle.laws_endings.proofs.Prelude.{ending_code, ends_apart, Fence, fence_start, heading_atx, indent, is_byte, is_eol, is_tab_column, is_white, Kind}
use Rattle.laws_endings.proofs.Prelude.{LeafBlock, LeafBlockGood, line_codes, LineEnding, lines, list_all, math_start, not-true, own_lines, prefix_len}
use Rattle.laws_endings.proofs.Prelude.{Property, Reads, Rest, rest_line, run, small_indent, TextLine, TextLineGood, trim, underline, without_closing}
use Rattle.laws_endings.proofs.Prelude.{without_run}
use Rattle.markdown_options.specs.declared.line_ending.LineEnding.TheVariants.{CarriageReturnLineFeed, CarriageReturn, LineFeed}
use Rattle.definition_block.specs.CodeFenced.{first_word, fence_by, fence_of}
use Rattle.definition_block.specs.MathFlow.{math_info, math_fence_of}
use Rattle.laws_endings.proofs.Rests.{starts-fine, continues-fine}
use Rattle.definition_block.proofs.BlockReads.{FenceGood}
use Rattle.definition_block.proofs.BlockReads.{own_good}
use Rattle.laws_endings.proofs.Each.{Each, each-append, each-take, each-drop, each_filter, WhereSome, where_passed}
use Rattle.laws_endings.proofs.Characters.{IsWhole, AreWhole}
use Rattle.laws_endings.proofs.Fits.{Single, Plain, TitleFits, definition_fits}

-- ---- what is fit

-- the ending is LF, if there is one
abbrev pub IsFed : Option LineEnding → Type 0
IsFed None = Unit {0}
IsFed (Some LineFeed) = Unit {0}
IsFed (Some CarriageReturn) = true ≡ false
IsFed (Some CarriageReturnLineFeed) = true ≡ false

-- the characters before an ending are whole
abbrev pub WholeBefore : Option LineEnding → List ℕ → Type 0
WholeBefore None cs = Unit {0}
WholeBefore (Some ending) cs = AreWhole (map code_byte cs)

abbrev pub LineFits : BlockLine → Type 0
LineFits line = Each Plain line.codes × (IsFed line.ending × WholeBefore line.ending line.codes)

abbrev pub LinesFit : List BlockLine → Type 0
LinesFit ls = Each LineFits ls

abbrev pub RestFits : Rest → Type 0
RestFits rest = Each Plain rest × AreWhole (bytes_of rest)

abbrev pub fits : Property
fits =
    record {
      line = LineFits;
      ending = IsFed;
      heading = λ rank ls. Each LineFits ls;
      info = λ cs. Each Plain cs;
      leads = λ destination title. Each Plain destination × TitleFits title;
      rank = λ rank. Unit {0};
      rest = RestFits;
    }

abbrev pub LeafBlockFits : LeafBlock → Type 0
LeafBlockFits leaf = LeafBlockGood fits leaf

abbrev pub BlockFits : Block → Type 0
BlockFits b = BlockGood fits b

abbrev pub BlocksFit : Blocks → Type 0
BlocksFit bs = BlocksGood fits bs

-- ---- rests

tail_by : (c : ℕ) (cs : List ℕ) (byte : Bool) → AreWhole (cond byte (c ∷ cs) cs) → AreWhole cs
tail_by c cs true w = w.1
tail_by c cs false w = w

bytes_dropped : (n : ℕ) (cs : List ℕ) → AreWhole (bytes_of cs) → AreWhole (bytes_of (drop n cs))
bytes_dropped zero cs w = w
bytes_dropped (suc n) [] w = tt
bytes_dropped (suc n) (c ∷ cs) w = bytes_dropped n cs (tail_by c (bytes_of cs) (is_byte c) w)

rest_dropped : (n : ℕ) (cs : List ℕ) → RestFits cs → RestFits (drop n cs)
rest_dropped n cs p = (each-drop Plain n cs p.0, bytes_dropped n cs p.1)

byte_by : (c : ℕ) (column : Bool) → (not column) ≡ true → cond column 32 c ≡ c
byte_by c true h = absurd (both_ways false refl h)
byte_by c false h = refl

bytes_by : (c : ℕ) (cs : List ℕ) (byte : Bool) → is_byte c ≡ byte → map code_byte cs ≡ cs → map code_byte (cond byte (c ∷ cs) cs) ≡ cond byte (c ∷ cs) cs
bytes_by c cs true h same = ap (λ b. b ∷ map code_byte cs) (byte_by c (is_tab_column c) h) ∙ ap (λ more. c ∷ more) same
bytes_by c cs false h same = same

bytes_same : (cs : List ℕ) → map code_byte (bytes_of cs) ≡ bytes_of cs
bytes_same [] = refl
bytes_same (c ∷ cs) = bytes_by c (bytes_of cs) (is_byte c) refl (bytes_same cs)

tabs_by : (c : ℕ) (cs more : List ℕ) (column : Bool) → is_tab_column c ≡ column → AreWhole (map code_byte more)
    → AreWhole (map code_byte (take (prefix_len is_tab_column cs) cs ++ more))
    → AreWhole (map code_byte (take (cond column (1 + prefix_len is_tab_column cs) 0) (c ∷ cs) ++ more))
tabs_by c cs more true h w p =
    let n = prefix_len is_tab_column cs in
    let size : suc n ≡ 1 + n = omega arith in
    let space : code_byte c ≡ 32 = cond-true (is_tab_column c) 32 c h in
    subst (λ m. AreWhole (map code_byte (take m (c ∷ cs) ++ more))) size
    (subst (λ b. IsWhole b (map code_byte (take n cs ++ more))) (sym space) ((λ _. tt), λ marks. absurd (both_ways false refl marks)), p)
tabs_by c cs more false h w p = w

tabs_whole : (cs more : List ℕ) → AreWhole (map code_byte more) → AreWhole (map code_byte (take (prefix_len is_tab_column cs) cs ++ more))
tabs_whole [] more w = w
tabs_whole (c ∷ cs) more w = tabs_by c cs more (is_tab_column c) refl w (tabs_whole cs more w)

block_codes_whole : (rest : Rest) → AreWhole (bytes_of rest) → AreWhole (map code_byte (block_codes rest))
block_codes_whole rest w = tabs_whole rest (bytes_of rest) (subst AreWhole (sym (bytes_same rest)) w)

bytes_plain : (rest : Rest) → Each Plain rest → Each Plain (bytes_of rest)
bytes_plain rest p = each_filter Plain is_byte rest p

block_codes_plain : (rest : Rest) → Each Plain rest → Each Plain (block_codes rest)
block_codes_plain rest p =
    let n = prefix_len is_tab_column rest in
    each-append Plain (take n rest) (bytes_of rest) (each-take Plain n rest p) (bytes_plain rest p)

whole_before : (ending : Option LineEnding) (cs : List ℕ) → AreWhole (map code_byte cs) → WholeBefore ending cs
whole_before None cs w = tt
whole_before (Some ending) cs w = w

rest_line_fits : (rest : Rest) (beside : Beside) → RestFits rest → IsFed beside.ending → LineFits (rest_line rest beside)
rest_line_fits rest beside p f =
    (block_codes_plain rest p.0, (f, whole_before beside.ending (block_codes rest) (block_codes_whole rest p.1)))

-- ---- lines of a block

pub own_fit : (ls : List BlockLine) → LinesFit ls → LinesFit (own_lines ls)
own_fit ls p = own_good fits (λ line h. (h.0, (tt, tt))) ls p

singles : (cs : List ℕ) → Each Plain cs → Each Single cs
singles [] p = tt
singles (c ∷ cs) p = (p.0.0, singles cs p.1)

ending_single : (ending : Option LineEnding) → IsFed ending → Each Single (ending_code ending)
ending_single None f = tt
ending_single (Some LineFeed) f = ((refl, refl), tt)
ending_single (Some CarriageReturn) f = ((refl, refl), tt)
ending_single (Some CarriageReturnLineFeed) f = absurd (both_ways true f refl)

pub line_singles : (line : BlockLine) → LineFits line → Each Single (line_codes line)
line_singles line p = each-append Single line.codes (ending_code line.ending) (singles line.codes p.0) (ending_single line.ending p.1.0)

content_single : (ls : List BlockLine) → LinesFit ls → Each Single (content_of ls)
content_single [] p = tt
content_single (line ∷ ls) p = each-append Single (line_codes line) (content_of ls) (line_singles line p.0) (content_single ls p.1)

-- ---- ATX headings and fences

abbrev AtxFits : Option Atx → Type 0
AtxFits o = AtxGood fits o

trimmed_plain : (text : List ℕ) → Each Plain text → Each Plain (trim text)
trimmed_plain text p = each-take Plain _ (drop (prefix_len is_white text) text) (each-drop Plain (prefix_len is_white text) text p)

without_closing_plain : (text : List ℕ) → Each Plain text → Each Plain (without_closing text)
without_closing_plain text p =
    cond_both (ends_apart (without_run text)) (trim (without_run text)) text (Each Plain)
    (λ _. trimmed_plain (without_run text) (each-take Plain _ text p)) (λ _. p)

atx_of_fits : (text : List ℕ) → Each Plain text → AtxFits (atx_of text)
atx_of_fits text p =
    let rank = run 35 text in
    let left = trim (after_run 35 text) in
    cond_both (leb 1 rank && leb rank 6 && begins_apart (after_run 35 text)) (Some (atx rank (without_closing left))) None AtxFits
    (λ _. (tt, (without_closing_plain left (trimmed_plain (after_run 35 text) (each-drop Plain rank text p)), (tt, tt)))) (λ _. tt)

bare_plain : (rest : Rest) → Each Plain rest → Each Plain (bytes_of (bare rest))
bare_plain rest p = bytes_plain (bare rest) (each-drop Plain (indent rest) rest p)

heading_atx_fits : (on : Constructs) (rest : Rest) → Each Plain rest → AtxFits (heading_atx on rest)
heading_atx_fits on rest p =
    let text = bytes_of (bare rest) in
    cond_both (on.heading_atx && small_indent on rest) (atx_of text) None AtxFits (λ _. atx_of_fits text (bare_plain rest p)) (λ _. tt)

abbrev FenceFits : Option Fence → Type 0
FenceFits o = FenceGood fits o

word_plain : (byte : ℕ) (text : List ℕ) → Each Plain text → Each Plain (first_word (after_run byte text))
word_plain byte text p =
    each-take Plain _ (trim (after_run byte text)) (trimmed_plain (after_run byte text) (each-drop Plain (run byte text) text p))

fence_of_fits : (columns : ℕ) (text : List ℕ) → Each Plain text → FenceFits (fence_of columns text)
fence_of_fits columns text p =
    cond_both _ (Some (fence_by 96 (run 96 text) columns (after_run 96 text))) _ FenceFits (λ _. word_plain 96 text p)
    (λ _. cond_both (leb 3 (run 126 text)) (Some (fence_by 126 (run 126 text) columns (after_run 126 text))) None FenceFits
    (λ _. word_plain 126 text p) (λ _. tt))

fence_start_fits : (on : Constructs) (rest : Rest) → Each Plain rest → FenceFits (fence_start on rest)
fence_start_fits on rest p =
    let text = bytes_of (bare rest) in
    cond_both (on.code_fenced && small_indent on rest) (fence_of (indent rest) text) None FenceFits
    (λ _. fence_of_fits (indent rest) text (bare_plain rest p)) (λ _. tt)

-- codes that pass this test are plain
abbrev is_plain : ℕ → Bool
is_plain c = not (eqb c 38) && (not (eqb c 257) && not (is_eol c))

plain_tested : (cs : List ℕ) → list_all is_plain cs ≡ true → Each Plain cs
plain_tested [] h = tt
plain_tested (c ∷ cs) h =
    let p = and_parts (is_plain c) (list_all is_plain cs) h in
    let q = and_parts (not (eqb c 38)) (not (eqb c 257) && not (is_eol c)) p.0 in
    let r = and_parts (not (eqb c 257)) (not (is_eol c)) q.1 in
    (((not-true (eqb c 38) q.0, not-true (eqb c 257) r.0), not-true (is_eol c) r.1), plain_tested cs p.1)

math_start_fits : (on : Constructs) (rest : Rest) → FenceFits (math_start on rest)
math_start_fits on rest =
    let text = bytes_of (bare rest) in
    cond_both (on.math_flow && small_indent on rest) (math_fence_of (indent rest) text) None FenceFits
    (λ _. where_passed (λ (f : Fence). Each Plain f.info) _ (record { byte = 36; run = run 36 text; indent = indent rest; info = math_info })
    (plain_tested math_info refl))
    (λ _. tt)

any_rank : (o : Option ℕ) → WhereSome (λ rank. Unit {0}) o
any_rank None = tt
any_rank (Some rank) = tt

-- ---- the lines of a text

abbrev pub TextLineFits : TextLine → Type 0
TextLineFits line = TextLineGood fits line

abbrev pub TextLinesFit : List TextLine → Type 0
TextLinesFit ls = Each TextLineFits ls

module _ (on : Constructs) where
  reads : Reads fits on
  reads =
      record {
        no_ending = tt;
        ends = λ line h. h.1.0;
        unended = λ line h. (h.0, (tt, tt));
        dropped = rest_dropped;
        taken_line = rest_line_fits;
        ranked = λ rank ls h p. p;
        defines = λ ls p. definition_fits (content_of ls) (content_single ls p);
        atx = λ rest p. heading_atx_fits on rest p.0;
        underlines = λ rest. any_rank (underline on rest);
        fences = λ rest p. fence_start_fits on rest p.0;
        math = λ rest p. math_start_fits on rest;
        enters = λ text rest p. starts-fine RestFits rest_dropped on text rest p;
        stays = λ c blank rest p. continues-fine RestFits rest_dropped on c blank rest p;
      }

  pub blocks_fit : (kind : Kind) (text : List ℕ) → TextLinesFit (lines text) → BlocksFit (blocks on kind text)
  blocks_fit kind text p = blocks_good fits on reads kind text p
