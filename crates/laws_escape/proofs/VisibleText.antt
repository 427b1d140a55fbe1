-- What a page shows outside of tags and line endings.
use Rattle.std.proofs.Common.{◌≡◌, ℕ, ◌+◌, ◌-◌, ◌<◌, suc, zero, List, [], ◌∷◌, ◌++◌, Option, None, Some, Bool, true, false, cond, ◌||◌, not, eqb, inl, inr}
use Rattle.std.proofs.Common.{refl, sym, ap, ◌∙◌, subst, append_assoc, take, drop, length, get_or, arith}
use Rattle.laws_escape.proofs.Prelude.{AddsBytes, after_frontmatter, append-nil, At, Beside, beside_line, Blank, block_codes, BlockLine, blocks, blocks_at_end}
use Rattle.laws_escape.proofs.Prelude.{blocks_html, Bytes, bytes_of, cases_Bool, children_after, close_leaf, codes, codes_from, CompileOptions, cond-false}
use Rattle.laws_escape.proofs.Prelude.{cond-true, cond_both, document, Document, empty_tree, encode, encoded_byte, ending_bytes, ending_text, ends_line}
use Rattle.laws_escape.proofs.Prelude.{eqb-true, flat_map, flat_map-append, fold, Fresh, grow, has_mark, html_is, in_first_line, is_blank, is_byte}
use Rattle.laws_escape.proofs.Prelude.{is_tab_column, is_white, join, Kind, kind_before_text, lay, Leaf, leaf_bytes, LineEnding, lines, marked_html, ne_eqb}
use Rattle.laws_escape.proofs.Prelude.{Nil, no_constructs, on_page, one, Opening, Options, or_from, page_layout, Paragraph, Piece, prefix_len, Rest, rest_line}
use Rattle.laws_escape.proofs.Prelude.{step, suffix_len, Text, text_ending, text_line, text_of, TextTables, Tree, tree, trim, with_footnotes}
use Rattle.std.specs.Prelude.{replicate}
use Rattle.std.specs.List.{All, filter}
use Rattle.std.proofs.lemmas.List.Sums.{fold-append}
use Rattle.markdown_options.specs.declared.line_ending.LineEnding.TheVariants.{CarriageReturnLineFeed, CarriageReturn, LineFeed}
use Rattle.markdown_options.specs.declared.beside.Kind.TheVariants.{Whitespace}
use Rattle.definition_text.specs.Lines.{TextLine, after_return, without_mark}
use Rattle.definition_text.specs.Columns.{whole, tab_column}
use Rattle.definition_text.specs.Columns.{columns_after_tab}
use Rattle.definition_text.specs.Encode.{replacement_character}
use Rattle.definition_text.specs.BlockLines.{own_lines}
use Rattle.definition_block.specs.Tree.{Block, Ending, Blocks, Cons}
use Rattle.definition_block.specs.Tree.{close, steps}
use Rattle.definition_block.specs.Lists.{put_before, grouped_block, group_items}
use Rattle.definition_page.specs.Pieces.{is_fresh}
use Rattle.html_bytes.specs.Pieces.{print}
use Rattle.html_bytes.specs.Layout.{LayoutState, with_text, nothing_laid}
use Rattle.definition_page.specs.Read.{ends_blank}
use Rattle.html_bytes.specs.Html.{silences, block_bytes, children_bytes, last_piece, document_bytes}
use Rattle.definition_block.specs.Definitions.{document_targets}
use Rattle.laws_escape.specs.Visible.{visible, is_not_blank, said_by, all_said_by, PrintedVisibleLaw, VisibleLaw}
use Rattle.laws_options.proofs.Unlisted.{unlisted_law}
use Rattle.laws_escape.proofs.PlainText.{line_text, plain_text, AreInLine, AreText, line_drop, first_line, other_lines, paragraph_bytes, text_is_plain}
use Rattle.laws_escape.proofs.Plain.{paragraph, blank_tree, text_tree, plain_tree, plain_grow}

-- ---- the lines of a text

-- the codes of a line are its bytes
no_columns : (column : ℕ) (bs : List ℕ) → AreInLine bs → prefix_len is_tab_column (codes_from column bs) ≡ 0
no_columns column [] p = refl
no_columns column (b ∷ bs) p =
    let n = columns_after_tab column in
    let after = column + 1 + n in
    cond_both (eqb b 9) (9 ∷ (replicate n tab_column ++ codes_from after bs)) (b ∷ codes_from (column + 1) bs) (λ cs. prefix_len is_tab_column cs ≡ 0)
    (λ _. refl) (λ _. cond-false (is_tab_column b) _ 0 (ne_eqb b 256 (λ e. omega (arith, e, p.1))))

bytes_after : (n : ℕ) (cs : List ℕ) → bytes_of (replicate n tab_column ++ cs) ≡ bytes_of cs
bytes_after zero cs = refl
bytes_after (suc n) cs = bytes_after n cs

same_bytes : (column : ℕ) (bs : List ℕ) → AreInLine bs → bytes_of (codes_from column bs) ≡ bs
same_bytes column [] p = refl
same_bytes column (b ∷ bs) p =
    let n = columns_after_tab column in
    let after = column + 1 + n in
    cond_both (eqb b 9) (9 ∷ (replicate n tab_column ++ codes_from after bs)) (b ∷ codes_from (column + 1) bs) (λ cs. bytes_of cs ≡ b ∷ bs)
    (λ tab. ap (λ x. 9 ∷ x) (bytes_after n (codes_from after bs) ∙ same_bytes after bs p.2) ∙ ap (λ x. x ∷ bs) (sym (eqb-true b 9 tab)))
    (λ _.
    cond-true (is_byte b) _ _ (ap not (ne_eqb b 256 (λ e. omega (arith, e, p.1))))
    ∙ ap (λ x. b ∷ x) (same_bytes (column + 1) bs p.2))

same_codes : (bs : List ℕ) → AreInLine bs → block_codes (whole bs) ≡ bs
same_codes bs p = ap (λ n. take n (whole bs) ++ bytes_of (whole bs)) (no_columns 0 bs p) ∙ same_bytes 0 bs p

in_block : (bs : List ℕ) → AreInLine bs → AreInLine (block_codes (whole bs))
in_block bs p = subst AreInLine (sym (same_codes bs p)) p

-- a part of a line
line_take : (n : ℕ) (xs : List ℕ) → AreInLine xs → AreInLine (take n xs)
line_take zero xs p = tt
line_take (suc n) [] p = tt
line_take (suc n) (x ∷ xs) p = (p.0, p.1, line_take n xs p.2)

in_trimmed : (xs : List ℕ) → AreInLine xs → AreInLine (trim xs)
in_trimmed xs p =
    let rest = drop (prefix_len is_white xs) xs in
    line_take (length rest - suffix_len is_white rest) rest (line_drop (prefix_len is_white xs) xs p)

-- no line holds CR or LF before its ending, and all but the last have one
abbrev AreTextLines : List TextLine → Type 0
AreTextLines [] = Unit {0}
AreTextLines (line ∷ []) = AreInLine line.content
AreTextLines (line ∷ next ∷ others) = AreInLine line.content × ((e : LineEnding) × (line.ending ≡ Some e)) × AreTextLines (next ∷ others)

first_in_line : (line : TextLine) (others : List TextLine) → AreTextLines (line ∷ others) → AreInLine line.content
first_in_line line [] p = p
first_in_line line (next ∷ others) p = p.0

-- the cases of `lines`, and all lines of a text
other_text_lines : (ls : List TextLine) → AreTextLines ls → AreTextLines (drop 1 ls)
other_text_lines [] p = tt
other_text_lines (line ∷ []) p = tt
other_text_lines (line ∷ next ∷ others) p = p.2

after_empty_line : (e : LineEnding) (ls : List TextLine) → AreTextLines ls → AreTextLines (text_line [] (Some e) ∷ ls)
after_empty_line e [] p = tt
after_empty_line e (line ∷ others) p = (tt, (e, refl), p)

in_first : (b : ℕ) (ls : List TextLine) → ends_line b ≡ false → b < 256 → AreTextLines ls → AreTextLines (in_first_line b ls)
in_first b [] e lt p = (e, lt, tt)
in_first b (line ∷ []) e lt p = (e, lt, p)
in_first b (line ∷ next ∷ others) e lt p = ((e, lt, p.0), p.1, p.2)

lines_after_return : (bs : List ℕ) (ls : List TextLine) → AreTextLines ls → AreTextLines (after_return bs ls)
lines_after_return [] ls p = after_empty_line CarriageReturn ls p
lines_after_return (b ∷ bs) ls p =
    cond_both (eqb b 10) _ _ AreTextLines
    (λ _. after_empty_line CarriageReturnLineFeed (drop 1 ls) (other_text_lines ls p))
    (λ _. after_empty_line CarriageReturn ls p)

lines_of_text : (text : List ℕ) → ((k : ℕ) → k < length text → get_or text k 0 < 256) → AreTextLines (lines text)
lines_of_text [] h = tt
lines_of_text (b ∷ bs) h =
    let small : b < 256 = h 0 (omega arith) in
    let others = lines_of_text bs (λ k lt. h (suc k) (omega (arith, lt))) in
    cond_both (eqb b 10) _ _ AreTextLines (λ _. after_empty_line LineFeed (lines bs) others)
    (λ no_feed.
    cond_both (eqb b 13) _ _ AreTextLines (λ _. lines_after_return bs (lines bs) others)
    (λ no_return. in_first b (lines bs) (or_from (eqb b 10) (eqb b 13) no_feed no_return) small others))

-- ---- what bytes show

-- the bytes show t, whatever follows them
abbrev Shows : List ℕ → List ℕ → Type 0
Shows x t = (y : List ℕ) → visible false (x ++ y) ≡ t ++ visible false y

-- two runs of bytes show both texts
shows-append : (x t u s : List ℕ) → Shows x t → Shows u s → Shows (x ++ u) (t ++ s)
shows-append x t u s p q y =
    ap (visible false) (append_assoc x u y) ∙ p (u ++ y) ∙ ap (λ v. t ++ v) (q y) ∙ sym (append_assoc t s (visible false y))

-- bytes that show nothing stand after others
shows_no_more : (x t u : List ℕ) → Shows x t → Shows u [] → Shows (x ++ u) t
shows_no_more x t u p q = subst (Shows (x ++ u)) (append-nil t) (shows-append x t u [] p q)

-- endings and tags show nothing
shows_ending : (ending : LineEnding) → Shows (ending_bytes ending) []
shows_ending CarriageReturnLineFeed y = refl
shows_ending CarriageReturn y = refl
shows_ending LineFeed y = refl

shows_ending_text : (ending : Option LineEnding) → Shows (ending_text ending) []
shows_ending_text None y = refl
shows_ending_text (Some ending) y = shows_ending ending y

shows_p : Shows (codes "<p>") []
shows_p y = refl

shows_end_of_p : Shows (codes "</p>") []
shows_end_of_p y = refl

-- ---- encoded bytes show themselves

-- a byte that is no `<`, CR or LF
shows_byte : (b : ℕ) → ends_line b ≡ false → eqb b 60 ≡ false → Shows (b ∷ []) (b ∷ [])
shows_byte b e no_tag y =
    ap (λ v. v ++ visible (eqb b 60) y) (cond-false (eqb b 60 || ends_line b) [] (b ∷ []) (or_from (eqb b 60) (ends_line b) no_tag e))
    ∙ ap (λ v. b ∷ visible v y) no_tag

-- the replacement and the references of HTML hold no such byte, and no other byte is left
abbrev ShowsItself : List ℕ → Type 0
ShowsItself x = Shows x x

shows_encoded_byte : (b : ℕ) → ends_line b ≡ false → ShowsItself (encoded_byte b)
shows_encoded_byte b e =
    let greater = cond (eqb b 62) (codes "&gt;") (b ∷ []) in
    let less = cond (eqb b 60) (codes "&lt;") greater in
    let amp = cond (eqb b 38) (codes "&amp;") less in
    let quote = cond (eqb b 34) (codes "&quot;") amp in
    cond_both (eqb b 0) replacement_character quote ShowsItself (λ _ y. refl) (λ _.
    cond_both (eqb b 34) (codes "&quot;") amp ShowsItself (λ _ y. refl) (λ _.
    cond_both (eqb b 38) (codes "&amp;") less ShowsItself (λ _ y. refl) (λ _.
    cond_both (eqb b 60) (codes "&lt;") greater ShowsItself (λ _ y. refl) (λ no_tag.
    cond_both (eqb b 62) (codes "&gt;") (b ∷ []) ShowsItself (λ _ y. refl) (λ _. shows_byte b e no_tag)))))

shows_encoded : (xs : List ℕ) → AreInLine xs → ShowsItself (encode xs)
shows_encoded [] p = λ y. refl
shows_encoded (b ∷ bs) p =
    shows-append (encoded_byte b) (encoded_byte b) (encode bs) (encode bs) (shows_encoded_byte b p.0) (shows_encoded bs p.2)

-- ---- what pieces add to what is shown

-- what is laid out has more of its innermost text, which shows this, and is the same else
record ShowsIn (l after : LayoutState) (t : List ℕ) : Type 0 where
  out : List ℕ
  is : after ≡ with_text l out
  shows : Shows out t

-- the pieces add t to what stands before them
abbrev PiecesShow : CompileOptions → List ℕ → List Piece → List ℕ → Type 0
PiecesShow options default ps t = (l : LayoutState) (s : List ℕ) → Shows l.text s → ShowsIn l (fold (lay options default) l ps) (s ++ t)

module _ (options : CompileOptions) (default : List ℕ) where
  -- no pieces, and one list of pieces after another
  pieces_none : PiecesShow options default [] []
  pieces_none l s p = record { out = l.text; is = refl; shows = subst (Shows l.text) (sym (append-nil s)) p }

  pieces-append : (ps qs : List Piece) (t u : List ℕ) → PiecesShow options default ps t → PiecesShow options default qs u
      → PiecesShow options default (ps ++ qs) (t ++ u)
  pieces-append ps qs t u p q l s h =
      let first = p l s h in
      let second = q (with_text l first.out) (s ++ t) first.shows in
      record {
        out = second.out;
        is = fold-append (lay options default) l ps qs ∙ ap (λ x. fold (lay options default) x qs) first.is ∙ second.is;
        shows = subst (Shows second.out) (append_assoc s t u) second.shows;
      }

  -- pieces that add bytes
  pieces_add : (ps : List Piece) (bs t : List ℕ) → AddsBytes options default ps bs → Shows bs t → PiecesShow options default ps t
  pieces_add ps bs t adds p l s h = record { out = l.text ++ bs; is = adds l; shows = shows-append l.text s bs t h p }

  -- one piece
  pieces_bytes : (bs t : List ℕ) → Shows bs t → PiecesShow options default (Bytes bs ∷ []) t
  pieces_bytes bs t p = pieces_add (Bytes bs ∷ []) bs t (λ l. refl) p

  pieces_fresh : Shows default [] → PiecesShow options default (Fresh ∷ []) []
  pieces_fresh p l s h =
      record {
        out = print default l.text Fresh;
        is = refl;
        shows = cond_both (is_fresh l.text) l.text (l.text ++ default) (λ x. Shows x (s ++ []))
            (λ _. subst (Shows l.text) (sym (append-nil s)) h)
            (λ _. shows-append l.text s default [] h p);
      }

  pieces_last : (blank : Bool) → Shows default [] → PiecesShow options default (last_piece blank) []
  pieces_last true p = pieces_fresh p
  pieces_last false p = pieces_none

-- ---- lines of a block

-- what lines say, without their endings
abbrev said_in_line : BlockLine → List ℕ
said_in_line line = encode (trim line.codes)

abbrev said_in_lines : List BlockLine → List ℕ
said_in_lines ls = flat_map said_in_line ls

-- lines of an open paragraph, the last of which has this ending
abbrev AreTextTo : Option LineEnding → List BlockLine → Type 0
AreTextTo ending [] = Unit {0}
AreTextTo ending (line ∷ []) = AreInLine line.codes × (line.ending ≡ ending)
AreTextTo ending (line ∷ next ∷ others) = AreInLine line.codes × ((e : LineEnding) × (line.ending ≡ Some e)) × AreTextTo ending (next ∷ others)

-- one more line, where the last one so far has an ending
text_push : (e : LineEnding) (ls : List BlockLine) (line : BlockLine) → AreTextTo (Some e) ls → AreInLine line.codes → AreTextTo line.ending (ls ++ line ∷ [])
text_push e [] line p q = (q, refl)
text_push e (l ∷ []) line p q = (p.0, (e, p.1), (q, refl))
text_push e (l ∷ next ∷ others) line p q = (p.0, p.1, text_push e (next ∷ others) line p.2 q)

-- the ending of the last line says nothing
text_in_own : (ending : Option LineEnding) (ls : List BlockLine) → AreTextTo ending ls → AreText (own_lines ls)
text_in_own ending [] p = tt
text_in_own ending (line ∷ []) p = p.0
text_in_own ending (line ∷ next ∷ []) p = (p.0, p.1, p.2.0)
text_in_own ending (line ∷ next ∷ last ∷ others) p = (p.0, p.1, text_in_own ending (next ∷ last ∷ others) p.2)

said_in_own : (ls : List BlockLine) → said_in_lines (own_lines ls) ≡ said_in_lines ls
said_in_own [] = refl
said_in_own (line ∷ []) = refl
said_in_own (line ∷ next ∷ others) = ap (λ t. said_in_line line ++ t) (said_in_own (next ∷ others))

-- lines show what they say
plain_shows : (ls : List BlockLine) → AreText ls → Shows (plain_text ls) (said_in_lines ls)
plain_shows [] p = λ y. refl
plain_shows (line ∷ ls) p =
    let said = said_in_line line in
    let shown : ShowsItself said = shows_encoded (trim line.codes) (in_trimmed line.codes (first_line line ls p)) in
    shows-append (line_text line) said (plain_text ls) (said_in_lines ls)
    (shows_no_more said said (ending_text line.ending) shown (shows_ending_text line.ending))
    (plain_shows ls (other_lines line ls p))

-- ---- blocks

-- what blocks say: the lines of their paragraphs
abbrev said_in_block : Block → List ℕ
said_in_block (Leaf (Paragraph ls)) = said_in_lines ls
said_in_block b = []

abbrev said_in_blocks : Blocks → List ℕ
said_in_blocks Nil = []
said_in_blocks (Cons b bs) = said_in_block b ++ said_in_blocks bs

-- a block is a paragraph of lines of text, or an ending
abbrev BlockIsText : Block → Type 0
BlockIsText (Leaf (Paragraph ls)) = AreText ls
BlockIsText (Ending ending) = Unit {0}
BlockIsText (Blank ending) = Unit {0}
BlockIsText b = ⊥

abbrev BlocksAreText : Blocks → Type 0
BlocksAreText Nil = Unit {0}
BlocksAreText (Cons b bs) = BlockIsText b × BlocksAreText bs

-- there are no items to put into lists
no_item : (b : Block) (bs : Blocks) → BlockIsText b → put_before (grouped_block b) bs ≡ Cons b bs
no_item (Leaf (Paragraph ls)) bs p = refl
no_item (Ending ending) bs p = refl
no_item (Blank ending) bs p = refl
no_item b bs p = absurd p

no_lists : (bs : Blocks) → BlocksAreText bs → group_items bs ≡ bs
no_lists Nil p = refl
no_lists (Cons b bs) p = no_item b (group_items bs) p.0 ∙ ap (Cons b) (no_lists bs p.1)

-- blocks show what they say, in a document where every construct is off
module _ (d : Document) (off : d.options.parse.constructs ≡ no_constructs) (options : CompileOptions) (default : List ℕ)
    (nothing_shown : Shows default []) where
  lines_show : (ls : List BlockLine) → AreText ls → PiecesShow options default (text_of d ls) (said_in_lines ls)
  lines_show ls p = pieces_add options default (text_of d ls) (plain_text ls) (said_in_lines ls) (text_is_plain d options default off ls p) (plain_shows ls p)

  paragraph_shows : (ls : List BlockLine) → AreText ls → PiecesShow options default (leaf_bytes d on_page false (Paragraph ls)) (said_in_lines ls)
  paragraph_shows ls p =
      let start = Fresh ∷ Bytes (codes "<p>") ∷ [] in
      let end = Bytes (codes "</p>") ∷ [] in
      let said = said_in_lines ls in
      let text = text_of d ls in
      let first : PiecesShow options default start [] =
      pieces-append options default (Fresh ∷ []) (Bytes (codes "<p>") ∷ []) [] [] (pieces_fresh options default nothing_shown)
      (pieces_bytes options default (codes "<p>") [] shows_p) in
      let more = pieces-append options default start text [] said first (lines_show ls p) in
      let all = pieces-append options default (start ++ text) end said [] more (pieces_bytes options default (codes "</p>") [] shows_end_of_p) in
      subst (λ ps. PiecesShow options default ps said) (sym (paragraph_bytes d ls))
      (subst (PiecesShow options default ((start ++ text) ++ end)) (append-nil said) all)

  ending_shows : (silent : Bool) (ending : Option LineEnding) → PiecesShow options default (block_bytes d on_page false silent (Ending ending)) []
  ending_shows silent ending =
      cond_both silent [] (Bytes (ending_text ending) ∷ []) (λ ps. PiecesShow options default ps [])
      (λ _. pieces_none options default)
      (λ _. pieces_bytes options default (ending_text ending) [] (shows_ending_text ending))

  block_shows : (silent : Bool) (b : Block) → BlockIsText b → PiecesShow options default (block_bytes d on_page false silent b) (said_in_block b)
  block_shows silent (Leaf (Paragraph ls)) p = paragraph_shows ls p
  block_shows silent (Ending ending) p = ending_shows silent ending
  block_shows silent (Blank ending) p = pieces_none options default
  block_shows silent b p = absurd p

  blocks_show : (silent : Bool) (bs : Blocks) → BlocksAreText bs → PiecesShow options default (children_bytes d on_page false silent bs) (said_in_blocks bs)
  blocks_show silent Nil p = pieces_none options default
  blocks_show silent (Cons b bs) p =
      let next = silences true false silent b in
      pieces-append options default (block_bytes d on_page false silent b) (children_bytes d on_page false next bs) (said_in_block b) (said_in_blocks bs)
      (block_shows silent b p.0) (blocks_show next bs p.1)

-- blocks joined
text-join : (bs cs : Blocks) → BlocksAreText bs → BlocksAreText cs → BlocksAreText (join bs cs)
text-join Nil cs p q = q
text-join (Cons b bs) cs p q = (p.0, text-join bs cs p.1 q)

said-join : (bs cs : Blocks) → said_in_blocks (join bs cs) ≡ said_in_blocks bs ++ said_in_blocks cs
said-join Nil cs = refl
said-join (Cons b bs) cs =
    ap (λ t. said_in_block b ++ t) (said-join bs cs) ∙ sym (append_assoc (said_in_block b) (said_in_blocks bs) (said_in_blocks cs))

-- ---- the tree

-- what is open, as its lines
abbrev said_in_open : Opening → List ℕ
said_in_open (At (Text ls)) = said_in_lines ls
said_in_open now = []

-- nothing is open but a paragraph, the last line of which has this ending
abbrev OpenIsText : Option LineEnding → Opening → Type 0
OpenIsText ending (At (Text ls)) = AreTextTo ending ls
OpenIsText ending now = ⊥

-- what holds of an open paragraph holds of what is open
at_paragraph : (ending : Option LineEnding) (P : Opening → Type 0) (now : Opening) → OpenIsText ending now
    → ((ls : List BlockLine) → AreTextTo ending ls → P (paragraph ls)) → P now
at_paragraph ending P (At (Text ls)) p f = f ls p
at_paragraph ending P now p f = absurd p

-- what a tree says, after a line with this ending, and that its blocks are text
record TreeSays (ending : Option LineEnding) (t : Tree) (said : List ℕ) : Type 0 where
  done : BlocksAreText t.done
  now : OpenIsText ending t.now
  says : said_in_blocks t.done ++ said_in_open t.now ≡ said

-- closing keeps what is said
text_closed : (ending : Option LineEnding) (ls : List BlockLine) → AreTextTo ending ls → BlocksAreText (close_leaf no_constructs (Text ls))
text_closed ending [] p = tt
text_closed ending (line ∷ others) p = (text_in_own ending (line ∷ others) p, (tt, tt))

said_closed : (ls : List BlockLine) → said_in_blocks (close_leaf no_constructs (Text ls)) ≡ said_in_lines ls
said_closed [] = refl
said_closed (line ∷ others) = append-nil (said_in_lines (own_lines (line ∷ others))) ∙ said_in_own (line ∷ others)

-- a blank line says nothing
blank_says : (last : Option LineEnding) (ls : List BlockLine) (ending : Option LineEnding) → AreTextTo last ls
    → TreeSays ending (blank_tree ls ending) (said_in_lines ls)
blank_says last ls ending p =
    let done = close_leaf no_constructs (Text ls) in
    record {
      done = text-join done (one (Blank ending)) (text_closed last ls p) (tt, tt);
      now = tt;
      says = append-nil (said_in_blocks (join done (one (Blank ending)))) ∙ said-join done (one (Blank ending))
          ∙ append-nil (said_in_blocks done) ∙ said_closed ls;
    }

-- a line goes into the open paragraph
line_says : (e : LineEnding) (ls : List BlockLine) (rest : Rest) (beside : Beside) → AreTextTo (Some e) ls → AreInLine (block_codes rest)
    → TreeSays beside.ending (text_tree ls rest beside) (said_in_lines ls ++ said_in_line (rest_line rest beside))
line_says e ls rest beside p q =
    let line = rest_line rest beside in
    record {
      done = tt;
      now = text_push e ls line p q;
      says = flat_map-append said_in_line ls (line ∷ []) ∙ ap (λ t. said_in_lines ls ++ t) (append-nil (said_in_line line));
    }

-- what is finished before stands in front
after_done : (ending : Option LineEnding) (done : Blocks) (more : Tree) (said : List ℕ) → BlocksAreText done → TreeSays ending more said
    → TreeSays ending (tree (join done more.done) more.now) (said_in_blocks done ++ said)
after_done ending done more said p q = record {
  done = text-join done more.done p q.done;
  now = q.now;
  says = ap (λ t. t ++ said_in_open more.now) (said-join done more.done)
      ∙ append_assoc (said_in_blocks done) (said_in_blocks more.done) (said_in_open more.now)
      ∙ ap (λ t. said_in_blocks done ++ t) q.says;
}

-- what a line alone says
said_by_blank : (line : TextLine) → is_blank (whole line.content) ≡ true → all_said_by (line ∷ []) ≡ []
said_by_blank line e = ap (flat_map said_by) (cond-false (is_not_blank line) (line ∷ []) [] (ap not e))

said_by_other : (line : TextLine) → is_blank (whole line.content) ≡ false → all_said_by (line ∷ []) ≡ said_by line
said_by_other line e = ap (flat_map said_by) (cond-true (is_not_blank line) (line ∷ []) [] (ap not e)) ∙ append-nil (said_by line)

-- one more line
plain_says : (before : Kind) (e : LineEnding) (ls : List BlockLine) (line : TextLine) → AreTextTo (Some e) ls → AreInLine line.content
    → TreeSays line.ending (plain_tree ls (whole line.content) (beside_line before line)) (said_in_lines ls ++ all_said_by (line ∷ []))
plain_says before e ls line p q =
    let rest = whole line.content in
    let blank = blank_tree ls line.ending in
    let other = text_tree ls rest (beside_line before line) in
    let here = said_in_lines ls in
    let nothing = blank_says (Some e) ls line.ending p in
    let more = line_says e ls rest (beside_line before line) p (in_block line.content q) in
    cond_both (is_blank rest) blank other (λ t. TreeSays line.ending t (here ++ all_said_by (line ∷ [])))
    (λ is. subst (TreeSays line.ending blank) (sym (ap (λ t. here ++ t) (said_by_blank line is) ∙ append-nil here)) nothing)
    (λ is. subst (TreeSays line.ending other) (sym (ap (λ t. here ++ t) (said_by_other line is))) more)

grow_says : (before : Kind) (e : LineEnding) (now : Opening) (line : TextLine) → OpenIsText (Some e) now → AreInLine line.content
    → TreeSays line.ending (grow no_constructs (beside_line before line) now (whole line.content)) (said_in_open now ++ all_said_by (line ∷ []))
grow_says before e now line p q =
    let rest = whole line.content in
    let new = all_said_by (line ∷ []) in
    at_paragraph (Some e) (λ o. TreeSays line.ending (grow no_constructs (beside_line before line) o rest) (said_in_open o ++ new)) now p
    (λ ls r. subst (λ t. TreeSays line.ending t (said_in_lines ls ++ new)) (sym (plain_grow ls rest (beside_line before line)))
    (plain_says before e ls line r q))

step_says : (before : Kind) (e : LineEnding) (t : Tree) (said : List ℕ) (line : TextLine) → TreeSays (Some e) t said → AreInLine line.content
    → TreeSays line.ending (step no_constructs before t line) (said ++ all_said_by (line ∷ []))
step_says before e t said line p q =
    let more = grow no_constructs (beside_line before line) t.now (whole line.content) in
    let done = said_in_blocks t.done in
    let here = said_in_open t.now in
    let new = all_said_by (line ∷ []) in
    subst (TreeSays line.ending (step no_constructs before t line)) (sym (append_assoc done here new) ∙ ap (λ s. s ++ new) p.says)
    (after_done line.ending t.done more (here ++ new) p.done (grow_says before e t.now line p.now q))

-- the lines of a list that aren't blank, one by one
said-cons : (line : TextLine) (ls : List TextLine) → all_said_by (line ∷ ls) ≡ all_said_by (line ∷ []) ++ all_said_by ls
said-cons line ls =
    elim (cases_Bool (is_not_blank line)) [
      | inl e ↦
          ap (flat_map said_by) (cond-true (is_not_blank line) (line ∷ filter is_not_blank ls) (filter is_not_blank ls) e)
          ∙ ap (λ t. t ++ all_said_by ls) (sym (append-nil (said_by line)))
          ∙ sym (ap (λ xs. flat_map said_by xs ++ all_said_by ls) (cond-true (is_not_blank line) (line ∷ []) [] e))
      | inr e ↦
          ap (flat_map said_by) (cond-false (is_not_blank line) (line ∷ filter is_not_blank ls) (filter is_not_blank ls) e)
          ∙ sym (ap (λ xs. flat_map said_by xs ++ all_said_by ls) (cond-false (is_not_blank line) (line ∷ []) [] e))
    ]

-- all lines
steps_say : (before : Kind) (e : LineEnding) (ls : List TextLine) (t : Tree) (said : List ℕ) → TreeSays (Some e) t said → AreTextLines ls
    → (last : Option LineEnding) × TreeSays last (steps no_constructs before t ls) (said ++ all_said_by ls)
steps_say before e [] t said p q = (Some e, subst (TreeSays (Some e) t) (sym (append-nil said)) p)
steps_say before e (line ∷ []) t said p q = (line.ending, step_says before e t said line p q)
steps_say before e (line ∷ next ∷ others) t said p q =
    let new = all_said_by (line ∷ []) in
    let more = step no_constructs before t line in
    let here : TreeSays (Some q.1.0) more (said ++ new) = subst (λ o. TreeSays o more (said ++ new)) q.1.1 (step_says before e t said line p q.0) in
    let all = steps_say Whitespace q.1.0 (next ∷ others) more (said ++ new) here q.2 in (
      all.0,
      subst (TreeSays all.0 (steps no_constructs Whitespace more (next ∷ others)))
          (append_assoc said new (all_said_by (next ∷ others)) ∙ ap (λ s. said ++ s) (sym (said-cons line (next ∷ others)))) all.1,
    )

-- ---- the page

no_frontmatter : (ls : List TextLine) → after_frontmatter no_constructs ls ≡ None
no_frontmatter [] = refl
no_frontmatter (line ∷ others) = refl

-- what is said at the end, by blocks that are text
said_at_end : (ending : Option LineEnding) (t : Tree) (said : List ℕ) → TreeSays ending t said → said_in_blocks (blocks_at_end no_constructs t) ≡ said
said_at_end ending t said p =
    let kept = at_paragraph ending (λ o. said_in_blocks (close no_constructs o) ≡ said_in_open o) t.now p.now (λ ls r. said_closed ls) in
    said-join t.done (close no_constructs t.now) ∙ ap (λ s. said_in_blocks t.done ++ s) kept ∙ p.says

text_at_end : (ending : Option LineEnding) (t : Tree) (said : List ℕ) → TreeSays ending t said → BlocksAreText (blocks_at_end no_constructs t)
text_at_end ending t said p =
    text-join t.done (close no_constructs t.now) p.done
    (at_paragraph ending (λ o. BlocksAreText (close no_constructs o)) t.now p.now (λ ls r. text_closed ending ls r))

-- where no footnote is called, the page is its text
no_section : (options : CompileOptions) (default : List ℕ) (l : LayoutState) (t : List ℕ) → ShowsIn nothing_laid l t
    → Shows (with_footnotes options default l) t
no_section options default l t p = subst (λ x. Shows (with_footnotes options default x) t) (sym p.is) p.shows

-- a page shows what its blocks say
document_shows : (d : Document) → d.options.parse.constructs ≡ no_constructs → (options : CompileOptions) (default : List ℕ) (bs : Blocks) → Shows default []
    → BlocksAreText bs → Shows (page_layout options default (document_bytes d bs)) (said_in_blocks bs)
document_shows d off options default bs nothing_shown p =
    let last = last_piece (ends_blank false bs) in
    let shown = blocks_show d off options default nothing_shown false bs p in
    let all = pieces-append options default (children_bytes d on_page false false bs) last (said_in_blocks bs) [] shown
    (pieces_last options default (ends_blank false bs) nothing_shown) in
    let laid_out = λ (cs : Blocks). fold (lay options default) nothing_laid (children_bytes d on_page false false cs ++ last) in
    subst (λ cs. Shows (with_footnotes options default (laid_out cs)) (said_in_blocks bs)) (sym (no_lists bs p))
    (subst (Shows (with_footnotes options default (laid_out bs))) (append-nil (said_in_blocks bs))
    (no_section options default (laid_out bs) (said_in_blocks bs ++ []) (all nothing_laid [] (λ y. refl))))

-- what bytes show where nothing follows
shows_alone : (x t : List ℕ) → Shows x t → visible false x ≡ t
shows_alone x t p = ap (visible false) (sym (append-nil x)) ∙ p [] ∙ append-nil t

page_shows : (tables : TextTables) (options : Options) (before : Kind) (text : List ℕ) (ending : LineEnding) → options.parse.constructs ≡ no_constructs
    → AreTextLines (lines text)
    → visible false (blocks_html tables options ending (blocks no_constructs before text)) ≡ all_said_by (lines text)
page_shows tables options before text ending off p =
    let t = steps no_constructs before empty_tree (lines text) in
    let said = all_said_by (lines text) in
    let all = steps_say before LineFeed (lines text) empty_tree [] (record { done = tt; now = tt; says = refl }) p in
    let bs = blocks_at_end no_constructs t in
    let d = document options tables (document_targets bs) in
    let shown = λ (bs : Blocks). visible false (blocks_html tables options ending bs) in
    ap (λ others. shown (children_after no_constructs before (lines text) others)) (no_frontmatter (lines text))
    ∙ shows_alone (blocks_html tables options ending bs) (said_in_blocks bs)
    (document_shows d off options.compile (ending_bytes ending) bs (shows_ending ending) (text_at_end all.0 t said all.1))
    ∙ said_at_end all.0 t said all.1

marked_page_shows : (tables : TextTables) (before : Kind) (text : List ℕ) (options : Options) → AreTextLines (lines text)
    → options.parse.constructs ≡ no_constructs
    → visible false (marked_html tables before text options) ≡ all_said_by (lines text)
marked_page_shows tables before text options p off =
    let ending = text_ending options text in
    ap (λ on. visible false (blocks_html tables options ending (blocks on before text))) off ∙ page_shows tables options before text ending off p

-- a text without a byte order mark has bytes, too
bytes_left : (n : ℕ) (text : List ℕ) → All (λ b. b < 256) text → All (λ b. b < 256) (drop n text)
bytes_left zero text h = h
bytes_left (suc n) [] h = λ k d lt. h k d lt
bytes_left (suc n) (b ∷ bs) h = bytes_left n bs (λ k d lt. h (suc k) d (omega (arith, lt)))

unmarked_bytes : (text : List ℕ) → All (λ b. b < 256) text → All (λ b. b < 256) (without_mark text)
unmarked_bytes text h = cond_both (has_mark text) (drop 3 text) text (All (λ byte. byte < 256)) (λ _. bytes_left 3 text h) (λ _. h)

pub printed_visible_law : PrintedVisibleLaw
printed_visible_law tables text options bytes off =
    ap (visible false) (html_is tables text options)
    ∙ marked_page_shows tables (kind_before_text text) (without_mark text) options
    (lines_of_text (without_mark text) (λ k lt. unmarked_bytes text bytes k 0 lt)) off

-- where raw HTML isn't kept by the list
pub visible_law : VisibleLaw
visible_law tables text options unlisted bytes off =
    ap (visible false) (unlisted_law tables text options unlisted) ∙ printed_visible_law tables text options bytes off
