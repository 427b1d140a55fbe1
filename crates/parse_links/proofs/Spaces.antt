-- What is written of white space, step by step (CommonMark 6.3).
use Rattle.std.proofs.Common.{◌≡◌, ℕ, zero, suc, ◌+◌, ◌≤◌, true, false, ◌&&◌, List, [], ◌∷◌, ◌++◌, None, refl, sym, ap, ap₂, subst}
use Rattle.std.proofs.Common.{◌∙◌, append_assoc, arith, drop, inl, inr, take, length}
use Rattle.parse_lines.specs.Content.{HasBytes}
use Rattle.parse_links.proofs.Prelude.{after_ending, after_spaces, after_white, append, append-nil, AreBytes, bare, begins_with_eol, cases_Bool, cond-false}
use Rattle.parse_links.proofs.Prelude.{cond-true, Cons, content_codes, contents_both, End, end_after, end_in, ending_bytes, ends_line, indent, is_ascii_byte}
use Rattle.parse_links.proofs.Prelude.{is_eol, is_white, list_all, list_any, lt-ltb, one, or_left, plain_both, ReadsEnding, standing, StandsInContent}
use Rattle.parse_links.proofs.Prelude.{StandsInLine, Stop, take-append-drop, void_nodes, Walk, WritesInContent, WritesInLine, WritesWhite}
use Rattle.std.proofs.lemmas.Bool.{and_from}
use Rattle.std.proofs.lemmas.List.Folds.{list_all-append}
use Rattle.markdown_options.specs.Defaults.{default_constructs}
use Rattle.markdown_options.specs.declared.line_ending.LineEnding.{LineEnding}
use Rattle.markdown_options.specs.declared.line_ending.LineEnding.TheVariants.{CarriageReturnLineFeed, CarriageReturn, LineFeed}
use Rattle.definition_text.specs.Content.{line_ending_code}
use Rattle.engine_events.specs.declared.event.Name.TheVariants as n
use Rattle.event_grammar.specs.declared.slot.Between.{Between}
use Rattle.event_grammar.specs.declared.slot.Between.TheVariants.{Lines}
use Rattle.parse_lines.specs.InContent.{WritesEndingIn}
use Rattle.parse_lines.proofs.Ahead.{owed_after}
use Rattle.parse_lines.proofs.Quiet.{ending_fill}
use Rattle.parse_slots.specs.Left.{Fill}
use Rattle.parse_slots.proofs.Steps.{fill_both, may_both, may_lines, may_space}
use Rattle.parse_slots.proofs.Voids.{void_between}
use Rattle.inline_leaves.specs.declared.line_ending.Ending.{Ending}
use Rattle.inline_leaves.proofs.Codes.{after_codes}
use Rattle.inline_leaves.proofs.Endings.{ending_is_eol}
use Rattle.parse_strings.proofs.Parts.{owed_indent, void_node, white_in}
use Rattle.parse_strings.proofs.PlainNodes.{plain_quiet, plain_void}
use Rattle.parse_strings.proofs.Texts.{EndingStep, ending_step, told_ascii}
use Rattle.parse_links.proofs.Children.{ending_child, none_both, space_child}

white_ascii : (n : ℕ) (xs : List ℕ) → AreBytes xs → n ≤ indent xs → list_all is_ascii_byte (take n xs) ≡ true
white_ascii zero xs bytes le = refl
white_ascii (suc n) [] bytes le = refl
white_ascii (suc n) (x ∷ xs) bytes le = elim (cases_Bool (is_white x)) [
  | inl w ↦
      let more : indent (x ∷ xs) ≡ 1 + indent xs = cond-true (is_white x) (1 + indent xs) 0 w in
      and_from (is_ascii_byte x) (list_all is_ascii_byte (take n xs)) (lt-ltb x 128 (told_ascii x (bytes 0) (or_left (is_white x) _ w)))
      (white_ascii n xs (λ k. bytes (suc k)) (omega arith))
  | inr other ↦ let none : indent (x ∷ xs) ≡ 0 = cond-false (is_white x) (1 + indent xs) 0 other in absurd (omega arith)
]

ending_ascii : (e : LineEnding) → list_all is_ascii_byte (ending_bytes e) ≡ true
ending_ascii LineFeed = refl
ending_ascii CarriageReturn = refl
ending_ascii CarriageReturnLineFeed = refl

ending_ends : (e : LineEnding) → list_any ends_line (ending_bytes e) ≡ true
ending_ends LineFeed = refl
ending_ends CarriageReturn = refl
ending_ends CarriageReturnLineFeed = refl

-- ---- codes

-- nothing is left of white space
pub white_none : (xs : List ℕ) → begins_with_eol (content_codes (bare xs)) ≡ false → content_codes (bare xs) ≡ after_white (content_codes xs)
white_none xs h = sym (ap after_ending (after_codes is_white refl refl xs) ∙ stays (content_codes (bare xs)) h)
  where
    stays : (cs : List ℕ) → begins_with_eol cs ≡ false → after_ending cs ≡ cs
    stays [] h = refl
    stays (c ∷ cs) h = cond-false (is_eol c) _ _ h

-- after a line ending white space goes on
pub white_more : (xs : List ℕ) (found : Ending) → ReadsEnding (bare xs) found
    → content_codes (bare (drop found.size (bare xs))) ≡ after_white (content_codes xs)
white_more xs found reads =
    let ys = drop found.size (bare xs) in
    sym (ap after_ending (after_codes is_white refl refl xs ∙ reads.codes)
    ∙ cond-true (is_eol (line_ending_code found.ending)) (after_spaces (content_codes ys)) (line_ending_code found.ending ∷ content_codes ys)
    (ending_is_eol found.ending)
    ∙ after_codes is_white refl refl ys)

module _ {A : Type 0} (text : List ℕ) (stop : Stop) where
  pub spaces_in : (a b : Walk A) (xs : List ℕ) (size : ℕ) → AreBytes xs → size ≡ indent xs → StandsInContent text xs stop a → standing b ≡ standing a
      → ((front line : List ℕ) → size ≡ length front → StandsInLine text (front ++ line) a → HasBytes text n.SpaceOrTab size a
      → WritesInLine text front (void_nodes text n.SpaceOrTab (end_in a.out) (end_after (end_in a.out) size)) line a b)
      → WritesWhite text xs (drop size xs) stop a b
  spaces_in a b xs size bytes is st same written =
      let from = end_in a.out in
      let w = white_in text stop a b xs [] size (omega arith) (subst (λ ys. StandsInContent text ys stop a) (sym (append-nil xs)) st) same written in
      record {
        front = take size xs;
        parts = sym (take-append-drop size xs);
        ascii = white_ascii size xs bytes (omega arith);
        nodes = void_nodes text n.SpaceOrTab from (end_after from size);
        writes =
            subst (λ ys. WritesInContent text (take size xs) (void_nodes text n.SpaceOrTab from (end_after from size)) ys stop a b)
            (append-nil (drop size xs)) w.writes;
        whole = omega (arith, owed_indent text stop a xs st, is, ap (λ (x : End). x.owed) w.end, owed_after from.index from.owed size);
        plain = plain_void text n.SpaceOrTab from (end_after from size) refl refl;
        fill = λ around slots may none.
            void_between around slots n.SpaceOrTab text from (end_after from size) refl none.space (may_space around (take size xs) may) refl;
        others = λ name h. space_child name text from (end_after from size) h;
      }

  -- white space, a line ending, and white space
  pub white_both : (a b c d : Walk A) (xs ys zs rest : List ℕ) (e : LineEnding) → WritesWhite text xs ys stop a b → ys ≡ ending_bytes e ++ zs
      → (StandsInContent text (ending_bytes e ++ zs) stop b → WritesEndingIn text n.LineEnding e zs stop b c)
      → (StandsInContent text zs stop c → WritesWhite text zs rest stop c d)
      → WritesWhite text xs rest stop a d
  white_both a b c d xs ys zs rest e first is ended more =
      let ends = ended (subst (λ ws. StandsInContent text ws stop b) is first.writes.stands) in
      let last = more ends.writes.stands in
      let nodes = Cons ends.node ends.quiet in
      let later : WritesInContent text (ending_bytes e ++ last.front) (append nodes last.nodes) rest stop b d =
      contents_both text stop b c d (ending_bytes e) last.front rest nodes last.nodes
      (subst (λ ws. WritesInContent text (ending_bytes e) nodes ws stop b c) last.parts ends.writes) last.writes in
      let ahead : ys ≡ (ending_bytes e ++ last.front) ++ rest =
      is ∙ ap (λ ws. ending_bytes e ++ ws) last.parts ∙ sym (append_assoc (ending_bytes e) last.front rest) in
      record {
        front = first.front ++ (ending_bytes e ++ last.front);
        parts = first.parts ∙ ap (λ ws. first.front ++ ws) ahead ∙ sym (append_assoc first.front (ending_bytes e ++ last.front) rest);
        ascii =
            list_all-append is_ascii_byte first.front (ending_bytes e ++ last.front)
            ∙ ap₂ (λ p q. p && q) first.ascii
            (list_all-append is_ascii_byte (ending_bytes e) last.front ∙ ap₂ (λ p q. p && q) (ending_ascii e) last.ascii);
        nodes = append first.nodes (append nodes last.nodes);
        writes =
            contents_both text stop a b d first.front (ending_bytes e ++ last.front) rest first.nodes (append nodes last.nodes)
            (subst (λ ws. WritesInContent text first.front first.nodes ws stop a b) ahead first.writes) later;
        whole = last.whole;
        plain =
            plain_both first.nodes (append nodes last.nodes) first.plain
            (plain_both nodes last.nodes
            (plain_both (one ends.node) ends.quiet (void_node ends.node ends.named ends.empty) (plain_quiet ends.quiet ends.are_quiet)) last.plain);
        fill = λ around slots may none.
            let one_may = may_both around first.front (ending_bytes e ++ last.front) may in
            let two_may = may_both around (ending_bytes e) last.front one_may.1 in
            let lines : around ≡ Lines = may_lines around (ending_bytes e) (ending_ends e) two_may.0 in
            fill_both (first.fill around slots one_may.0 none)
            (fill_both
            (subst (λ (b : Between). Fill b slots nodes slots) (sym lines)
            (ending_fill slots n.LineEnding ends.node ends.quiet ends.named ends.empty none.ending refl refl none.space none.quote ends.are_quiet))
            (last.fill around slots two_may.1 none));
        others = λ name h.
            none_both name first.nodes (append nodes last.nodes) (first.others name h)
            (none_both name nodes last.nodes (ending_child name ends.node ends.quiet ends.named ends.are_quiet h) (last.others name h));
      }

pub ending_cut : (xs : List ℕ) (found : Ending) → AreBytes xs → ReadsEnding xs found → EndingStep default_constructs (λ name. None) xs found.ending found.size
ending_cut xs found bytes reads = ending_step default_constructs (λ name. None) xs found bytes reads
