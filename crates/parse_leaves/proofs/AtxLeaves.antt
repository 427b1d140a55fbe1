-- A heading by `#`, as it is written (CommonMark 4.2).
use Rattle.std.proofs.Common.{◌≡◌, ℕ, ◌<◌, ◌≤◌, Bool, true, false, ◌&&◌, nat_le, List, [], ◌∷◌, ◌++◌, None, refl, sym, ap, ◌∙◌, subst, length, replicate, take, drop, arith}
use Rattle.parse_leaves.proofs.Prelude.{append, AreMeanings, AreNext, ArePartsAlike, around, Around, around_on, AtEnding, bare, bare_end, BlockLine, bytes_of}
use Rattle.parse_leaves.proofs.Prelude.{Constructs, End, end_at, end_in, enter_at, EnterCall, entered_on, exit_at, ExitCall, heading_atx, indent, Inlines}
use Rattle.parse_leaves.proofs.Prelude.{is_tab_column, IsInOrder, IsOnLine, IsWrittenToRest, length-take-le, line_left, LineRest, list_any, Meaning, named}
use Rattle.parse_leaves.proofs.Prelude.{Names, next_parts, Nodes, number_sign, on_end, on_line_both, one, own_lines, Piece, piece_line, Place, read_text}
use Rattle.parse_leaves.proofs.Prelude.{Name, Reading, rest_of, run, same_name, some_on, spaced_line, SpellsLeaf, Standing, standing, StandsAt, tab_column, text_in}
use Rattle.parse_leaves.proofs.Prelude.{text_within, ToCall, token_text, TokenCall, tokens, true≢false, Walk, white_ahead, Within, writes_both, WritesClosing}
use Rattle.parse_leaves.proofs.Prelude.{WritesHeadingText, WritesLeaf, WritesOnLine, written_to, ◌==◌}
use Rattle.std.proofs.Math.Seq.{drop-append_seam}
use Rattle.std.proofs.lemmas.List.Sums.{prefix_len-le-length}
use Rattle.engine_events.specs.declared.event.Name.TheVariants as n
use Rattle.definition_page.specs.Page as page
use Rattle.event_grammar.specs.declared.slot.Between.TheVariants.{Lines, Spaces}
use Rattle.event_grammar.specs.declared.slot.Form.TheVariants.{Plain}
use Rattle.parse_laid.specs.Leaves.{IsAtxLaid}
use Rattle.std.specs.Prelude.{codes}
use Rattle.engine_events.specs.Names.{is_listed}
use Rattle.event_grammar.specs.declared.slot.Slot.{Slot}
use Rattle.event_grammar.specs.Facts.{is_size}
use Rattle.event_grammar.specs.Grammar.{opt}
use Rattle.event_grammar.specs.Trees.{Nil}
use Rattle.parse_references.specs.Sound.{AreSound, asked_names, IsRank}
use Rattle.parse_references.proofs.Sound.{asks_nothing, sound_both, sound_fill}
use Rattle.parse_links.specs.Tails.{FillsTo, MayEnd}
use Rattle.parse_lines.proofs.Runs.{run_fits}
use Rattle.parse_leaves.specs.Atx.{EndsHeading, TakesClosing}
use Rattle.parse_leaves.proofs.AtxLists.{atx_front, atx_on, text_bytes}
use Rattle.parse_leaves.proofs.AtxParts.{hash_named, hash_within, space_within}
use Rattle.parse_leaves.proofs.Fills.{atx_fill, filled_up}
use Rattle.parse_leaves.proofs.TextLeaves.{none_alike, open_both}
use Rattle.parse_leaves.proofs.Underlines.{named_pair, space_named}

-- the rank is the size of the first sequence
sequence_size : (text : List ℕ) (index : ℕ) (front line : List ℕ) (ms : Nodes) → 0 < length front → AreNext text (end_at index 0) (front ++ line)
    → text_in text n.HeadingAtxSequence (append (tokens text n.HeadingAtxSequence index front) ms) ≡ front
sequence_size text index [] line ms some next = absurd (omega (arith, some))
sequence_size text index (b ∷ bs) line ms some next = token_text text n.HeadingAtxSequence index (b ∷ bs) line next

module _ (names : Names) (text : List ℕ) where
  -- the first sequence is a rank
  sequence_rank : (index : ℕ) (front line : List ℕ) (ms : Nodes) → 0 < length front → AreNext text (end_at index 0) (front ++ line)
      → is_size 6 front ≡ true → IsRank names text (append (tokens text n.HeadingAtxSequence index front) ms)
  sequence_rank index [] line ms some next size = absurd (omega (arith, some))
  sequence_rank index (b ∷ bs) line ms some next size =
      (λ same. ap (is_size 6) (token_text text n.HeadingAtxSequence index (b ∷ bs) line next) ∙ size, λ other. absurd (true≢false other))

module _ (on : Constructs) (names : Names) (text : List ℕ) where
  tokens_sound : (name : Name) (index : ℕ) (front : List ℕ) → is_listed asked_names name ≡ false → AreSound on names text (tokens text name index front)
  tokens_sound name index [] other = tt
  tokens_sound name index (b ∷ bs) other = ((asks_nothing on names text name Nil other, tt), tt)

  -- what follows the text is sound, by its row
  closing_sound : (ns : Nodes) → ((slots : List Slot) → TakesClosing slots → FillsTo slots MayEnd Spaces ns) → AreSound on names text ns
  closing_sound ns fills =
      let slots = opt n.HeadingAtxSequence ∷ [] in
      let up = fills slots (record { sequence = refl; space = refl; may = refl }) in sound_fill on names text 2 Spaces slots up.rest ns refl up.fill up.ends

first_codes : List BlockLine → List ℕ
first_codes [] = []
first_codes (line ∷ others) = line.codes

piece_codes : (piece : Piece) (content : List ℕ) → own_lines (piece_line piece ∷ []) ≡ spaced_line content None ∷ []
    → replicate piece.owed tab_column ++ piece.text.now ≡ content
unfolding first_codes
piece_codes piece content same = ap first_codes same

module _ (on : Constructs) (names : Names) (text : List ℕ) (top : Bool) (rank : ℕ) (is : Inlines) (i j : ℕ)
    (hashes white line : List ℕ) (inner last : Nodes) where
  abbrev pub atx_kids : Nodes
  atx_kids = append (tokens text n.HeadingAtxSequence i hashes) (append (tokens text n.SpaceOrTab j white) (append inner last))

  pub atx_spells : (start end : End) → 0 < length hashes → AreNext text (end_at i 0) (hashes ++ line) → rank ≡ length hashes
      → ((m m' : Meaning) → AreMeanings on names m m' → ArePartsAlike m m' is (text_within names text false (append inner last)))
      → named n.Definition inner ≡ [] → named n.Definition last ≡ [] → is_size 6 hashes ≡ true → on.heading_atx ≡ true → AreSound on names text inner
      → AreSound on names text last
      → SpellsLeaf on names text top (page.Heading rank is) [] (Around (enter_at text n.HeadingAtx start) atx_kids (exit_at text n.HeadingAtx end))
  atx_spells start end some next size spells none_inner none_last sized made sound_inner sound_last =
      let rank_is : rank ≡ length (text_in text n.HeadingAtxSequence atx_kids) =
      size ∙ sym (ap length (sequence_size text i hashes line (append (tokens text n.SpaceOrTab j white) (append inner last)) some next)) in
      let within : text_within names text false atx_kids ≡ text_within names text false (append inner last) =
      hash_within names text i hashes (append (tokens text n.SpaceOrTab j white) (append inner last))
      ∙ space_within names text j white (append inner last) in
      let none : named n.Definition atx_kids ≡ [] =
      named_pair (tokens text n.HeadingAtxSequence i hashes) (append (tokens text n.SpaceOrTab j white) (append inner last)) (hash_named text i hashes)
      (named_pair (tokens text n.SpaceOrTab j white) (append inner last) (space_named text j white) (named_pair inner last none_inner none_last)) in
      record {
        is_block = refl;
        blocks = λ m m' means. ((rank_is, subst (ArePartsAlike m m' is) (sym within) (spells m m' means)), tt);
        definitions = λ m m' means. none_alike m m' names text (named n.Definition atx_kids) none;
        sound = (
          record {
            is_on = made;
            call = λ same. absurd (true≢false (ap (same_name n.HeadingAtx) same));
            reference = λ same. absurd (true≢false (ap (same_name n.HeadingAtx) same));
            heading = λ same. sequence_rank names text i hashes line (append (tokens text n.SpaceOrTab j white) (append inner last)) some next sized;
            html = λ same. absurd (true≢false (ap (same_name n.HeadingAtx) same));
            some = λ full. absurd (true≢false (sym full));
          },
          sound_both on names text (tokens text n.HeadingAtxSequence i hashes) (append (tokens text n.SpaceOrTab j white) (append inner last))
              (tokens_sound on names text n.HeadingAtxSequence i hashes refl)
              (sound_both on names text (tokens text n.SpaceOrTab j white) (append inner last) (tokens_sound on names text n.SpaceOrTab j white refl)
              (sound_both on names text inner last sound_inner sound_last)),
        );
      }

module _ {A : Type 0} (text : List ℕ) where
  pub atx_written : (r : Reading) (top : Bool) (rank size : ℕ) (here : LineRest) (left : List LineRest) (to : Place) (piece : Piece)
      (bytes rest after closing : List ℕ) (old a b c d e f new : Walk A) → size ≡ rank
      → ToCall n.SpaceOrTab (bare_end old) old a → bytes ≡ bytes_of (bare (rest_of old.rest)) → EnterCall text n.HeadingAtx a b
      → TokenCall n.HeadingAtxSequence size b c → rest ≡ drop size bytes → after ≡ drop (indent rest) rest
      → (IsOnLine text here.beside.ending left rest c
      → WritesOnLine text here.beside.ending left (tokens text n.SpaceOrTab (written_to c).index (take (indent rest) rest)) (drop (indent rest) rest) c d)
      → ((behind : List ℕ) → piece.owed ≡ 0 → list_any is_tab_column piece.text.now ≡ false
      → IsOnLine text here.beside.ending left (piece.text.now ++ behind) d
      → WritesHeadingText r.parse.constructs r.tables.names text (read_text r (own_lines (piece_line piece ∷ []))) here.beside.ending left behind d e)
      → closing ≡ drop (length piece.text.now) after
      → (EndsHeading closing → IsOnLine text here.beside.ending left closing e → WritesClosing text here.beside.ending left e f) → ExitCall text n.HeadingAtx f new
      → StandsAt text (Within here left) (standing old) → IsWrittenToRest old → IsInOrder text old.out → old.on.now ≡ r.parse.constructs
      → IsAtxLaid old.on.now (around (standing old)) rank (own_lines (piece_line piece ∷ [])) (Within here left) to
      → WritesLeaf r.parse.constructs r.tables.names text top (page.Heading rank (read_text r (own_lines (piece_line piece ∷ [])))) [] to old new
  atx_written r top rank size here left to piece bytes rest after closing old a b c d e f new is_size to_bare is_bytes enter token is_rest is_after
      writes_d writes_e is_closing writes_f exit at at_rest order by laid =
      let on = r.parse.constructs in
      let names = r.tables.names in
      let is = read_text r (own_lines (piece_line piece ∷ [])) in
      let ending = here.beside.ending in
      let white = white_ahead text old a here left at at_rest order to_bare.0 to_bare.1 to_bare.2 in
      let line = bytes_of (bare here.rest) in
      let all : bytes ≡ line = is_bytes ∙ ap (λ k. bytes_of (bare k)) at.rest in
      let here_is : here ≡ laid.0 = ap line_left laid.3.0 in
      let found = laid.2 in
      let info = atx_on old.on.now here.rest found (ap (λ (l : LineRest). heading_atx old.on.now l.rest) here_is ∙ laid.4) in
      let size_is : size ≡ run number_sign line = is_size ∙ laid.5 ∙ info.rank in
      let fits : size ≤ length bytes =
      subst (λ bs. size ≤ length bs) (sym all)
      (subst (λ k. k ≤ length line) (sym size_is) (prefix_len-le-length (λ x. x == number_sign) line)) in
      let hash = λ (some : 0 < size). run_fits (codes "#") number_sign bytes size refl some (omega (arith, size_is, ap (run number_sign) all)) in
      -- what is left of the line at each walk
      let on_a : IsOnLine text ending left bytes a = subst (λ bs. IsOnLine text ending left bs a) (sym all) white.on in
      let on_b = entered_on text ending left a b n.HeadingAtx bytes enter on_a in
      let first = some_on text ending left b c n.HeadingAtxSequence bytes size refl hash fits token on_b in
      let gap = writes_d (subst (λ bs. IsOnLine text ending left bs c) (sym is_rest) first.on) in
      let k = run number_sign line in
      let front = atx_front (drop k line) in
      let m = indent rest in
      let behind = front.0 in
      let line_parts : drop (indent (drop k line)) (drop k line) ≡ found.content ++ behind =
      front.1 ∙ ap (λ (xs : List ℕ). xs ++ behind) (sym info.content) in
      let rest_line : rest ≡ drop k line = is_rest ∙ ap (λ x. drop x bytes) size_is ∙ ap (drop k) all in
      let codes = piece_codes piece found.content laid.6 in
      let plain = text_bytes (bare here.rest) k (indent (drop k line)) piece.owed piece.text.now found.content behind line_parts codes in
      let content_is : piece.text.now ≡ found.content =
      sym (ap (λ x. replicate x tab_column ++ piece.text.now) plain.0) ∙ codes in
      let ahead : drop m rest ≡ piece.text.now ++ behind =
      ap (λ bs. drop (indent bs) bs) rest_line ∙ line_parts ∙ ap (λ (xs : List ℕ). xs ++ behind) (sym content_is) in
      let t = writes_e behind plain.0 plain.1 (subst (λ bs. IsOnLine text ending left bs d) ahead gap.on) in
      let closing_is : closing ≡ behind =
      is_closing ∙ ap (drop (length piece.text.now)) (is_after ∙ ahead) ∙ drop-append_seam piece.text.now behind in
      let cl = writes_f (subst EndsHeading (sym closing_is) front.2) (subst (λ bs. IsOnLine text ending left bs e) (sym closing_is) t.line.on) in
      -- the nodes
      let i = (written_to b).index in
      let j = (written_to c).index in
      let hashes = take size bytes in
      let hs = tokens text n.HeadingAtxSequence i hashes in
      let ss = tokens text n.SpaceOrTab j (take m rest) in
      let others = append t.nodes cl.nodes in
      let kids = atx_kids on names text top rank is i j hashes (take m rest) (drop size bytes) t.nodes cl.nodes in
      let inner =
      on_line_both text ending left (drop size bytes) [] hs (append ss others) b c f first
      (on_line_both text ending left (drop m rest) [] ss others c d f gap (on_line_both text ending left behind [] t.nodes cl.nodes d e f t.line cl.line)) in
      let whole = around_on text ending left a b f new n.HeadingAtx [] kids refl enter on_a.before.order inner exit in
      let from = end_in a.out in
      let last = end_in f.out in
      let node = Around (enter_at text n.HeadingAtx from) kids (exit_at text n.HeadingAtx last) in
      let hash_size : length hashes ≡ size = length-take-le size bytes fits in
      let place : AtEnding ending left ≡ to =
      ap (λ (l : LineRest). AtEnding l.beside.ending left) here_is ∙ ap (AtEnding laid.0.beside.ending) laid.3.1 ∙ sym laid.7 in
      subst (λ p. WritesLeaf on names text top (page.Heading rank is) [] p old new) place
      (record {
        before = white.quiet.nodes;
        are_quiet = white.quiet.quiet;
        node = node;
        spells =
            atx_spells on names text top rank is i j hashes (take m rest) (drop size bytes) t.nodes cl.nodes from last
            (omega (arith, hash_size, size_is, info.some)) (next_parts text b bytes size on_b.before) (omega (arith, is_size, hash_size))
            (λ m m' means. t.spells cl.nodes (cl.none names) m m' means) t.definitions cl.definitions
            (ap (λ (x : ℕ). nat_le 1 x && nat_le x 6) (hash_size ∙ size_is) ∙ info.sized)
            (subst (λ (c : Constructs). c.heading_atx ≡ true) by info.made) t.sound (closing_sound on names text cl.nodes cl.fill);
        writes = writes_both text old.out a.out new.out white.quiet.nodes (one node) white.quiet.writes whole.writes;
        stands = whole.on.at;
        around =
            open_both (standing old) (standing a) (standing new)
            (ap (λ (s : Standing). s.on) white.same, ap (λ (s : Standing). s.outermost) white.same) whole.around;
        written = on_end text ending left new whole.on;
        starts = white.starts;
        begins = white.begins;
        ends = omega (arith, ap (λ (x : End). x.index) exit.1, whole.on.end);
        filled =
            filled_up Lines Plain n.HeadingAtx node refl
            (atx_fill text i j hashes (take m rest) t.nodes cl.nodes (omega (arith, hash_size, size_is, info.some)) t.fill (cl.fill t.fill.rest t.fill.ends));
      })
