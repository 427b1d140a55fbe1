-- The underline of a heading, as it is written (CommonMark 4.3).
use Rattle.std.proofs.Common.{◌≡◌, ℕ, ◌<◌, ◌≤◌, List, [], ◌∷◌, ◌++◌, refl, sym, ap, ◌∙◌, subst, length, get_or, take, drop, arith}
use Rattle.parse_leaves.proofs.Prelude.{all_on, append, AreNext, Around, around_on, bare, bare_end, bytes_of, end_at, end_in, enter_at, EnterCall, entered_on}
use Rattle.parse_leaves.proofs.Prelude.{exit_at, ExitCall, IsInOrder, IsOnLine, IsWrittenToRest, length-take-le, LineRest, named, named_both, next_parts, Node}
use Rattle.parse_leaves.proofs.Prelude.{Nodes, on_end, on_line_both, one, rest_of, run, some_on, Standing, standing, StandsAt, take-append-drop, text_in}
use Rattle.parse_leaves.proofs.Prelude.{ToCall, token_text, TokenCall, tokens, Walk, white_ahead, Within, writes_both, WritesUnderline, written_to}
use Rattle.parse_leaves.proofs.Prelude.{is_white}
use Rattle.std.proofs.Common.{true}
use Rattle.std.specs.List.{list_all}
use Rattle.std.specs.Prelude.{codes}
use Rattle.event_tokens.specs.Tokens.{is_among}
use Rattle.parse_lines.proofs.Runs.{run_fits}
use Rattle.parse_leaves.specs.Entered.{AreUnderline}
use Rattle.engine_events.specs.declared.event.Name.TheVariants as n
use Rattle.event_grammar.specs.declared.slot.Between.TheVariants.{Lines}
use Rattle.event_grammar.specs.declared.slot.Form.TheVariants.{Plain}
use Rattle.parse_slots.proofs.Steps.{filled_by}
use Rattle.parse_leaves.proofs.Fills.{underline_fill}
use Rattle.parse_leaves.proofs.TextLeaves.{open_both}
use Rattle.parse_raw.proofs.Tokens.{run_some}

-- the bytes of the sequence
sequence_in : (text : List ℕ) (index : ℕ) (front line : List ℕ) (ms : Nodes) → 0 < length front → AreNext text (end_at index 0) (front ++ line)
    → text_in text n.HeadingSetextUnderlineSequence (append (tokens text n.HeadingSetextUnderlineSequence index front) ms) ≡ front
sequence_in text index [] line ms some next = absurd (omega (arith, some))
sequence_in text index (b ∷ bs) line ms some next = token_text text n.HeadingSetextUnderlineSequence index (b ∷ bs) line next

sequence_named : (text : List ℕ) (index : ℕ) (front : List ℕ) → named n.Definition (tokens text n.HeadingSetextUnderlineSequence index front) ≡ []
sequence_named text index [] = refl
sequence_named text index (b ∷ bs) = refl

pub space_named : (text : List ℕ) (index : ℕ) (front : List ℕ) → named n.Definition (tokens text n.SpaceOrTab index front) ≡ []
space_named text index [] = refl
space_named text index (b ∷ bs) = refl

first_of_front : (front line : List ℕ) → 0 < length front → get_or front 0 0 ≡ get_or (front ++ line) 0 0
first_of_front [] line some = absurd (omega (arith, some))
first_of_front (b ∷ bs) line some = refl

pub named_pair : (ns ms : Nodes) → named n.Definition ns ≡ [] → named n.Definition ms ≡ [] → named n.Definition (append ns ms) ≡ []
named_pair ns ms p q = named_both n.Definition ns ms ∙ ap (λ (ds : List Node). ds ++ named n.Definition ms) p ∙ q

module _ {A : Type 0} (text : List ℕ) where
  pub underline_written : (old a b c d new : Walk A) (here : LineRest) (left : List LineRest) (bytes : List ℕ) (size marker : ℕ)
      → ToCall n.SpaceOrTab (bare_end old) old a → bytes ≡ bytes_of (bare (rest_of old.rest)) → EnterCall text n.HeadingSetextUnderline a b
      → marker ≡ get_or bytes 0 0 → size ≡ run marker bytes → size ≤ length bytes → TokenCall n.HeadingSetextUnderlineSequence size b c
      → ToCall n.SpaceOrTab (end_at c.line_end 0) c d → ExitCall text n.HeadingSetextUnderline d new
      → StandsAt text (Within here left) (standing old) → IsWrittenToRest old → IsInOrder text old.out → 0 < length (bytes_of (bare here.rest))
      → AreUnderline (bytes_of (bare here.rest)) → WritesUnderline text here left old new
  underline_written old a b c d new here left bytes size marker to_bare is_bytes enter is_marker is_size fits token to_end exit at at_rest order some are =
      let ending = here.beside.ending in
      let white = white_ahead text old a here left at at_rest order to_bare.0 to_bare.1 to_bare.2 in
      let all : bytes ≡ bytes_of (bare here.rest) = is_bytes ∙ ap (λ r. bytes_of (bare r)) at.rest in
      let on_a : IsOnLine text ending left bytes a = subst (λ bs. IsOnLine text ending left bs a) (sym all) white.on in
      let on_b = entered_on text ending left a b n.HeadingSetextUnderline bytes enter on_a in
      let front = take size bytes in
      let rest = drop size bytes in
      let i = (written_to b).index in
      let j = (written_to c).index in
      let sequence = tokens text n.HeadingSetextUnderlineSequence i front in
      let space = tokens text n.SpaceOrTab j rest in
      let own : AreUnderline bytes = subst AreUnderline (sym all) are in
      let blank : list_all is_white rest ≡ true =
      ap (λ (k : ℕ). list_all is_white (drop k bytes)) (is_size ∙ ap (λ (x : ℕ). run x bytes) is_marker) ∙ own.1 in
      let runs = λ (size_some : 0 < size).
      run_fits (codes "=-") marker bytes size (ap (is_among (codes "=-")) is_marker ∙ own.0) size_some (omega (arith, is_size)) in
      let first = some_on text ending left b c n.HeadingSetextUnderlineSequence bytes size refl runs fits token on_b in
      let last = all_on text ending left c d n.SpaceOrTab rest refl blank to_end first.on in
      let kids = on_line_both text ending left rest [] sequence space b c d first last in
      let whole = around_on text ending left a b d new n.HeadingSetextUnderline [] (append sequence space) refl enter on_a.before.order kids exit in
      let node = Around (enter_at text n.HeadingSetextUnderline (end_in a.out)) (append sequence space) (exit_at text n.HeadingSetextUnderline (end_in d.out)) in
      let some_bytes : 0 < length bytes = omega (arith, some, ap length all) in
      let some_front : 0 < length front = omega (arith, length-take-le size bytes fits, is_size, run_some bytes marker some_bytes is_marker) in
      record {
        before = white.quiet.nodes;
        are_quiet = white.quiet.quiet;
        node = node;
        is_underline = refl;
        marker =
            ap (λ bs. get_or bs 0 0) (sequence_in text i front rest space some_front (next_parts text b bytes size on_b.before))
            ∙ first_of_front front rest some_front ∙ ap (λ bs. get_or bs 0 0) (take-append-drop size bytes ∙ all);
        definitions =
            ap (λ (ds : List Node). ds ++ []) (named_pair sequence space (sequence_named text i front) (space_named text j rest));
        filled = filled_by Lines Plain n.HeadingSetextUnderline [] node refl (underline_fill text i j front rest some_front) refl;
        writes = writes_both text old.out a.out new.out white.quiet.nodes (one node) white.quiet.writes whole.writes;
        at = whole.on.at;
        written = on_end text ending left new whole.on;
        around =
            open_both (standing old) (standing a) (standing new)
            (ap (λ (s : Standing). s.on) white.same, ap (λ (s : Standing). s.outermost) white.same) whole.around;
      }
