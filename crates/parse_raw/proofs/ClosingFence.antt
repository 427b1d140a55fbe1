-- What is written of fenced code and math that are closed, step by step (CommonMark 4.5).
use Rattle.std.proofs.Common.{◌≡◌, ℕ, ◌+◌, ◌-◌, ◌^◌, ◌<◌, ◌≤◌, Bool, true, false, ◌&&◌, List, [], ◌∷◌, ◌++◌, Option, Some, refl, sym, ap, subst, ◌∙◌, append_assoc, flat_map, length, arith}
use Rattle.parse_raw.proofs.Prelude.{append-nil, AreLeavesAlike, AreNames, Around, at_ending, AtEnding, bare, BlockLine, bytes_of, chunk_name, chunk_parts}
use Rattle.parse_raw.proofs.Prelude.{code_parts, cond-false, cut, end_at, end_in, end_part, EndPart, enter_at, Enters, exit_at, Exits, fenced_lines}
use Rattle.parse_raw.proofs.Prelude.{FenceNames, info_by, info_text, is_nil, IsInOrder, IsWrittenToRest, last_ending_or, LineEnding, LineRest, Meaning, named}
use Rattle.parse_raw.proofs.Prelude.{Node, one, parts_after, raw_lines_are_alike, RawPart, Reading, rest_of, same_name, Standing, standing, StandsAt, Walk}
use Rattle.parse_raw.proofs.Prelude.{Within, Writes, writes_around, WritesUpTo, written_to}
use Rattle.parse_raw.proofs.Prelude.{AreClosing, fence_marks, fence_name, is_white, list_all, prefix_len-le-length, Rest, run}
use Rattle.std.proofs.Common.{drop, eqb, get_or, take}
use Rattle.engine_events.specs.declared.event.Name.TheVariants as n
use Rattle.definition_page.specs.Page as page
use Rattle.event_grammar.specs.declared.slot.Form.TheVariants.{Closing}
use Rattle.event_grammar.specs.Grammar.{row}
use Rattle.definition_page.specs.Read.{code_lines}
use Rattle.parse_raw.specs.FenceParts.{WritesClosingOf}
use Rattle.parse_raw.proofs.FencedCode.{has_some}
use Rattle.parse_raw.proofs.LeafNodes.{white_written}
use Rattle.parse_raw.proofs.OpeningFence.{fence_is, sequence_other}
use Rattle.parse_raw.proofs.RawBlocks.{line_parts}
use Rattle.parse_lines.proofs.Runs.{run_fits}
use Rattle.parse_raw.proofs.Runs.{sequence_fits}
use Rattle.parse_raw.proofs.FenceRows.{closing_filled, mark_some, sequence_row}
use Rattle.parse_raw.proofs.FilledTokens.{filled_both, token_filled, white_filled}
use Rattle.parse_raw.proofs.Tokens.{left_none, left_same, run_some}

module _ {A : Type 0} (math : Bool) (fence_names : FenceNames) (text : List ℕ) where
  pub closing_written : (here : LineRest) (left : List LineRest) (size : ℕ) (bytes : List ℕ) (old a b c d e : Walk A) → AreNames math fence_names
      → StandsAt text (Within here left) (standing old) → IsWrittenToRest old → IsInOrder text old.out → AreClosing math (bytes_of (bare here.rest))
      → standing a ≡ standing old → written_to a ≡ end_at (old.line_end - length (bytes_of (bare (rest_of old.rest)))) 0
      → WritesUpTo n.SpaceOrTab (end_at (old.line_end - length (bytes_of (bare (rest_of old.rest)))) 0) old a → bytes ≡ bytes_of (bare (rest_of old.rest))
      → (IsInOrder text a.out → Enters text fence_names.fence a.out b.out) → standing b ≡ standing a → written_to b ≡ written_to a
      → size ≡ run (get_or bytes 0 0) bytes → standing c ≡ standing b
      → ((written_to b).index + size < 2 ^ 64 → written_to c ≡ end_at ((written_to b).index + size) 0)
      → ((written_to b).index + size < 2 ^ 64 → WritesUpTo fence_names.sequence (end_at ((written_to b).index + size) 0) b c)
      → standing d ≡ standing c → written_to d ≡ end_at c.line_end 0 → WritesUpTo n.SpaceOrTab (end_at c.line_end 0) c d
      → (IsInOrder text d.out → Exits text fence_names.fence d.out e.out) → standing e ≡ standing d → written_to e ≡ written_to d
      → WritesClosingOf math text here left old e
  closing_written here left size bytes old a b c d e are st at order closing same_a end_a write_a bytes_is enters same_b end_b sized same_c end_c token same_d end_d all exits
      same_e end_e =
      let white = white_written text old a here left st at order same_a end_a write_a in
      let entered = enters white.quiet.writes.order in
      let own = bytes_of (bare (rest_of old.rest)) in
      let here_is : own ≡ bytes_of (bare here.rest) = ap (λ (r : Rest). bytes_of (bare r)) st.rest in
      let first = get_or own 0 0 in
      let is : AreClosing math own = subst (AreClosing math) (sym here_is) closing in
      let run_is : size ≡ run first own = sized ∙ ap (λ (xs : List ℕ). run (get_or xs 0 0) xs) bytes_is in
      let fits_count : size ≤ length own = omega (arith, run_is, prefix_len-le-length (λ (x : ℕ). eqb x first) own) in
      let blank : list_all is_white (drop size own) ≡ true = ap (λ (k : ℕ). list_all is_white (drop k own)) run_is ∙ is.1 in
      let left_b = left_same text own a b white.after entered.order same_b end_b in
      let seq = sequence_other fence_names math are in
      let slots = row (fence_name math) Closing in
      let has = sequence_row fence_names math are in
      let some : 0 < size = omega (arith, run_is, run_some own first (mark_some math first own is.0 refl) refl) in
      let sequence = sequence_fits fence_names math (take size own) are (run_fits (fence_marks math) first own size is.0 some (omega (arith, run_is))) in
      let both = filled_both slots [] [] own (drop size own) [] b c d
      (token_filled fence_names.sequence slots [] own size b c seq.1 some fits_count sequence same_c end_c token has.closing has.void)
      (white_filled [] (drop size own) c d blank same_d end_d all refl) in
      let within = both text left_b in
      let kids = within.tokens in
      let exited = exits kids.writes.order in
      let named_is = fence_is fence_names math are in
      let node = Around (enter_at text fence_names.fence (end_in a.out)) kids.nodes (exit_at text fence_names.fence (end_in d.out)) in
      let alone : cut node ≡ one node =
      cond-false (same_name fence_names.fence n.Data && is_nil kids.nodes) _ _ (ap (λ (t : Bool). t && is_nil kids.nodes) named_is.1) in
      let same = same_e ∙ kids.same ∙ same_b ∙ same_a in
      record {
        space = a;
        quiet = white.quiet;
        node = node;
        named_so = named_is.0;
        definitions =
            ap (λ (ns : List Node). ns ++ [])
            (cond-false (same_name fence_names.fence n.Definition) (node ∷ named n.Definition kids.nodes) (named n.Definition kids.nodes) named_is.2 ∙ kids.raw.definitions);
        writes = subst (Writes text a.out e.out) alone (writes_around text a.out b.out d.out e.out fence_names.fence kids.nodes entered kids.writes exited);
        same = same;
        stands = subst (StandsAt text (AtEnding here.beside.ending left)) (sym same) (at_ending text here left (standing old) st);
        written = end_e ∙ left_none text [] d refl kids.after ∙ ap (λ (s : Standing). end_at s.line_end 0) (sym same_e);
        filled = closing_filled math node [] named_is.0 within.fill refl;
      }

-- ---- what it spells

-- the parts of lines of code, up to the last ending
pub chunk_same : (math : Bool) (line : BlockLine) → line_parts (chunk_name math) line ≡ code_parts line
chunk_same true line = refl
chunk_same false line = refl

pub parts_closed : (math : Bool) (first : Option LineEnding) (ls : List BlockLine)
    → parts_after (chunk_name math) first ls ++ end_part (last_ending_or first ls) ≡ end_part first ++ flat_map code_parts ls
parts_closed math first [] = sym (append-nil (end_part first))
parts_closed math first (line ∷ ls) =
    let own = chunk_parts (chunk_name math) line.codes in
    let more = parts_after (chunk_name math) line.ending ls in
    let last = end_part (last_ending_or line.ending ls) in
    append_assoc (end_part first) (own ++ more) last
    ∙ ap (λ (ps : List RawPart). end_part first ++ ps) (
    append_assoc own more last ∙ ap (λ (ps : List RawPart). own ++ ps) (parts_closed math line.ending ls)
    ∙ sym (append_assoc own (end_part line.ending) (flat_map code_parts ls))
    ∙ ap (λ (ps : List RawPart). ps ++ flat_map code_parts ls) (chunk_same math line)
    )

-- the info that the definition reads is that of the events
pub info_read : (r : Reading) (info : List ℕ) → info_text r info ≡ info_by r.parse.constructs r.tables.names info
info_read r [] = refl
info_read r (b ∷ bs) = refl

closed_lines : (top : Bool) (ls : List BlockLine) → code_lines top true ls ≡ ls
closed_lines true ls = refl
closed_lines false ls = refl

module _ (m m' : Meaning) where
  pub closed_alike : (r : Reading) (top : Bool) (info : List ℕ) (found : Option (List ℕ)) (first : LineEnding) (ls : List BlockLine) (last : LineEnding)
      (parts : List RawPart) → info_text r info ≡ found → parts ≡ EndPart first ∷ flat_map code_parts ls → last_ending_or (Some first) ls ≡ Some last
      → AreLeavesAlike m m' (page.FencedCode (info_text r info) true (code_lines top true ls)) (page.FencedCode found true (fenced_lines false parts))
  closed_alike r top info found first ls last parts same is ends =
      subst (λ (xs : List BlockLine). AreLeavesAlike m m' (page.FencedCode (info_text r info) true xs) (page.FencedCode found true (fenced_lines false parts)))
      (sym (closed_lines top ls)) (
      subst (λ (ps : List RawPart). AreLeavesAlike m m' (page.FencedCode (info_text r info) true ls) (page.FencedCode found true (fenced_lines false ps))) (sym is)
      (same, refl, raw_lines_are_alike.code ls, has_some (Some first) ls last ends)
      )
