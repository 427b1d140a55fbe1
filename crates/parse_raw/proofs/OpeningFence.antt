-- What is written of an opening fence, step by step (CommonMark 4.5).
use Rattle.std.proofs.Common.{◌≡◌, ℕ, ◌+◌, ◌^◌, ◌<◌, Bool, true, false, ◌&&◌, List, [], ◌∷◌, ◌++◌, Option, None, eqb, refl, sym, ap, subst}
use Rattle.std.proofs.Common.{◌∙◌, drop, take, length, arith, get_or}
use Rattle.parse_raw.proofs.Prelude.{after_run, AreNames, AreNext, Around, AtEnding, cond-false, Constructs, cut, End, end_at, end_in, ends_line, enter_at}
use Rattle.parse_raw.proofs.Prelude.{Enters, exit_at, Exits, fence_name, FenceNames, indent, info_in, is_nil, is_white, IsBefore, IsCharBoundary, IsInOrder}
use Rattle.parse_raw.proofs.Prelude.{IsRawName, IsUtf8, LeadsTo, length-take-le, LineEnding, LineRest, list_any, Name, named, Names, Node, one}
use Rattle.parse_raw.proofs.Prelude.{prefix_len-le-length, run, same_name, Standing, standing, StandsAt, take-append-drop, trim, Walk, Writes, writes_around}
use Rattle.parse_raw.proofs.Prelude.{WritesUpTo, written_to}
use Rattle.engine_events.specs.declared.event.Name.TheVariants as n
use Rattle.parse_raw.proofs.Prelude.{all_prefix, fence_marks}
use Rattle.event_tokens.specs.Tokens.{is_among}
use Rattle.event_grammar.specs.declared.slot.Form.TheVariants.{Plain}
use Rattle.event_grammar.specs.Grammar.{row}
use Rattle.parse_raw.specs.FenceParts.{BeginsBare, fence_slots, meta_slots, WritesFenceOf}
use Rattle.parse_lines.proofs.Runs.{run_fits}
use Rattle.parse_raw.proofs.Runs.{sequence_fits}
use Rattle.parse_raw.proofs.Tokens.{run_some}
use Rattle.parse_raw.proofs.FenceParts.{all_part, dark_both, parts_after, parts_both, run_boundary, token_part, trim_parts}
use Rattle.parse_raw.proofs.FenceRows.{fence_filled, fence_sound, fence_stops, mark_some, meta_stops, sequence_fills, sequence_row, space_fills, trim_begins}

pub sequence_other : (fence : FenceNames) (math : Bool) → AreNames math fence → (same_name fence.sequence n.CodeFencedFenceInfo ≡ false) × IsRawName fence.sequence
sequence_other fence true are = subst (λ (name : Name). (same_name name n.CodeFencedFenceInfo ≡ false) × IsRawName name) (sym are.sequence) (refl, record { no_data = refl; no_definition = refl; no_code = refl; no_math = refl; unasked = refl })
sequence_other fence false are = subst (λ (name : Name). (same_name name n.CodeFencedFenceInfo ≡ false) × IsRawName name) (sym are.sequence) (refl, record { no_data = refl; no_definition = refl; no_code = refl; no_math = refl; unasked = refl })

pub fence_is : (fence : FenceNames) (math : Bool) → AreNames math fence
    → (fence.fence ≡ fence_name math) × (same_name fence.fence n.Data ≡ false) × (same_name fence.fence n.Definition ≡ false)
fence_is fence true are = subst (λ (name : Name). (name ≡ n.MathFlowFence) × (same_name name n.Data ≡ false) × (same_name name n.Definition ≡ false)) (sym are.fence) (refl, refl, refl)
fence_is fence false are = subst (λ (name : Name). (name ≡ n.CodeFencedFence) × (same_name name n.Data ≡ false) × (same_name name n.Definition ≡ false)) (sym are.fence) (refl, refl, refl)

-- an event is entered
pub before_entered : {A : Type 0} (text : List ℕ) (ending : Option LineEnding) (left : List LineRest) (bytes : List ℕ) (a b : Walk A) → IsBefore text ending left bytes a
    → IsInOrder text b.out → standing b ≡ standing a → written_to b ≡ written_to a → IsBefore text ending left bytes b
before_entered text ending left bytes a b before order same at =
    let line_end = ap (λ (s : Standing). s.line_end) same in
    record {
      stands = subst (StandsAt text (AtEnding ending left)) (sym same) before.stands;
      order = order;
      whole = ap (λ (e : End). e.owed) at ∙ before.whole;
      next = subst (λ (e : End). AreNext text e bytes) (sym at) before.next;
      end = omega (arith, ap (λ (e : End). e.index) at, before.end, line_end);
      dark = before.dark;
    }

module _ {A : Type 0} (on : Constructs) (names : Names) (fence : FenceNames) (math : Bool) (byte : ℕ) (text : List ℕ) (ending : Option LineEnding)
    (left : List LineRest) where
  pub fence_written : (bare rest trimmed : List ℕ) (size white : ℕ) (a b c d e f g : Walk A) → AreNames math fence
      → is_among (fence_marks math) byte ≡ true → byte < 128 → get_or bare 0 0 ≡ byte → IsUtf8 bare → IsBefore text ending left bare a
      → Enters text fence.fence a.out b.out → standing b ≡ standing a → written_to b ≡ written_to a
      → size ≡ run byte bare → standing c ≡ standing b
      → ((written_to b).index + size < 2 ^ 64 → written_to c ≡ end_at ((written_to b).index + size) 0)
      → ((written_to b).index + size < 2 ^ 64 → WritesUpTo fence.sequence (end_at ((written_to b).index + size) 0) b c)
      → (IsCharBoundary bare size → rest ≡ drop size bare) → white ≡ indent rest → standing d ≡ standing c
      → ((written_to c).index + white < 2 ^ 64 → written_to d ≡ end_at ((written_to c).index + white) 0)
      → ((written_to c).index + white < 2 ^ 64 → WritesUpTo n.SpaceOrTab (end_at ((written_to c).index + white) 0) c d)
      → trimmed ≡ trim rest
      → ((math : Bool) (tail : List ℕ) → AreNames math fence → list_any ends_line trimmed ≡ false → BeginsBare trimmed
      → LeadsTo on names (info_in math on names trimmed) (fence_slots math) (meta_slots math trimmed) (trimmed ++ tail) tail d e)
      → standing f ≡ standing e → written_to f ≡ end_at e.line_end 0 → WritesUpTo n.SpaceOrTab (end_at e.line_end 0) e f
      → (IsInOrder text f.out → Exits text fence.fence f.out g.out) → standing g ≡ standing f → written_to g ≡ written_to f
      → WritesFenceOf on names math byte bare text ending left a g
  fence_written bare rest trimmed size white a b c d e f g are mark ascii marked utf8 before enters same_b end_b size_is same_c end_c token_c rests white_is
      same_d end_d token_d trim_is info same_f end_f all_f exits same_g end_g =
      let before_b = before_entered text ending left bare a b before enters.order same_b end_b in
      let rest_is : rest ≡ after_run byte bare =
      rests (subst (IsCharBoundary bare) (sym size_is) (run_boundary bare byte utf8 ascii)) ∙ ap (λ (k : ℕ). drop k bare) size_is in
      let seq = sequence_other fence math are in
      let count : size ≡ length (take size bare) =
      sym (length-take-le size bare (omega (arith, size_is, prefix_len-le-length (λ (x : ℕ). eqb x byte) bare))) in
      let bare_is : take size bare ++ rest ≡ bare =
      ap (λ (xs : List ℕ). take size bare ++ xs) (rest_is ∙ ap (λ (k : ℕ). drop k bare) (sym size_is)) ∙ take-append-drop size bare in
      let own = row (fence_name math) Plain in
      let slots = fence_slots math in
      let last_slots = meta_slots math trimmed in
      let has = sequence_row fence math are in
      let some : 0 < size = omega (arith, size_is, run_some bare byte (mark_some math byte bare mark marked) (sym marked)) in
      let sequence = sequence_fits fence math (take size bare) are (run_fits (fence_marks math) byte bare size mark some (omega (arith, size_is))) in
      let first = subst (λ (xs : List ℕ). LeadsTo on names None own slots xs rest b c) bare_is (
      token_part on names fence.sequence own slots (take size bare) rest size b c
      (sequence_fills fence.sequence size own slots some seq.1.no_data has.opening has.void) seq.1 seq.0 sequence count same_c end_c token_c
      ) in
      let parts = trim_parts rest in
      let tail = parts.0 in
      let rest_parts : take white rest ++ (trimmed ++ tail) ≡ rest =
      ap (λ (k : ℕ). take k rest ++ (trimmed ++ tail)) white_is ∙ ap (λ (xs : List ℕ). take (indent rest) rest ++ (xs ++ tail)) trim_is ∙ sym parts.1 in
      let white_count : white ≡ length (take white rest) =
      sym (length-take-le white rest (omega (arith, white_is, prefix_len-le-length is_white rest))) in
      let second = subst (λ (xs : List ℕ). LeadsTo on names None slots slots xs (trimmed ++ tail) c d) rest_parts (
      token_part on names n.SpaceOrTab slots slots (take white rest) (trimmed ++ tail) white c d (space_fills white slots (fence_stops math).space)
      (record { no_data = refl; no_definition = refl; no_code = refl; no_math = refl; unasked = refl }) refl
      (all_prefix is_white white rest (omega (arith, white_is))) white_count
      same_d end_d token_d
      ) in
      let dark_rest = (dark_both (take size bare) rest (ap (list_any ends_line) bare_is ∙ before.dark)).1 in
      let dark_trim = (dark_both trimmed tail (dark_both (take white rest) (trimmed ++ tail) (ap (list_any ends_line) rest_parts ∙ dark_rest)).1).0 in
      let third = info math tail are dark_trim (subst BeginsBare (sym trim_is) (trim_begins rest)) in
      let last = all_part on names n.SpaceOrTab last_slots last_slots tail e f (space_fills (length tail) last_slots (meta_stops math trimmed).space)
      (record { no_data = refl; no_definition = refl; no_code = refl; no_math = refl; unasked = refl }) refl parts.2 same_f end_f all_f in
      let found = info_in math on names trimmed in
      let all = parts_both on names found own slots last_slots bare rest [] b c f first (
      parts_both on names found slots slots last_slots rest (trimmed ++ tail) [] c d f second
      (parts_after on names found slots last_slots last_slots (trimmed ++ tail) tail [] d e f third last)) in
      let done = all text ending left before_b in
      let exited = exits done.writes.order in
      let is = fence_is fence math are in
      let node = Around (enter_at text fence.fence (end_in a.out)) done.nodes (exit_at text fence.fence (end_in f.out)) in
      let alone : cut node ≡ one node = cond-false (same_name fence.fence n.Data && is_nil done.nodes) _ _ (ap (λ (t : Bool). t && is_nil done.nodes) is.1) in
      record {
        node = node;
        named_so = is.0;
        info = done.found ∙ ap (λ (xs : List ℕ). info_in math on names xs) (trim_is ∙ ap trim rest_is);
        definitions =
            ap (λ (ns : List Node). ns ++ [])
            (cond-false (same_name fence.fence n.Definition) (node ∷ named n.Definition done.nodes) (named n.Definition done.nodes) is.2 ∙ done.raw.definitions);
        writes = subst (Writes text a.out g.out) alone (writes_around text a.out b.out f.out g.out fence.fence done.nodes enters done.writes exited);
        around = (
          ap (λ (s : Standing). s.on) same_g ∙ done.around.0 ∙ ap (λ (s : Standing). s.on) same_b,
          ap (λ (s : Standing). s.outermost) same_g ∙ done.around.1 ∙ ap (λ (s : Standing). s.outermost) same_b,
        );
        before = before_entered text ending left [] f g done.before exited.order same_g end_g;
        filled = fence_filled math node last_slots is.0 done.fill (meta_stops math trimmed).ends;
        sound = fence_sound on names text math node is.0 done.sound;
      }
