-- What is written of a fence, step by step (CommonMark 4.5).
use Rattle.std.proofs.Common.{◌≡◌, ℕ, suc, ◌+◌, ◌-◌, ◌^◌, ◌<◌, ◌≤◌, Bool, true, false, not, cond, ◌||◌, List, [], ◌∷◌, ◌++◌, Option, None, Some, eqb, inl}
use Rattle.std.proofs.Common.{inr, refl, sym, ap, ap₂, subst, ◌∙◌}
use Rattle.std.proofs.Common.{drop, take, get_or, length, length-append, arith}
use Rattle.parse_raw.proofs.Prelude.{after_bytes, append, append-nil, AreNext, AtEnding, cases_Bool, child, cond-false, cond-true, Cons, Constructs, End}
use Rattle.parse_raw.proofs.Prelude.{end_after, end_at, end_in, ends_line, eqb-true, Follows, indent, info_by, info_of, is_space, is_white, IsBefore}
use Rattle.parse_raw.proofs.Prelude.{IsCharBoundary, IsPartOf, IsRawName, IsUtf8, LeadsTo, LineEnding, LineRest, list_any, Name, Names, ne_eqb, next_after}
use Rattle.parse_raw.proofs.Prelude.{Nil, Node, node_name, Nodes, or_parts, position_or_len, prefix_len-le-length, prefix_len_passes, run, same_name, Standing}
use Rattle.parse_raw.proofs.Prelude.{standing, StandsAt, take-append-drop, trim, void_nodes, Walk, writes_both, writes_none, WritesPart, WritesUpTo}
use Rattle.parse_raw.proofs.Prelude.{written_to}
use Rattle.parse_raw.proofs.Prelude.{is_token, list_all, text_between}
use Rattle.std.specs.List.{suffix_len}
use Rattle.std.proofs.lemmas.List.Folds.{list_any-append}
use Rattle.std.proofs.lemmas.List.Sums.{passes_at_first}
use Rattle.engine_events.specs.declared.event.Name.TheVariants as n
use Rattle.event_grammar.specs.declared.slot.Between.TheVariants.{Spaces}
use Rattle.event_grammar.specs.declared.slot.Form.TheVariants.{Plain}
use Rattle.event_grammar.specs.declared.slot.Slot.{Slot}
use Rattle.event_grammar.specs.Slots.{take_child}
use Rattle.parse_slots.specs.Left.{took}
use Rattle.parse_slots.proofs.Steps.{fill_both, fill_none}
use Rattle.parse_references.proofs.Sound.{sound_both}
use Rattle.text_bytes.proofs.Ascii.{boundary_after, boundary_before, space_ascii}
use Rattle.parse_lines.proofs.Bytes.{whole_between}
use Rattle.parse_raw.specs.FenceParts.{after_string}
use Rattle.parse_raw.proofs.FenceRows.{FillsToken, part_fill}
use Rattle.parse_raw.proofs.Bytes.{suffix_passes}
use Rattle.parse_raw.proofs.LeafNodes.{line_in_text}
use Rattle.parse_raw.proofs.Nodes.{child_append, raw_append, raw_none, raw_void, sound_void, void_cases}
use Rattle.parse_raw.proofs.Tokens.{index_follows}

or_false : (t : Bool) → (t || false) ≡ t
or_false true = refl
or_false false = refl

-- ---- where a text may be cut

pub run_boundary : (xs : List ℕ) (byte : ℕ) → IsUtf8 xs → byte < 128 → IsCharBoundary xs (run byte xs)
run_boundary xs byte utf8 ascii =
    boundary_after xs (run byte xs) utf8 (prefix_len-le-length (λ (b : ℕ). eqb b byte) xs) (λ k is.
    let same = eqb-true (get_or xs k 0) byte (prefix_len_passes (λ (b : ℕ). eqb b byte) xs k 0 (omega (arith, is))) in
    omega (arith, same, ascii))

pub white_boundary : (xs : List ℕ) → IsUtf8 xs → ((k : ℕ) → get_or xs k 0 < 256) → IsCharBoundary xs (indent xs)
white_boundary xs utf8 bytes =
    boundary_after xs (indent xs) utf8 (prefix_len-le-length is_white xs) (λ k is.
    space_ascii (get_or xs k 0) (bytes k) (prefix_len_passes is_white xs k 0 (omega (arith, is))))

pub word_boundary : (xs : List ℕ) → ((k : ℕ) → get_or xs k 0 < 256) → IsCharBoundary xs (position_or_len is_white xs)
word_boundary xs bytes =
    let n = position_or_len is_white xs in
    boundary_before xs n (prefix_len-le-length (λ (b : ℕ). not (is_white b)) xs) (λ lt. space_ascii (get_or xs n 0) (bytes n) (passes_at_first is_white xs 0 lt))

no_eol : (b : ℕ) → eqb b 10 ≡ false → eqb b 13 ≡ false → eqb b 257 ≡ false → is_space b ≡ is_white b
no_eol b feed return both =
    ap₂ (λ (x y : Bool). is_white b || (x || y)) (ap₂ (λ (x y : Bool). x || y) feed return) both ∙ or_false (is_white b)

-- in a line, spaces and tabs alone end a word
pub word_same : (xs : List ℕ) → list_any ends_line xs ≡ false → ((k : ℕ) → get_or xs k 0 < 256) → position_or_len is_space xs ≡ position_or_len is_white xs
word_same [] dark bytes = refl
word_same (b ∷ bs) dark bytes =
    let parts = or_parts (ends_line b) (list_any ends_line bs) dark in
    let eol = or_parts (eqb b 10) (eqb b 13) parts.0 in
    let byte : b < 256 = bytes 0 in
    let one : is_space b ≡ is_white b = no_eol b eol.0 eol.1 (ne_eqb b 257 (λ e. omega (arith, byte, e))) in
    let more = word_same bs parts.1 (λ k. bytes (suc k)) in
    ap₂ (λ (t : Bool) (k : ℕ). cond (not t) (1 + k) 0) one more

-- ---- the parts of a text

pub dark_both : (xs ys : List ℕ) → list_any ends_line (xs ++ ys) ≡ false → (list_any ends_line xs ≡ false) × (list_any ends_line ys ≡ false)
dark_both xs ys dark = or_parts (list_any ends_line xs) (list_any ends_line ys) (sym (list_any-append ends_line xs ys) ∙ dark)

-- what is trimmed, and white space before and behind it
pub trim_parts : (xs : List ℕ) → (tail : List ℕ) × (xs ≡ take (indent xs) xs ++ (trim xs ++ tail)) × (list_all is_white tail ≡ true)
trim_parts xs =
    let rest = drop (indent xs) xs in
    let count = length rest - suffix_len is_white rest in (
      drop count rest,
      sym (take-append-drop (indent xs) xs) ∙ ap (λ (ys : List ℕ). take (indent xs) xs ++ ys) (sym (take-append-drop count rest)),
      suffix_passes is_white rest,
    )

-- ---- in a walk

info_none : (names : Names) (text : List ℕ) (o : Option Node) → info_of names text o ≡ None → o ≡ None
info_none names text None is = refl
info_none names text (Some node) is = absurd (cc)

module _ (names : Names) where
  found_first : (text : List ℕ) (info : Option (List ℕ)) (ns ms : Nodes) → info_of names text (child n.CodeFencedFenceInfo ns) ≡ info
      → info_of names text (child n.CodeFencedFenceInfo ms) ≡ None → info_of names text (child n.CodeFencedFenceInfo (append ns ms)) ≡ info
  found_first text info Nil ms first second = second ∙ first
  found_first text info (Cons node ns) ms first second =
      let name = same_name (node_name node) n.CodeFencedFenceInfo in
      elim (cases_Bool name) [
        | inl h ↦
            ap (info_of names text) (cond-true name (Some node) (child n.CodeFencedFenceInfo (append ns ms)) h)
            ∙ ap (info_of names text) (sym (cond-true name (Some node) (child n.CodeFencedFenceInfo ns) h)) ∙ first
        | inr h ↦
            ap (info_of names text) (cond-false name (Some node) (child n.CodeFencedFenceInfo (append ns ms)) h)
            ∙ found_first text info ns ms (ap (info_of names text) (sym (cond-false name (Some node) (child n.CodeFencedFenceInfo ns) h)) ∙ first) second
      ]

  info_found : (text : List ℕ) (on : Constructs) (string : List ℕ) (ns : Nodes) → IsPartOf on names text n.CodeFencedFenceInfo string ns
      → info_of names text (child n.CodeFencedFenceInfo ns) ≡ info_by on names string
  info_found text on [] ns is = ap (λ (ms : Nodes). info_of names text (child n.CodeFencedFenceInfo ms)) is
  info_found text on (b ∷ bs) ns is =
      let same : same_name (node_name is.0) n.CodeFencedFenceInfo ≡ true = ap (λ (x : Name). same_name x n.CodeFencedFenceInfo) is.2 in
      ap (λ (ms : Nodes). info_of names text (child n.CodeFencedFenceInfo ms)) is.1
      ∙ ap (info_of names text) (cond-true (same_name (node_name is.0) n.CodeFencedFenceInfo) (Some is.0) None same) ∙ ap Some is.3

  other_found : (text : List ℕ) (on : Constructs) (name : Name) (string : List ℕ) (ns : Nodes) → same_name name n.CodeFencedFenceInfo ≡ false
      → IsPartOf on names text name string ns → info_of names text (child n.CodeFencedFenceInfo ns) ≡ None
  other_found text on name [] ns other is = ap (λ (ms : Nodes). info_of names text (child n.CodeFencedFenceInfo ms)) is
  other_found text on name (b ∷ bs) ns other is =
      let apart : same_name (node_name is.0) n.CodeFencedFenceInfo ≡ false = ap (λ (x : Name). same_name x n.CodeFencedFenceInfo) is.2 ∙ other in
      ap (λ (ms : Nodes). info_of names text (child n.CodeFencedFenceInfo ms)) is.1
      ∙ ap (info_of names text) (cond-false (same_name (node_name is.0) n.CodeFencedFenceInfo) (Some is.0) None apart)

module _ {A : Type 0} (on : Constructs) (names : Names) where
  -- nothing
  pub parts_none : (slots : List Slot) (bytes : List ℕ) (w : Walk A) → LeadsTo on names None slots slots bytes bytes w w
  parts_none slots bytes w text ending left before = record {
    nodes = Nil;
    writes = writes_none text w.out before.order;
    raw = raw_none;
    found = refl;
    around = (refl, refl);
    before = before;
    fill = fill_none Spaces slots;
    sound = tt;
  }

  -- parts without an info, and then others
  pub parts_both : (info : Option (List ℕ)) (slots mid more : List Slot) (xs ys zs : List ℕ) (a b c : Walk A) → LeadsTo on names None slots mid xs ys a b
      → LeadsTo on names info mid more ys zs b c → LeadsTo on names info slots more xs zs a c
  parts_both info slots mid more xs ys zs a b c first second text ending left before =
      let one = first text ending left before in
      let two = second text ending left one.before in
      record {
        nodes = append one.nodes two.nodes;
        writes = writes_both text a.out b.out c.out one.nodes two.nodes one.writes two.writes;
        raw = raw_append one.nodes two.nodes one.raw two.raw;
        found =
            ap (info_of names text) (child_append n.CodeFencedFenceInfo one.nodes two.nodes (info_none names text (child n.CodeFencedFenceInfo one.nodes) one.found))
            ∙ two.found;
        around = (two.around.0 ∙ one.around.0, two.around.1 ∙ one.around.1);
        before = two.before;
        fill = fill_both one.fill two.fill;
        sound = sound_both on names text one.nodes two.nodes one.sound two.sound;
      }

  -- an info, and then parts without one
  pub parts_after : (info : Option (List ℕ)) (slots mid more : List Slot) (xs ys zs : List ℕ) (a b c : Walk A) → LeadsTo on names info slots mid xs ys a b
      → LeadsTo on names None mid more ys zs b c → LeadsTo on names info slots more xs zs a c
  parts_after info slots mid more xs ys zs a b c first second text ending left before =
      let one = first text ending left before in
      let two = second text ending left one.before in
      record {
        nodes = append one.nodes two.nodes;
        writes = writes_both text a.out b.out c.out one.nodes two.nodes one.writes two.writes;
        raw = raw_append one.nodes two.nodes one.raw two.raw;
        found = found_first names text info one.nodes two.nodes one.found two.found;
        around = (two.around.0 ∙ one.around.0, two.around.1 ∙ one.around.1);
        before = two.before;
        fill = fill_both one.fill two.fill;
        sound = sound_both on names text one.nodes two.nodes one.sound two.sound;
      }

  -- an event that holds no other
  pub token_part : (name : Name) (slots more : List Slot) (front rest : List ℕ) (size : ℕ) (a b : Walk A) → FillsToken name size slots more → IsRawName name
      → same_name name n.CodeFencedFenceInfo ≡ false
      → is_token name front ≡ true → size ≡ length front → standing b ≡ standing a
      → ((written_to a).index + size < 2 ^ 64 → written_to b ≡ end_at ((written_to a).index + size) 0)
      → ((written_to a).index + size < 2 ^ 64 → WritesUpTo name (end_at ((written_to a).index + size) 0) a b)
      → LeadsTo on names None slots more (front ++ rest) rest a b
  token_part name slots more front rest size a b fills raw other may count same ends writes text ending left before =
      let i = (end_in a.out).index in
      let at : end_in a.out ≡ end_at i 0 = ap (end_at i) before.whole in
      let sizes = length-append front rest in
      let within = line_in_text text (standing a) before.stands.line in
      let size_text = before.stands.line.over.fits in
      let fits : i + size < 2 ^ 64 = omega (arith, sizes, before.end, within, size_text, count) in
      let to = end_at (i + size) 0 in
      let reach : i + size ≤ length text = omega (arith, sizes, before.end, within, count) in
      let follows : Follows text (end_in a.out) to =
      subst (λ (e : End). Follows text e to) (sym at) (index_follows text i (i + size) (omega arith) reach) in
      let there : end_after (end_in a.out) (length front) ≡ to =
      ap (λ (e : End). end_after e (length front)) at ∙ after_bytes i (length front) ∙ ap (λ (k : ℕ). end_at (i + k) 0) (sym count) in
      let between : text_between text (end_in a.out) to ≡ front =
      ap (text_between text (end_in a.out)) (sym there) ∙ whole_between text (end_in a.out) front rest before.whole before.next in
      let done = writes fits text before.order (record { follows = follows; bytes = λ apart. ap (is_token name) between ∙ may }) in
      let reached : end_after (end_in a.out) (length front) ≡ end_in b.out = there ∙ sym (ends fits) in
      let index = ap (λ (e : End). e.index) (ends fits) in
      let line_end = ap (λ (s : Standing). s.line_end) same in
      record {
        nodes = void_nodes text name (end_in a.out) to;
        writes = done;
        raw = raw_void text name (end_in a.out) to raw;
        found =
            void_cases (λ (ns : Nodes). info_of names text (child n.CodeFencedFenceInfo ns) ≡ None) text name (end_in a.out) to raw.no_data (λ h. refl)
            (λ h. ap (info_of names text) (cond-false (same_name name n.CodeFencedFenceInfo) _ _ other));
        around = (ap (λ (s : Standing). s.on) same, ap (λ (s : Standing). s.outermost) same);
        before = record {
          stands = subst (StandsAt text (AtEnding ending left)) (sym same) before.stands;
          order = done.order;
          whole = ap (λ (e : End). e.owed) (ends fits);
          next = subst (λ (e : End). AreNext text e rest) reached (next_after text front rest (end_in a.out) before.next);
          end = omega (arith, index, sizes, before.end, line_end, count);
          dark = (dark_both front rest before.dark).1;
        };
        fill = fills text (end_in a.out);
        sound = sound_void on names text name (end_in a.out) to raw.no_data raw.unasked;
      }

  -- all that is left
  pub all_part : (name : Name) (slots more : List Slot) (bytes : List ℕ) (a b : Walk A) → FillsToken name (length bytes) slots more → IsRawName name
      → same_name name n.CodeFencedFenceInfo ≡ false → is_token name bytes ≡ true
      → standing b ≡ standing a → written_to b ≡ end_at a.line_end 0 → WritesUpTo name (end_at a.line_end 0) a b
      → LeadsTo on names None slots more bytes [] a b
  all_part name slots more bytes a b fills raw other may same ends writes text ending left before =
      let i = (end_in a.out).index in
      let there : a.line_end ≡ i + length bytes = sym before.end in
      let ends_there : written_to b ≡ end_at (i + length bytes) 0 = ends ∙ ap (λ (k : ℕ). end_at k 0) there in
      let writes_there = subst (λ (k : ℕ). WritesUpTo name (end_at k 0) a b) there writes in
      token_part name slots more bytes [] (length bytes) a b fills raw other may refl same (λ fits. ends_there) (λ fits. writes_there) text ending left
      (subst (λ (xs : List ℕ). IsBefore text ending left xs a) (sym (append-nil bytes)) before)

  -- a string, as the info of code or as something else
  pub info_part : (slots more : List Slot) (string rest : List ℕ) (a b : Walk A)
      → take_child slots n.CodeFencedFenceInfo ≡ Some (took Plain more)
      → ((text : List ℕ) (ending : Option LineEnding) (left : List LineRest) → IsBefore text ending left (string ++ rest) a
      → WritesPart on names text ending left n.CodeFencedFenceInfo string rest a b)
      → LeadsTo on names (info_by on names string) slots (after_string string slots more) (string ++ rest) rest a b
  info_part slots more string rest a b takes writes text ending left before =
      let done = writes text ending left before in
      record {
        nodes = done.nodes;
        writes = done.writes;
        raw = done.raw;
        found = info_found names text on string done.nodes done.is_part;
        around = done.around;
        before = done.before;
        fill = part_fill names text on n.CodeFencedFenceInfo slots more string done.nodes (λ some. takes) done.is_part;
        sound = done.sound;
      }

  pub other_part : (name : Name) (slots more : List Slot) (string rest : List ℕ) (a b : Walk A) → same_name name n.CodeFencedFenceInfo ≡ false
      → (0 < length string → take_child slots name ≡ Some (took Plain more))
      → ((text : List ℕ) (ending : Option LineEnding) (left : List LineRest) → IsBefore text ending left (string ++ rest) a
      → WritesPart on names text ending left name string rest a b)
      → LeadsTo on names None slots (after_string string slots more) (string ++ rest) rest a b
  other_part name slots more string rest a b other takes writes text ending left before =
      let done = writes text ending left before in
      record {
        nodes = done.nodes;
        writes = done.writes;
        raw = done.raw;
        found = other_found names text on name string done.nodes other done.is_part;
        around = done.around;
        before = done.before;
        fill = part_fill names text on name slots more string done.nodes takes done.is_part;
        sound = done.sound;
      }
