-- What is written of the check of a task list item (GFM 5.3).
use Rattle.std.proofs.Common.{inl, inr, ◌≡◌, ℕ, Bool, true, false, List, [], ◌∷◌, ◌++◌, None, Some, is_some, refl, sym, ap, ap₂, subst, ◌∙◌}
use Rattle.std.proofs.Common.{append_assoc, drop, take, length, arith}
use Rattle.std.specs.Prelude.{if◌then◌else◌, slice_index, ◌||◌}
use Rattle.std.proofs.lemmas.Bool.{or_cases, or_right, true≢false}
use Rattle.std.proofs.lemmas.Bool.Decides.{nat_tests}
use Rattle.definition_text.specs.Columns.{is_white}
use Rattle.definition_text.specs.Content.{is_space}
use Rattle.markdown_options.specs.declared.line_ending.LineEnding.TheVariants as endings
use Rattle.event_tokens.specs.Tokens.{fits, is_among, is_token, Ending as EndingForm, Most}
use Rattle.parse_inline.proofs.Prelude.{and_parts, Anywhere, append, append-nil, AreBytes, ArePartsAlike, ArePlain, AreQuiet, Around, begins_with_eol}
use Rattle.parse_inline.proofs.Prelude.{cases_Bool, codes_split, cond-false, cond-true, Cons, Constructs, content_codes, contents_around, contents_both}
use Rattle.parse_inline.proofs.Prelude.{default_constructs, drop-append_seam, End, end_in, Ending, ending_bytes, ending_step, ends_line, enter_at}
use Rattle.parse_inline.proofs.Prelude.{EntersInLine, eqb-true, exit_at, ExitsInLine, is_eol, is_listed, IsApart, IsWhole, Leaf, leaves, length-append}
use Rattle.parse_inline.proofs.Prelude.{bytes_drop, kids_of}
use Rattle.parse_inline.proofs.Prelude.{line_bytes, line_ending_code, line_enters, line_exits, LineEnding, list_any, Name, Names, Nil, no_ends, Node}
use Rattle.parse_inline.proofs.Prelude.{node_name, Nodes, one, or_from, or_parts, part, plain_both, plain_none, plain_one, plain_quiet, ReadsEnding}
use Rattle.parse_inline.proofs.Prelude.{same_codes, same_name, sought_names, standing, StandsInContent, StandsInLine, Stop, take-append_seam, the_type, token}
use Rattle.parse_inline.proofs.Prelude.{Walk, WritesEndingIn, WritesFront, WritesText, ◌==◌}
use Rattle.std.specs.Prelude.{◌&&◌}
use denote.Enum.Bare.{true_same}
use Rattle.engine_events.specs.declared.event.Name.TheVariants as n
use Rattle.definition_inline.specs.GfmTaskListItem.{check_of, is_apart, is_done}
use Rattle.definition_inline.specs.Inline.{TaskCheck}
use Rattle.event_grammar.specs.declared.slot.Between.{Between}
use Rattle.event_grammar.specs.declared.slot.Between.TheVariants.{Lines}
use Rattle.event_grammar.specs.declared.slot.Form.TheVariants.{Plain}
use Rattle.event_grammar.specs.Grammar.{row, text_row}
use Rattle.parse_slots.specs.Left.{Fill, IsFilled, MayEndLines}
use Rattle.parse_slots.proofs.Steps.{fill_both, fill_taken, filled_void, may_both, may_lines}
use Rattle.parse_references.proofs.Sound.{sound_filled, sound_one}
use Rattle.parse_lines.proofs.Quiet.{quiet_fill}
use Rattle.parse_strings.proofs.Fills.{token_taken}
use Rattle.parse_output.specs.Children.{may_hold}
use Rattle.event_meaning.specs.Children.{child}
use Rattle.inline_leaves.specs.GfmTaskListItem.{IsAfterCheck}
use Rattle.parse_inline.specs.Checks.{IsValueOf, WritesValue, bracket_slots, value_slots}
use Rattle.parse_inline.specs.Leaves.{check_name}
use Rattle.parse_inline.proofs.Fills.{filled_around}
use Rattle.parse_inline.proofs.Fronts.{WritesNext, token_in}
use Rattle.parse_inline.proofs.LeavesAlike.{leaf_alike}
use Rattle.parse_inline.proofs.LineEnds.{ending_any}
use Rattle.parse_inline.proofs.RawSpans.{cut_before}
use Rattle.parse_inline.proofs.RawTexts.{dark_whole}

-- whether a value is among quiet nodes, and what follows them
none_quiet : (ns ms : Nodes) → AreQuiet ns → child n.GfmTaskListItemValueChecked (append ns ms) ≡ child n.GfmTaskListItemValueChecked ms
none_quiet Nil ms are = refl
none_quiet (Cons node ns) ms (inl is, are) =
    cond-false (same_name (node_name node) n.GfmTaskListItemValueChecked) (Some node) _ (ap (λ x. same_name x n.GfmTaskListItemValueChecked) is.0)
    ∙ none_quiet ns ms are
none_quiet (Cons node ns) ms (inr is, are) =
    cond-false (same_name (node_name node) n.GfmTaskListItemValueChecked) (Some node) _ (ap (λ x. same_name x n.GfmTaskListItemValueChecked) is.0)
    ∙ none_quiet ns ms are

-- the check is that of its value
checked_is : (done : Bool) (node last : Node) (quiet : Nodes) → node_name node ≡ check_name done → AreQuiet quiet → node_name last ≡ n.GfmTaskListItemMarker
    → is_some (child n.GfmTaskListItemValueChecked (append (Cons node quiet) (one last))) ≡ done
checked_is true node last quiet named are marker =
    ap is_some
    (cond-true (same_name (node_name node) n.GfmTaskListItemValueChecked) (Some node) (child n.GfmTaskListItemValueChecked (append quiet (one last)))
    (true_same the_type (node_name node) n.GfmTaskListItemValueChecked named))
checked_is false node last quiet named are marker =
    ap is_some
    (cond-false (same_name (node_name node) n.GfmTaskListItemValueChecked) (Some node) (child n.GfmTaskListItemValueChecked (append quiet (one last)))
    (ap (λ x. same_name x n.GfmTaskListItemValueChecked) named)
    ∙ none_quiet quiet (one last) are
    ∙ cond-false (same_name (node_name last) n.GfmTaskListItemValueChecked) (Some last) None (ap (λ x. same_name x n.GfmTaskListItemValueChecked) marker))

pub check_holds : (done : Bool) → may_hold n.GfmTaskListItemCheck (check_name done) ≡ true
unfolding may_hold
check_holds true = refl
check_holds false = refl

value_data : (done : Bool) → same_name (check_name done) n.Data ≡ false
value_data true = refl
value_data false = refl

value_prefix : (done : Bool) → same_name (check_name done) n.BlockQuotePrefix ≡ false
value_prefix true = refl
value_prefix false = refl

value_sought : (done : Bool) → is_listed sought_names (check_name done) ≡ false
value_sought true = refl
value_sought false = refl

-- the row of a check takes it
value_taken : (around : Between) (done : Bool) (node : Node) → node_name node ≡ check_name done → kids_of node ≡ Nil
    → Fill around value_slots (one node) bracket_slots
value_taken around true node is none =
    fill_taken around value_slots n.GfmTaskListItemValueChecked Plain bracket_slots node is refl
    (filled_void around Plain n.GfmTaskListItemValueChecked node is none refl)
value_taken around false node is none =
    fill_taken around value_slots n.GfmTaskListItemValueUnchecked Plain bracket_slots node is refl
    (filled_void around Plain n.GfmTaskListItemValueUnchecked node is none refl)

-- a byte between the brackets, and a line ending
value_may : (done : Bool) (byte : ℕ) → is_eol byte ≡ false → is_done byte ≡ Some done → is_token (check_name done) (byte ∷ []) ≡ true
value_may done byte dark is = elim (cases_Bool (is_space byte)) [
  | inl space ↦
      let white : is_white byte ≡ true = elim (or_cases (is_white byte) (is_eol byte) space) [
        | inl w ↦ w
        | inr e ↦ absurd (true≢false (sym e ∙ dark))
      ] in
      let open_item : done ≡ false = let made : Some false ≡ Some done =
      sym (cond-true (is_space byte) (Some false) (if (byte == 120) || (byte == 88) then Some true else None) space) ∙ is in cc in
      ap (λ (d : Bool). is_token (check_name d) (byte ∷ [])) open_item
      ∙ or_right (fits EndingForm (byte ∷ [])) (fits (Most 1 is_white) (byte ∷ [])) (ap (λ (w : Bool). w && true) white)
  | inr other ↦ elim (cases_Bool ((byte == 120) || (byte == 88))) [
    | inl x ↦
        let made : Some true ≡ Some done =
        sym (cond-false (is_space byte) (Some false) (if (byte == 120) || (byte == 88) then Some true else None) other
        ∙ cond-true ((byte == 120) || (byte == 88)) (Some true) None x) ∙ is in
        let closed_item : done ≡ true = cc in
        let among : is_among (120 ∷ 88 ∷ []) byte ≡ true = grind (arith, nat_tests, x) in
        ap (λ (d : Bool). is_token (check_name d) (byte ∷ [])) closed_item ∙ ap (λ (s : Bool). s && true) among
    | inr none ↦
        let made : None ≡ Some done =
        sym (cond-false (is_space byte) (Some false) (if (byte == 120) || (byte == 88) then Some true else None) other
        ∙ cond-false ((byte == 120) || (byte == 88)) (Some true) None none) ∙ is in
        absurd cc
  ]
]

ending_value_may : (done : Bool) (ending : LineEnding) → is_done (line_ending_code ending) ≡ Some done
    → is_token (check_name done) (ending_bytes ending) ≡ true
ending_value_may false endings.LineFeed is = refl
ending_value_may false endings.CarriageReturn is = refl
ending_value_may false endings.CarriageReturnLineFeed is = refl
ending_value_may true endings.LineFeed is = absurd cc
ending_value_may true endings.CarriageReturn is = absurd cc
ending_value_may true endings.CarriageReturnLineFeed is = absurd cc

module _ {A : Type 0} (names : Names) (text : List ℕ) (stop : Stop) where
  -- one byte
  pub value_byte : (a b : Walk A) (done : Bool) (name : Name) (byte : ℕ) (content : List ℕ) → name ≡ check_name done → ends_line byte ≡ false
      → is_token (check_name done) (byte ∷ []) ≡ true → StandsInContent text (byte ∷ content) stop a → IsWhole a → standing b ≡ standing a → WritesNext text name 1 a b
      → WritesValue text done (byte ∷ []) content stop a b
  value_byte a b done name byte content is dark may st whole same written =
      let t =
      token_in names text stop a b name (byte ∷ []) content 1 refl (omega arith) (or_from (ends_line byte) false dark refl)
      (ap (λ x. same_name x n.Data) is ∙ value_data done)
      (ap (λ x. same_name x n.BlockQuotePrefix) is ∙ value_prefix done)
      (ap (λ x. is_token x (byte ∷ [])) is ∙ may) st whole same written in
      let node = token text name (end_in a.out).index 1 in
      record {
        node = node;
        named = is;
        plain = plain_one node (ap (is_listed sought_names) is ∙ value_sought done) plain_none;
        quiet = Nil;
        are_quiet = tt;
        writes = t.writes;
        fill = λ around may. value_taken around done node is refl;
      }

  -- a line ending
  pub value_ending : (a b : Walk A) (done : Bool) (name : Name) (ending : LineEnding) (content : List ℕ) → name ≡ check_name done
      → WritesEndingIn text name ending content stop a b → WritesValue text done (ending_bytes ending) content stop a b
  value_ending a b done name ending content is w = record {
    node = w.node;
    named = w.named ∙ is;
    plain = plain_one w.node (ap (is_listed sought_names) (w.named ∙ is) ∙ value_sought done) (subst ArePlain (sym w.empty) plain_none);
    quiet = w.quiet;
    are_quiet = w.are_quiet;
    writes = w.writes;
    fill = λ around may.
        subst (λ (b : Between). Fill b value_slots (Cons w.node w.quiet) bracket_slots)
        (sym (may_lines around (ending_bytes ending) (ap (list_any ends_line) (sym (append-nil (ending_bytes ending))) ∙ ending_any ending []) may))
        (fill_both (value_taken Lines done w.node (w.named ∙ is) w.empty) (quiet_fill bracket_slots w.quiet refl refl w.are_quiet));
  }

  pub check_front : (on : Constructs) (a b c d e f : Walk A) (done : Bool) (value content : List ℕ) → StandsInContent text (91 ∷ (value ++ 93 ∷ content)) stop a → IsWhole a
      → standing b ≡ standing a → ((line : List ℕ) → StandsInLine text line a → EntersInLine text n.GfmTaskListItemCheck line a b) → standing c ≡ standing b
      → WritesNext text n.GfmTaskListItemMarker 1 b c
      → (StandsInContent text (value ++ 93 ∷ content) stop c → IsWhole c → WritesValue text done value (93 ∷ content) stop c d) → standing e ≡ standing d
      → WritesNext text n.GfmTaskListItemMarker 1 d e → standing f ≡ standing e
      → ((line : List ℕ) → StandsInLine text line e → ExitsInLine text n.GfmTaskListItemCheck line e f)
      → WritesFront on names text (91 ∷ (value ++ 93 ∷ [])) content Anywhere (TaskCheck done ∷ []) stop a f
  check_front on a b c d e f done value content st whole same_b enters same_c first valued same_e second same_f exits =
      let front = 91 ∷ (value ++ 93 ∷ []) in
      let all : 91 ∷ (value ++ 93 ∷ content) ≡ front ++ content = ap (λ xs. 91 ∷ xs) (sym (append_assoc value (93 ∷ []) content)) in
      let entered = line_enters text stop a b n.GfmTaskListItemCheck (front ++ content) (subst (λ xs. StandsInContent text xs stop a) all st) same_b enters in
      let t = token_in names text stop b c n.GfmTaskListItemMarker (91 ∷ []) ((value ++ 93 ∷ []) ++ content) 1 refl (omega arith) refl refl refl refl entered.stands
      (ap (λ (x : End). x.owed) entered.end ∙ whole) same_c first in
      let v = valued (subst (λ xs. StandsInContent text xs stop c) (append_assoc value (93 ∷ []) content) t.writes.stands) t.whole in
      let u = token_in names text stop d e n.GfmTaskListItemMarker (93 ∷ []) content 1 refl (omega arith) refl refl refl refl v.writes.stands
      (dark_whole text 93 content stop d refl v.writes.stands) same_e second in
      let exited = line_exits text stop e f n.GfmTaskListItemCheck content u.writes.stands same_f exits in
      let t_node = token text n.GfmTaskListItemMarker (end_in b.out).index 1 in
      let u_node = token text n.GfmTaskListItemMarker (end_in d.out).index 1 in
      let ns = Cons v.node v.quiet in
      let kids = append (one t_node) (append ns (one u_node)) in
      let inner = contents_both text stop c d e value (93 ∷ []) content ns (one u_node) v.writes u.writes in
      let kids_written = contents_both text stop b c e (91 ∷ []) (value ++ 93 ∷ []) content (one t_node) (append ns (one u_node)) t.writes inner in
      let node = Around (enter_at text n.GfmTaskListItemCheck (end_in a.out)) kids (exit_at text n.GfmTaskListItemCheck (end_in e.out)) in
      let filled : (around : Between) → MayEndLines around value → IsFilled around Plain node =
      λ around inside.
      filled_around around Plain n.GfmTaskListItemCheck (row n.GfmTaskListItemCheck Plain) [] value node refl refl refl refl inside
      (fill_both (token_taken around (row n.GfmTaskListItemCheck Plain) n.GfmTaskListItemMarker value_slots text (end_in b.out).index 1 refl refl)
      (fill_both (v.fill around inside) (token_taken around bracket_slots n.GfmTaskListItemMarker [] text (end_in d.out).index 1 refl refl))) refl in
      record {
        nodes = one node;
        writes = contents_around text stop a b e f n.GfmTaskListItemCheck front content kids entered kids_written exited refl;
        whole = ap (λ (x : End). x.owed) exited.end ∙ u.whole;
        plain =
            plain_one node refl
            (plain_both (one t_node) (append ns (one u_node)) (plain_one t_node refl plain_none)
            (plain_both ns (one u_node) (plain_both (one v.node) v.quiet v.plain (plain_quiet v.quiet v.are_quiet)) (plain_one u_node refl plain_none)));
        spells = λ linked may. ap (λ t. leaves (TaskCheck t ∷ [])) (checked_is done v.node u_node v.quiet v.named v.are_quiet refl);
        fill = λ around may.
            fill_taken around text_row n.GfmTaskListItemCheck Plain text_row node refl refl
            (filled around (may_both around value (93 ∷ []) (may_both around (91 ∷ []) (value ++ 93 ∷ []) may).1).0);
        sound = sound_one on names text node (sound_filled on names text 2 Lines Plain n.GfmTaskListItemCheck node refl refl (filled Lines tt));
      }

-- ---- where a check is

-- what is before the same bytes is the same
before_same : (xs ys rest : List ℕ) → xs ++ rest ≡ ys ++ rest → xs ≡ ys
before_same xs ys rest is =
    let size : length xs ≡ length ys = omega (arith, ap length is, length-append xs rest, length-append ys rest) in
    sym (take-append_seam xs rest) ∙ ap₂ (λ k (zs : List ℕ). take k zs) size is ∙ take-append_seam ys rest

drop_front : (front rest bytes : List ℕ) → bytes ≡ front ++ rest → AreBytes bytes → AreBytes rest
drop_front front rest bytes is small = subst AreBytes (ap (drop (length front)) is ∙ drop-append_seam front rest) (bytes_drop (length front) bytes small)

-- one code that ends no line
one_byte : (bs : List ℕ) (c : ℕ) → is_eol c ≡ false → content_codes bs ≡ c ∷ [] → bs ≡ c ∷ []
one_byte bs c dark is = sym (line_bytes bs (ap (list_any is_eol) is ∙ or_from (is_eol c) false dark refl)) ∙ is

record CheckCodes (cs : List ℕ) (done : Bool) : Type 0 where
  mark : ℕ
  is : is_done mark ≡ Some done
  others : List ℕ
  whole : cs ≡ 91 ∷ mark ∷ 93 ∷ others

check_codes : (cs : List ℕ) (done : Bool) → check_of cs ≡ Some done → CheckCodes cs done
check_codes [] done is = absurd cc
check_codes (a ∷ []) done is = absurd cc
check_codes (a ∷ b ∷ []) done is = absurd cc
check_codes (a ∷ b ∷ c ∷ cs) done is = elim (cases_Bool ((a == 91) && ((c == 93) && is_apart cs))) [
  | inl holds ↦
      let first = and_parts (a == 91) ((c == 93) && is_apart cs) holds in
      let last = and_parts (c == 93) (is_apart cs) first.1 in
      record {
        mark = b;
        is = sym (cond-true ((a == 91) && ((c == 93) && is_apart cs)) (is_done b) None holds) ∙ is;
        others = cs;
        whole = ap₂ (λ x y. x ∷ b ∷ y ∷ cs) (eqb-true a 91 first.0) (eqb-true c 93 last.0);
      }
  | inr fails ↦
      let none : None ≡ Some done = sym (cond-false ((a == 91) && ((c == 93) && is_apart cs)) (is_done b) None fails) ∙ is in
      absurd cc
]

-- a check in bytes: its brackets, and what is between them
record CheckBytes (done : Bool) (front after : List ℕ) : Type 0 where
  value : List ℕ
  mark : ℕ
  is : is_done mark ≡ Some done
  codes : content_codes value ≡ mark ∷ []
  front_is : front ≡ 91 ∷ (value ++ 93 ∷ [])

check_bytes : (bytes front after : List ℕ) (done : Bool) → AreBytes bytes → bytes ≡ front ++ after → check_of (content_codes bytes) ≡ Some done
    → IsAfterCheck bytes after
    → CheckBytes done front after
check_bytes bytes front after done small is check behind =
    let codes = check_codes (content_codes bytes) done check in
    let a = codes_split (91 ∷ []) (codes.mark ∷ 93 ∷ codes.others) bytes codes.whole in
    let b = codes_split (codes.mark ∷ []) (93 ∷ codes.others) a.after a.last in
    let c = codes_split (93 ∷ []) codes.others b.after b.last in
    let first : a.front ≡ 91 ∷ [] = one_byte a.front 91 refl a.first in
    let third : c.front ≡ 93 ∷ [] = one_byte c.front 93 refl c.first in
    let small_a = drop_front a.front a.after bytes a.parts small in
    let small_b = drop_front b.front b.after a.after b.parts small_a in
    let small_c = drop_front c.front c.after b.after c.parts small_b in
    let left : content_codes after ≡ codes.others =
    behind.after.codes ∙ ap (λ k. drop k (content_codes bytes)) behind.size ∙ ap (drop 3) codes.whole in
    let same : c.after ≡ after = same_codes c.after after small_c (drop_front front after bytes is small) (c.last ∙ sym left) in
    let whole : bytes ≡ (91 ∷ (b.front ++ 93 ∷ [])) ++ after =
    a.parts
    ∙ ap₂ (λ (xs ys : List ℕ). xs ++ ys) first (b.parts ∙ ap (λ xs. b.front ++ xs) (c.parts ∙ ap₂ (λ (xs ys : List ℕ). xs ++ ys) third same))
    ∙ ap (λ xs. 91 ∷ xs) (sym (append_assoc b.front (93 ∷ []) after)) in
    record { value = b.front; mark = codes.mark; is = codes.is; codes = b.first; front_is = before_same front (91 ∷ (b.front ++ 93 ∷ [])) after (sym is ∙ whole) }

module _ {A : Type 0} (names : Names) (text : List ℕ) (stop : Stop) where
  -- the value is a line ending, or a byte
  pub value_read : (a b : Walk A) (done : Bool) (name : Name) (bytes value content : List ℕ) (found : Ending) → name ≡ check_name done → AreBytes bytes
      → IsValueOf done bytes value content → ReadsEnding bytes found → StandsInContent text bytes stop a
      → ((ending : LineEnding) → found.size ≡ length (ending_bytes ending) → IsApart ending content → same_name name n.Data ≡ false
      → same_name name n.BlockQuotePrefix ≡ false → is_token name (ending_bytes ending) ≡ true
      → StandsInContent text (ending_bytes ending ++ content) stop a
      → WritesEndingIn text name ending content stop a b)
      → WritesValue text done value content stop a b
  value_read a b done name bytes value content found is small of reads st written =
      let step = ending_step default_constructs names bytes found small reads in
      let eb = ending_bytes found.ending in
      let cut : content_codes (value ++ content) ≡ of.mark ∷ content_codes content =
      subst (λ xs. content_codes (value ++ xs) ≡ of.mark ∷ content_codes xs) (sym of.bracket)
      (cut_before value 93 of.others refl ∙ ap (λ cs. cs ++ content_codes (93 ∷ of.others)) of.codes) in
      let both : line_ending_code found.ending ∷ content_codes (drop found.size bytes) ≡ of.mark ∷ content_codes content =
      sym reads.codes ∙ ap content_codes of.parts ∙ cut in
      let left : content_codes (drop found.size bytes) ≡ content_codes content = ap (drop 1) both in
      let rest : drop found.size bytes ≡ content =
      same_codes (drop found.size bytes) content (bytes_drop found.size bytes small) (drop_front value content bytes of.parts small) left in
      let parts : bytes ≡ eb ++ content = step.parts ∙ ap (λ xs. eb ++ xs) rest in
      let value_is : eb ≡ value = before_same eb value content (sym parts ∙ of.parts) in
      subst (λ xs. WritesValue text done xs content stop a b) value_is
      (value_ending names text stop a b done name found.ending content is
      (written found.ending step.is (subst (IsApart found.ending) rest step.apart) (ap (λ x. same_name x n.Data) is ∙ value_data done)
      (ap (λ x. same_name x n.BlockQuotePrefix) is ∙ value_prefix done)
      (ap (λ x. is_token x (ending_bytes found.ending)) is
      ∙ ending_value_may done found.ending (ap (λ cs. is_done (slice_index cs 0)) both ∙ of.is))
      (subst (λ xs. StandsInContent text xs stop a) parts st)))

  pub value_other : (a b : Walk A) (done : Bool) (name : Name) (bytes value content : List ℕ) → name ≡ check_name done → IsValueOf done bytes value content
      → begins_with_eol (content_codes bytes) ≡ false → StandsInContent text bytes stop a → IsWhole a → standing b ≡ standing a → WritesNext text name 1 a b
      → WritesValue text done value content stop a b
  value_other a b done name bytes value content is of dark st whole same written =
      let cut : content_codes (value ++ content) ≡ of.mark ∷ content_codes content =
      subst (λ xs. content_codes (value ++ xs) ≡ of.mark ∷ content_codes xs) (sym of.bracket)
      (cut_before value 93 of.others refl ∙ ap (λ cs. cs ++ content_codes (93 ∷ of.others)) of.codes) in
      let plain : is_eol of.mark ≡ false = ap begins_with_eol (sym (ap content_codes of.parts ∙ cut)) ∙ dark in
      let value_is : value ≡ of.mark ∷ [] = one_byte value of.mark plain of.codes in
      let ends : ends_line of.mark ≡ false =
      (or_parts (ends_line of.mark) false (no_ends (of.mark ∷ []) (or_from (is_eol of.mark) false plain refl))).0 in
      subst (λ xs. WritesValue text done xs content stop a b) (sym value_is)
      (value_byte names text stop a b done name of.mark content is ends (value_may done of.mark plain of.is)
      (subst (λ xs. StandsInContent text xs stop a) (of.parts ∙ ap (λ xs. xs ++ content) value_is) st) whole same written)

  -- a check that bytes begin with
  pub check_written : (a b c d e f : Walk A) (on : Constructs) (done : Bool) (bytes later front after : List ℕ) → AreBytes bytes → bytes ≡ front ++ after
      → check_of (content_codes bytes) ≡ Some done → IsAfterCheck bytes after → later ≡ drop 1 bytes → StandsInContent text bytes stop a → IsWhole a
      → standing b ≡ standing a → ((line : List ℕ) → StandsInLine text line a → EntersInLine text n.GfmTaskListItemCheck line a b) → standing c ≡ standing b
      → WritesNext text n.GfmTaskListItemMarker 1 b c
      → ((value content : List ℕ) → IsValueOf done later value content → StandsInContent text later stop c → IsWhole c
      → WritesValue text done value content stop c d)
      → standing e ≡ standing d → WritesNext text n.GfmTaskListItemMarker 1 d e → standing f ≡ standing e
      → ((line : List ℕ) → StandsInLine text line e → ExitsInLine text n.GfmTaskListItemCheck line e f)
      → WritesText on names text front (part (Leaf (TaskCheck done))) after stop a f × IsWhole f
  check_written a b c d e f on done bytes later front after small is check behind later_is st whole same_b enters same_c first valued same_e second same_f exits =
      let p = check_bytes bytes front after done small is check behind in
      let all : bytes ≡ 91 ∷ (p.value ++ 93 ∷ after) =
      is ∙ ap (λ xs. xs ++ after) p.front_is ∙ ap (λ xs. 91 ∷ xs) (append_assoc p.value (93 ∷ []) after) in
      let next : later ≡ p.value ++ 93 ∷ after = later_is ∙ ap (drop 1) all in
      let of : IsValueOf done later p.value (93 ∷ after) = record { mark = p.mark; is = p.is; parts = next; codes = p.codes; others = after; bracket = refl } in
      let w = check_front names text stop on a b c d e f done p.value after (subst (λ xs. StandsInContent text xs stop a) all st) whole same_b enters same_c first
      (λ here outside. valued p.value (93 ∷ after) of (subst (λ xs. StandsInContent text xs stop c) (sym next) here) outside) same_e second same_f exits in
      let here = subst (λ xs. WritesFront on names text xs after Anywhere (TaskCheck done ∷ []) stop a f) (sym p.front_is) w in (
        record {
          nodes = here.nodes;
          writes = here.writes;
          spells = λ m m' alike.
              subst (ArePartsAlike m m' (part (Leaf (TaskCheck done)))) (sym (here.spells false tt))
              (leaf_alike m m' (TaskCheck done) (leaves (TaskCheck done ∷ [])) refl);
          plain = here.plain;
          fill = here.fill;
          sound = here.sound;
        },
        here.whole,
      )
