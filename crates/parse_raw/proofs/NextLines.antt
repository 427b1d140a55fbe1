-- What is written of the lines of a raw block, one after another (CommonMark 4.4 to 4.6).
use Rattle.std.proofs.Common.{◌≡◌, ℕ, suc, ◌+◌, ◌<◌, Bool, true, false, cond, ◌&&◌, is_some, List, [], ◌∷◌, ◌++◌, Option, None, Some, eqb, inl, inr, refl, sym, ap, ap₂}
use Rattle.std.proofs.Common.{subst, ◌∙◌, ◌≤◌, append_assoc, drop, length, length-append, length-drop, reverse, arith, Result, Ok, Err}
use Rattle.parse_raw.proofs.Prelude.{and_parts, append, append-nil, AreRaw, AreTaken, around, AtEnding, beside_line, Between, block_codes, BlockLine}
use Rattle.parse_raw.proofs.Prelude.{cases_Bool, chunk_parts, codes_first, cond-false, cond-true, Cons, Constructs, Container, End, end_at, end_part}
use Rattle.parse_raw.proofs.Prelude.{ends_in, false≢true, has_codes, HasSameOpen, InAll, is_there, IsChunkName, IsCutLine, IsInOrder}
use Rattle.parse_raw.proofs.Prelude.{IsWrittenToRest, last_ending_or, line_after, line_left, line_rest, LineEnding, LineRest, lines, list_all, Name, nat_tests}
use Rattle.parse_raw.proofs.Prelude.{Nil, Nodes, or_parts, parts_after, PassesLine, prefixed, raw_parts, RawPart, Rest, rest_line, Standing, standing}
use Rattle.parse_raw.proofs.Prelude.{StandsAt, TextLine, unread, void_nodes, Walk, whole, Within, Writes, writes_both, writes_none, WritesCut, WritesCutLines}
use Rattle.parse_raw.proofs.Prelude.{WritesLines, WritesNextLine, written_to, ◌==◌}
use Rattle.std.specs.Prelude.{◌⊎◌}
use Rattle.markdown_options.specs.declared.line_ending.LineEnding.TheVariants.{CarriageReturn, CarriageReturnLineFeed, LineFeed}
use Rattle.std.specs.Result.{OnOk}
use Rattle.markdown_options.specs.declared.beside.Kind.TheVariants.{Whitespace}
use Rattle.engine_events.specs.declared.event.Name.TheVariants as n
use Rattle.event_grammar.specs.declared.slot.Between.TheVariants.{Lines}
use Rattle.event_grammar.specs.declared.slot.Slot.{Slot}
use Rattle.parse_slots.specs.Left.{Fill, TakesNoBetween}
use Rattle.parse_slots.proofs.Steps.{fill_both, fill_none}
use Rattle.parse_slots.proofs.Voids.{void_between}
use Rattle.parse_lines.proofs.Quiet.{quiet_fill}
use Rattle.definition_text.specs.Lines.{after_return, first_of, in_first_line, text_line}
use Rattle.parse_raw.specs.RawLines.{WritesCutLine}
use Rattle.parse_raw.proofs.Bytes.{ending_token, line_ending_fits}
use Rattle.parse_raw.proofs.Endings.{ending_nodes, ending_parts}
use Rattle.event_definition.specs.Containers.{next_line}
use Rattle.event_definition.specs.Written.{Written}
use Rattle.parse_pieces.proofs.Written.{pieces_none}
use Rattle.parse_lines.specs.Pieces.{WritesNextBegun, left_at_ending}
use Rattle.parse_raw.specs.Pieces.{WritesCutPieces, WritesToEnding, cut_lines, next_cut}
use Rattle.parse_raw.proofs.Pieces.{line_then, lines_last, then_written}
use Rattle.parse_raw.proofs.Nodes.{ends_append, quiet_parts, raw_append, raw_none, raw_parts_append, raw_quiet, raw_void}

-- three facts of a call that succeeds
pub all_ok : {T E P Q R S : Type 0} (r : Result T E) → (P → Q → R → S) → OnOk r P → OnOk r Q → OnOk r R → OnOk r S
all_ok (Ok x) f p q h = f p q h
all_ok (Err e) f p q h = tt

-- ---- lines of a text

return_count : (bs : List ℕ) (others : List TextLine) → length (after_return bs others) ≤ length others + 1
return_count [] others = omega arith
return_count (b ∷ bs) others =
    elim (cases_Bool (eqb b 10)) [
      | inl h ↦ let is = ap length (cond-true (eqb b 10) (text_line [] (Some CarriageReturnLineFeed) ∷ drop 1 others) (text_line [] (Some CarriageReturn) ∷ others) h) in omega (arith, is, length-drop 1 others)
      | inr h ↦ let is = ap length (cond-false (eqb b 10) (text_line [] (Some CarriageReturnLineFeed) ∷ drop 1 others) (text_line [] (Some CarriageReturn) ∷ others) h) in omega (arith, is)
    ]

first_count : (b : ℕ) (ls : List TextLine) → length (in_first_line b ls) ≤ length ls + 1
first_count b [] = omega arith
first_count b (x ∷ xs) = omega arith

-- a text has no more lines than bytes
pub lines_count : (text : List ℕ) → length (lines text) ≤ length text
lines_count [] = omega arith
lines_count (b ∷ bs) =
    let more = lines_count bs in
    elim (cases_Bool (eqb b 10)) [
      | inl h ↦ let is = ap length (cond-true (eqb b 10) (text_line [] (Some LineFeed) ∷ lines bs) (cond (eqb b 13) (after_return bs (lines bs)) (in_first_line b (lines bs))) h) in omega (arith, is, more)
      | inr h ↦
          let other = ap length (cond-false (eqb b 10) (text_line [] (Some LineFeed) ∷ lines bs) (cond (eqb b 13) (after_return bs (lines bs)) (in_first_line b (lines bs))) h) in
          elim (cases_Bool (eqb b 13)) [
            | inl k ↦ let is = ap length (cond-true (eqb b 13) (after_return bs (lines bs)) (in_first_line b (lines bs)) k) in omega (arith, other, is, more, return_count bs (lines bs))
            | inr k ↦ let is = ap length (cond-false (eqb b 13) (after_return bs (lines bs)) (in_first_line b (lines bs)) k) in omega (arith, other, is, more, first_count b (lines bs))
          ]
    ]

returned : (bs : List ℕ) (others : List TextLine) → is_some (first_of (after_return bs others)).ending ≡ true
returned [] others = refl
returned (b ∷ bs) others =
    elim (cases_Bool (eqb b 10)) [
      | inl h ↦ ap (λ (ls : List TextLine). is_some (first_of ls).ending) (cond-true (eqb b 10) _ _ h)
      | inr h ↦ ap (λ (ls : List TextLine). is_some (first_of ls).ending) (cond-false (eqb b 10) _ _ h)
    ]

first_size : (b : ℕ) (ls : List TextLine) → 0 < length (first_of (in_first_line b ls)).content
first_size b [] = omega arith
first_size b (x ∷ xs) = omega arith

-- a line without an ending holds something
pub line_some : (text : List ℕ) (l : TextLine) (more : List TextLine) → lines text ≡ l ∷ more → is_some l.ending ≡ false → 0 < length l.content
line_some [] l more is none = absurd (cc)
line_some (b ∷ bs) l more is none =
    elim (cases_Bool (eqb b 10)) [
      | inl h ↦
          absurd (false≢true (sym none ∙ ap (λ (ls : List TextLine). is_some (first_of ls).ending) (sym is ∙ cond-true (eqb b 10) _ _ h)))
      | inr h ↦
          elim (cases_Bool (eqb b 13)) [
            | inl k ↦
                absurd (false≢true (sym none
                ∙ ap (λ (ls : List TextLine). is_some (first_of ls).ending) (sym is ∙ cond-false (eqb b 10) _ _ h ∙ cond-true (eqb b 13) _ _ k)
                ∙ returned bs (lines bs)))
            | inr k ↦
                let size = ap (λ (ls : List TextLine). length (first_of ls).content) (sym is ∙ cond-false (eqb b 10) _ _ h ∙ cond-false (eqb b 13) _ _ k) in
                omega (arith, size, first_size b (lines bs))
          ]
    ]

whole_some : (content : List ℕ) → 0 < length content → 0 < length (whole content)
whole_some [] some = absurd (omega arith)
whole_some (b ∷ bs) some = let size = ap length (codes_first 0 b bs) in omega (arith, size)

unread_some : (ls : List TextLine) (text : List ℕ) (next : LineRest) (others : List LineRest) → lines text ≡ ls → next ∷ others ≡ unread Whitespace ls
    → is_some next.beside.ending ≡ false → 0 < length next.rest
unread_some [] text next others is same none = absurd (cc)
unread_some (l ∷ more) text next others is same none =
    let next_is : next ≡ line_rest (whole l.content) (beside_line Whitespace l) = cc in
    let none_l : is_some l.ending ≡ false = ap (λ (x : LineRest). is_some x.beside.ending) (sym next_is) ∙ none in
    let some = whole_some l.content (line_some text l more is none_l) in
    let size = ap (λ (x : LineRest). length x.rest) next_is in
    omega (arith, some, size)

-- ---- one line more

parts_more : (name : Name) (first : Option LineEnding) (done : List BlockLine) (line : BlockLine)
    → parts_after name first (done ++ line ∷ []) ≡ parts_after name first done ++ (end_part (last_ending_or first done) ++ chunk_parts name line.codes)
parts_more name first [] line = ap (λ (ps : List RawPart). end_part first ++ ps) (append-nil (chunk_parts name line.codes))
parts_more name first (x ∷ done) line =
    let more = end_part (last_ending_or x.ending done) ++ chunk_parts name line.codes in
    let own = chunk_parts name x.codes in
    ap (λ (ps : List RawPart). end_part first ++ (own ++ ps)) (parts_more name x.ending done line)
    ∙ ap (λ (ps : List RawPart). end_part first ++ ps) (sym (append_assoc own (parts_after name x.ending done) more))
    ∙ sym (append_assoc (end_part first) (own ++ parts_after name x.ending done) more)

last_more : (first : Option LineEnding) (done : List BlockLine) (line : BlockLine) → last_ending_or first (done ++ line ∷ []) ≡ line.ending
last_more first [] line = refl
last_more first (x ∷ done) line = last_more x.ending done line

all_more : (done : List BlockLine) (line : BlockLine) → list_all is_there done ≡ true → is_there line ≡ true → list_all is_there (done ++ line ∷ []) ≡ true
all_more [] line all is = ap (λ (t : Bool). t && true) is
all_more (x ∷ done) line all is =
    let parts = and_parts (is_there x) (list_all is_there done) all in
    ap₂ (λ (t u : Bool). t && u) parts.0 (all_more done line parts.1 is)

pub none_unread : (next : LineRest) (others : List LineRest) (text : List ℕ) → text ≡ [] → next ∷ others ≡ unread Whitespace (lines text) → ⊥
none_unread next others text none is = let nothing = is ∙ ap (λ (xs : List ℕ). unread Whitespace (lines xs)) none in absurd (cc)

no_ending : (ending : Option LineEnding) → is_some ending ≡ false → ending ≡ None
no_ending None is = refl
no_ending (Some ending) is = absurd (false≢true (sym is))

ends_any : (before : Bool) (ns : Nodes) → ends_in n.SpaceOrTab false ns ≡ true → ends_in n.SpaceOrTab before ns ≡ true
ends_any before Nil is = absurd (false≢true is)
ends_any before (Cons node ns) is = is

-- ---- in a walk

-- The ending of a line is written, and nothing that spells anything on the next one.
pub record WritesNext {A : Type 0} (text : List ℕ) (ending : Option LineEnding) (here : LineRest) (left : List LineRest) (a b : Walk A) : Type 0 where
  pub nodes : Nodes
  pub writes : Writes text a.out b.out nodes
  pub raw : AreRaw nodes
  pub parts : raw_parts text nodes ≡ end_part ending
  pub stands : StandsAt text (Within here left) (standing b)
  pub written : IsWrittenToRest b
  pub fill : (slots : List Slot) → TakesNoBetween slots → Fill Lines slots nodes slots

module _ {A : Type 0} (text : List ℕ) where
  pub next_written : (a b : Walk A) (ending : Option LineEnding) (next : LineRest) (others : List LineRest)
      → StandsAt text (AtEnding ending (next ∷ others)) (standing a) → written_to a ≡ end_at a.line_end 0 → IsInOrder text a.out
      → PassesLine (standing a) (standing b) → WritesNextLine a b
      → WritesNext text ending (line_left (prefixed a.on.now (around (standing a)) next)) others a b
  next_written a b ending next others st at order passes writes =
      let to = line_after a in
      let done = writes text ending next others st order (ending_token text n.LineEnding a line_ending_fits st.line at) in
      let first = void_nodes text n.LineEnding (written_to a) to in
      let is : void_nodes text n.LineEnding (end_at a.line_end 0) to ≡ first = ap (λ (e : End). void_nodes text n.LineEnding e to) (sym at) in
      let are = ending_nodes text n.LineEnding (standing a) refl st.line in
      let parts : raw_parts text first ≡ end_part ending =
      ap (raw_parts text) (sym is) ∙ ending_parts text a.ending (void_nodes text n.LineEnding (end_at a.line_end 0) to) are ∙ ap end_part st.ending in
      record {
        nodes = append first done.0;
        writes = done.1;
        raw = raw_append first done.0 (raw_void text n.LineEnding (written_to a) to (record { no_data = refl; no_definition = refl; no_code = refl; no_math = refl; unasked = refl }))
            (raw_quiet done.0 done.2);
        parts =
            raw_parts_append text first done.0 ∙ ap₂ (λ (ps qs : List RawPart). ps ++ qs) parts (quiet_parts text done.0 done.2)
            ∙ append-nil (end_part ending);
        stands = passes text ending next others st;
        written = done.4;
        fill = λ slots no.
            fill_both (void_between Lines slots n.LineEnding text (written_to a) to refl no.ending refl refl)
            (quiet_fill slots done.0 no.space no.quote done.2);
      }

  -- no line
  pub lines_none : (name : Name) (first : Option LineEnding) (left : List LineRest) (a : Walk A) → StandsAt text (AtEnding first left) (standing a)
      → written_to a ≡ end_at a.line_end 0 → IsInOrder text a.out → WritesLines text name first [] left a a
  lines_none name first left a st at order =
      record {
        nodes = Nil;
        writes = writes_none text a.out order;
        raw = raw_none;
        parts = refl;
        stands = st;
        around = (refl, refl);
        written = at;
        there = λ top. inl refl;
        fill = λ slots takes. fill_none Lines slots;
      }

  -- one line more is there, or all of it is white space
  there_more : (name : Name) (cut : Rest → Rest) (first : Option LineEnding) (done : List BlockLine) (line : BlockLine) (next : LineRest) (others : List LineRest)
      (old a b d : Walk A) (sofar : WritesLines text name first done (next ∷ others) old a)
      (passed : WritesNext text (last_ending_or first done) (line_left (prefixed a.on.now (around (standing a)) next)) others a b)
      (here : WritesCut text name cut (line_left (prefixed a.on.now (around (standing a)) next)) others b d)
      → line ≡ rest_line (cut (line_left (prefixed a.on.now (around (standing a)) next)).rest) (line_left (prefixed a.on.now (around (standing a)) next)).beside
      → (standing old).outermost ≡ []
      → (list_all is_there (done ++ line ∷ []) ≡ true)
      ⊎ ((last_ending_or first (done ++ line ∷ []) ≡ None) × (ends_in n.SpaceOrTab false (append sofar.nodes (append passed.nodes here.nodes)) ≡ true))
  there_more name cut first done line next others old a b d sofar passed here is top =
      let st = sofar.stands in
      let outside : (standing a).outermost ≡ [] = sofar.around.1 ∙ top in
      let same : line_left (prefixed a.on.now (around (standing a)) next) ≡ next =
      ap (λ (cs : List Container). line_left (prefixed a.on.now (reverse cs) next)) outside in
      let before : list_all is_there done ≡ true = elim (sofar.there top) [
        | inl h ↦ h
        | inr h ↦ let none = st.line.last (st.ending ∙ h.0) in absurd (none_unread next others (a.left.now) none st.unread)
      ] in
      elim (cases_Bool (is_there line)) [
        | inl h ↦ inl (all_more done line before h)
        | inr h ↦
            let parts = or_parts (has_codes line.codes) (is_some line.ending) h in
            let ending : is_some next.beside.ending ≡ false =
            ap (λ (l : LineRest). is_some l.beside.ending) (sym same) ∙ ap (λ (l : BlockLine). is_some l.ending) (sym is) ∙ parts.1 in
            let some = unread_some (lines a.left.now) a.left.now next others refl st.unread ending in
            let some_here : 0 < length (line_left (prefixed a.on.now (around (standing a)) next)).rest =
            omega (arith, some, ap (λ (l : LineRest). length l.rest) same) in
            let codes : has_codes (block_codes (cut (line_left (prefixed a.on.now (around (standing a)) next)).rest)) ≡ false =
            ap (λ (l : BlockLine). has_codes l.codes) (sym is) ∙ parts.0 in
            inr (
              last_more first done line ∙ no_ending line.ending parts.1,
              ends_append n.SpaceOrTab false sofar.nodes (append passed.nodes here.nodes)
                  ∙ ends_append n.SpaceOrTab (ends_in n.SpaceOrTab false sofar.nodes) passed.nodes here.nodes
                  ∙ ends_any (ends_in n.SpaceOrTab (ends_in n.SpaceOrTab false sofar.nodes) passed.nodes) here.nodes (here.spaced some_here codes),
            )
      ]

  -- one line more
  pub lines_more : (name : Name) (cut : Rest → Rest) (first : Option LineEnding) (done : List BlockLine) (line : BlockLine) (next : LineRest)
      (others : List LineRest) (own : LineRest) (old a b d : Walk A) → WritesLines text name first done (next ∷ others) old a
      → prefixed a.on.now (around (standing a)) next ≡ InAll own → line ≡ rest_line (cut own.rest) own.beside
      → PassesLine (standing a) (standing b) → WritesNextLine a b → HasSameOpen (standing a) (standing b)
      → ((here : LineRest) (left : List LineRest) → StandsAt text (Within here left) (standing b) → IsWrittenToRest b → IsInOrder text b.out
      → WritesCut text name cut here left b d)
      → WritesLines text name first (done ++ line ∷ []) others old d
  lines_more name cut first done line next others own old a b d sofar all is passes writes kept cuts =
      let left_is : line_left (prefixed a.on.now (around (standing a)) next) ≡ own = ap line_left all in
      let passed = next_written a b (last_ending_or first done) next others sofar.stands sofar.written sofar.writes.order passes writes in
      let here = cuts (line_left (prefixed a.on.now (around (standing a)) next)) others passed.stands passed.written passed.writes.order in
      let line_is : line ≡ rest_line (cut (line_left (prefixed a.on.now (around (standing a)) next)).rest) (line_left (prefixed a.on.now (around (standing a)) next)).beside =
      is ∙ ap (λ (l : LineRest). rest_line (cut l.rest) l.beside) (sym left_is) in
      let chunk : chunk_parts name (block_codes (cut (line_left (prefixed a.on.now (around (standing a)) next)).rest)) ≡ chunk_parts name line.codes =
      ap (λ (l : BlockLine). chunk_parts name l.codes) (sym line_is) in
      let last : (line_left (prefixed a.on.now (around (standing a)) next)).beside.ending ≡ last_ending_or first (done ++ line ∷ []) =
      ap (λ (l : BlockLine). l.ending) (sym line_is) ∙ sym (last_more first done line) in
      let tail = append passed.nodes here.nodes in
      record {
        nodes = append sofar.nodes tail;
        writes = writes_both text old.out a.out d.out sofar.nodes tail sofar.writes (writes_both text a.out b.out d.out passed.nodes here.nodes passed.writes here.writes);
        raw = raw_append sofar.nodes tail sofar.raw (raw_append passed.nodes here.nodes passed.raw here.raw);
        parts =
            raw_parts_append text sofar.nodes tail
            ∙ ap₂ (λ (ps qs : List RawPart). ps ++ qs) sofar.parts
            (raw_parts_append text passed.nodes here.nodes ∙ ap₂ (λ (ps qs : List RawPart). ps ++ qs) passed.parts (here.parts ∙ chunk))
            ∙ sym (parts_more name first done line);
        stands = subst (λ (e : Option LineEnding). StandsAt text (AtEnding e others) (standing d)) last here.stands;
        around = (ap (λ (s : Standing). s.on) here.same ∙ kept.0 ∙ sofar.around.0, ap (λ (s : Standing). s.outermost) here.same ∙ kept.1 ∙ sofar.around.1);
        written = here.written;
        there = there_more name cut first done line next others old a b d sofar passed here line_is;
        fill = λ slots takes.
            fill_both (sofar.fill slots takes) (fill_both (passed.fill slots takes.between) (here.fill slots takes));
      }

-- ---- in a loop

-- Of the lines that come next, so many are written.
pub record SomeLines {A : Type 0} (text : List ℕ) (name : Name) (cut : Rest → Rest) (first : Option LineEnding) (ls : List BlockLine) (after : List LineRest)
    (count : ℕ) (old new : Walk A) : Type 0 where
  pub done : List BlockLine
  pub others : List BlockLine
  pub parts : ls ≡ done ++ others
  pub size : length done ≡ count
  pub mid : List LineRest
  pub lines : WritesLines text name first done mid old new
  pub ahead : AreTaken old.on.now (around (standing old)) (IsCutLine cut) others (Between mid) (Between after)
  pub exact : WritesToEnding text (cut_lines old.on.now (standing old).outermost name cut count (left_at_ending (standing old))) old new

abbrev pub LinesSoFar : {A : Type 0} → Name → (Rest → Rest) → ℕ → ℕ → Walk A → Walk A → Type 0
LinesSoFar name cut all count old new =
    (text : List ℕ) (first : Option LineEnding) (ls : List BlockLine) (left after : List LineRest) → all ≡ length ls → IsChunkName name
    → StandsAt text (AtEnding first left) (standing old) → written_to old ≡ end_at old.line_end 0 → IsInOrder text old.out
    → AreTaken old.on.now (around (standing old)) (IsCutLine cut) ls (Between left) (Between after) → SomeLines text name cut first ls after count old new

module _ {A : Type 0} (name : Name) (cut : Rest → Rest) (all : ℕ) where
  -- none yet
  pub so_far_none : (w : Walk A) → LinesSoFar name cut all 0 w w
  so_far_none w text first ls left after count is_chunk st at order taken =
      record {
        done = [];
        others = ls;
        parts = refl;
        size = refl;
        mid = left;
        lines = lines_none text name first left w st at order;
        ahead = taken;
        exact = record { pieces = pieces_none text w.out order; left = refl };
      }

  one_more : (count : ℕ) (old a b d : Walk A) → count < all → PassesLine (standing a) (standing b) → WritesNextLine a b
      → WritesNextBegun a b → HasSameOpen (standing a) (standing b) → WritesCutLine name cut b d → (text : List ℕ) (first : Option LineEnding) (ls : List BlockLine)
      (after : List LineRest) → all ≡ length ls → IsChunkName name → (done others : List BlockLine) (mid : List LineRest) → ls ≡ done ++ others
      → length done ≡ count → WritesLines text name first done mid old a
      → AreTaken old.on.now (around (standing old)) (IsCutLine cut) others (Between mid) (Between after)
      → WritesToEnding text (cut_lines old.on.now (standing old).outermost name cut count (left_at_ending (standing old))) old a
      → SomeLines text name cut first ls after (count + 1) old d
  one_more count old a b d less passes writes begun kept cuts text first ls after size is_chunk done [] mid parts done_size lines ahead exact =
      absurd (omega (arith, ap length parts, length-append done []))
  one_more count old a b d less passes writes begun kept cuts text first ls after size is_chunk done (line ∷ others) [] parts done_size lines ahead exact =
      absurd ahead.2
  one_more count old a b d less passes writes begun kept cuts text first ls after size is_chunk done (line ∷ others) (next ∷ mid) parts done_size lines ahead
      exact =
      let on = ahead.2 in
      let is_line = ahead.3 in
      let same_on : prefixed a.on.now (around (standing a)) next ≡ prefixed old.on.now (around (standing old)) next =
      ap₂ (λ (c : Constructs) (cs : List Container). prefixed c (reverse cs) next) lines.around.0 lines.around.1 in
      let more = lines_more text name cut first done line next mid is_line.0 old a b d lines (same_on ∙ on.0 ∙ is_line.1) is_line.2 passes writes kept
      (λ here left st at order. cuts text here left is_chunk st at order) in
      let passed = next_written text a b (last_ending_or first done) next mid lines.stands lines.written lines.writes.order passes writes in
      let here = cuts text (line_left (prefixed a.on.now (around (standing a)) next)) mid is_chunk passed.stands passed.written passed.writes.order in
      let to_line = begun text (last_ending_or first done) next mid lines.stands lines.written lines.writes.order
      (ending_token text n.LineEnding a line_ending_fits lines.stands.line lines.written) in
      let same_next : next_cut a.on.now (standing a).outermost name cut (left_at_ending (standing a))
      ≡ next_cut old.on.now (standing old).outermost name cut (left_at_ending (standing a)) =
      ap₂ (λ (c : Constructs) (cs : List Container). next_cut c cs name cut (left_at_ending (standing a))) lines.around.0 lines.around.1 in
      let one = line_then text (next_line a.on.now (standing a).outermost (left_at_ending (standing a))) name cut a b d to_line here.exact here.same in
      let own_next = subst (λ (w : Written). WritesToEnding text w a d) same_next one in
      let counted : suc count ≡ count + 1 = omega arith in
      record {
        exact =
            subst (λ (k : ℕ). WritesToEnding text (cut_lines old.on.now (standing old).outermost name cut k (left_at_ending (standing old))) old d) counted
            (subst (λ (w : Written). WritesToEnding text w old d)
            (lines_last old.on.now (standing old).outermost name cut count (left_at_ending (standing old)))
            (then_written text (cut_lines old.on.now (standing old).outermost name cut count (left_at_ending (standing old)))
            (next_cut old.on.now (standing old).outermost name cut) old a d exact own_next));
        done = done ++ line ∷ [];
        others = others;
        parts = parts ∙ sym (append_assoc done (line ∷ []) others);
        size = length-append done (line ∷ []) ∙ ap (λ (k : ℕ). k + 1) done_size;
        mid = ahead.1;
        lines = subst (λ (m : List LineRest). WritesLines text name first (done ++ line ∷ []) m old d) on.1 more;
        ahead = ahead.4;
      }

  -- one more
  pub so_far_more : (count : ℕ) (old a b d : Walk A) → count < all → LinesSoFar name cut all count old a → PassesLine (standing a) (standing b) → WritesNextLine a b
      → WritesNextBegun a b → HasSameOpen (standing a) (standing b) → WritesCutLine name cut b d → LinesSoFar name cut all (count + 1) old d
  so_far_more count old a b d less so_far passes writes begun kept cuts text first ls left after size is_chunk st at order taken =
      let some = so_far text first ls left after size is_chunk st at order taken in
      one_more count old a b d less passes writes begun kept cuts text first ls after size is_chunk some.done some.others some.mid some.parts some.size some.lines
      some.ahead some.exact

  all_done : (count : ℕ) (old new : Walk A) → count ≡ all → (text : List ℕ) (first : Option LineEnding) (ls : List BlockLine)
      (after : List LineRest) → all ≡ length ls → (done others : List BlockLine) (mid : List LineRest) → ls ≡ done ++ others
      → length done ≡ count → WritesLines text name first done mid old new
      → AreTaken old.on.now (around (standing old)) (IsCutLine cut) others (Between mid) (Between after) → WritesLines text name first ls after old new
  all_done count old new is text first ls after size done [] mid parts done_size lines ahead =
      let same : mid ≡ after = cc in
      subst (λ (m : List LineRest). WritesLines text name first ls m old new) same (
      subst (λ (xs : List BlockLine). WritesLines text name first xs mid old new) (sym (parts ∙ append-nil done)) lines
      )
  all_done count old new is text first ls after size done (line ∷ others) mid parts done_size lines ahead =
      absurd (omega (arith, ap length parts, length-append done (line ∷ others)))

  -- all
  pub so_far_all : (count : ℕ) (old new : Walk A) → count ≡ all → LinesSoFar name cut all count old new → WritesCutLines name cut all old new
  so_far_all count old new is so_far text first ls left after size is_chunk st at order taken =
      let some = so_far text first ls left after size is_chunk st at order taken in
      all_done count old new is text first ls after size some.done some.others some.mid some.parts some.size some.lines some.ahead

  -- exactly all
  pub so_far_exact : (count : ℕ) (old new : Walk A) → count ≡ all → LinesSoFar name cut all count old new → WritesCutPieces name cut all old new
  so_far_exact count old new is so_far text first ls left after size is_chunk st at order taken =
      let some = so_far text first ls left after size is_chunk st at order taken in
      subst (λ (k : ℕ). WritesToEnding text (cut_lines old.on.now (standing old).outermost name cut k (left_at_ending (standing old))) old new) is some.exact

-- ---- a count of lines

pub some_length : (text : List ℕ) → false ≡ (length text == 0) → 0 < length text
some_length text is = grind (arith, nat_tests)

pub no_lines : (text : List ℕ) → true ≡ (length text == 0) → length (lines text) ≡ 0
no_lines [] is = refl
no_lines (b ∷ bs) is = absurd (grind (arith, nat_tests))

pub no_bytes_left : (text : List ℕ) → true ≡ (length text == 0) → length text ≡ 0
no_bytes_left [] is = refl
no_bytes_left (b ∷ bs) is = absurd (grind (arith, nat_tests))
