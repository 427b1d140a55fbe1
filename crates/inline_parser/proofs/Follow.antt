-- What follows what is read: one step at a place.
use Rattle.std.proofs.Common.{◌≡◌, ℕ, zero, suc, ◌+◌, ◌-◌, ◌<◌, ◌≤◌, Bool, true, false, ◌&&◌, ◌||◌, inl, inr, eqb, List, [], ◌∷◌, map, refl, sym, ap, ap₂, ◌∙◌}
use Rattle.std.proofs.Common.{length, arith, subst, take, drop, get_or, Option, None, Some}
use Rattle.inline_parser.proofs.Prelude.{codes_of, cond-true, Constructs, Content, content_codes, context_by, Delimiters, drop-codes_of, ended_here, eqb-true}
use Rattle.inline_parser.proofs.Prelude.{formed_in, formed_size, InlineCode, InlineLeaf, IsAfter, IsAfterEnd, IsCharBoundary-after_ascii, IsFormed, IsPlace}
use Rattle.inline_parser.proofs.Prelude.{IsUtf8, label_start_at, LabelForm, LabelStart, leaf, leaf_here, leaf_in, leaf_items, length-map, ParseOptions}
use Rattle.inline_parser.proofs.Prelude.{plain_code, prefix_len, read_tokens, run_at, run_view, size_before, start_bytes, start_more, start_view, Targets}
use Rattle.inline_parser.proofs.Prelude.{text_items, unformed_in, view_at, with_open_label}
use Rattle.std.specs.Prelude.{IfSome}
use Rattle.std.specs.Result.{OnOk}
use Rattle.std.specs.declared.result.Result.{Result}
use Rattle.std.specs.declared.result.Result.TheVariants.{Ok, Err}
use Rattle.std.proofs.lemmas.Bool.{eqb-false, cases_Bool, or_parts}
use Rattle.std.proofs.lemmas.List.{length-drop, get_or-take}
use Rattle.std.proofs.lemmas.List.Sums.{prefix_len_passes, prefix_len-le-length}
use Rattle.definition_inline.specs.Inline.{or_else}
use Rattle.definition_inline.specs.GfmAutolinkLiteral.{literal_at}
use Rattle.definition_inline.proofs.GfmAutolinkLiteral.{literals_off}
use Rattle.definition_inline.specs.LabelEnd.{LinkTail}
use Rattle.definition_inline.specs.LabelEnd as ends
use Rattle.definition_inline.specs.Scan as scan
use Rattle.inline_runs.specs.declared.run.Run.{Run}
use Rattle.inline_content.specs.Fronts.{StartsRun}
use Rattle.inline_content.proofs.Runs.{marker_at, marker_ascii}
use Rattle.inline_leaves.specs.Leaves.{IsEnd as IsByteEnd}
use Rattle.inline_leaves.specs.Scanned.{without_labels}
use Rattle.inline_leaves.proofs.Codes.{end_after, plain_take, plain_drop, size_plain, cut_plain, is_after}
use Rattle.definition_inline.specs.Mark.{is_equals}
use Rattle.inline_literals.specs.Literals.{may_begin}
use Rattle.inline_literals.proofs.Found.{none_first}
use Rattle.inline_label_ends.specs.declared.forms.LabelEnd.{LabelEnd}
use Rattle.inline_label_ends.specs.declared.gfm_label_start_footnote.LabelForm.TheVariants.{Leads, Calls}
use Rattle.inline_label_ends.specs.Ends.{IsAfterFormed, IsEnd}
use Rattle.inline_label_ends.proofs.Rests.{after_same}
use Rattle.inline_reading.specs.declared.label.LabelStart.TheVariants as start
use Rattle.inline_text.specs.Plain.{begins_more, front_leaf, is_front_at}
use Rattle.inline_parser.specs.Scanned.{IsRunFront, IsSingle}
use Rattle.inline_reading.specs.LabelStarts.{StartsLabel}
use Rattle.inline_parser.proofs.Views.{IsNext, after_next, next_place, codes_left, view_next}
use Rattle.inline_parser.proofs.Goes as goes
use Rattle.inline_text.proofs.Texts as texts
use Rattle.inline_text.proofs.LiteralFronts.{first_of}

-- what holds where a call answers Ok
pub on_ok : {T E P Q R : Type 0} → (r : Result T E) → OnOk r P → OnOk r Q → (P → Q → R) → OnOk r R
on_ok (Ok x) p q f = f p q
on_ok (Err e) p q f = tt

pub on_one : {T E P R : Type 0} → (r : Result T E) → OnOk r P → (P → R) → OnOk r R
on_one (Ok x) p f = f p
on_one (Err e) p f = tt

pub dropped : (rest after : List ℕ) (n : ℕ) → after ≡ drop n rest → 0 < n → n ≤ length rest → length after < length rest
dropped rest after n e some le = omega (arith, ap length e, length-drop n rest)

-- an ASCII byte that is no line ending is a code
pub single_of : (bytes : List ℕ) → IsUtf8 bytes → 0 < length bytes → texts.IsSpecial bytes → IsSingle bytes
single_of [] utf8 some s = absurd (omega (arith, some))
single_of (b ∷ bs) utf8 some s = record {
  ascii = s.ascii;
  apart = s.apart_return;
  boundary = IsCharBoundary-after_ascii (b ∷ bs) 0 utf8 some s.ascii;
  next = s.place;
  code = plain_code b bs s.apart_return;
}

-- a run's bytes
pub run_front : (options : ParseOptions) (bytes : List ℕ) (run : Run) → StartsRun options bytes run → IsRunFront bytes run
run_front options bytes run s = record {
  end = record {
    some = some_bytes bytes run s;
    within = within;
    ascii = subst (λ b. b < 128) (sym (byte_at (run.size - 1) (omega (arith, some_bytes bytes run s)))) (marker_ascii options run.marker s.marks);
    cut = cut_plain bytes run.size within (λ k lt e. marker_at options run.marker 13 s.marks refl (sym (byte_at k lt) ∙ e));
  };
  first = first_byte bytes run s;
} where
  within : run.size ≤ length bytes
  within = omega (arith, s.size, prefix_len-le-length (λ b. eqb b run.marker) bytes)

  byte_at : (k : ℕ) → k < run.size → get_or bytes k 0 ≡ run.marker
  byte_at k lt = eqb-true (get_or bytes k 0) run.marker (prefix_len_passes (λ b. eqb b run.marker) bytes k 0 (omega (arith, lt, s.size)))

  some_bytes : (bytes : List ℕ) (run : Run) → StartsRun options bytes run → 0 < run.size
  some_bytes [] run s = absurd (omega (arith, s.some))
  some_bytes (b ∷ bs) run s =
      elim (cases_Bool (eqb b run.marker)) [
        | inl h ↦ omega (arith, s.size, cond-true (eqb b run.marker) (1 + prefix_len (λ x. eqb x run.marker) bs) 0 h)
        | inr h ↦ absurd (eqb-false b run.marker h s.first)
      ]

  first_byte : (bytes : List ℕ) (run : Run) → StartsRun options bytes run → take 1 bytes ≡ run.marker ∷ []
  first_byte [] run s = absurd (omega (arith, s.some))
  first_byte (b ∷ bs) run s = ap (λ x. x ∷ []) s.first

-- none of them is CR
pub run_plain : (options : ParseOptions) (bytes : List ℕ) (run : Run) → StartsRun options bytes run → (k : ℕ) → k < run.size → get_or bytes k 0 ≡ 13 → ⊥
run_plain options bytes run s k lt e =
    marker_at options run.marker 13 s.marks refl
    (sym (eqb-true (get_or bytes k 0) run.marker (prefix_len_passes (λ b. eqb b run.marker) bytes k 0 (omega (arith, lt, s.size)))) ∙ e)

-- the bytes of a label start
pub start_plain : (s : LabelStart) (rest : List ℕ) → take (length (start_bytes (start_view s))) rest ≡ start_bytes (start_view s)
    → (k : ℕ) → k < length (start_bytes (start_view s)) → get_or rest k 0 ≡ 13 → ⊥
start_plain start.Link rest is zero lt e = absurd (omega (arith, e, get_or-take 1 rest 0 0 lt, ap (λ l. get_or l 0 0) is))
start_plain start.Link rest is (suc k) lt e = absurd (omega (arith, lt))
start_plain start.Image rest is zero lt e = absurd (omega (arith, e, get_or-take 2 rest 0 0 lt, ap (λ l. get_or l 0 0) is))
start_plain start.Image rest is (suc zero) lt e = absurd (omega (arith, e, get_or-take 2 rest 1 0 lt, ap (λ l. get_or l 1 0) is))
start_plain start.Image rest is (suc (suc k)) lt e = absurd (omega (arith, lt))

start_count : (s : LabelStart) → length (start_bytes (start_view s)) ≡ 1 + start_more (start_view s)
start_count start.Link = refl
start_count start.Image = refl

-- the first byte
one_byte : (rest : List ℕ) → 0 < length rest → take 1 rest ≡ get_or rest 0 0 ∷ []
one_byte [] some = absurd (omega (arith, some))
one_byte (b ∷ bs) some = refl

first_code : (rest : List ℕ) (view : List InlineCode) → IsSingle rest → codes_of view ≡ content_codes rest → get_or (codes_of view) 0 0 ≡ get_or rest 0 0
first_code rest view single codes = ap (λ l. get_or l 0 0) (codes ∙ single.code)

-- its first byte is an end
pub single_end : (bytes : List ℕ) → 0 < length bytes → IsSingle bytes → IsByteEnd bytes 1
single_end bytes some s = end_after bytes 1 (omega arith) (omega (arith, some)) s.ascii s.apart

-- a byte and those after it
pub with_first : (rest after : List ℕ) → 0 < length rest → get_or rest 0 0 ≡ 93 → after ≡ drop 1 rest → rest ≡ 93 ∷ after
with_first [] after some e is = absurd (omega (arith, some))
with_first (b ∷ bs) after some e is = ap₂ (λ x xs. x ∷ xs) e (sym is)

-- what an end of a label leaves
pub end_next : (rest after : List ℕ) → IsAfterEnd rest after → IsNext rest after
end_next rest after a = record {
  rest_of = a.place;
  fewer = omega (arith, ap length a.codes, length-drop (size_before rest after) (content_codes rest));
  codes = a.codes;
}

-- the place after what was formed
pub some_place : {rest : List ℕ} {o : Option LabelForm} {found : LabelEnd} → o ≡ Some (Leads found) → IfSome o (IsAfterFormed rest)
    → IsAfterEnd rest found.after.now
some_place {rest} is h = subst (λ x. IfSome x (IsAfterFormed rest)) is h

-- a link or an image that was found is the definition's
pub record IsFound (ls : List (List ℕ)) (rest : List ℕ) (found : LabelEnd) (o : Option ends.LinkOrCall) : Type 0 where
  pub end : LinkTail
  pub is : o ≡ Some (ends.Leads end)
  pub as_end : IsEnd ls rest found end

pub found_is : (ls : List (List ℕ)) (rest : List ℕ) (found : LabelEnd) (o : Option ends.LinkOrCall) → IsFormed ls rest (Some (Leads found)) o
    → IsFound ls rest found o
found_is ls rest found (Some (ends.Leads e)) h = record { end = e; is = refl; as_end = h }
found_is ls rest found (Some (ends.Calls label)) h = absurd h
found_is ls rest found None h = absurd h

-- and so is a call
pub call_is : (ls : List (List ℕ)) (rest : List ℕ) (name : _) (o : Option ends.LinkOrCall) → IsFormed ls rest (Some (Calls name)) o
    → o ≡ Some (ends.Calls (content_codes name.now))
call_is ls rest name (Some (ends.Calls label)) h = ap (λ l. Some (ends.Calls l)) (sym h)
call_is ls rest name (Some (ends.Leads end)) h = absurd h
call_is ls rest name None h = absurd h

-- nothing stands between a content and itself
pub none_after : (content : List ℕ) → 0 ≡ size_before content content
none_after content = omega arith

pub same_next : (content : List ℕ) → IsNext content content
same_next content = end_next content content (after_same content)

pub none_is : (ls : List (List ℕ)) (rest : List ℕ) (o : Option ends.LinkOrCall) → IsFormed ls rest None o → o ≡ None
none_is ls rest None h = refl
none_is ls rest (Some e) h = absurd h

-- a code that is one byte
pub single_next : (bytes : List ℕ) → IsSingle bytes → IsNext bytes (drop 1 bytes)
single_next bytes s = after_next bytes (drop 1 bytes) s.next

single_size : (bytes : List ℕ) → IsSingle bytes → size_before bytes (drop 1 bytes) ≡ 1
single_size bytes s = omega (arith, ap length s.code)

-- no literal begins in text
no_literal : (on : Constructs) (rest : List ℕ) (view : List InlineCode) (n k : ℕ) → n ≤ length rest → k < n → ((j : ℕ) → j < n → get_or rest j 0 ≡ 13 → ⊥)
    → codes_of view ≡ content_codes rest → (on.gfm_autolink_literal ≡ true → (j : ℕ) → j < n → may_begin (drop j rest) ≡ false)
    → literal_at on (drop k view) ≡ None
no_literal on rest view n k le lt plain codes bare = elim (cases_Bool on.gfm_autolink_literal) [
  | inl is ↦
      none_first on (drop k view) (drop k rest)
      (drop-codes_of k view ∙ ap (drop k) codes ∙ plain_drop k rest (omega (arith, le, lt)) (λ j less. plain j (omega (arith, less, lt)))) (bare is k lt)
  | inr off ↦ literals_off on (drop k view) off
]

-- where no other construct begins, a literal is what begins here
pub with_literal : (options : ParseOptions) (names : List ℕ → Option (List ℕ)) (p : ℕ → Bool) (content : Content) (rest : List ℕ)
    → IsPlace content.text.now rest
    → leaf_in options names (content_codes rest) ≡ None
    → leaf_here (without_labels options names) (view_at p content rest) ≡ literal_at options.constructs (view_at p content rest)
with_literal options names p content rest place none =
    ap (λ o. or_else o (literal_at options.constructs (view_at p content rest))) (ap (leaf_in options names) (codes_left p content rest place) ∙ none)

module _ (options : ParseOptions) (names : List ℕ → Option (List ℕ)) (p : ℕ → Bool) (ds : Targets) (content : Content) where
  view_count : (rest : List ℕ) → IsPlace content.text.now rest → 0 < length (content_codes rest) → 0 < length (view_at p content rest)
  view_count rest place some =
      omega (arith, some, ap length (codes_left p content rest place), length-map (view_at p content rest) (λ (c : InlineCode). c.code))

  -- what is left after some codes does to what is read by then what all did
  moved : (rest after : List ℕ) (now next final : scan.Reading) (n : ℕ) → IsPlace content.text.now rest → IsNext rest after → n ≡ size_before rest after
      → scan.scan (context_by options names ds) 0 now (view_at p content rest) ≡ final
      → scan.scan (context_by options names ds) 0 now (view_at p content rest)
      ≡ scan.scan (context_by options names ds) 0 next (drop n (view_at p content rest))
      → scan.scan (context_by options names ds) 0 next (view_at p content after) ≡ final
  moved rest after now next final n place is size same goes =
      ap (scan.scan (context_by options names ds) 0 next) (sym (ap (λ k. drop k (view_at p content rest)) size ∙ view_next p content rest after place is))
      ∙ sym goes ∙ same

  -- bytes of text and soft line breaks
  pub front_follows : (soft : Bool) (rest : List ℕ) (n : ℕ) (now final : scan.Reading) → IsPlace content.text.now rest → n ≤ length rest
      → ((k : ℕ) → k < n → is_front_at soft (drop k (content_codes rest)) ≡ true) → ((k : ℕ) → k < n → get_or rest k 0 ≡ 13 → ⊥)
      → ((k : ℕ) → k < n → begins_more options.constructs.gfm_autolink_literal options.constructs.mark (drop k rest) ≡ false) → IsAfter rest (drop n rest)
      → scan.scan (context_by options names ds) 0 now (view_at p content rest) ≡ final
      → scan.scan (context_by options names ds) 0 (read_tokens (leaf_items (map (front_leaf soft) (take n rest))) now) (view_at p content (drop n rest)) ≡ final
  front_follows soft rest n now final place le text plain bare after same =
      let codes = codes_left p content rest place in
      let on = options.constructs in
      let bytes : take n (codes_of (view_at p content rest)) ≡ take n rest = ap (take n) codes ∙ plain_take n rest le plain in
      let none : (k : ℕ) → k < n → ((on.mark && is_equals (get_or rest k 0)) ≡ false) × ((on.gfm_autolink_literal && may_begin (drop k rest)) ≡ false) =
      λ k lt.
      or_parts (on.mark && is_equals (get_or rest k 0)) (on.gfm_autolink_literal && may_begin (drop k rest))
      (ap (λ b. (on.mark && is_equals b) || (on.gfm_autolink_literal && may_begin (drop k rest))) (sym (first_of rest k)) ∙ bare k lt) in
      let byte : (k : ℕ) → k < n → get_or (codes_of (view_at p content rest)) k 0 ≡ get_or rest k 0 = λ k lt.
      sym (get_or-take n (codes_of (view_at p content rest)) k 0 lt) ∙ ap (λ bs. get_or bs k 0) bytes ∙ get_or-take n rest k 0 lt in
      moved rest (drop n rest) now (read_tokens (leaf_items (map (front_leaf soft) (take n rest))) now) final n place (after_next rest (drop n rest) after)
      (sym (size_plain n rest (drop n rest) refl le plain)) same
      (texts.front_steps soft (context_by options names ds) n now (view_at p content rest) (λ k lt. ap (λ cs. is_front_at soft (drop k cs)) codes ∙ text k lt)
      (λ k lt. no_literal on rest (view_at p content rest) n k le lt plain codes
      (λ is j before. ap (λ b. b && may_begin (drop j rest)) (sym is) ∙ (none j before).1))
      (λ k lt. ap (λ b. on.mark && is_equals b) (byte k lt) ∙ (none k lt).0)
      ∙ ap (λ bs. scan.scan (context_by options names ds) 0 (read_tokens (leaf_items (map (front_leaf soft) bs)) now) (drop n (view_at p content rest))) bytes)

  -- a construct that holds no other
  pub leaf_follows : (rest after : List ℕ) (parts : List InlineLeaf) (now final : scan.Reading) → IsPlace content.text.now rest
      → Some (leaf parts (size_before rest after)) ≡ leaf_in options names (content_codes rest) → IsAfter rest after
      → scan.scan (context_by options names ds) 0 now (view_at p content rest) ≡ final
      → scan.scan (context_by options names ds) 0 (read_tokens (leaf_items parts) now) (view_at p content after) ≡ final
  leaf_follows rest after parts now final place found is same =
      moved rest after now (read_tokens (leaf_items parts) now) final (size_before rest after) place (after_next rest after is) refl same
      (goes.leaf_goes (context_by options names ds) now (view_at p content rest) (leaf parts (size_before rest after))
      (ap (λ o. or_else o (literal_at options.constructs (view_at p content rest))) (ap (leaf_in options names) (codes_left p content rest place) ∙ sym found)))

  -- a literal
  pub literal_follows : (rest after : List ℕ) (parts : List InlineLeaf) (now final : scan.Reading) → IsPlace content.text.now rest
      → leaf_in options names (content_codes rest) ≡ None
      → Some (leaf parts (size_before rest after)) ≡ literal_at options.constructs (view_at p content rest) → IsAfter rest after
      → scan.scan (context_by options names ds) 0 now (view_at p content rest) ≡ final
      → scan.scan (context_by options names ds) 0 (read_tokens (leaf_items parts) now) (view_at p content after) ≡ final
  literal_follows rest after parts now final place none found is same =
      moved rest after now (read_tokens (leaf_items parts) now) final (size_before rest after) place (after_next rest after is) refl same
      (goes.leaf_goes (context_by options names ds) now (view_at p content rest) (leaf parts (size_before rest after))
      (with_literal options names p content rest place none ∙ sym found))

  -- a run
  pub run_follows : (rest : List ℕ) (run : Run) (now final : scan.Reading) → IsPlace content.text.now rest
      → leaf_here (without_labels options names) (view_at p content rest) ≡ None
      → Some (run_view run) ≡ run_at options (view_at p content rest) → StartsRun options rest run
      → scan.scan (context_by options names ds) 0 now (view_at p content rest) ≡ final
      → scan.scan (context_by options names ds) 0 (read_tokens (Delimiters (run_view run) ∷ []) now) (view_at p content (drop run.size rest)) ≡ final
  run_follows rest run now final place none is starts same =
      let front = run_front options rest run starts in
      moved rest (drop run.size rest) now (read_tokens (Delimiters (run_view run) ∷ []) now) final run.size place
      (after_next rest (drop run.size rest) (is_after rest (drop run.size rest) run.size refl front.end.some front.end.within front.end.cut))
      (sym (size_plain run.size rest (drop run.size rest) refl front.end.within (run_plain options rest run starts))) same
      (goes.run_goes (context_by options names ds) now (view_at p content rest) (run_view run) none (sym is) front.end.some)

  -- a label start
  pub start_follows : (rest : List ℕ) (s : LabelStart) (now final : scan.Reading) → IsPlace content.text.now rest
      → leaf_here (without_labels options names) (view_at p content rest) ≡ None
      → run_at options (view_at p content rest) ≡ None → Some (start_view s) ≡ label_start_at options.constructs (content_codes rest) → StartsLabel rest s
      → 0 < length rest
      → scan.scan (context_by options names ds) 0 now (view_at p content rest) ≡ final
      → scan.scan (context_by options names ds) 0 (with_open_label s (drop (length (start_bytes (start_view s))) rest) now)
      (view_at p content (drop (length (start_bytes (start_view s))) rest)) ≡ final
  start_follows rest s now final place none no_run is front some same =
      let k = length (start_bytes (start_view s)) in
      let plain = start_plain s rest front.first in
      let after = is_after rest (drop k rest) k refl front.end.some front.end.within front.end.cut in
      let codes = codes_left p content rest place in
      let left : drop k (codes_of (view_at p content rest)) ≡ content_codes (drop k rest) = ap (drop k) codes ∙ plain_drop k rest front.end.within plain in
      moved rest (drop k rest) now (with_open_label s (drop k rest) now) final k place (after_next rest (drop k rest) after)
      (sym (size_plain k rest (drop k rest) refl front.end.within plain)) same
      (goes.start_view_goes (context_by options names ds) now (view_at p content rest) (start_view s) k (start_count s)
      (view_count rest place (omega (arith, after.fewer))) none no_run
      (ap (label_start_at options.constructs) codes ∙ sym is)
      ∙ ap (λ from. scan.scan (context_by options names ds) 0 (scan.reading (scan.text [] false)
      (record { start = start_view s; from = from; outer = now.now } ∷ now.open_labels)) (drop k (view_at p content rest))) left)

  -- a `]` that forms nothing
  pub nothing_follows : (rest : List ℕ) (now final : scan.Reading) → IsPlace content.text.now rest
      → leaf_here (without_labels options names) (view_at p content rest) ≡ None
      → run_at options (view_at p content rest) ≡ None → label_start_at options.constructs (content_codes rest) ≡ None → options.constructs.label_end ≡ true
      → get_or rest 0 0 ≡ 93 → IsSingle rest → 0 < length rest
      → ended_here (context_by options names ds) (content_codes rest) now.open_labels now.now ≡ None
      → scan.scan (context_by options names ds) 0 now (view_at p content rest) ≡ final
      → scan.scan (context_by options names ds) 0 (read_tokens (text_items (take 1 rest)) (unformed_in now.open_labels now.now))
      (view_at p content (drop 1 rest)) ≡ final
  nothing_follows rest now final place none no_run no_start end bracket single some ended same =
      let codes = codes_left p content rest place in
      let first = first_code rest (view_at p content rest) single codes in
      moved rest (drop 1 rest) now (read_tokens (text_items (take 1 rest)) (unformed_in now.open_labels now.now)) final 1 place
      (single_next rest single) (sym (single_size rest single)) same
      (goes.nothing_view_goes (context_by options names ds) now (view_at p content rest) (view_count rest place (omega (arith, single.next.fewer))) none no_run
      (ap (label_start_at options.constructs) codes ∙ no_start) end (first ∙ bracket)
      (ap (λ cs. ended_here (context_by options names ds) cs now.open_labels now.now) codes ∙ ended)
      ∙ ap (λ bs. scan.scan (context_by options names ds) 0 (read_tokens (text_items bs) (unformed_in now.open_labels now.now))
      (drop 1 (view_at p content rest)))
      (sym (one_byte rest some ∙ ap (λ b. b ∷ []) bracket)))

  -- a `]` that forms a link or an image
  pub formed_follows : (rest after : List ℕ) (e : ends.LinkOrCall) (now final : scan.Reading) → IsPlace content.text.now rest
      → leaf_here (without_labels options names) (view_at p content rest) ≡ None
      → run_at options (view_at p content rest) ≡ None → label_start_at options.constructs (content_codes rest) ≡ None → options.constructs.label_end ≡ true
      → get_or rest 0 0 ≡ 93 → IsSingle rest → 0 < length rest
      → ended_here (context_by options names ds) (content_codes rest) now.open_labels now.now ≡ Some e → formed_size e ≡ size_before (drop 1 rest) after
      → IsNext (drop 1 rest) after
      → scan.scan (context_by options names ds) 0 now (view_at p content rest) ≡ final
      → scan.scan (context_by options names ds) 0 (formed_in e now.open_labels now.now) (view_at p content after) ≡ final
  formed_follows rest after e now final place none no_run no_start end bracket single some ended size next same =
      let codes = codes_left p content rest place in
      let first = first_code rest (view_at p content rest) single codes in
      let there = next_place content.text.now rest (drop 1 rest) place (single_next rest single) in
      let one = ap (λ n. drop n (view_at p content rest)) (sym (single_size rest single))
      ∙ view_next p content rest (drop 1 rest) place (single_next rest single) in
      let left : drop (formed_size e) (drop 1 (view_at p content rest)) ≡ view_at p content after =
      ap (drop (formed_size e)) one ∙ ap (λ n. drop n (view_at p content (drop 1 rest))) size ∙ view_next p content (drop 1 rest) after there next in
      ap (scan.scan (context_by options names ds) 0 (formed_in e now.open_labels now.now)) (sym left)
      ∙ sym (goes.formed_view_goes (context_by options names ds) now (view_at p content rest) e
      (view_count rest place (omega (arith, single.next.fewer))) none no_run
      (ap (label_start_at options.constructs) codes ∙ no_start) end (first ∙ bracket)
      (ap (λ cs. ended_here (context_by options names ds) cs now.open_labels now.now) codes ∙ ended))
      ∙ same

  -- a byte at which nothing starts
  pub byte_follows : (rest : List ℕ) (now final : scan.Reading) → IsPlace content.text.now rest
      → leaf_here (without_labels options names) (view_at p content rest) ≡ None
      → run_at options (view_at p content rest) ≡ None → label_start_at options.constructs (content_codes rest) ≡ None
      → (options.constructs.label_end && eqb (get_or rest 0 0) 93) ≡ false → IsSingle rest → 0 < length rest
      → scan.scan (context_by options names ds) 0 now (view_at p content rest) ≡ final
      → scan.scan (context_by options names ds) 0 (read_tokens (text_items (take 1 rest)) now) (view_at p content (drop 1 rest)) ≡ final
  byte_follows rest now final place none no_run no_start no_end single some same =
      let codes = codes_left p content rest place in
      let first = first_code rest (view_at p content rest) single codes in
      moved rest (drop 1 rest) now (read_tokens (text_items (take 1 rest)) now) final 1 place (single_next rest single)
      (sym (single_size rest single)) same
      (goes.byte_view_goes (context_by options names ds) now (view_at p content rest) (get_or rest 0 0)
      (view_count rest place (omega (arith, single.next.fewer))) none no_run
      (ap (label_start_at options.constructs) codes ∙ no_start) first no_end
      ∙ ap (λ bs. scan.scan (context_by options names ds) 0 (read_tokens (text_items bs) now) (drop 1 (view_at p content rest)))
      (sym (one_byte rest some)))
