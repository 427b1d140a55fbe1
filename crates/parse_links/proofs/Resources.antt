-- What is written of a resource, step by step (CommonMark 6.3).
use Rattle.parse_links.proofs.Prelude.{after_part, after_white, and_parts, append, ArePlain, Around, begins_ascii, begins_with_space, boundary_after_byte}
use Rattle.parse_links.proofs.Prelude.{bytes_text, cases_Bool, Code, cond-false, cond-true, Constructs, content_codes, contents_both, contents_none}
use Rattle.parse_links.proofs.Prelude.{destination_at, End, end_in, enter_at, EntersInContent, eqb-false, eqb-true, exit_at, ExitsInContent, from_some}
use Rattle.parse_links.proofs.Prelude.{inside_of, is_ascii_byte, is_eol, is_listed, IsCharBoundary, IsInner, IsOfBytes, IsUtf8, IsVoidOf, IsWhole, line_bytes}
use Rattle.parse_links.proofs.Prelude.{list_all, list_any, lt-ltb, ltb-true, Name, named, named_both, Names, Nil, Node, Nodes, none-some, one, option_or}
use Rattle.parse_links.proofs.Prelude.{or_left, own, own_both, Part, PlaceNames, plain_both, plain_code, resource_inside, same_name, SpellsTarget, SpellsTitle}
use Rattle.parse_links.proofs.Prelude.{StandsInContent, Stop, string_of, string_of_bytes, string_text, tail_names, title_at, title_string, Walk}
use Rattle.parse_links.proofs.Prelude.{WritesDestination, WritesInContent, WritesQuoted, WritesTail, WritesWhite}
use Rattle.std.proofs.Common.{◌≡◌, ◌⊎◌, ℕ, ◌+◌, ◌-◌, ◌*◌, ◌^◌, ◌<◌, Bool, true, false, ◌&&◌, ◌||◌, eqb, ltb, List, [], ◌∷◌, ◌++◌, Option, None, Some, inl}
use Rattle.std.proofs.Common.{inr, refl}
use Rattle.std.proofs.Common.{sym, ap, ap₂, subst, ◌∙◌, append_assoc, arith, get_or, length, length-append, slice_index}
use Rattle.std.specs.Prelude.{IfOk, Result, Ok, Err, is_some}
use Rattle.std.proofs.lemmas.Bool.{ne_eqb}
use Rattle.definition_inline.specs.Resource.{LinkResource, after_destination, opens_title, resource_at, resource_end}
use Rattle.engine_events.specs.declared.event.Name.TheVariants as n
use Rattle.inline_leaves.proofs.Codes.{at_return}
use Rattle.event_grammar.specs.declared.slot.Form.TheVariants.{Plain}
use Rattle.event_grammar.specs.declared.slot.Slot.{Slot}
use Rattle.event_grammar.specs.Slots.{one_line}
use Rattle.event_grammar.specs.Grammar.{one as one_slot, opt, row}
use Rattle.parse_slots.proofs.Steps.{fill_both, fill_none, fill_taken, filled_by, filled_void, may_both}
use Rattle.parse_references.specs.Sound.{AreSound}
use Rattle.parse_references.proofs.Sound.{sound_around, sound_both, sound_one}
use Rattle.parse_strings.proofs.SoundNodes.{empty_sound}
use Rattle.parse_links.specs.Tails.{FillsTail, FillsTarget, FillsTitle, SpellsResource, tail_slots, target_slots, title_slots, WritesPlace}
use Rattle.parse_links.proofs.Fills.{marked_filled, may_in, place_filled, place_renamed, resource_place, resource_title}
use Rattle.parse_links.proofs.Found.{FindsString, IsStringName, IsUnsought, own_around, own_found, named_around, void_plain, finds_around, finds_before}
use Rattle.parse_links.proofs.Found.{finds_quoted, finds_raw, held_spells}
use Rattle.parse_links.proofs.Sound.{marked_sound, place_sound, white_sound}
use Rattle.parse_links.proofs.Written.{WritesToken, around_in}
use Rattle.parse_links.proofs.Marks.{PlaceBytes, title_marks}

-- what is known of a value by two clauses
pub if_both : {T E : Type 0} {P Q R : T → Type 0} (r : Result T E) → ((x : T) → P x → Q x → R x) → IfOk r P → IfOk r Q → IfOk r R
if_both (Ok x) f p q = f x p q
if_both (Err e) f p q = tt

-- ---- codes

-- what a resource is after its destination
pub record AfterDestination (place : Part) (r : LinkResource) : Type 0 where
  pub destination : r.destination ≡ place.text
  pub title : ((r.title ≡ None) × (after_white place.rest ≡ 41 ∷ r.rest))
      ⊎ ((read : Part) × (title_at (after_white place.rest) ≡ Some read) × (r.title ≡ Some read.text) × (after_white read.rest ≡ 41 ∷ r.rest))

ends_with : (destination : List Code) (title : Option (List Code)) (cs : List Code) (r : LinkResource) → resource_end destination title cs ≡ Some r
    → (r.destination ≡ destination) × (r.title ≡ title) × (cs ≡ 41 ∷ r.rest)
ends_with destination title [] r e = absurd (none-some r e)
ends_with destination title (c ∷ cs) r e = elim (cases_Bool (eqb c 41)) [
  | inl h ↦
      let is = from_some _ r (sym (cond-true (eqb c 41) _ _ h) ∙ e) in (
        sym (ap (λ (x : LinkResource). x.destination) is),
        sym (ap (λ (x : LinkResource). x.title) is),
        ap₂ (λ x xs. x ∷ xs) (eqb-true c 41 h) (ap (λ (x : LinkResource). x.rest) is),
      )
  | inr h ↦ absurd (none-some r (sym (cond-false (eqb c 41) _ _ h) ∙ e))
]

pub after_is : (place : Part) (r : LinkResource) → after_destination place ≡ Some r → AfterDestination place r
after_is place r e = elim (cases_Bool (begins_with_space place.rest && opens_title (after_white place.rest))) [
  | inl h ↦ by_title (title_at (after_white place.rest)) refl
      (sym (cond-true (begins_with_space place.rest && opens_title (after_white place.rest)) _ _ h) ∙ e)
  | inr h ↦
      let is = ends_with place.text None (after_white place.rest) r
      (sym (cond-false (begins_with_space place.rest && opens_title (after_white place.rest)) _ _ h) ∙ e) in
      record { destination = is.0; title = inl (is.1, is.2) }
]
  where
    by_title : (o : Option Part) → title_at (after_white place.rest) ≡ o
        → after_part o (λ (title : Part). resource_end place.text (Some title.text) (after_white title.rest)) ≡ Some r → AfterDestination place r
    by_title None is e = absurd (none-some r e)
    by_title (Some read) is e =
        let ends = ends_with place.text (Some read.text) (after_white read.rest) r e in
        record { destination = ends.0; title = inr (read, is, ends.1, ends.2) }

-- what is read of a title
pub record ReadsTitle (place : Part) (r : LinkResource) (text : List Code) : Type 0 where
  pub read : Part
  pub is : title_at (after_white place.rest) ≡ Some read
  pub text_is : text ≡ read.text
  pub title : r.title ≡ Some read.text
  pub left : after_white read.rest ≡ 41 ∷ r.rest

pub read_title : (place : Part) (r : LinkResource) → AfterDestination place r → (text : List Code) → r.title ≡ Some text → ReadsTitle place r text
read_title place r after text some = by_title after.title
  where
    by_title : ((r.title ≡ None) × (after_white place.rest ≡ 41 ∷ r.rest))
        ⊎ ((read : Part) × (title_at (after_white place.rest) ≡ Some read) × (r.title ≡ Some read.text) × (after_white read.rest ≡ 41 ∷ r.rest))
        → ReadsTitle place r text
    by_title (inl (none, left)) = absurd (none-some text (sym none ∙ some))
    by_title (inr (read, is, title, left)) =
        record { read = read; is = is; text_is = from_some text read.text (sym some ∙ title); title = title; left = left }

pub unread_title : (place : Part) (r : LinkResource) → AfterDestination place r → r.title ≡ None → (r.title ≡ None) × (after_white place.rest ≡ 41 ∷ r.rest)
unread_title place r after none = by_title after.title
  where
    by_title : ((r.title ≡ None) × (after_white place.rest ≡ 41 ∷ r.rest))
        ⊎ ((read : Part) × (title_at (after_white place.rest) ≡ Some read) × (r.title ≡ Some read.text) × (after_white read.rest ≡ 41 ∷ r.rest))
        → (r.title ≡ None) × (after_white place.rest ≡ 41 ∷ r.rest)
    by_title (inl both) = both
    by_title (inr (read, is, title, left)) = absurd (none-some read.text (sym none ∙ title))

abbrev begins_closing : List Code → Bool
begins_closing [] = false
begins_closing (c ∷ cs) = eqb c 41

pub record InsidePlace (cs : List Code) (r : LinkResource) : Type 0 where
  pub place : Part
  pub read : destination_at (Some 32) cs ≡ Some place
  pub after : Some r ≡ after_destination place

inside_codes : (cs : List Code) (r : LinkResource) → begins_closing cs ≡ false → resource_inside cs ≡ Some r → InsidePlace cs r
inside_codes [] r h e = absurd (none-some r e)
inside_codes (c ∷ cs) r h e = by_place (destination_at (Some 32) (c ∷ cs)) refl (sym (cond-false (eqb c 41) _ _ h) ∙ e)
  where
    by_place : (o : Option Part) → destination_at (Some 32) (c ∷ cs) ≡ o → after_part o after_destination ≡ Some r → InsidePlace (c ∷ cs) r
    by_place None is e = absurd (none-some r e)
    by_place (Some place) is e = record { place = place; read = is; after = sym e }

-- a closing parenthesis comes first, or doesn't
closing_codes : (xs : List ℕ) → (slice_index xs 0 ≡ 41 → ⊥) → begins_closing (content_codes xs) ≡ false
closing_codes [] h = refl
closing_codes (b ∷ bs) h = elim (cases_Bool (eqb b 13)) [
  | inl k ↦ ap (λ x. begins_closing (content_codes (x ∷ bs))) (eqb-true b 13 k) ∙ at_return begins_closing false bs (λ cs. refl) (λ cs. refl)
  | inr k ↦ ap begins_closing (plain_code b bs (eqb-false b 13 k)) ∙ ne_eqb b 41 h
]

pub inside_place : (xs : List ℕ) (r : LinkResource) → (slice_index xs 0 ≡ 41 → ⊥) → Some r ≡ resource_inside (content_codes xs)
    → InsidePlace (content_codes xs) r
inside_place xs r h e = inside_codes (content_codes xs) r (closing_codes xs h) (sym e)

pub inside_none : (xs : List ℕ) (r : LinkResource) → slice_index xs 0 ≡ 41 → Some r ≡ resource_inside (content_codes xs)
    → (r.destination ≡ []) × (r.title ≡ None) × (content_codes xs ≡ 41 ∷ r.rest)
inside_none [] r h e = absurd (omega (arith, h))
inside_none (b ∷ bs) r h e =
    let codes : content_codes (b ∷ bs) ≡ 41 ∷ content_codes bs = ap (λ x. content_codes (x ∷ bs)) h in
    let is = ends_with [] None (41 ∷ content_codes bs) r (sym (e ∙ ap resource_inside codes)) in
    (is.0, is.1, codes ∙ is.2)

pub at_inside : (cs : List Code) (r : LinkResource) → Some r ≡ resource_at cs → (others : List Code) × (cs ≡ 40 ∷ others)
    × (Some r ≡ resource_inside (after_white others))
at_inside [] r e = absurd (none-some r (sym e))
at_inside (c ∷ cs) r e = elim (cases_Bool (eqb c 40)) [
  | inl h ↦ (cs, ap (λ x. x ∷ cs) (eqb-true c 40 h), e ∙ cond-true (eqb c 40) _ _ h)
  | inr h ↦ absurd (none-some r (sym (e ∙ cond-false (eqb c 40) _ _ h)))
]

-- ---- bytes

last_ascii : (b : ℕ) (front : List ℕ) → b < 128 → list_all is_ascii_byte front ≡ true → get_or (b ∷ front) (length front) 0 < 128
last_ascii b [] small h = small
last_ascii b (x ∷ xs) small h =
    let are = and_parts (is_ascii_byte x) (list_all is_ascii_byte xs) h in
    last_ascii x xs (ltb-true x 128 are.0) are.1

last_front : (front rest : List ℕ) (b : ℕ) → get_or ((b ∷ front) ++ rest) (length front) 0 ≡ get_or (b ∷ front) (length front) 0
last_front [] rest b = refl
last_front (x ∷ xs) rest b = last_front xs rest x

-- a place after ASCII
pub ascii_cut : (xs : List ℕ) (b : ℕ) (front rest : List ℕ) → xs ≡ (b ∷ front) ++ rest → b < 128 → list_all is_ascii_byte front ≡ true → IsUtf8 xs
    → IsCharBoundary xs (length (b ∷ front))
ascii_cut xs b front rest e small h utf8 =
    let place : length (b ∷ front) - 1 ≡ length front = omega arith in
    let last : get_or xs (length (b ∷ front) - 1) 0 ≡ get_or (b ∷ front) (length front) 0 =
    ap₂ (λ ys k. get_or ys k 0) e place ∙ last_front front rest b in
    boundary_after_byte xs (length (b ∷ front)) utf8 (omega arith) (omega (arith, ap length e, length-append (b ∷ front) rest))
    (subst (λ x. x < 128) (sym last) (last_ascii b front small h))

-- what opens a title is in ASCII
pub title_ascii : (cs : List Code) (read : Part) → title_at cs ≡ Some read → begins_ascii cs ≡ true
title_ascii cs read e =
    let m = title_marks cs read e in
    ap begins_ascii m.whole ∙ or_left (ltb m.opening 128) (eqb m.opening 256 || eqb m.opening 257) (lt-ltb m.opening 128 m.one.ascii)

-- a destination's bytes are its codes
pub same_string : (d string text : List ℕ) → content_codes d ≡ text → content_codes string ≡ text → list_any is_eol text ≡ false → d ≡ string
same_string d string text one two dark =
    sym (line_bytes d (ap (list_any is_eol) one ∙ dark)) ∙ one ∙ sym two ∙ line_bytes string (ap (list_any is_eol) two ∙ dark)

-- what is taken of a text for a destination
pub place_size : (xs : List ℕ) (p : Part) (pb : PlaceBytes xs p) (size count : ℕ) {all : ℕ} → count ≡ length pb.string → all ≡ length xs → all * 1 < 2 ^ 63
    → (get_or xs 0 0 ≡ 60 → count + 2 < 2 ^ 64 → size ≡ count + 2) → ((get_or xs 0 0 ≡ 60 → ⊥) → size ≡ count) → size ≡ length pb.front
place_size xs p pb size count {all} is whole small angle bare = elim (cases_Bool (eqb (get_or xs 0 0) 60)) [
  | inl h ↦
      let first = eqb-true (get_or xs 0 0) 60 h in
      let count_is = pb.angle first in
      let parts : length xs ≡ length pb.front + length pb.after = ap length pb.parts ∙ length-append pb.front pb.after in
      omega (arith, angle first (omega (arith, is, whole, small, count_is, parts)), is, count_is)
  | inr h ↦ let other = eqb-false (get_or xs 0 0) 60 h in omega (arith, bare other, is, pb.bare other)
]

-- what a resource holds after its title
abbrev last_slots : List Slot
last_slots = one_slot n.ResourceMarker ∷ []

no_bytes : IsOfBytes []
no_bytes k = omega arith

-- ---- nodes

destination_name : IsStringName n.ResourceDestinationString
destination_name = record { listed = refl; media = refl; definition = refl; column = refl }

title_name : IsStringName n.ResourceTitleString
title_name = record { listed = refl; media = refl; definition = refl; column = refl }

-- the string of a destination among its nodes
pub record FindsPlace (on : Constructs) (names : Names) (text string : List ℕ) (ns : Nodes) : Type 0 where
  pub held : Option Node
  pub finds : FindsString n.ResourceDestinationString held ns
  pub spells : string_of names text (inside_of held) ≡ bytes_text on names string

-- the names of a resource's destination
pub record AreOfResource (q : PlaceNames) : Type 0 where
  pub destination : q.destination ≡ n.ResourceDestination
  pub literal : q.literal.outer ≡ n.ResourceDestinationLiteral
  pub marker : q.literal.marker ≡ n.ResourceDestinationLiteralMarker
  pub raw : q.raw ≡ n.ResourceDestinationRaw
  pub string : q.literal.string ≡ n.ResourceDestinationString

pub place_finds : {A : Type 0} (on : Constructs) (names : Names) (text : List ℕ) (stop : Stop) (q : PlaceNames) (string front content : List ℕ) (a b : Walk A)
    → AreOfResource q → (w : WritesDestination on names text q string front content stop a b) → FindsPlace on names text string (one w.node)
place_finds on names text stop q string front content a b are w = by_form w.is
  where
    name_is : IsStringName q.literal.string
    name_is = subst IsStringName (sym are.string) destination_name

    outer_is : IsUnsought q.destination
    outer_is = subst IsUnsought (sym are.destination) (record { media = refl; sought = refl; tail = refl; definition = refl; column = refl })

    literal_is : IsUnsought q.literal.outer
    literal_is = subst IsUnsought (sym are.literal) (record { media = refl; sought = refl; tail = refl; definition = refl; column = refl })

    marker_is : IsUnsought q.literal.marker
    marker_is = subst IsUnsought (sym are.marker) (record { media = refl; sought = refl; tail = refl; definition = refl; column = refl })

    raw_is : IsUnsought q.raw
    raw_is = subst IsUnsought (sym are.raw) (record { media = refl; sought = refl; tail = refl; definition = refl; column = refl })

    around : (held : Option Node) → FindsString q.literal.string held (one w.inner) → FindsString n.ResourceDestinationString held (one w.node)
    around held finds =
        subst (λ (s : Name). FindsString s held (one w.node)) are.string
        (finds_around q.literal.string held w.node q.destination (one w.inner) name_is.listed outer_is w.named w.kids finds)

    by_form : IsInner on names text q string w.inner → FindsPlace on names text string (one w.node)
    by_form (inl is) = record {
      held = is.held;
      finds =
          around is.held (finds_quoted on names text q.literal.outer q.literal.marker q.literal.string string w.inner literal_is marker_is name_is is);
      spells = held_spells on names text q.literal.string string is.held is.holds;
    }
    by_form (inr is) = record {
      held = Some is.held;
      finds = around (Some is.held) (finds_raw on names text q.raw q.literal.string string w.inner raw_is name_is is);
      spells = is.holds.spells;
    }

-- plain nodes around others
wrapped_own : (name : Name) (before ns after : Nodes) → is_listed tail_names name ≡ true → ArePlain before → ArePlain after
    → own name (append before (append ns after)) ≡ own name ns
wrapped_own name before ns after listed one two =
    own_both name before (append ns after) ∙ ap (λ o. option_or o (own name (append ns after))) (one.tails name listed)
    ∙ own_both name ns after ∙ ap (option_or (own name ns)) (two.tails name listed) ∙ nothing_more (own name ns)
  where
    nothing_more : (o : Option Node) → option_or o None ≡ o
    nothing_more None = refl
    nothing_more (Some x) = refl

wrapped_named : (name : Name) (before ns after : Nodes) → named name before ≡ [] → named name ns ≡ [] → named name after ≡ []
    → named name (append before (append ns after)) ≡ []
wrapped_named name before ns after one two three =
    named_both name before (append ns after)
    ∙ ap₂ (λ (xs ys : List Node). xs ++ ys) one (named_both name ns after ∙ ap₂ (λ (xs ys : List Node). xs ++ ys) two three)

module _ {A : Type 0} (text : List ℕ) (stop : Stop) (on : Constructs) (names : Names) where
  -- a title, and white space
  pub title_tail : (a b c : Walk A) (content front after rest string : List ℕ) (read left : List Code) → IsOfBytes string → content ≡ front ++ after
      → WritesQuoted on names text n.ResourceTitle n.ResourceTitleMarker n.ResourceTitleString string front after stop a b
      → WritesWhite text after rest stop b c → content_codes rest ≡ left → content_codes string ≡ read
      → WritesTail on names text content (SpellsTitle on names text read) FillsTitle left stop a c
  title_tail a b c content front after rest string read left bytes parts w white left_is read_is =
      let quoted =
      finds_quoted on names text n.ResourceTitle n.ResourceTitleMarker n.ResourceTitleString string w.node
      (record { media = refl; sought = refl; tail = refl; definition = refl; column = refl })
      (record { media = refl; sought = refl; tail = refl; definition = refl; column = refl }) title_name w.is in
      let finds = finds_before n.ResourceTitleString w.is.held (one w.node) white.nodes refl quoted white.plain in
      record {
        front = front ++ white.front;
        after = rest;
        parts = parts ∙ ap (λ ys. front ++ ys) white.parts ∙ sym (append_assoc front white.front rest);
        rest = left_is;
        nodes = append (one w.node) white.nodes;
        writes =
            contents_both text stop a b c front white.front rest (one w.node) white.nodes
            (subst (λ ys. WritesInContent text front (one w.node) ys stop a b) white.parts w.writes) white.writes;
        whole = white.whole;
        spells = record {
          title =
              ap (λ o. string_of names text (inside_of o)) finds.found ∙ held_spells on names text n.ResourceTitleString string w.is.held w.is.holds
              ∙ ap (string_text on names) read_is;
          title_bytes = λ h. subst (λ cs. IsOfBytes (string_text on names cs)) read_is (string_of_bytes on names h string bytes);
          no_destination = finds.others n.ResourceDestinationString refl refl;
          definitions = finds.definitions;
          columns = finds.columns;
        };
        fill = λ around may.
            let both = may_both around front white.front may in
            record {
              rest = last_slots;
              fill = fill_both
                  (fill_taken around title_slots n.ResourceTitle Plain last_slots w.node w.is.named refl
                  (marked_filled on names text around n.ResourceTitle n.ResourceTitleMarker n.ResourceTitleString (opt n.ResourceTitleString) string w.node
                  resource_title w.is (λ none. refl) (w.lines around both.0)))
                  (white.fill around last_slots both.1 (record { space = refl; ending = refl; blank = refl; quote = refl }));
              ends = refl;
            };
        sound =
            sound_both on names text (one w.node) white.nodes
            (sound_one on names text w.node
            (marked_sound on names text n.ResourceTitle n.ResourceTitleMarker n.ResourceTitleString (opt n.ResourceTitleString) string w.node
            resource_title w.is))
            (white_sound on names text white);
      }

  -- a destination, and white space
  pub place_in : (a b c : Walk A) (q : PlaceNames) → AreOfResource q → (place : Part) (content front after rest string : List ℕ) → IsOfBytes string
      → content ≡ front ++ after → WritesDestination on names text q string front after stop a b → WritesWhite text after rest stop b c
      → content_codes rest ≡ after_white place.rest → content_codes string ≡ place.text → WritesPlace on names text place content rest stop a c
  place_in a b c q are place content front after rest string bytes parts w white codes read_is =
      let found = place_finds on names text stop q string front after a b are w in
      let finds = finds_before n.ResourceDestinationString found.held (one w.node) white.nodes refl found.finds white.plain in
      record {
        front = front ++ white.front;
        parts = parts ∙ ap (λ ys. front ++ ys) white.parts ∙ sym (append_assoc front white.front rest);
        codes = codes;
        nodes = append (one w.node) white.nodes;
        writes =
            contents_both text stop a b c front white.front rest (one w.node) white.nodes
            (subst (λ ys. WritesInContent text front (one w.node) ys stop a b) white.parts w.writes) white.writes;
        whole = white.whole;
        destination = ap (λ o. string_of names text (inside_of o)) finds.found ∙ found.spells ∙ ap (string_text on names) read_is;
        destination_bytes = λ h. subst (λ cs. IsOfBytes (string_text on names cs)) read_is (string_of_bytes on names h string bytes);
        no_title = finds.others n.ResourceTitleString refl refl;
        definitions = finds.definitions;
        columns = finds.columns;
        fill = λ around may.
            let both = may_both around front white.front may in
            fill_both
            (fill_taken around target_slots n.ResourceDestination Plain title_slots w.node (w.named ∙ are.destination) refl
            (place_filled on names text around q string w.node w.inner
            (place_renamed are.destination are.literal are.marker are.raw are.string resource_place) w.named w.kids w.is w.dark))
            (white.fill around title_slots both.1 (record { space = refl; ending = refl; blank = refl; quote = refl }));
        sound =
            sound_both on names text (one w.node) white.nodes
            (sound_one on names text w.node
            (place_sound on names text q string w.node w.inner
            (place_renamed are.destination are.literal are.marker are.raw are.string resource_place) w.named w.kids w.is))
            (white_sound on names text white);
      }

  -- without a title
  pub target_none : (a b : Walk A) (place : Part) (content rest : List ℕ) (r : LinkResource) (left : List Code)
      → WritesPlace on names text place content rest stop a b → after_white place.rest ≡ left → r.destination ≡ place.text → r.title ≡ None
      → WritesTail on names text content (SpellsTarget on names text r) FillsTarget left stop a b
  target_none a b place content rest r left w left_is read_is none = record {
    front = w.front;
    after = rest;
    parts = w.parts;
    rest = w.codes ∙ left_is;
    nodes = w.nodes;
    writes = w.writes;
    whole = w.whole;
    spells = record {
      destination = w.destination ∙ ap (string_text on names) (sym read_is);
      title = ap (λ o. string_of names text (inside_of o)) w.no_title ∙ ap (title_string on names) (sym none);
      destination_bytes = λ h. subst (λ cs. IsOfBytes (string_text on names cs)) (sym read_is) (w.destination_bytes h);
      title_bytes = λ h. subst (λ t. IsOfBytes (title_string on names t)) (sym none) no_bytes;
      definitions = w.definitions;
      columns = w.columns;
    };
    fill = λ around may. record { rest = title_slots; fill = w.fill around may; ends = refl };
    sound = w.sound;
  }

  -- and a title
  pub target_title : (a b c : Walk A) (place : Part) (content rest : List ℕ) (r : LinkResource) (read left : List Code)
      → WritesPlace on names text place content rest stop a b → WritesTail on names text rest (SpellsTitle on names text read) FillsTitle left stop b c
      → r.destination ≡ place.text → r.title ≡ Some read → WritesTail on names text content (SpellsTarget on names text r) FillsTarget left stop a c
  target_title a b c place content rest r read left w title read_is some = record {
    front = w.front ++ title.front;
    after = title.after;
    parts = w.parts ∙ ap (λ ys. w.front ++ ys) title.parts ∙ sym (append_assoc w.front title.front title.after);
    rest = title.rest;
    nodes = append w.nodes title.nodes;
    writes =
        contents_both text stop a b c w.front title.front title.after w.nodes title.nodes
        (subst (λ ys. WritesInContent text w.front w.nodes ys stop a b) title.parts w.writes) title.writes;
    whole = title.whole;
    spells = record {
      destination =
          ap (λ o. string_of names text (inside_of o))
          (own_both n.ResourceDestinationString w.nodes title.nodes
          ∙ ap (option_or (own n.ResourceDestinationString w.nodes)) title.spells.no_destination ∙ or_nothing (own n.ResourceDestinationString w.nodes))
          ∙ w.destination ∙ ap (string_text on names) (sym read_is);
      title =
          ap (λ o. string_of names text (inside_of o))
          (own_both n.ResourceTitleString w.nodes title.nodes ∙ ap (λ o. option_or o (own n.ResourceTitleString title.nodes)) w.no_title)
          ∙ title.spells.title ∙ ap (title_string on names) (sym some);
      destination_bytes = λ h. subst (λ cs. IsOfBytes (string_text on names cs)) (sym read_is) (w.destination_bytes h);
      title_bytes = λ h. subst (λ t. IsOfBytes (title_string on names t)) (sym some) (title.spells.title_bytes h);
      definitions = named_both n.Definition w.nodes title.nodes ∙ ap₂ (λ (xs ys : List Node). xs ++ ys) w.definitions title.spells.definitions;
      columns =
          named_both n.GfmTableDelimiterCellValue w.nodes title.nodes ∙ ap₂ (λ (xs ys : List Node). xs ++ ys) w.columns title.spells.columns;
    };
    fill = λ around may.
        let both = may_both around w.front title.front may in
        let more = title.fill around both.1 in
        record { rest = more.rest; fill = fill_both (w.fill around both.0) more.fill; ends = more.ends };
    sound = sound_both on names text w.nodes title.nodes w.sound title.sound;
  }
    where
      or_nothing : (o : Option Node) → option_or o None ≡ o
      or_nothing None = refl
      or_nothing (Some x) = refl

  -- nothing between the parentheses
  pub target_nothing : (a : Walk A) (content : List ℕ) (r : LinkResource) → r.destination ≡ [] → r.title ≡ None → content_codes content ≡ 41 ∷ r.rest
      → StandsInContent text content stop a → IsWhole a → WritesTail on names text content (SpellsTarget on names text r) FillsTarget (41 ∷ r.rest) stop a a
  target_nothing a content r destination none codes st whole = record {
    front = [];
    after = content;
    parts = refl;
    rest = codes;
    nodes = Nil;
    writes = contents_none text stop a content st;
    whole = whole;
    spells = record {
      destination = ap (string_text on names) (sym destination);
      title = ap (title_string on names) (sym none);
      destination_bytes = λ h. subst (λ cs. IsOfBytes (string_text on names cs)) (sym destination) no_bytes;
      title_bytes = λ h. subst (λ t. IsOfBytes (title_string on names t)) (sym none) no_bytes;
      definitions = refl;
      columns = refl;
    };
    fill = λ around may. record { rest = target_slots; fill = fill_none around target_slots; ends = refl };
    sound = tt;
  }

  -- ---- the resource

  -- a resource between its parentheses
  pub resource_tail : (a b c d e f g : Walk A) (content inside : List ℕ) (others : List ℕ) (r : LinkResource) → content ≡ 40 ∷ others
      → EntersInContent text n.Resource content stop a b → WritesToken text stop n.ResourceMarker (40 ∷ []) others b c
      → WritesWhite text others inside stop c d → (tail : WritesTail on names text inside (SpellsTarget on names text r) FillsTarget (41 ∷ r.rest) stop d e)
      → (last : List ℕ)
      → tail.after ≡ 41 ∷ last → WritesToken text stop n.ResourceMarker (41 ∷ []) last e f → content_codes last ≡ r.rest
      → ExitsInContent text n.Resource last stop f g → WritesTail on names text content (SpellsResource on names text r) FillsTail r.rest stop a g
  resource_tail a b c d e f g content inside others r is enters first white tail last closes closed codes exits =
      let before = append (one first.node) white.nodes in
      let after = one closed.node in
      let kids = append before (append tail.nodes after) in
      let front = 40 ∷ (white.front ++ (tail.front ++ 41 ∷ [])) in
      let rest : inside ≡ (tail.front ++ 41 ∷ []) ++ last =
      tail.parts ∙ ap (λ ys. tail.front ++ ys) closes ∙ sym (append_assoc tail.front (41 ∷ []) last) in
      let parts : content ≡ front ++ last =
      is ∙ ap (λ ys. 40 ∷ ys) (white.parts ∙ ap (λ ys. white.front ++ ys) rest ∙ sym (append_assoc white.front (tail.front ++ 41 ∷ []) last)) in
      let start : WritesInContent text (40 ∷ white.front) before inside stop b d =
      contents_both text stop b c d (40 ∷ []) white.front inside (one first.node) white.nodes
      (subst (λ ys. WritesInContent text (40 ∷ []) (one first.node) ys stop b c) white.parts first.writes) white.writes in
      let middle : WritesInContent text (tail.front ++ 41 ∷ []) (append tail.nodes after) last stop d f =
      contents_both text stop d e f tail.front (41 ∷ []) last tail.nodes after
      (subst (λ ys. WritesInContent text tail.front tail.nodes ys stop d e) closes tail.writes) closed.writes in
      let all : WritesInContent text front kids last stop b f =
      contents_both text stop b d f (40 ∷ white.front) (tail.front ++ 41 ∷ []) last before (append tail.nodes after)
      (subst (λ ys. WritesInContent text (40 ∷ white.front) before ys stop b d) rest start) middle in
      let node = Around (enter_at text n.Resource (end_in a.out)) kids (exit_at text n.Resource (end_in f.out)) in
      let marker_is : IsUnsought n.ResourceMarker = record { media = refl; sought = refl; tail = refl; definition = refl; column = refl } in
      let one_is = plain_both (one first.node) white.nodes (void_plain first.node n.ResourceMarker marker_is first.void) white.plain in
      let two_is = void_plain closed.node n.ResourceMarker marker_is closed.void in
      let marker_sound : (marker : Node) → IsVoidOf n.ResourceMarker marker → AreSound on names text (one marker) =
      λ marker void. sound_one on names text marker (empty_sound on names text marker n.ResourceMarker void.0 void.1 refl) in
      let found : (name : Name) → is_listed tail_names name ≡ true → same_name n.Resource name ≡ false → own name (one node) ≡ own name tail.nodes =
      λ name listed other. own_around node name refl other ∙ wrapped_own name before tail.nodes after listed one_is two_is in
      record {
        front = front;
        after = last;
        parts = parts;
        rest = codes;
        nodes = one node;
        writes =
            around_in text stop on names a b f g n.Resource front last kids (record { other = refl; prefix = refl })
            (subst (λ ys. EntersInContent text n.Resource ys stop a b) parts enters) all exits;
        whole = ap (λ (x : End). x.owed) exits.end ∙ closed.whole;
        spells = record {
          is_there = ap is_some (own_found node n.Resource refl refl);
          destination = ap (λ o. string_of names text (inside_of o)) (found n.ResourceDestinationString refl refl) ∙ tail.spells.destination;
          title = ap (λ o. string_of names text (inside_of o)) (found n.ResourceTitleString refl refl) ∙ tail.spells.title;
          destination_bytes = tail.spells.destination_bytes;
          title_bytes = tail.spells.title_bytes;
          definitions =
              named_around node n.Definition refl
              ∙ wrapped_named n.Definition before tail.nodes after one_is.definitions tail.spells.definitions two_is.definitions;
          columns =
              named_around node n.GfmTableDelimiterCellValue refl
              ∙ wrapped_named n.GfmTableDelimiterCellValue before tail.nodes after one_is.columns tail.spells.columns two_is.columns;
        };
        fill = λ around may.
            let within = one_line around n.Resource in
            let all_may = may_both within (40 ∷ []) (white.front ++ (tail.front ++ 41 ∷ [])) (may_in around n.Resource front refl may) in
            let white_may = may_both within white.front (tail.front ++ 41 ∷ []) all_may.1 in
            let tail_may = may_both within tail.front (41 ∷ []) white_may.1 in
            let inner = tail.fill within tail_may.0 in
            record {
              rest = [];
              fill = fill_taken around tail_slots n.Resource Plain [] node refl refl
                  (filled_by around Plain n.Resource [] node refl
                  (fill_both
                  (fill_both
                  (fill_taken within (row n.Resource Plain) n.ResourceMarker Plain target_slots first.node first.void.0 refl
                  (filled_void within Plain n.ResourceMarker first.node first.void.0 first.void.1 refl))
                  (white.fill within target_slots white_may.0 (record { space = refl; ending = refl; blank = refl; quote = refl })))
                  (fill_both inner.fill
                  (fill_taken within inner.rest n.ResourceMarker Plain [] closed.node closed.void.0 inner.ends
                  (filled_void within Plain n.ResourceMarker closed.node closed.void.0 closed.void.1 refl))))
                  refl);
              ends = refl;
            };
        sound =
            sound_one on names text node
            (sound_around on names text node refl
            (sound_both on names text before (append tail.nodes after)
            (sound_both on names text (one first.node) white.nodes (marker_sound first.node first.void) (white_sound on names text white))
            (sound_both on names text tail.nodes after tail.sound (marker_sound closed.node closed.void))));
      }
