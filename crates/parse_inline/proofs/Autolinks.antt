-- What is written of an autolink (CommonMark 6.5).
use Rattle.std.proofs.Common.{◌≡◌, ◌<◌, ℕ, Bool, true, false, ◌||◌, List, [], ◌∷◌, ◌++◌, refl, ap, ap₂, subst, ◌∙◌, append_assoc, length, arith}
use Rattle.markdown_options.specs.declared.configuration.Constructs.{Constructs}
use Rattle.event_tokens.specs.Tokens.{is_token}
use Rattle.parse_written.specs.Leaves.{is_target}
use Rattle.parse_lines.proofs.Bytes.{has_bytes}
use Rattle.parse_inline.proofs.Prelude.{Anywhere, append, ArePlain, Around, End, end_after, end_in, ends_line, enter_at, EntersInLine, exit_at, ExitsInLine}
use Rattle.parse_inline.proofs.Prelude.{in_angles, inlines_of, IsUtf8, IsWhole, leaves, line_in_content, list_any, list_any-append, Name, Names, Nodes, one}
use Rattle.parse_inline.proofs.Prelude.{plain_both, plain_none, plain_one, same_name, standing, StandsInContent, StandsInLine, still_whole, Stop, text_of}
use Rattle.parse_inline.proofs.Prelude.{token, token_text, void_nodes, void_one, Walk, WritesFront, WritesInLine}
use Rattle.engine_events.specs.declared.event.Name.TheVariants as n
use Rattle.definition_inline.specs.Inline.{Autolink}
use Rattle.event_grammar.specs.declared.slot.Between.{Between}
use Rattle.event_grammar.specs.declared.slot.Between.TheVariants.{Lines, Spaces}
use Rattle.event_grammar.specs.declared.slot.Child.TheVariants.{Either}
use Rattle.event_grammar.specs.declared.slot.Form.TheVariants.{Plain}
use Rattle.event_grammar.specs.declared.slot.Slot.{Slot}
use Rattle.event_grammar.specs.declared.slot.Slot.TheVariants.{One}
use Rattle.event_grammar.specs.Grammar.{one as one_slot, row, text_row}
use Rattle.parse_slots.specs.Left.{Fill, IsFilled}
use Rattle.parse_slots.proofs.Steps.{fill_both, fill_taken, filled_in_line}
use Rattle.parse_references.proofs.Sound.{sound_filled, sound_one}
use Rattle.parse_strings.proofs.Characters.{with_characters}
use Rattle.parse_strings.proofs.Fills.{token_taken}
use Rattle.parse_lines.proofs.InLine.{lines_around, lines_both}
use Rattle.parse_inline.specs.Leaves.{address_name}
use Rattle.parse_inline.proofs.Fronts.{WritesNext, next_here}

-- a `<`, an address and a `>`
abbrev autolink_kids : List ℕ → Bool → ℕ → ℕ → ℕ → ℕ → Nodes
autolink_kids text email i j k size =
    append (one (token text n.AutolinkMarker i 1)) (append (one (token text (address_name email) j size)) (one (token text n.AutolinkMarker k 1)))

autolink_spells : (names : Names) (text : List ℕ) (linked email : Bool) (address : List ℕ) (i j k : ℕ) (a b : End)
    → text_of text (token text (address_name email) j (length address)) ≡ address
    → inlines_of names text linked (one (Around (enter_at text n.Autolink a) (autolink_kids text email i j k (length address)) (exit_at text n.Autolink b)))
    ≡ leaves (Autolink email address ∷ [])
autolink_spells names text linked true address i j k a b is = ap (λ t. leaves (Autolink true t ∷ [])) is
autolink_spells names text linked false address i j k a b is = ap (λ t. leaves (Autolink false t ∷ [])) is

address_plain : (text : List ℕ) (email : Bool) (i j k size : ℕ) → ArePlain (autolink_kids text email i j k size)
address_plain text true i j k size =
    plain_both (one (token text n.AutolinkMarker i 1)) _ (plain_one _ refl plain_none)
    (plain_both (one (token text n.AutolinkEmail j size)) (one (token text n.AutolinkMarker k 1)) (plain_one _ refl plain_none) (plain_one _ refl plain_none))
address_plain text false i j k size =
    plain_both (one (token text n.AutolinkMarker i 1)) _ (plain_one _ refl plain_none)
    (plain_both (one (token text n.AutolinkProtocol j size)) (one (token text n.AutolinkMarker k 1)) (plain_one _ refl plain_none)
    (plain_one _ refl plain_none))

-- what is left of the row of an autolink after its address, and before it
abbrev closing : List Slot
closing = one_slot n.AutolinkMarker ∷ []

abbrev addressed : List Slot
addressed = One (Either n.AutolinkProtocol n.AutolinkEmail) ∷ closing

address_taken : (text : List ℕ) (email : Bool) (j size : ℕ) → Fill Spaces addressed (one (token text (address_name email) j size)) closing
address_taken text true j size = token_taken Spaces addressed n.AutolinkEmail closing text j size refl refl
address_taken text false j size = token_taken Spaces addressed n.AutolinkProtocol closing text j size refl refl

address_fill : (text : List ℕ) (email : Bool) (i j k size : ℕ) → Fill Spaces (row n.Autolink Plain) (autolink_kids text email i j k size) []
address_fill text email i j k size =
    fill_both (token_taken Spaces (row n.Autolink Plain) n.AutolinkMarker addressed text i 1 refl refl)
    (fill_both (address_taken text email j size) (token_taken Spaces closing n.AutolinkMarker [] text k 1 refl refl))

address_data : (email : Bool) → same_name (address_name email) n.Data ≡ false
address_data true = refl
address_data false = refl

address_prefix : (email : Bool) → same_name (address_name email) n.BlockQuotePrefix ≡ false
address_prefix true = refl
address_prefix false = refl

address_may : (email : Bool) (bytes : List ℕ) → IsUtf8 bytes → is_target email bytes ≡ true → is_token (address_name email) bytes ≡ true
address_may true bytes utf8 is = with_characters bytes _ utf8 is
address_may false bytes utf8 is = with_characters bytes _ utf8 is

module _ {A : Type 0} (names : Names) (text : List ℕ) (stop : Stop) where
  pub autolink_front : (on : Constructs) (email : Bool) (name : Name) (a b c d e f : Walk A) (address content : List ℕ) (size : ℕ) → name ≡ address_name email
      → size ≡ length address
      → 0 < length address → list_any ends_line address ≡ false → is_target email address ≡ true → IsUtf8 address
      → StandsInContent text (in_angles address ++ content) stop a → IsWhole a
      → standing f ≡ standing a
      → ((line : List ℕ) → StandsInLine text line a → EntersInLine text n.Autolink line a b) → WritesNext text n.AutolinkMarker 1 b c
      → WritesNext text name size c d
      → WritesNext text n.AutolinkMarker 1 d e → ((line : List ℕ) → StandsInLine text line e → ExitsInLine text n.Autolink line e f)
      → WritesFront on names text (in_angles address) content Anywhere (Autolink email address ∷ []) stop a f
  autolink_front on email name a b c d e f address content size named is some dark target utf8 st whole same enters first value second exits =
      let inner : list_any ends_line (address ++ 62 ∷ []) ≡ false =
      list_any-append ends_line address (62 ∷ []) ∙ ap (λ t. t || list_any ends_line (62 ∷ [])) dark in
      let ahead = line_in_content text stop a (in_angles address) content st inner in
      let line = ahead.line in
      let entered = enters (in_angles address ++ line) ahead.stands in
      let m = first (60 ∷ []) ((address ++ 62 ∷ []) ++ line) refl refl entered.stands
      (has_bytes text (60 ∷ []) ((address ++ 62 ∷ []) ++ line) 1 b n.AutolinkMarker refl entered.stands (ap (λ (y : End). y.owed) entered.end ∙ whole) refl) in
      let at_value = subst (λ xs. StandsInLine text xs c) (append_assoc address (62 ∷ []) line) m.stands in
      let prefix : same_name name n.BlockQuotePrefix ≡ false = ap (λ x. same_name x n.BlockQuotePrefix) named ∙ address_prefix email in
      let inside_c : IsWhole c = ap (λ (y : End). y.owed) m.end ∙ still_whole (end_in b.out) 1 (ap (λ (y : End). y.owed) entered.end ∙ whole) in
      let may = ap (λ x. is_token x address) named ∙ address_may email address utf8 target in
      let v = value address (62 ∷ line) is prefix at_value (has_bytes text address (62 ∷ line) size c name is at_value inside_c may) in
      let l =
      second (62 ∷ []) line refl refl v.stands (has_bytes text (62 ∷ []) line 1 d n.AutolinkMarker refl v.stands
      (ap (λ (y : End). y.owed) v.end ∙ still_whole (end_in c.out) (length address) inside_c) refl) in
      let x = exits line l.stands in
      let owed = λ (y : End). y.owed in
      let whole_b : IsWhole b = ap owed entered.end ∙ whole in
      let whole_c : IsWhole c = ap owed m.end ∙ still_whole (end_in b.out) 1 whole_b in
      let whole_d : IsWhole d = ap owed v.end ∙ still_whole (end_in c.out) (length address) whole_c in
      let whole_e : IsWhole e = ap owed l.end ∙ still_whole (end_in d.out) 1 whole_d in
      let one_m = void_one text n.AutolinkMarker (end_in b.out) 1 whole_b (omega arith) refl in
      let one_v =
      ap₂ (λ y k. void_nodes text y (end_in c.out) (end_after (end_in c.out) k)) named is
      ∙ void_one text (address_name email) (end_in c.out) (length address) whole_c some (address_data email) in
      let one_l = void_one text n.AutolinkMarker (end_in d.out) 1 whole_d (omega arith) refl in
      let i = (end_in b.out).index in
      let j = (end_in c.out).index in
      let k = (end_in d.out).index in
      let kids = autolink_kids text email i j k (length address) in
      let later = lines_both text c d e address (62 ∷ []) line _ _
      (subst (λ ns. WritesInLine text address ns (62 ∷ line) c d) one_v v) (subst (λ ns. WritesInLine text (62 ∷ []) ns line d e) one_l l) in
      let all = lines_both text b c e (60 ∷ []) (address ++ 62 ∷ []) line _ _
      (subst (λ ns. WritesInLine text (60 ∷ []) ns ((address ++ 62 ∷ []) ++ line) b c) one_m m) later in
      let node = Around (enter_at text n.Autolink (end_in a.out)) kids (exit_at text n.Autolink (end_in e.out)) in
      let filled : (around : Between) → IsFilled around Plain node =
      λ around. filled_in_line around Plain n.Autolink [] node refl refl refl (address_fill text email i j k (length address)) refl in
      record {
        nodes = one node;
        writes = ahead.lifts (one node) f same (lines_around text a b e f n.Autolink (in_angles address) line kids entered all x refl);
        whole = ap owed x.end ∙ whole_e;
        plain = plain_one node refl (address_plain text email i j k (length address));
        spells = λ linked may.
            autolink_spells names text linked email address i j k (end_in a.out) (end_in e.out)
            (token_text text (address_name email) j address (62 ∷ line) (next_here text (address ++ 62 ∷ line) c at_value whole_c));
        fill = λ around may. fill_taken around text_row n.Autolink Plain text_row node refl refl (filled around);
        sound = sound_one on names text node (sound_filled on names text 2 Lines Plain n.Autolink node refl refl (filled Lines));
      }
