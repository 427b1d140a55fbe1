-- What is written of escapes and of a character reference (CommonMark 2.4 and 2.5).
use Rattle.std.proofs.Common.{◌≡◌, ℕ, suc, ◌+◌, ◌<◌, ◌≤◌, Bool, false, ◌||◌, List, [], ◌∷◌, ◌++◌, refl, sym, ap, subst, ◌∙◌, append_assoc, take, drop}
use Rattle.std.proofs.Common.{length, map, get_or, drop-cons, arith}
use Rattle.parse_inline.proofs.Prelude.{Anywhere, append-nil, AreBytes, AreBytesAt, Around, bytes_drop, codes_of, codes_split, contents_none, drop-append_seam}
use Rattle.parse_inline.proofs.Prelude.{ends_line, Escape, escaped, InlineCode, InlineContext, inlines_of, is_eol, IsWhole, kids_of, leaves, length-append}
use Rattle.parse_inline.proofs.Prelude.{length-drop, line_bytes, list_any, map-append, Name, Names, Nil, no_ends, Node, node_name, one}
use Rattle.parse_inline.proofs.Prelude.{plain_none, position_or_len, same_codes, same_name, StandsInContent, Stop, string_of, take-append-drop}
use Rattle.parse_inline.proofs.Prelude.{text_of, text_part, text_within, unwrap_or, Walk, WritesFront, WritesLeaves}
use Rattle.std.proofs.Common.{true}
use Rattle.std.specs.Char.{is_ascii_alphanumeric, is_ascii_punctuation}
use Rattle.std.specs.List.{list_all}
use Rattle.std.specs.Prelude.{is_some}
use Rattle.std.proofs.lemmas.Bool.{and_parts}
use Rattle.std.proofs.lemmas.List.Folds.{list_all-append}
use Rattle.std.proofs.Math.Seq.{take-suc}
use Rattle.std.proofs.lemmas.Grind.{flat_map-append}
use Rattle.std.proofs.lemmas.List.{length-take}
use Rattle.markdown_options.specs.declared.configuration.Constructs.{Constructs}
use Rattle.engine_events.specs.declared.event.Name.TheVariants as n
use Rattle.definition_inline.specs.CharacterReference.{reference_text}
use Rattle.definition_inline.specs.Inline as inline
use Rattle.definition_inline.specs.Inline.{Character}
use Rattle.event_meaning.specs.Strings.{string_part}
use Rattle.event_meaning.specs.Texts as texts
use Rattle.parse_strings.specs.References.{AreMarks, is_semicolon, marked_decodes, marked_text}
use Rattle.parse_strings.specs.Strings.{WritesNodeIn}
use Rattle.parse_strings.proofs.Texts.{marked}
use Rattle.inline_references.proofs.Written.{read_is_written}
use Rattle.parse_written.proofs.RowLeaves.{reference_bytes_law}
use Rattle.parse_written.specs.Leaves.{IsReference}
use Rattle.event_grammar.specs.declared.slot.Form.TheVariants.{Plain}
use Rattle.event_grammar.specs.Grammar.{text_row}
use Rattle.parse_slots.proofs.Steps.{fill_none, fill_taken}
use Rattle.parse_references.proofs.Sound.{sound_one}
use Rattle.parse_inline.proofs.Fronts.{fronts_both, leaves_of_front}
use Rattle.parse_inline.proofs.LeavesAlike.{leaf_alike}

module _ (names : Names) (text : List ℕ) where
  -- a node spells what its name and its children say
  node_spells : (linked : Bool) (name : Name) (node : Node) → node_name node ≡ name
      → inlines_of names text linked (one node)
      ≡ texts.append (text_part names text linked name (text_of text node) (kids_of node)
      (text_within names text (linked || same_name name n.Link) (kids_of node))) inline.Nil
  node_spells linked name (Around enter kids exit) named =
      ap (λ x. texts.append
      (text_part names text linked x (text_of text (Around enter kids exit)) kids (text_within names text (linked || same_name x n.Link) kids)) inline.Nil)
      named

  string_spells : (name : Name) (node : Node) (string : List ℕ) → node_name node ≡ name → string_of names text (one node) ≡ string
      → string_part names text name (text_of text node) (kids_of node) ≡ string
  string_spells name node string named spells =
      sym (ap (λ x. string_part names text x (text_of text node) (kids_of node)) named)
      ∙ sym (append-nil (string_part names text (node_name node) (text_of text node) (kids_of node)))
      ∙ spells

  module _ {A : Type 0} (on : Constructs) (stop : Stop) where
    escape_front : (a b : Walk A) (byte : ℕ) (content : List ℕ) → WritesNodeIn on names text n.CharacterEscape (92 ∷ byte ∷ []) (byte ∷ []) content stop a b
        → WritesFront on names text (92 ∷ byte ∷ []) content Anywhere (Escape byte ∷ []) stop a b
    escape_front a b byte content w = record {
      nodes = one w.node;
      writes = w.writes;
      whole = w.whole;
      plain = w.plain;
      spells = λ linked may.
          node_spells linked n.CharacterEscape w.node w.named
          ∙ ap (λ (xs : List ℕ). texts.append (leaves (map Escape xs)) inline.Nil) (string_spells n.CharacterEscape w.node (byte ∷ []) w.named w.spells);
      fill = λ around may. fill_taken around text_row n.CharacterEscape Plain text_row w.node w.named refl (w.filled around);
      sound = sound_one on names text w.node w.sound;
    }

    pub reference_front : (a b : Walk A) (front string content : List ℕ) → WritesNodeIn on names text n.CharacterReference front string content stop a b
        → WritesFront on names text front content Anywhere (Character string ∷ []) stop a b
    reference_front a b front string content w = record {
      nodes = one w.node;
      writes = w.writes;
      whole = w.whole;
      plain = w.plain;
      spells = λ linked may.
          node_spells linked n.CharacterReference w.node w.named
          ∙ ap (λ t. leaves (Character t ∷ [])) (string_spells n.CharacterReference w.node string w.named w.spells);
      fill = λ around may. fill_taken around text_row n.CharacterReference Plain text_row w.node w.named refl (w.filled around);
      sound = sound_one on names text w.node w.sound;
    }

    pub no_escapes : (a : Walk A) (front content : List ℕ) → StandsInContent text (escaped front ++ content) stop a → IsWhole a
        → WritesFront on names text [] (escaped front ++ content) Anywhere [] stop a a
    no_escapes a front content st whole = record {
      nodes = Nil;
      writes = contents_none text stop a (escaped front ++ content) st;
      whole = whole;
      plain = plain_none;
      spells = λ linked may. refl;
      fill = λ around may. fill_none around text_row;
      sound = tt;
    }

    pub escapes_more : (a b c : Walk A) (front content : List ℕ) (done next : ℕ) → (0 < length front → on.character_escape ≡ true) → done < length front → next ≡ done + 1 → list_all is_ascii_punctuation front ≡ true
        → WritesFront on names text (escaped (take done front)) (escaped (drop done front) ++ content) Anywhere (map Escape (take done front)) stop a b
        → ((after : List ℕ) (byte : ℕ) → on.character_escape ≡ true → is_ascii_punctuation byte ≡ true → StandsInContent text (92 ∷ byte ∷ after) stop b → IsWhole b
        → WritesNodeIn on names text n.CharacterEscape (92 ∷ byte ∷ []) (byte ∷ []) after stop b c)
        → WritesFront on names text (escaped (take next front)) (escaped (drop next front) ++ content) Anywhere (map Escape (take next front)) stop a c
    escapes_more a b c front content done next is_on within is marks w more =
        let byte = get_or front done 0 in
        let left = drop (suc done) front in
        let first = take done front in
        let split : drop done front ≡ byte ∷ left = drop-cons front done 0 within in
        let taken : take (suc done) front ≡ first ++ byte ∷ [] = take-suc front done 0 within in
        let parts : front ≡ first ++ (byte ∷ left) = sym (take-append-drop done front) ∙ ap (λ xs. first ++ xs) split in
        let tests = sym (list_all-append is_ascii_punctuation first (byte ∷ left)) ∙ ap (list_all is_ascii_punctuation) (sym parts) ∙ marks in
        let later = and_parts (list_all is_ascii_punctuation first) (list_all is_ascii_punctuation (byte ∷ left)) tests in
        let mark : is_ascii_punctuation byte ≡ true = (and_parts (is_ascii_punctuation byte) (list_all is_ascii_punctuation left) later.1).0 in
        let here = subst (λ xs. WritesFront on names text (escaped first) (escaped xs ++ content) Anywhere (map Escape first) stop a b) split w in
        let one_more = escape_front b c byte (escaped left ++ content) (more (escaped left ++ content) byte (is_on (omega (arith, within))) mark here.writes.stands here.whole) in
        let all =
        fronts_both names text stop on a b c (escaped first) (92 ∷ byte ∷ []) (escaped left ++ content) Anywhere (map Escape first)
        (Escape byte ∷ []) here one_more in
        let fronts : escaped first ++ (92 ∷ byte ∷ []) ≡ escaped (take (suc done) front) =
        sym (ap escaped taken ∙ flat_map-append (λ b. 92 ∷ b ∷ []) first (byte ∷ [])) in
        let ls : map Escape first ++ Escape byte ∷ [] ≡ map Escape (take (suc done) front) =
        sym (ap (map Escape) taken ∙ map-append Escape first (byte ∷ [])) in
        let step = subst (λ xs. WritesFront on names text xs (escaped left ++ content) Anywhere (map Escape first ++ Escape byte ∷ []) stop a c) fronts all in
        let last = subst (λ xs. WritesFront on names text (escaped (take (suc done) front)) (escaped left ++ content) Anywhere xs stop a c) ls step in
        let there : suc done ≡ next = omega (arith, is) in
        subst (λ k. WritesFront on names text (escaped (take k front)) (escaped (drop k front) ++ content) Anywhere
        (map Escape (take k front)) stop a c) there last

    -- a reference
    pub reference_written : (a b : Walk A) (context : InlineContext) (printed bytes : List ℕ) (from to : List InlineCode) (size : ℕ)
        → context.names ≡ names → AreBytes bytes
        → IsReference context printed from to → AreBytesAt bytes from
        → (position_or_len is_semicolon bytes < length bytes → size ≡ position_or_len is_semicolon bytes + 1)
        → StandsInContent text bytes stop a → IsWhole a
        → ((marks value after content : List ℕ) (first : ℕ) → bytes ≡ 38 ∷ (marks ++ first ∷ after) → AreMarks marks first → 0 < length value
        → length value ≤ 31 → list_all is_ascii_alphanumeric value ≡ true → marked_decodes names marks value ≡ true
        → size ≡ length marks + length value + 2 → list_any ends_line (38 ∷ (marks ++ (value ++ 59 ∷ []))) ≡ false
        → StandsInContent text ((38 ∷ (marks ++ (value ++ 59 ∷ []))) ++ content) stop a → IsWhole a
        → WritesNodeIn on names text n.CharacterReference (38 ∷ (marks ++ (value ++ 59 ∷ []))) (marked_text names marks value) content stop a b)
        → WritesLeaves on names text bytes Anywhere (Character printed ∷ []) to stop a b
    reference_written a b context printed bytes from to size by small form at sized st whole written =
        let (front, is_written, parts) = read_is_written (codes_of from) _ form.form in
        let m = marked names front form.name is_written in
        let value = m.first ∷ m.more in
        let cut = codes_split front (codes_of to) bytes (sym at ∙ parts) in
        let front_is : cut.front ≡ front = sym (line_bytes cut.front (ap (list_any is_eol) cut.first ∙ m.dark)) ∙ cut.first in
        let all : bytes ≡ front ++ cut.after = cut.parts ∙ ap (λ xs. xs ++ cut.after) front_is in
        let law = reference_bytes_law context printed bytes from to form at in
        let ended = law.written ++ 59 ∷ [] in
        let marks = m.marks in
        let whole_front = 38 ∷ (marks ++ (value ++ 59 ∷ [])) in
        let after = cut.after in
        let after_at : drop (length cut.front) bytes ≡ after = ap (drop (length cut.front)) cut.parts ∙ drop-append_seam cut.front after in
        let after_small : AreBytes after = subst AreBytes after_at (bytes_drop (length cut.front) bytes small) in
        let same : after ≡ drop (length ended) bytes =
        same_codes after (drop (length ended) bytes) after_small (bytes_drop (length ended) bytes small) (cut.last ∙ law.passes.left) in
        let parts_here : bytes ≡ whole_front ++ after = all ∙ ap (λ xs. xs ++ after) m.whole in
        let within : length ended ≤ length bytes = omega (arith, ap length law.passes.front, length-take (length ended) bytes) in
        let ended_size : length ended ≡ length law.written + 1 = length-append law.written (59 ∷ []) in
        let total : length bytes ≡ length whole_front + length after = ap length parts_here ∙ length-append whole_front after in
        let front_size : length ended ≡ length whole_front = omega (arith, within, total, ap length same, length-drop (length ended) bytes) in
        let sum : length whole_front ≡ length marks + length value + 2 =
        omega (arith, length-append marks (value ++ 59 ∷ []), length-append value (59 ∷ [])) in
        let size_is : size ≡ length marks + length value + 2 =
        omega (arith, sized (omega (arith, law.first, within, ended_size)), law.first, front_size, ended_size, sum) in
        let tail : bytes ≡ 38 ∷ (marks ++ m.first ∷ (m.more ++ 59 ∷ after)) =
        parts_here
        ∙ ap (λ xs. 38 ∷ xs) (append_assoc marks (value ++ 59 ∷ []) after ∙ ap (λ xs. marks ++ m.first ∷ xs) (append_assoc m.more (59 ∷ []) after)) in
        let dark : list_any ends_line whole_front ≡ false = ap (list_any ends_line) (sym m.whole) ∙ no_ends front m.dark in
        let known : is_some (reference_text names form.name) ≡ true =
        ap (λ (others : Names). is_some (reference_text others form.name)) (sym by) ∙ ap is_some form.known in
        let w =
        written marks value (m.more ++ 59 ∷ after) after m.first tail m.are (omega arith) m.most m.all (m.decodes known) size_is dark
        (subst (λ xs. StandsInContent text xs stop a) parts_here st) whole in
        let printed_is : marked_text names marks value ≡ printed =
        sym m.text ∙ ap (λ (others : Names). unwrap_or (reference_text others form.name) []) (sym by) ∙ ap (λ o. unwrap_or o []) form.known in
        leaves_of_front names text stop on a b bytes whole_front after Anywhere (Character printed ∷ []) (Character printed ∷ []) to parts_here (sym cut.last)
        (subst (λ t. WritesFront on names text whole_front after Anywhere (Character t ∷ []) stop a b) printed_is
        (reference_front a b whole_front (marked_text names marks value) after w))
        (λ first second. leaf_alike first second (Character printed) (leaves (Character printed ∷ [])) refl)
