-- What is written of strings between markers, step by step (CommonMark 4.7 and 6.3).
use Rattle.std.proofs.Common.{◌≡◌, ℕ, ◌<◌, true, false, ◌&&◌, eqb, List, [], ◌∷◌, ◌++◌, None, Some, inr, refl, sym, ap, subst}
use Rattle.std.proofs.Common.{◌∙◌, append_assoc, arith, length}
use Rattle.event_tokens.specs.Tokens.{is_token}
use Rattle.parse_lines.specs.Content.{HasBytes}
use Rattle.parse_lines.proofs.Bytes.{has_bytes}
use Rattle.parse_links.proofs.Prelude.{and_parts, append, AreCutApart, Around, cond-false, Cons, Constructs, content_codes, contents_both, contents_none, End}
use Rattle.parse_links.proofs.Prelude.{end_after, end_in, ends_line, enter_at, EntersInContent, exit_at, ExitsInContent, is_eol, is_space, is_white, IsMark}
use Rattle.parse_links.proofs.Prelude.{IsStringNode, IsVoidOf, IsWhole, Name, Names, Nil, Node, Nodes, one, or_from, or_parts, same_name, some_nodes, standing}
use Rattle.parse_links.proofs.Prelude.{StandsInContent, StandsInLine, Stop, void_nodes, Walk, words, WritesHeld, WritesInContent, WritesInLine, WritesQuoted}
use Rattle.parse_links.proofs.Prelude.{WritesRaw}
use Rattle.std.proofs.lemmas.Bool.{and_left, not-true}
use Rattle.engine_events.specs.declared.event.Event.{Event}
use Rattle.engine_events.specs.declared.event.Name.TheVariants as n
use Rattle.parse_output.specs.Forest.{cut, is_nil}
use Rattle.parse_output.specs.Joined.{AreJoined, end_edge, flat_text}
use Rattle.parse_output.proofs.Joined.{flat_label}
use Rattle.parse_lines.proofs.InContent.{contents_around, line_in_content}
use Rattle.parse_lines.proofs.SomeNodes.{written_some}
use Rattle.parse_slots.specs.Left.{MayEndLines}
use Rattle.parse_slots.proofs.Steps.{may_both}
use Rattle.parse_strings.specs.References.{token}
use Rattle.parse_strings.specs.Strings.{WritesStringIn}
use Rattle.parse_strings.proofs.SameText.{same_text_words}
use Rattle.parse_strings.proofs.Spelled.{still_whole, void_one}
use Rattle.parse_links.specs.declared.quoted.Quoted.{Quoted}
use Rattle.parse_links.specs.Quoted.{is_own}

-- a name that is neither data nor the prefix of a quote
pub record IsOwn (name : Name) : Type 0 where
  pub other : same_name name n.Data ≡ false
  pub prefix : same_name name n.BlockQuotePrefix ≡ false

pub own_of : (name : Name) → is_own name ≡ true → IsOwn name
own_of name h =
    let parts = or_parts (same_name name n.Data) (same_name name n.BlockQuotePrefix) (not-true _ h) in
    record { other = parts.0; prefix = parts.1 }

-- the names of a string between markers
pub record QuotedOwn (q : Quoted) : Type 0 where
  pub outer : is_own q.outer ≡ true
  pub marker : is_own q.marker ≡ true
  pub string : is_own q.string ≡ true

pub quoted_own : (q : Quoted) → QuotedOwn q
quoted_own q =
    let first = and_parts (is_own q.outer) (is_own q.marker && is_own q.string) q.own in
    let second = and_parts (is_own q.marker) (is_own q.string) first.1 in
    record { outer = first.0; marker = second.0; string = second.1 }

-- a mark ends no line
pub mark_dark : (b : ℕ) → IsMark b → ends_line b ≡ false
mark_dark b h = (or_parts (ends_line b) (eqb b 257) (or_parts (is_white b) (is_eol b) h.dark).1).0

-- before a mark nothing is cut
pub mark_apart : (string content : List ℕ) (b : ℕ) → IsMark b → AreCutApart string (b ∷ content)
mark_apart string content b h = inr (or_from (is_space b) false h.dark refl)

-- a node that isn't data is kept
pub cut_own : (enter exit : Event) (kids : Nodes) → same_name enter.name n.Data ≡ false → cut (Around enter kids exit) ≡ one (Around enter kids exit)
cut_own enter exit kids h = cond-false (same_name enter.name n.Data && is_nil kids) _ _ (and_left (same_name enter.name n.Data) (is_nil kids) h)

module _ {A : Type 0} (text : List ℕ) (stop : Stop) where
  -- what holds no other is written
  pub record WritesToken (name : Name) (front content : List ℕ) (old new : Walk A) : Type 0 where
    pub node : Node
    pub void : IsVoidOf name node
    pub writes : WritesInContent text front (one node) content stop old new
    pub whole : IsWhole new

  -- a byte
  pub token_in : (old new : Walk A) (name : Name) (b : ℕ) (content : List ℕ) → IsOwn name → StandsInContent text (b ∷ content) stop old → IsWhole old
      → ends_line b ≡ false → is_token name (b ∷ []) ≡ true → standing new ≡ standing old
      → ((front line : List ℕ) → 1 ≡ length front → same_name name n.BlockQuotePrefix ≡ false → StandsInLine text (front ++ line) old
      → HasBytes text name 1 old
      → WritesInLine text front (void_nodes text name (end_in old.out) (end_after (end_in old.out) 1)) line old new)
      → WritesToken name (b ∷ []) content old new
  token_in old new name b content own st whole dark may same written =
      let ahead = line_in_content text stop old (b ∷ []) content st (or_from (ends_line b) false dark refl) in
      let w = written (b ∷ []) ahead.line refl own.prefix ahead.stands (has_bytes text (b ∷ []) ahead.line 1 old name refl ahead.stands whole may) in
      let is = void_one text name (end_in old.out) 1 whole (omega arith) own.other in
      record {
        node = token text name (end_in old.out).index 1;
        void = (refl, refl);
        writes = subst (λ ns. WritesInContent text (b ∷ []) ns content stop old new) is (ahead.lifts _ new same w);
        whole = ap (λ (e : End). e.owed) w.end ∙ still_whole (end_in old.out) 1 whole;
      }

  module _ (on : Constructs) (names : Names) where
    pub record WritesStringNode (name : Name) (string content : List ℕ) (old new : Walk A) : Type 0 where
      pub node : Node
      pub is : IsStringNode on names text name string node
      pub writes : WritesInContent text string (one node) content stop old new
      pub whole : IsWhole new

    -- a string in its event
    pub string_in : (a b c d : Walk A) (name : Name) (string content : List ℕ) → IsOwn name → 0 < length string → IsWhole a
        → EntersInContent text name (string ++ content) stop a b
        → WritesStringIn names on text string content stop b c → ExitsInContent text name content stop c d → WritesStringNode name string content a d
    string_in a b c d name string content own filled whole enters w exits =
        let from = end_in a.out in
        let to = end_in c.out in
        let inside : IsWhole b = ap (λ (e : End). e.owed) enters.end ∙ whole in
        let joined : AreJoined (end_edge text from) w.nodes (end_edge text to) =
        subst (λ (e : End). AreJoined (end_edge text e) w.nodes (end_edge text to)) enters.end w.writes.joined in
        let label = flat_label text name from to w.nodes joined in
        let has = w.writes.has_text false (λ some. absurd (omega (arith, inside, some))) in
        record {
          node = Around (enter_at text name from) w.nodes (exit_at text name to);
          is = record {
            named = refl;
            filled = filled;
            some = written_some text string w.nodes content stop b c filled inside w.writes;
            spells = w.spells;
            plain = w.plain;
            fill = w.fill;
            words = same_text_words false string (flat_text text w.nodes) has.same ∙ ap (λ xs. words (content_codes xs)) (sym label);
            sound = w.sound;
          };
          writes =
              subst (λ ns. WritesInContent text string ns content stop a d) (cut_own (enter_at text name from) (exit_at text name to) w.nodes own.other)
              (contents_around text stop a b c d name string content w.nodes enters w.writes exits own.prefix);
          whole = ap (λ (e : End). e.owed) exits.end ∙ w.whole;
        }

    pub held_none : (a : Walk A) (name : Name) (string content : List ℕ) → string ≡ [] → StandsInContent text (string ++ content) stop a → IsWhole a
        → WritesHeld on names text name string content stop a a
    held_none a name string content none st whole = record {
      held = None;
      holds = none;
      writes =
          subst (λ xs. WritesInContent text xs Nil content stop a a) (sym none)
          (contents_none text stop a content (subst (λ xs. StandsInContent text (xs ++ content) stop a) none st));
      whole = whole;
    }

    pub held_some : (a d : Walk A) (name : Name) (string content : List ℕ) → WritesStringNode name string content a d
        → WritesHeld on names text name string content stop a d
    held_some a d name string content w = record { held = Some w.node; holds = w.is; writes = w.writes; whole = w.whole }

    -- a string between two markers
    pub quoted_in : (a b c d e f : Walk A) (outer marker name : Name) (front string content : List ℕ) (opening closing : ℕ) → IsOwn outer
        → front ≡ opening ∷ (string ++ closing ∷ []) → EntersInContent text outer (front ++ content) stop a b
        → WritesToken marker (opening ∷ []) (string ++ closing ∷ content) b c → WritesHeld on names text name string (closing ∷ content) stop c d
        → WritesToken marker (closing ∷ []) content d e → ExitsInContent text outer content stop e f
        → WritesQuoted on names text outer marker name string front content stop a f
    quoted_in a b c d e f outer sign name front string content opening closing own is enters first held last exits =
        let from = end_in a.out in
        let to = end_in e.out in
        let tail = append (some_nodes held.held) (one last.node) in
        let kids = Cons first.node tail in
        let later : WritesInContent text (string ++ closing ∷ []) tail content stop c e =
        contents_both text stop c d e string (closing ∷ []) content (some_nodes held.held) (one last.node) held.writes last.writes in
        let all : WritesInContent text (opening ∷ (string ++ closing ∷ [])) kids content stop b e =
        contents_both text stop b c e (opening ∷ []) (string ++ closing ∷ []) content (one first.node) tail
        (subst (λ xs. WritesInContent text (opening ∷ []) (one first.node) xs stop b c) (sym (append_assoc string
        (closing ∷ []) content)) first.writes) later in
        let inner : WritesInContent text front kids content stop b e = subst (λ xs. WritesInContent text xs kids content stop b e) (sym is) all in
        record {
          node = Around (enter_at text outer from) kids (exit_at text outer to);
          is = record {
            first = first.node;
            held = held.held;
            last = last.node;
            named = refl;
            kids = refl;
            void_first = first.void;
            void_last = last.void;
            holds = held.holds;
          };
          lines = λ around may.
              (may_both around string (closing ∷ [])
              (may_both around (opening ∷ []) (string ++ closing ∷ []) (subst (MayEndLines around) is may)).1).0;
          writes =
              subst (λ ns. WritesInContent text front ns content stop a f) (cut_own (enter_at text outer from) (exit_at text outer to) kids own.other)
              (contents_around text stop a b e f outer front content kids enters inner exits own.prefix);
          whole = ap (λ (x : End). x.owed) exits.end ∙ last.whole;
        }

    -- a node in its event
    pub around_in : (a b c d : Walk A) (outer : Name) (front content : List ℕ) (ns : Nodes) → IsOwn outer
        → EntersInContent text outer (front ++ content) stop a b
        → WritesInContent text front ns content stop b c → ExitsInContent text outer content stop c d
        → WritesInContent text front (one (Around (enter_at text outer (end_in a.out)) ns (exit_at text outer (end_in c.out)))) content stop a d
    around_in a b c d outer front content ns own enters w exits =
        subst (λ ms. WritesInContent text front ms content stop a d) (cut_own (enter_at text outer (end_in a.out)) (exit_at text outer
        (end_in c.out)) ns own.other)
        (contents_around text stop a b c d outer front content ns enters w exits own.prefix)

    pub raw_in : (a b c d : Walk A) (outer name : Name) (string content : List ℕ) → IsOwn outer → EntersInContent text outer (string ++ content) stop a b
        → WritesStringNode name string content b c → ExitsInContent text outer content stop c d
        → WritesRaw on names text outer name string content stop a d
    raw_in a b c d outer name string content own enters w exits = record {
      node = Around (enter_at text outer (end_in a.out)) (one w.node) (exit_at text outer (end_in c.out));
      is = record { held = w.node; named = refl; kids = refl; holds = w.is };
      writes = around_in a b c d outer string content (one w.node) own enters w.writes exits;
      whole = ap (λ (x : End). x.owed) exits.end ∙ w.whole;
    }
