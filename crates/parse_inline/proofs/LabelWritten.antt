-- A label that is written: its mark, its text and its end.
use Rattle.std.proofs.Common.{◌≡◌, ℕ, true, false, List, [], ◌∷◌, ◌++◌, refl, sym, ap, subst, ◌∙◌, append_assoc, arith}
use Rattle.parse_inline.proofs.Prelude.{AreBytesAt, ArePartsAlike, ArePlain, Cons, content_codes, contents_around, contents_both, End, end_in, EndsLabel}
use Rattle.parse_inline.proofs.Prelude.{EntersInContent, EntersLabel, ExitsInContent, HaveSameWords, InlineCode, InlineContext, is_listed, IsWhole, label_text}
use Rattle.parse_inline.proofs.Prelude.{Name, Nodes, one, part, same_name, same_words_are_alike, Stop, text_names, Walk, WritesCall, WritesInContent}
use Rattle.engine_events.specs.declared.event.Name.TheVariants as n
use Rattle.definition_inline.specs.Inline as inline
use Rattle.parse_output.specs.Joined.{AreJoined, end_edge, flat_text}
use Rattle.parse_output.proofs.Joined.{flat_label}
use Rattle.parse_strings.proofs.SameText.{same_text_words}
use Rattle.event_grammar.specs.declared.slot.Between.{Between}
use Rattle.event_grammar.specs.declared.slot.Between.TheVariants.{Lines}
use Rattle.event_grammar.specs.declared.slot.Form.{Form}
use Rattle.event_grammar.specs.declared.slot.Form.TheVariants.{OfCall, Plain}
use Rattle.event_grammar.specs.Grammar.{text_row}
use Rattle.parse_slots.specs.Left.{Fill, IsFilled, MayEndLines}
use Rattle.parse_slots.proofs.Steps.{may_both}
use Rattle.parse_references.specs.Leads.{AreWithout}
use Rattle.parse_references.specs.Sound.{AreSound, asked_names, outside_strings}
use Rattle.parse_references.proofs.Bare.{without_filled}
use Rattle.parse_references.proofs.Rows.{is_without}
use Rattle.parse_inline.specs.Texts.{FillsText}
use Rattle.parse_inline.proofs.Labels.{HasLabelRow, IsLabel, Label, call_fill, call_label, call_nodes, call_plain, call_sound, call_spelled, label_filled}
use Rattle.parse_inline.proofs.Labels.{label_node, own_node}
use Rattle.parse_inline.proofs.LeavesAlike.{append_none}

module _ {A : Type 0} (text : List ℕ) (stop : Stop) where
  -- the nodes of a label are written, and its text has the words of the bytes between the brackets
  pub labelled : (name sign : Name) (front here own behind : List ℕ) (ns : Nodes) (outside inside w ended : Walk A) → is_listed text_names sign ≡ false
      → same_name sign n.Label ≡ false → is_without outside_strings 2 Plain sign ≡ true → is_without asked_names 2 Plain sign ≡ true → here ≡ own ++ 93 ∷ behind
      → (enters : EntersLabel text name sign front here stop outside inside)
      → WritesInContent text own ns (93 ∷ behind) stop inside w → ArePlain ns → EndsLabel text behind stop w ended
      → (l : Label) × IsLabel l × WritesInContent text ((front ++ own) ++ 93 ∷ []) (one (label_node text l)) behind stop enters.outer ended
      × HaveSameWords (content_codes own) (content_codes (label_text text (own_node text l))) × ◌≡◌ {A = Nodes} l.kids ns
      × ((around : Between) (form : Form) → HasLabelRow sign form → MayEndLines around own → Fill around text_row ns text_row
      → IsFilled around form (label_node text l))
  labelled name sign front here own behind ns outside inside w ended no_text no_label strings unasked rest enters writes plain ends =
      let first = enters.marks.mark in
      let last = ends.marks.mark in
      let l : Label = record {
        first = first;
        last = last;
        kids = ns;
        a = end_in enters.outer.out;
        b = end_in enters.last.out;
        c = end_in w.out;
        d = end_in
            ends.last.out;
      } in
      let is : IsLabel l = record {
        no_text = ap (is_listed text_names) enters.marks.named ∙ no_text;
        no_label = ap (λ name. same_name name n.Label) enters.marks.named ∙ no_label;
        first = enters.marks.plain;
        last = ends.marks.plain;
        kids = plain;
        first_strings = without_filled outside_strings refl refl 2 Lines Plain sign first enters.marks.named strings (enters.marks.filled Lines);
        last_strings = without_filled outside_strings refl refl 2 Lines Plain n.LabelEnd last ends.marks.named refl (ends.marks.filled Lines);
        first_unasked = without_filled asked_names refl refl 2 Lines Plain sign first enters.marks.named unasked (enters.marks.filled Lines);
        last_unasked = without_filled asked_names refl refl 2 Lines Plain n.LabelEnd last ends.marks.named refl (ends.marks.filled Lines);
      } in
      let all : front ++ here ≡ ((front ++ own) ++ 93 ∷ []) ++ behind =
      ap (λ c. front ++ c) rest ∙ sym (append_assoc front own (93 ∷ behind)) ∙ sym (append_assoc (front ++ own) (93 ∷ []) behind) in
      let inner : WritesInContent text own (one (own_node text l)) (93 ∷ behind) stop enters.last ends.inner =
      contents_around text stop enters.last inside w ends.inner n.LabelText own (93 ∷ behind) ns
      (subst (λ c. EntersInContent text n.LabelText c stop enters.last inside) rest enters.starts) writes ends.ends refl in
      let begun : WritesInContent text (front ++ own) (Cons first (one (own_node text l))) (93 ∷ behind) stop enters.inner ends.inner =
      contents_both text stop enters.inner enters.last ends.inner front own (93 ∷ behind) (one first) (one (own_node text l))
      (subst (λ c. WritesInContent text front (one first) c stop enters.inner enters.last) rest enters.marks.writes) inner in
      let ended_so : WritesInContent text ((front ++ own) ++ 93 ∷ []) (Cons first (Cons (own_node text l) (one last))) behind stop enters.inner ends.last =
      contents_both text stop enters.inner ends.inner ends.last (front ++ own) (93 ∷ []) behind (Cons first (one (own_node text l))) (one last) begun
      ends.marks.writes in
      let joined : AreJoined (end_edge text l.b) l.kids (end_edge text l.c) =
      subst (λ (e : End). AreJoined (end_edge text e) ns (end_edge text (end_in w.out))) enters.starts.end writes.joined in (
        l,
        is,
        contents_around text stop enters.outer enters.inner ends.last ended n.Label ((front ++ own) ++ 93 ∷ []) behind
            (Cons first (Cons (own_node text l) (one last)))
            (subst (λ c. EntersInContent text n.Label c stop enters.outer enters.inner) all enters.label) ended_so ends.leaves refl,
        subst (λ bs. HaveSameWords (content_codes own) (content_codes bs)) (sym (flat_label text n.LabelText l.b l.c l.kids joined))
            (same_text_words false own (flat_text text ns) (writes.has_text false (λ some. absurd (omega (arith, some, enters.whole)))).same),
        refl,
        λ around form has may fill.
            label_filled around form sign own text l has enters.marks.named ends.marks.named enters.marks.filled ends.marks.filled may fill,
      )

  -- a call with a label
  pub call_written : (context : InlineContext) (label content after : List ℕ) (to : List InlineCode) (ns : Nodes) (old inside w ended new : Walk A)
      → content ≡ (91 ∷ 94 ∷ []) ++ (label ++ 93 ∷ after) → AreBytesAt after to
      → EntersLabel text n.GfmFootnoteCall n.GfmFootnoteCallLabel (91 ∷ 94 ∷ []) (label ++ 93 ∷ after) stop old inside
      → WritesInContent text label ns (93 ∷ after) stop inside w → ArePlain ns → AreWithout outside_strings ns → AreSound context.options.constructs context.names text ns → FillsText label ns
      → EndsLabel text after stop w ended
      → ExitsInContent text n.GfmFootnoteCall after stop ended new → IsWhole new → WritesCall context text (content_codes label) content to stop old new
  call_written context label content after to ns old inside w ended new parts left enters writes plain strings sound fill ends leaves whole =
      let (l, is, labels, words, same, label_fills) =
      labelled n.GfmFootnoteCall n.GfmFootnoteCallLabel (91 ∷ 94 ∷ []) (label ++ 93 ∷ after) label after ns old inside w ended refl refl refl refl refl
      enters writes plain ends in
      let front = ((91 ∷ 94 ∷ []) ++ label) ++ 93 ∷ [] in
      let all : (91 ∷ 94 ∷ []) ++ (label ++ 93 ∷ after) ≡ front ++ after =
      sym (append_assoc (91 ∷ 94 ∷ []) label (93 ∷ after)) ∙ sym (append_assoc ((91 ∷ 94 ∷ []) ++ label) (93 ∷ []) after) in
      let own = content_codes (label_text text (own_node text l)) in
      record {
        front = front;
        after = after;
        both = parts ∙ all;
        nodes = call_nodes text l is (end_in old.out) (end_in ended.out);
        writes =
            contents_around text stop old enters.outer ended new n.GfmFootnoteCall front after (one (label_node text l))
            (subst (λ c. EntersInContent text n.GfmFootnoteCall c stop old enters.outer) all enters.enters) labels leaves refl;
        whole = whole;
        left = left;
        spells = λ linked m m'.
            subst (ArePartsAlike m m' (part (inline.Call (content_codes label))))
            (sym (call_spelled text l is context.names linked (end_in old.out) (end_in ended.out))) (
              part (inline.Call own),
              inline.Nil,
              sym (append_none (part (inline.Call own))),
              (own, refl, same_words_are_alike.alike (content_codes label) own words),
              refl,
            );
        plain = call_plain text l is (end_in old.out) (end_in ended.out);
        fill = λ around may.
            let inside_may = (may_both around (91 ∷ 94 ∷ []) label (may_both around ((91 ∷ 94 ∷ []) ++ label) (93 ∷ []) may).0).1 in
            call_fill around label text l is (end_in old.out) (end_in ended.out) inside_may
            (label_fills around OfCall call_label inside_may (fill around inside_may));
        sound =
            call_sound text l is context.options.constructs context.names (end_in old.out) (end_in ended.out) (subst (AreWithout outside_strings) (sym same) strings)
            (subst (AreSound context.options.constructs context.names text) (sym same) sound);
      }
