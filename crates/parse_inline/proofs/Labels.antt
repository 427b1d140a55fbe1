-- What the nodes of links, images and calls spell.
use Rattle.std.proofs.Common.{◌≡◌, ◌||◌, ℕ, Bool, true, false, List, [], ◌∷◌, ◌++◌, Option, None, Some, inl, inr, refl, sym, ap, ap₂, subst, ◌∙◌}
use Rattle.markdown_options.specs.declared.configuration.Constructs.{Constructs}
use Rattle.parse_inline.proofs.Prelude.{AreMeanings, ArePlain, Around, Code, cond-false, cond-true, Cons, content_codes, cut, End, enter_at, exit_at}
use Rattle.parse_inline.proofs.Prelude.{HaveSameWords, HaveTextsOfBytes, if◌then◌else◌, Image, InlineContext, inlines_of, InLinked, is_link, is_listed}
use Rattle.parse_inline.proofs.Prelude.{mark_name}
use Rattle.parse_inline.proofs.Prelude.{label_text, Link, linked_name, LinkedKind, Meaning, Name, named, named_in, Names, Nil, Node, node_name, Nodes, one}
use Rattle.parse_inline.proofs.Prelude.{option_or, own, own_in, part, Reference, Resource, same_name, same_words_are_alike, SpellsTarget, string_of, Target}
use Rattle.parse_inline.proofs.Prelude.{target_of, text_names, text_within}
use Rattle.std.specs.Prelude.{is_some}
use Rattle.std.proofs.lemmas.Bool.{true≢false}
use Rattle.std.specs.Option.{option_map}
use Rattle.engine_events.specs.declared.event.Name.TheVariants as n
use Rattle.definition_inline.specs.Inline as inline
use Rattle.definition_inline.specs.Strings.{string_text}
use Rattle.event_meaning.specs.Children.{inside_of}
use Rattle.event_meaning.specs.Strings.{written}
use Rattle.event_meaning.specs.Texts.{label_codes, label_or_none, resource_of}
use Rattle.event_grammar.specs.declared.slot.Between.{Between}
use Rattle.event_grammar.specs.declared.slot.Child.TheVariants.{As}
use Rattle.event_grammar.specs.declared.slot.Form.{Form}
use Rattle.event_grammar.specs.declared.slot.Form.TheVariants.{OfCall, OfImage, Plain}
use Rattle.event_grammar.specs.declared.slot.Slot.{Slot}
use Rattle.event_grammar.specs.declared.slot.Slot.TheVariants.{One}
use Rattle.event_grammar.specs.Grammar.{one as one_slot, row, text_row}
use Rattle.event_grammar.specs.Slots.{take_child}
use Rattle.parse_slots.specs.Left.{Fill, IsFilled, MayEndLines, took}
use Rattle.parse_slots.proofs.Steps.{fill_both, fill_taken}
use Rattle.parse_references.specs.Leads.{AreWithout, IsWithout}
use Rattle.parse_references.specs.Sound.{AreSound, IsSound, asked_names, outside_strings}
use Rattle.parse_references.proofs.Sound.{sound_around, sound_one, without_is_sound}
use Rattle.parse_links.specs.Tails.{FillsTail, tail_slots, title_string}
use Rattle.parse_strings.specs.Plain.{tail_names}
use Rattle.parse_alike.specs.Strings.{IsOfBytes, rewritten, rewritten_title}
use Rattle.parse_alike.specs.Targets.{AreLabelsAlike, AreTargetsAlike, title_text}
use Rattle.parse_alike.proofs.Strings.{written_strings_are_alike}
use Rattle.parse_inline.proofs.Fills.{filled_around}
use Rattle.parse_inline.proofs.Plain.{HaveNoOther, named_one, own_one, plain_media}

-- a label: a mark, its text and its end
pub record Label : Type 0 where
  pub first : Node
  pub last : Node
  pub kids : Nodes
  pub a : End
  pub b : End
  pub c : End
  pub d : End

-- what is known of its nodes
pub record IsLabel (l : Label) : Type 0 where
  pub no_text : is_listed text_names (node_name l.first) ≡ false
  pub no_label : same_name (node_name l.first) n.Label ≡ false
  pub first : ArePlain (one l.first)
  pub last : ArePlain (one l.last)
  pub kids : ArePlain l.kids
  pub first_strings : IsWithout outside_strings l.first
  pub last_strings : IsWithout outside_strings l.last
  pub first_unasked : IsWithout asked_names l.first
  pub last_unasked : IsWithout asked_names l.last

module _ (text : List ℕ) where
  abbrev pub own_node : Label → Node
  own_node l = Around (enter_at text n.LabelText l.b) l.kids (exit_at text n.LabelText l.c)

  abbrev pub label_node : Label → Node
  label_node l = Around (enter_at text n.Label l.a) (Cons l.first (Cons (own_node l) (Cons l.last Nil))) (exit_at text n.Label l.d)

  module _ (l : Label) (is : IsLabel l) (ns : Nodes) where
    -- ---- what is found in it

    first_none : (name : Name) → is_listed tail_names name ≡ true → own_in name l.first ≡ None
    first_none name listed = sym (own_one name l.first) ∙ is.first.tails name listed

    last_none : (name : Name) → is_listed tail_names name ≡ true → own_in name l.last ≡ None
    last_none name listed = sym (own_one name l.last) ∙ is.last.tails name listed

    -- other names than its own are found behind it
    own_behind : (name : Name) → is_listed tail_names name ≡ true → same_name n.Label name ≡ false → same_name n.LabelText name ≡ false
        → own name (Cons (label_node l) ns) ≡ own name ns
    own_behind name listed no_label no_text =
        let inside = Cons l.first (Cons (own_node l) (Cons l.last Nil)) in
        let own_none : own_in name (own_node l) ≡ None =
        cond-false (same_name n.LabelText name) (Some (own_node l)) (own name l.kids) no_text ∙ is.kids.tails name listed in
        let none : own name inside ≡ None =
        ap (λ o. option_or o (own name (Cons (own_node l) (Cons l.last Nil)))) (first_none name listed)
        ∙ ap (λ o. option_or o (own name (Cons l.last Nil))) own_none ∙ is.last.tails name listed in
        ap (λ o. option_or o (own name ns)) (cond-false (same_name n.Label name) (Some (label_node l)) (own name inside) no_label ∙ none)

    own_text : own n.LabelText (Cons (label_node l) ns) ≡ Some (own_node l)
    own_text =
        ap (λ o. option_or (option_or o (own n.LabelText (Cons (own_node l) (Cons l.last Nil)))) (own n.LabelText ns)) (first_none n.LabelText refl)

    none_named : (name : Name) → same_name n.Label name ≡ false → same_name n.LabelText name ≡ false → named name (one l.first) ≡ [] → named name l.kids ≡ []
        → named name (one l.last) ≡ [] → named name ns ≡ [] → named name (Cons (label_node l) ns) ≡ []
    none_named name no_label no_text first kids last none =
        let inside = Cons l.first (Cons (own_node l) (Cons l.last Nil)) in
        let own_is : named_in name (own_node l) ≡ [] = cond-false (same_name n.LabelText name) (own_node l ∷ named name l.kids) (named name l.kids) no_text ∙
        kids in
        let label_is : named_in name (label_node l) ≡ [] =
        cond-false (same_name n.Label name) (label_node l ∷ named name inside) (named name inside) no_label
        ∙ ap₂ (λ xs ys. xs ++ ys) (sym (named_one name l.first) ∙ first) (ap₂ (λ xs ys. xs ++ ys) own_is last) in
        ap₂ (λ xs ys. xs ++ ys) label_is none

    pub no_other : HaveNoOther ns → HaveNoOther (Cons (label_node l) ns)
    no_other none = record {
      definitions = none_named n.Definition refl refl is.first.definitions is.kids.definitions is.last.definitions none.definitions;
      columns = none_named n.GfmTableDelimiterCellValue refl refl is.first.columns is.kids.columns is.last.columns none.columns;
    }

    -- a label with a sound text is sound
    pub label_sound : (on : Constructs) (names : Names) → AreSound on names text l.kids → IsSound on names text (label_node l)
    label_sound on names sound =
        sound_around on names text (label_node l) refl (
          without_is_sound on names text l.first is.first_unasked,
          (sound_around on names text (own_node l) refl sound, (without_is_sound on names text l.last is.last_unasked, tt)),
        )

    -- ---- what it spells

    skip_first : (names : Names) (linked : Bool) (m : Node) (others : Nodes) → is_listed text_names (node_name m) ≡ false
        → same_name (node_name m) n.Label ≡ false
        → text_within names text linked (Cons m others) ≡ text_within names text linked others
    skip_first names linked (Around enter kids exit) others no_text no_label =
        cond-false (is_listed text_names enter.name) _ _ no_text ∙ cond-false (same_name enter.name n.Label) _ _ no_label

    within_label : (names : Names) (linked : Bool) → text_within names text linked (Cons (label_node l) ns) ≡ inlines_of names text linked l.kids
    within_label names linked = skip_first names linked l.first (Cons (own_node l) (Cons l.last Nil)) is.no_text is.no_label

    -- the text of the label, where no other label and no resource is behind it
    text_codes : (names : Names) → own n.Resource ns ≡ None → own n.ReferenceString ns ≡ None
        → label_codes names text (Cons (label_node l) ns) ≡ content_codes (label_text text (own_node l))
    text_codes names no_resource no_string =
        let all = Cons (label_node l) ns in
        let resource : own n.Resource all ≡ None = own_behind n.Resource refl refl refl ∙ no_resource in
        let string : own n.ReferenceString all ≡ None = own_behind n.ReferenceString refl refl refl ∙ no_string in
        ap (λ o. label_or_none names text (if is_some o then None else option_or (option_map (label_text text) (own n.ReferenceString all))
        (option_map (label_text text) (own n.LabelText all)))) resource
        ∙ ap (λ o. label_or_none names text (option_or (option_map (label_text text) o) (option_map (label_text text) (own n.LabelText all)))) string
        ∙ ap (λ o. label_or_none names text (option_map (label_text text) o)) own_text

    -- another label
    string_codes : (names : Names) (node : Node) → own n.Resource ns ≡ None → own n.ReferenceString ns ≡ Some node
        → label_codes names text (Cons (label_node l) ns) ≡ content_codes (label_text text node)
    string_codes names node no_resource string_is =
        let all = Cons (label_node l) ns in
        let resource : own n.Resource all ≡ None = own_behind n.Resource refl refl refl ∙ no_resource in
        let string : own n.ReferenceString all ≡ Some node = own_behind n.ReferenceString refl refl refl ∙ string_is in
        ap (λ o. label_or_none names text (if is_some o then None else option_or (option_map (label_text text) (own n.ReferenceString all))
        (option_map (label_text text) (own n.LabelText all)))) resource
        ∙ ap (λ o. label_or_none names text (option_or (option_map (label_text text) o) (option_map (label_text text) (own n.LabelText all)))) string

    by_reference : (names : Names) → own n.Resource ns ≡ None
        → target_of names text (Cons (label_node l) ns) ≡ Reference (label_codes names text (Cons (label_node l) ns))
    by_reference names no_resource =
        let all = Cons (label_node l) ns in
        cond-false (is_some (own n.Resource all)) (resource_of names text all) (Reference (label_codes names text all))
        (ap is_some (own_behind n.Resource refl refl refl ∙ no_resource))

    -- where it leads
    module _ (context : InlineContext) (own_codes : List Code) (words : HaveSameWords own_codes (content_codes (label_text text (own_node l))))
        (texts : HaveTextsOfBytes context.names) (m m' : Meaning) (meant : AreMeanings context.options.constructs context.names m m') where
      abbrev all : Nodes
      all = Cons (label_node l) ns

      title_same : (title : Option (List Code)) → title_string context.options.constructs context.names title ≡ title_text m title
      title_same None = refl
      title_same (Some title) = ap₂ (λ on names. string_text on names title) (sym meant.on) (sym meant.names)

      pub target_alike : (target : Target) → SpellsTarget context text target own_codes ns → AreTargetsAlike m m' target (target_of context.names text all)
      target_alike (Resource destination title) (read, is_destination, is_title, spells) =
          let there : is_some (own n.Resource all) ≡ true = ap is_some (own_behind n.Resource refl refl refl) ∙ spells.is_there in
          let place : string_of context.names text (inside_of (own n.ResourceDestinationString all)) ≡ string_text m.on m.names destination =
          ap (λ o. string_of context.names text (inside_of o)) (own_behind n.ResourceDestinationString refl refl refl)
          ∙ spells.destination ∙ ap (string_text context.options.constructs context.names) is_destination
          ∙ ap₂ (λ on names. string_text on names destination) (sym meant.on) (sym meant.names) in
          let named_so : string_of context.names text (inside_of (own n.ResourceTitleString all)) ≡ title_text m title =
          ap (λ o. string_of context.names text (inside_of o)) (own_behind n.ResourceTitleString refl refl refl)
          ∙ spells.title ∙ ap (title_string context.options.constructs context.names) is_title ∙ title_same title in
          let made : target_of context.names text all ≡ Resource (rewritten m destination) (rewritten_title m title) =
          cond-true (is_some (own n.Resource all)) (resource_of context.names text all) (Reference (label_codes context.names text all)) there
          ∙ ap₂ (λ d t. Resource (written d) (Some (written t))) place named_so in
          let place_bytes : IsOfBytes (string_text m.on m.names destination) =
          subst IsOfBytes (ap (string_text context.options.constructs context.names) is_destination
          ∙ ap₂ (λ on names. string_text on names destination) (sym meant.on) (sym meant.names)) (spells.destination_bytes texts) in
          let title_bytes : IsOfBytes (title_text m title) =
          subst IsOfBytes (ap (title_string context.options.constructs context.names) is_title ∙ title_same title) (spells.title_bytes texts) in
          subst (AreTargetsAlike m m' (Resource destination title)) (sym made)
          (written_strings_are_alike.targets m m' destination title meant.spelled_on place_bytes title_bytes)
      target_alike (Reference label) (no_resource, none, no_column, inl (no_string, same)) =
          let codes : label_codes context.names text all ≡ content_codes (label_text text (own_node l)) = text_codes context.names no_resource no_string in
          let alike : AreLabelsAlike label (label_codes context.names text all) =
          same_words_are_alike.alike label (label_codes context.names text all)
          (subst (HaveSameWords label) (sym codes) (subst (λ x. HaveSameWords x (content_codes (label_text text (own_node l)))) (sym same) words)) in
          subst (AreTargetsAlike m m' (Reference label)) (sym (by_reference context.names no_resource)) alike
      target_alike (Reference label) (no_resource, none, no_column, inr (node, string, same)) =
          let codes : label_codes context.names text all ≡ content_codes (label_text text node) = string_codes context.names node no_resource string in
          let alike : AreLabelsAlike label (label_codes context.names text all) =
          same_words_are_alike.alike label (label_codes context.names text all) (subst (HaveSameWords label) (sym codes) same) in
          subst (AreTargetsAlike m m' (Reference label)) (sym (by_reference context.names no_resource)) alike

    -- ---- the whole

    abbrev pub linked_nodes : LinkedKind → End → End → Nodes
    linked_nodes kind from to = cut (Around (enter_at text (linked_name kind) from) (Cons (label_node l) ns) (exit_at text (linked_name kind) to))

    pub linked_spelled : (names : Names) (kind : LinkedKind) (linked : Bool) (target : Target) (inside : _) (from to : End)
        → inlines_of names text linked (linked_nodes kind from to)
        ≡ part (inline.Linked kind (target_of names text (Cons (label_node l) ns))
        (inlines_of names text (linked || is_link (InLinked kind target inside)) l.kids))
    linked_spelled names Link linked target inside from to =
        ap (λ js. part (inline.Linked Link (target_of names text (Cons (label_node l) ns)) js)) (within_label names (linked || true))
    linked_spelled names Image linked target inside from to =
        ap (λ js. part (inline.Linked Image (target_of names text (Cons (label_node l) ns)) js)) (within_label names (linked || false))

    pub linked_plain : (kind : LinkedKind) (from to : End) → HaveNoOther ns → ArePlain (linked_nodes kind from to)
    linked_plain Link from to none =
        plain_media (enter_at text n.Link from) (exit_at text n.Link to) (Cons (label_node l) ns) refl refl refl (no_other none)
    linked_plain Image from to none =
        plain_media (enter_at text n.Image from) (exit_at text n.Image to) (Cons (label_node l) ns) refl refl refl (no_other none)

    pub linked_sound : (on : Constructs) (names : Names) (kind : LinkedKind) (from to : End) → AreSound on names text l.kids → AreSound on names text ns
        → AreSound on names text (linked_nodes kind from to)
    linked_sound on names Link from to sound tail =
        let node = Around (enter_at text n.Link from) (Cons (label_node l) ns) (exit_at text n.Link to) in
        sound_one on names text node (sound_around on names text node refl (label_sound on names sound, tail))
    linked_sound on names Image from to sound tail =
        let node = Around (enter_at text n.Image from) (Cons (label_node l) ns) (exit_at text n.Image to) in
        sound_one on names text node (sound_around on names text node refl (label_sound on names sound, tail))

-- a call, behind whose label nothing is
module _ (text : List ℕ) (l : Label) (is : IsLabel l) where
  abbrev pub call_nodes : End → End → Nodes
  call_nodes from to = cut (Around (enter_at text n.GfmFootnoteCall from) (one (label_node text l)) (exit_at text n.GfmFootnoteCall to))

  pub call_spelled : (names : Names) (linked : Bool) (from to : End)
      → inlines_of names text linked (call_nodes from to) ≡ part (inline.Call (content_codes (label_text text (own_node text l))))
  call_spelled names linked from to = ap (λ label. part (inline.Call label)) (text_codes text l is Nil names refl refl)

  pub call_plain : (from to : End) → ArePlain (call_nodes from to)
  call_plain from to =
      plain_media (enter_at text n.GfmFootnoteCall from) (exit_at text n.GfmFootnoteCall to) (one (label_node text l)) refl refl refl
      (no_other text l is Nil (record { definitions = refl; columns = refl }))

  -- its label is a string
  pub call_sound : (on : Constructs) (names : Names) (from to : End) → AreWithout outside_strings l.kids → AreSound on names text l.kids → AreSound on names text (call_nodes from to)
  call_sound on names from to strings sound = (
    (
      record {
        is_on = refl;
        call = λ same. ((refl, (is.first_strings, ((refl, strings), (is.last_strings, tt)))), tt);
        reference = λ same. absurd (true≢false (ap (same_name n.GfmFootnoteCall) same));
        heading = λ same. absurd (true≢false (ap (same_name n.GfmFootnoteCall) same));
        html = λ same. absurd (true≢false (ap (same_name n.GfmFootnoteCall) same));
        some = λ full. absurd (true≢false (sym full));
      },
      (label_sound text l is Nil on names sound, tt),
    ),
    tt,
  )

-- ---- the rows of the grammar

-- what is left of the row of a label after its text, and before that
abbrev closing : List Slot
closing = one_slot n.LabelEnd ∷ []

abbrev begun : List Slot
begun = one_slot n.LabelText ∷ closing

-- a label of this form begins with this mark
pub record HasLabelRow (sign : Name) (form : Form) : Type 0 where
  pub row_is : row n.Label form ≡ one_slot sign ∷ begun
  pub takes_sign : take_child (one_slot sign ∷ begun) sign ≡ Some (took Plain begun)

pub call_label : HasLabelRow n.GfmFootnoteCallLabel OfCall
call_label = record { row_is = refl; takes_sign = refl }

abbrev pub label_form : LinkedKind → Form
label_form Link = Plain
label_form Image = OfImage

pub linked_label : (kind : LinkedKind) → HasLabelRow (mark_name kind) (label_form kind)
linked_label Link = record { row_is = refl; takes_sign = refl }
linked_label Image = record { row_is = refl; takes_sign = refl }

-- a mark, the parts of a text and the end of a label
pub label_filled : (around : Between) (form : Form) (sign : Name) (bytes text : List ℕ) (l : Label) → HasLabelRow sign form → node_name l.first ≡ sign
    → node_name l.last ≡ n.LabelEnd → ((around : Between) → IsFilled around Plain l.first) → ((around : Between) → IsFilled around Plain l.last)
    → MayEndLines around bytes → Fill around text_row l.kids text_row → IsFilled around form (label_node text l)
label_filled around form sign bytes text l has first_named last_named first last may fill =
    let own = own_node text l in
    filled_around around form n.Label (one_slot sign ∷ begun) [] bytes (label_node text l) refl has.row_is refl refl may
    (fill_both (fill_taken around (one_slot sign ∷ begun) sign Plain begun l.first first_named has.takes_sign (first around))
    (fill_both
    (fill_taken around begun n.LabelText Plain closing own refl refl
    (filled_around around Plain n.LabelText text_row text_row bytes own refl refl refl refl may fill refl))
    (fill_taken around closing n.LabelEnd Plain [] l.last last_named refl (last around)))) refl

module _ (around : Between) (bytes text : List ℕ) (l : Label) (is : IsLabel l) (from to : End) (may : MayEndLines around bytes) where
  -- a link or an image, with what is behind its label
  pub linked_fill : (ns : Nodes) (kind : LinkedKind) → IsFilled around (label_form kind) (label_node text l) → FillsTail around ns
      → Fill around text_row (linked_nodes text l is ns kind from to) text_row
  linked_fill ns Link label tail =
      let node = Around (enter_at text n.Link from) (Cons (label_node text l) ns) (exit_at text n.Link to) in
      let slots = one_slot n.Label ∷ tail_slots in
      fill_taken around text_row n.Link Plain text_row node refl refl
      (filled_around around Plain n.Link slots tail.rest bytes node refl refl refl refl may
      (fill_both (fill_taken around slots n.Label Plain tail_slots (label_node text l) refl refl label) tail.fill) tail.ends)
  linked_fill ns Image label tail =
      let node = Around (enter_at text n.Image from) (Cons (label_node text l) ns) (exit_at text n.Image to) in
      let slots = One (As n.Label OfImage) ∷ tail_slots in
      fill_taken around text_row n.Image Plain text_row node refl refl
      (filled_around around Plain n.Image slots tail.rest bytes node refl refl refl refl may
      (fill_both (fill_taken around slots n.Label OfImage tail_slots (label_node text l) refl refl label) tail.fill) tail.ends)

  pub call_fill : IsFilled around OfCall (label_node text l) → Fill around text_row (call_nodes text l is from to) text_row
  call_fill label =
      let node = Around (enter_at text n.GfmFootnoteCall from) (one (label_node text l)) (exit_at text n.GfmFootnoteCall to) in
      let slots = One (As n.Label OfCall) ∷ [] in
      fill_taken around text_row n.GfmFootnoteCall Plain text_row node refl refl
      (filled_around around Plain n.GfmFootnoteCall slots [] bytes node refl refl refl refl may
      (fill_taken around slots n.Label OfCall [] (label_node text l) refl refl label) refl)
