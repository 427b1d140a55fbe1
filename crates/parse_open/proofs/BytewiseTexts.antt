-- Texts, with their data cut into bytes.
use Rattle.std.proofs.Common.{◌≡◌, ℕ, zero, suc, ◌+◌, ◌||◌, Bool, true, false, List, [], ◌∷◌, ◌++◌, map, Option, None, Some, refl, sym, ap, ap₂, ◌∙◌}
use Rattle.parse_open.proofs.Prelude.{after_child, AreSound, Around, before_child, between, byte_nodes, bytewise, child, Cons, edge, Event, if◌then◌else◌}
use Rattle.parse_open.proofs.Prelude.{Inlines, is_listed, is_some, Name, Names, Nil, Node, Nodes, option_map, own, same_name, spot_of, text_in, text_of}
use Rattle.parse_open.proofs.Prelude.{written}
use Rattle.engine_events.specs.declared.event.Name.TheVariants as n
use Rattle.definition_inline.specs.CodeText.{without_padding}
use Rattle.definition_inline.specs.Inline.{Resource, Reference, Data, Escape, Character, Code, Math, Autolink, TaskCheck, Link, Image, Leaf, Linked}
use Rattle.definition_inline.specs.Inline.{Call}
use Rattle.definition_inline.specs.Inline as inline
use Rattle.event_meaning.specs.Texts.{append, part, leaves, text_names, code_part, code_parts, code_of, html_part, html_parts, autolink_of}
use Rattle.event_meaning.specs.Texts.{written_string, resource_of, label_or_none, label_codes, target_of, text_part, inlines_of, text_within}
use Rattle.parse_output.specs.Forest as forest
use Rattle.parse_open.specs.BytewiseLaws.{TextsSpellTheSame}
use Rattle.parse_open.proofs.BytewiseNodes.{kept, by_cases, skipped}
use Rattle.parse_open.proofs.BytewiseChildren.{some_kept, IsOther, has_same, after_same, after_sound, before_same, before_sound, text_same, IsFoundSound}
use Rattle.parse_open.proofs.BytewiseLabels.{own_same, own_sound, own_label_same}
use Rattle.parse_open.proofs.BytewiseStrings.{bytes_on, next_byte, data_bytes, reference_same, string_same}

leaves_both : (front back : List ℕ) (is : Inlines)
    → append (leaves (map Data front)) (append (leaves (map Data back)) is) ≡ append (leaves (map Data (front ++ back))) is
leaves_both [] back is = refl
leaves_both (b ∷ front) back is = ap (inline.Cons (Leaf (Data b))) (leaves_both front back is)

module _ (names : Names) (bytes : List ℕ) where
  -- ---- code and math

  code_part_same : (name : Name) (enter : Event) (kids others : Nodes) (exit : Event)
      → code_part names bytes name (Around enter kids exit) ≡ code_part names bytes name (Around enter others exit)
  code_part_same n.LineEnding enter kids others exit = refl
  code_part_same n.CodeTextData enter kids others exit = refl
  code_part_same n.MathTextData enter kids others exit = refl
  code_part_same name enter kids others exit = refl

  code_parts_same : (ns : Nodes) → AreSound ns → code_parts names bytes (bytewise ns) ≡ code_parts names bytes ns
  code_parts_same Nil f = refl
  code_parts_same (Cons (Around enter kids exit) ns) f =
      by_cases (λ ms. code_parts names bytes ms ≡ code_parts names bytes (Cons (Around enter kids exit) ns)) enter kids exit ns f.0
      (λ k is none far. skipped (code_parts names bytes) (λ i ms. refl) _ k (bytewise ns)
      ∙ code_parts_same ns f.1
      ∙ sym (ap (λ a. code_part names bytes a (Around enter kids exit) ++ code_parts names bytes ns) is))
      (ap₂ (λ front back. front ++ back) (code_part_same enter.name enter (bytewise kids) kids exit) (code_parts_same ns f.1))

  code_same : (sequence : Name) → IsOther sequence → (ns : Nodes) → AreSound ns → code_of names bytes sequence (bytewise ns) ≡ code_of names bytes sequence ns
  code_same sequence other ns f =
      let after = after_child sequence ns in
      let sound = after_sound sequence ns f in
      ap (λ ms. without_padding (code_parts names bytes ms))
      (ap (before_child sequence) (after_same sequence other ns f) ∙ before_same sequence other after sound)
      ∙ ap without_padding (code_parts_same (before_child sequence after) (before_sound sequence after sound))

  -- ---- raw HTML

  html_parts_same : (ns : Nodes) → AreSound ns → html_parts names bytes (bytewise ns) ≡ html_parts names bytes ns
  html_parts_same Nil f = refl
  html_parts_same (Cons (Around enter kids exit) ns) f =
      by_cases (λ ms. html_parts names bytes ms ≡ html_parts names bytes (Cons (Around enter kids exit) ns)) enter kids exit ns f.0
      (λ k is none far. skipped (html_parts names bytes) (λ i ms. refl) _ k (bytewise ns)
      ∙ html_parts_same ns f.1
      ∙ sym (ap (λ a. append (html_part names bytes a (text_of bytes (Around enter kids exit))) (html_parts names bytes ns)) is))
      (ap (append (html_part names bytes enter.name (text_of bytes (Around enter kids exit)))) (html_parts_same ns f.1))

  -- ---- links

  autolink_same : (ns : Nodes) → AreSound ns → autolink_of names bytes (bytewise ns) ≡ autolink_of names bytes ns
  autolink_same ns f =
      ap (λ b. if b then Autolink true (text_in bytes n.AutolinkEmail (bytewise ns)) else Autolink false (text_in bytes n.AutolinkProtocol (bytewise ns)))
      (has_same n.AutolinkEmail refl ns f)
      ∙ ap₂ (λ email protocol. if is_some (child n.AutolinkEmail ns) then Autolink true email else Autolink false protocol)
      (text_same bytes n.AutolinkEmail refl ns f) (text_same bytes n.AutolinkProtocol refl ns f)

  written_found : (found : Option Node) → IsFoundSound found → written_string names bytes (option_map kept found) ≡ written_string names bytes found
  written_found None f = refl
  written_found (Some (Around enter kids exit)) f = ap written (string_same names bytes kids f.1)

  own_string : (name : Name) → IsOther name → (ns : Nodes) → AreSound ns
      → written_string names bytes (own name (bytewise ns)) ≡ written_string names bytes (own name ns)
  own_string name other ns f = ap (written_string names bytes) (own_same name other ns f) ∙ written_found (own name ns) (own_sound name ns f)

  resource_same : (ns : Nodes) → AreSound ns → resource_of names bytes (bytewise ns) ≡ resource_of names bytes ns
  resource_same ns f =
      ap₂ (λ destination title. Resource destination (Some title)) (own_string n.ResourceDestinationString refl ns f)
      (own_string n.ResourceTitleString refl ns f)

  label_codes_same : (ns : Nodes) → AreSound ns → label_codes names bytes (bytewise ns) ≡ label_codes names bytes ns
  label_codes_same ns f = ap (label_or_none names bytes) (own_label_same bytes ns f)

  target_same : (ns : Nodes) → AreSound ns → target_of names bytes (bytewise ns) ≡ target_of names bytes ns
  target_same ns f =
      ap (λ b. if b then resource_of names bytes (bytewise ns) else Reference (label_codes names bytes (bytewise ns)))
      (ap is_some (own_same n.Resource refl ns f) ∙ some_kept (own n.Resource ns))
      ∙ ap₂ (λ resource label. if is_some (own n.Resource ns) then resource else Reference label) (resource_same ns f) (label_codes_same ns f)

  -- ---- parts

  text_part_same : (linked : Bool) (name : Name) (text : List ℕ) (kids : Nodes) (inner : Inlines) → AreSound kids
      → text_part names bytes linked name text (bytewise kids) inner ≡ text_part names bytes linked name text kids inner
  text_part_same linked n.CharacterEscape text kids inner f = ap (λ t. leaves (map Escape t)) (text_same bytes n.CharacterEscapeValue refl kids f)
  text_part_same linked n.CharacterReference text kids inner f = ap (λ t. part (Leaf (Character t))) (reference_same names bytes kids f)
  text_part_same linked n.Autolink text kids inner f = ap (λ l. part (Leaf l)) (autolink_same kids f)
  text_part_same linked n.CodeText text kids inner f = ap (λ t. part (Leaf (Code t))) (code_same n.CodeTextSequence refl kids f)
  text_part_same linked n.MathText text kids inner f = ap (λ t. part (Leaf (Math t))) (code_same n.MathTextSequence refl kids f)
  text_part_same linked n.HtmlText text kids inner f = html_parts_same kids f
  text_part_same linked n.Link text kids inner f = ap (λ t. part (Linked Link t inner)) (target_same kids f)
  text_part_same linked n.Image text kids inner f = ap (λ t. part (Linked Image t inner)) (target_same kids f)
  text_part_same linked n.GfmFootnoteCall text kids inner f = ap (λ l. part (Call l)) (label_codes_same kids f)
  text_part_same linked n.GfmTaskListItemCheck text kids inner f = ap (λ b. part (Leaf (TaskCheck b))) (has_same n.GfmTaskListItemValueChecked refl kids f)
  text_part_same linked name text kids inner f = refl

  inlines_bytes : (linked : Bool) (i k : ℕ) (ns : Nodes)
      → inlines_of names bytes linked (forest.append (byte_nodes i k) ns) ≡ append (leaves (map Data (bytes_on bytes i k))) (inlines_of names bytes linked ns)
  inlines_bytes linked i zero ns = refl
  inlines_bytes linked i (suc k) ns =
      ap (append (leaves (map Data (between i (i + 1) bytes)))) (inlines_bytes linked (i + 1) k ns)
      ∙ leaves_both (between i (i + 1) bytes) (bytes_on bytes (i + 1) k) (inlines_of names bytes linked ns)
      ∙ ap (λ text. append (leaves (map Data text)) (inlines_of names bytes linked ns)) (next_byte bytes i k)

  mutual
    pub inlines_same : (linked : Bool) (ns : Nodes) → AreSound ns → inlines_of names bytes linked (bytewise ns) ≡ inlines_of names bytes linked ns
    inlines_same linked Nil f = refl
    inlines_same linked (Cons (Around enter kids exit) ns) f =
        let text = text_of bytes (Around enter kids exit) in
        let inside = linked || same_name enter.name n.Link in
        by_cases (λ ms. inlines_of names bytes linked ms ≡ inlines_of names bytes linked (Cons (Around enter kids exit) ns)) enter kids exit ns f.0
        (λ k is none far. inlines_bytes linked (edge (spot_of enter)) k (bytewise ns)
        ∙ ap₂ (λ t is. append (leaves (map Data t)) is) (sym (data_bytes bytes (edge (spot_of enter)) (edge (spot_of exit)) k far))
        (inlines_same linked ns f.1)
        ∙ sym (ap (λ a. append (text_part names bytes linked a text kids (text_within names bytes inside kids)) (inlines_of names bytes linked ns)) is))
        (ap₂ append
        (ap (text_part names bytes linked enter.name text (bytewise kids)) (within_same inside kids f.0.1)
        ∙ text_part_same linked enter.name text kids (text_within names bytes inside kids) f.0.1)
        (inlines_same linked ns f.1))

    pub within_same : (linked : Bool) (ns : Nodes) → AreSound ns → text_within names bytes linked (bytewise ns) ≡ text_within names bytes linked ns
    within_same linked Nil f = refl
    within_same linked (Cons (Around enter kids exit) ns) f =
        by_cases (λ ms. text_within names bytes linked ms ≡ text_within names bytes linked (Cons (Around enter kids exit) ns)) enter kids exit ns f.0
        (λ k is none far. skipped (text_within names bytes linked) (λ i ms. refl) _ k (bytewise ns)
        ∙ within_same linked ns f.1
        ∙ sym (ap (λ a. if is_listed text_names a then inlines_of names bytes linked kids
        else (if same_name a n.Label then text_within names bytes linked kids else text_within names bytes linked ns)) is))
        (ap₂ (λ inner others. if is_listed text_names enter.name then inner else others)
        (inlines_same linked kids f.0.1)
        (ap₂ (λ inner others. if same_name enter.name n.Label then inner else others) (within_same linked kids f.0.1) (within_same linked ns f.1)))

pub texts_spell_the_same : TextsSpellTheSame
texts_spell_the_same = λ names bytes linked ns f. inlines_same names bytes linked ns f
